use Rattle.uu_store.specs.Spool.{connection_of}
use Rattle.uuspool.proofs.ServedLinesLemmas.{one_run, ran_nothing}
use Rattle.uuspool.proofs.laws.lines_are_one_run.Goals as goal

pub returns-clause-lines : goal.returns-clause-lines
returns-clause-lines g c settings lines old new served =
    one_run c.runs_are_one_run.ensures.joined (λ spool. g.met.S.Store.settled (connection_of spool).store) settings lines old new served

pub returns-clause-none : goal.returns-clause-none
returns-clause-none g c spool = ran_nothing (λ spool. g.met.S.Store.settled (connection_of spool).store) spool
