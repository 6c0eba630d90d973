use Rattle.std.proofs.Common.{sym, subst}
use Rattle.sqlite.specs.Files.{over_files}
use Rattle.uu_store.specs.Openings.{LeavesAsKept}
use Rattle.uu_store.proofs.Opening.{started_shows, started_never_other, started_same, named_as, alone_as, away_named, away_leaves, away_alone}
use Rattle.uu_store.proofs.open.adopted_in_files.Goals as goal

pub returns-in-Ok-clause-started : goal.returns-in-Ok-clause-started
returns-in-Ok-clause-started g c before found = record { opened = c.args.conn; found = found; adopted = c.in-Ok.ensures.adopted.adopted; taken = c.in-Ok.ensures.adopted.adopted_by_tables; encoded = c.in-Ok.ensures.adopted.encoded_before }

pub returns-in-Ok-clause-shows : goal.returns-in-Ok-clause-shows
returns-in-Ok-clause-shows g c before found = started_shows over_files before c.args.conn found c.in-Ok.spool c.in-Ok.ensures.adopted.adopted

pub returns-in-Ok-clause-alone : goal.returns-in-Ok-clause-alone
returns-in-Ok-clause-alone g c before found clean s keeps = c.in-Ok.ensures.alone s (returns-in-Ok-clause-shows g c before found clean s keeps)

pub returns-in-Ok-clause-never_other : goal.returns-in-Ok-clause-never_other
returns-in-Ok-clause-never_other g c before found = started_never_other over_files before c.args.conn found c.in-Ok.spool c.in-Ok.ensures.adopted.adopted c.in-Ok.ensures.adopted.adopted_by_tables

pub returns-in-Ok-clause-left_same : goal.returns-in-Ok-clause-left_same
returns-in-Ok-clause-left_same g c before found = started_same over_files before c.args.conn found c.in-Ok.spool c.in-Ok.ensures.adopted.adopted c.in-Ok.ensures.adopted.stop_when_adopted

pub returns-in-Err-clause-named : goal.returns-in-Err-clause-named
returns-in-Err-clause-named g c before found =
    named_as before c.not_taken.result c.in-Err.fault _ c.not_taken.ensures.fault c.not_taken.ensures.remains
    (away_named before c.args.conn found c.in-Err.store c.in-Err.fault c.in-Err.ensures.away)

pub returns-in-Err-clause-left : goal.returns-in-Err-clause-left
returns-in-Err-clause-left g c before found =
    subst (LeavesAsKept before) (sym c.not_taken.ensures.remains) (away_leaves before c.args.conn found c.in-Err.store c.in-Err.fault c.in-Err.ensures.away)

pub returns-in-Err-clause-left_alone : goal.returns-in-Err-clause-left_alone
returns-in-Err-clause-left_alone g c before found =
    alone_as before c.not_taken.result c.in-Err.fault _ c.not_taken.ensures.fault c.not_taken.ensures.remains (away_alone before c.args.conn found c.in-Err.store c.in-Err.fault c.in-Err.ensures.away)
