use Rattle.sqlite.specs.Held.{state}
use Rattle.uu_questions.proofs.Meanings.{all_jobs_means}
use Rattle.uu_questions.proofs.Listed.{all_jobs_listed}
use Rattle.uu_questions.proofs.Asking.{asks_read}
use Rattle.uu_questions.proofs.jobs.list_all_jobs.Goals as goal

pub typed_rows-requires : goal.typed_rows-requires
typed_rows-requires g c = all_jobs_means.plain

pub returns : goal.returns
returns g c =
    let a = state g.S.Store c.args.conn.now in
    let b = state g.S.Store c.typed_rows.new.conn in
    asks_read c.typed_rows.ensures (λ s of rows shown found it f all. all_jobs_listed a b s f all rows of shown found.items it.1 it.0)
