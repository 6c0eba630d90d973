use Rattle.sqlite.specs.Held.{state}
use Rattle.uu_questions.proofs.Meanings.{body_means}
use Rattle.uu_questions.proofs.Listed.{body_found}
use Rattle.uu_questions.proofs.Asking.{asks_read}
use Rattle.uu_questions.proofs.jobs.body_of_job.Goals as goal

pub typed_row-requires : goal.typed_row-requires
typed_row-requires g c = body_means.plain

pub returns : goal.returns
returns g c =
    let a = state g.S.Store c.args.conn.now in
    let b = state g.S.Store c.typed_row.new.conn in
    asks_read (rw c.params-to_sql.ensures at c.typed_row.ensures) (λ s of rows shown found it. body_found a b s c.args.number rows of shown found it.0)
