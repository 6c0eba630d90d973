use Rattle.uu_schema.proofs.Statements.{executed}
use Rattle.uu_statements.proofs.Texts.{set_number}
use Rattle.uu_statements.proofs.Altered.{next_set}
use Rattle.uu_statements.proofs.jobs.set_next.Goals as goal

pub returns : goal.returns
returns g c =
    executed set_number _ c.execute.ensures.same_reference c.execute.ensures.ended c.execute.ensures.runs c.execute.ensures.survives
    (λ count stands ran. next_set _ _ c.args.next count stands (rw (c.params-to_sql.ensures) at ran))
