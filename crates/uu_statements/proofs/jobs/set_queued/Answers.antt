use Rattle.uu_schema.proofs.Statements.{executed}
use Rattle.uu_statements.proofs.Texts.{set_second}
use Rattle.uu_statements.proofs.Altered.{queued_set}
use Rattle.uu_statements.proofs.jobs.set_queued.Goals as goal

pub returns : goal.returns
returns g c =
    executed set_second _ c.execute.ensures.same_reference c.execute.ensures.ended c.execute.ensures.runs c.execute.ensures.survives
    (λ count stands ran. queued_set _ _ c.args.number c.args.queued count stands (rw (c.params-to_sql.ensures, c.params-to_sql-2.ensures) at ran))
