use Rattle.uu_schema.proofs.Statements.{executed}
use Rattle.uu_statements.proofs.Texts.{set_rank}
use Rattle.uu_statements.proofs.Altered.{grade_set}
use Rattle.uu_statements.proofs.jobs.set_grade.Goals as goal

pub returns : goal.returns
returns g c =
    executed set_rank _ c.execute.ensures.same_reference c.execute.ensures.ended c.execute.ensures.runs c.execute.ensures.survives
    (λ count stands ran. grade_set _ _ c.args.number c.args.grade count stands (rw (c.params-to_sql.ensures, c.params-to_sql-2.ensures, c.from.ensures, c.rank.ensures.value) at ran))
