use Rattle.uu_schema.proofs.Statements.{executed}
use Rattle.uu_statements.proofs.Texts.{insert_job}
use Rattle.uu_statements.proofs.Added.{job_added}
use Rattle.uu_tables.specs.Changes.{new_job}
use Rattle.uu_statements.proofs.jobs.insert_job.Goals as goal

pub returns : goal.returns
returns g c =
    executed insert_job _ c.execute.ensures.same_reference c.execute.ensures.ended c.execute.ensures.runs c.execute.ensures.survives
    (λ count stands ran. job_added _ _ (new_job c.args.number c.args.columns.now) count stands (rw (c.params-to_sql.ensures, c.params-to_sql-2.ensures, c.params-to_sql-3.ensures, c.params-to_sql-4.ensures, c.params-to_sql-5.ensures, c.params-to_sql-6.ensures, c.params-to_sql-7.ensures, c.params-to_sql-8.ensures, c.params-to_sql-9.ensures, c.as_str.ensures.text, c.from.ensures, c.rank.ensures.value, c.as_str-2.ensures.text, c.requires.kind.number, c.requires.kind.first, c.requires.kind.second) at ran))
