use Rattle.uu_schema.proofs.Statements.{executed}
use Rattle.uu_statements.proofs.Texts.{insert_taken}
use Rattle.uu_statements.proofs.Added.{taken_added}
use Rattle.uu_tables.specs.Tables.{taken_columns}
use Rattle.uu_statements.proofs.links.insert_taken.Goals as goal

pub returns : goal.returns
returns g c =
    executed insert_taken _ c.execute.ensures.same_reference c.execute.ensures.ended c.execute.ensures.runs c.execute.ensures.survives
    (λ count stands ran. taken_added _ _ (taken_columns c.args.system.now c.args.taken.now) count stands (rw (c.params-to_sql.ensures, c.params-to_sql-2.ensures, c.params-to_sql-3.ensures, c.params-to_sql-4.ensures, c.as_str.ensures.text, c.requires.mark) at ran))
