use Rattle.uu_schema.proofs.Statements.{executed}
use Rattle.uu_statements.proofs.Texts.{insert_entry}
use Rattle.uu_statements.proofs.Added.{entry_added}
use Rattle.uu_tables.specs.Changes.{new_entry}
use Rattle.uu_statements.proofs.entries.add_entry.Goals as goal

pub returns : goal.returns
returns g c =
    executed insert_entry _ c.execute.ensures.same_reference c.execute.ensures.ended c.execute.ensures.runs c.execute.ensures.survives
    (λ count stands ran. entry_added _ _ (new_entry c.args.host.now c.args.bytes.now) count stands (rw (c.params-to_sql.ensures, c.params-to_sql-2.ensures, c.as_str.ensures.text) at ran))
