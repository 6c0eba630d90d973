use Rattle.uu_schema.proofs.Statements.{executed}
use Rattle.uu_statements.proofs.Texts.{delete_entry}
use Rattle.uu_statements.proofs.Removed.{entry_gone}
use Rattle.uu_statements.proofs.entries.remove_entry.Goals as goal

pub returns : goal.returns
returns g c =
    executed delete_entry _ c.execute.ensures.same_reference c.execute.ensures.ended c.execute.ensures.runs c.execute.ensures.survives
    (λ count stands ran. entry_gone _ _ c.args.host.now count stands (rw (c.params-to_sql.ensures, c.as_str.ensures.text) at ran))
