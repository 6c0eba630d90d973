use Rattle.uu_schema.proofs.Statements.{executed}
use Rattle.uu_statements.proofs.Texts.{delete_taken}
use Rattle.uu_statements.proofs.Removed.{taken_gone}
use Rattle.uu_statements.proofs.links.delete_taken.Goals as goal

pub returns : goal.returns
returns g c =
    executed delete_taken _ c.execute.ensures.same_reference c.execute.ensures.ended c.execute.ensures.runs c.execute.ensures.survives
    (λ count stands ran. taken_gone _ _ c.args.system.now count stands (rw (c.params-to_sql.ensures, c.as_str.ensures.text) at ran))
