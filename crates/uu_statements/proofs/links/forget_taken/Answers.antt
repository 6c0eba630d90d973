use Rattle.uu_schema.proofs.Statements.{executed}
use Rattle.uu_statements.proofs.Texts.{forget_taken}
use Rattle.uu_statements.proofs.Removed.{taken_forgotten}
use Rattle.uu_statements.proofs.links.forget_taken.Goals as goal

pub returns : goal.returns
returns g c =
    executed forget_taken _ c.execute.ensures.same_reference c.execute.ensures.ended c.execute.ensures.runs c.execute.ensures.survives
    (λ count stands ran. taken_forgotten _ _ c.args.system.now c.args.below count stands (rw (c.params-to_sql.ensures, c.params-to_sql-2.ensures, c.as_str.ensures.text) at ran))
