use Rattle.uu_schema.proofs.Statements.{executed}
use Rattle.uu_statements.proofs.Texts.{set_calls}
use Rattle.uu_statements.proofs.Altered.{call_set}
use Rattle.uu_statements.proofs.Statements.{bound_text}
use Rattle.uu_statements.proofs.systems.set_call.Goals as goal

pub returns : goal.returns
returns g c =
    executed set_calls _ c.execute.ensures.same_reference c.execute.ensures.ended c.execute.ensures.runs c.execute.ensures.survives
    (λ count stands ran. call_set _ _ c.args.system.now c.args.call.now count stands (rw (c.params-to_sql.ensures, c.params-to_sql-2.ensures, c.params-to_sql-3.ensures, c.params-to_sql-4.ensures, c.params-to_sql-5.ensures, bound_text c.reason-why.result _ c.params-to_sql-6.ensures, c.reason-why.ensures, c.as_str.ensures.text) at ran))
