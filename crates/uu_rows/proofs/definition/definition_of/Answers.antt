use Rattle.std.proofs.Common.{◌≡◌, [], ◌∷◌, IfSome, Option, subst}
use Rattle.uu_times.specs.Printed.{sys_text}
use Rattle.uu_times.specs.System.{System}
use Rattle.uu_rows.proofs.Definitions.{kept_text}
use Rattle.uu_rows.proofs.definition.definition_of.Goals as goal

pub returns-in-Some-clause-text : goal.returns-in-Some-clause-text
returns-in-Some-clause-text c =
    kept_text c.in-Some.def c.args.bytes.now
    (subst (λ (o : Option System). IfSome o (λ system. c.args.bytes.now ≡ sys_text (system ∷ []))) c.in-Some.is c.in_ok-def.ensures)
