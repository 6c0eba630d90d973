-- A definition as it is kept.
use Rattle.std.proofs.Common.{◌≡◌, ℕ, List, [], ◌∷◌, Result, Vec, IfOk, subst}
use Rattle.std.specs.declared.alloc.Global.{Global}
use Rattle.uu_times.specs.Printed.{sys_text}
use Rattle.uu_times.specs.System.{System}
use Rattle.uu_tables.specs.Tables.{definition_text}

pub is_kept : {E : Type 0} (def : System) (systems : List System) (r : Result (Vec ℕ Global) E) → systems ≡ def ∷ [] → IfOk r (λ text. text.items ≡ sys_text systems) → IfOk r (λ text. text.items ≡ definition_text def)
unfolding definition_text
is_kept def systems r one written = subst (λ l. IfOk r (λ text. text.items ≡ sys_text l)) one written
