-- The value of digits.
use Rattle.std.proofs.Common.{ℕ, ◌+◌, ◌-◌, ◌*◌, ◌≤◌, List, [], ◌∷◌, arith}
use Rattle.std.specs.Str.{byte}
use Rattle.uu_times.specs.Directives.{value_behind}

-- more digits don't lessen it
pub value_grows : (value : ℕ) (digits : List ℕ) → value ≤ value_behind value digits
value_grows value [] = omega arith
value_grows value (digit ∷ digits) = omega (arith, value_grows (value * 10 + (digit - byte "0")) digits)
