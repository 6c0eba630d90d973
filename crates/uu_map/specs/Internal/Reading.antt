-- How the code reads an expression: from left to right, token by token, up to the parenthesis that
-- closes it.
use Rattle.std.specs.Prelude.{ℕ, zero, suc, Bool, true, false, not, List, [], ◌∷◌, Option, Some, None, option_map, option_and_then, reverse, ℤ}
use Rattle.uu_map.specs.declared.entry.Cost.{Cost}
use Rattle.uu_map.specs.declared.token.Additive.{Additive}
use Rattle.uu_map.specs.declared.token.Additive.TheVariants.{Plus, Minus}
use Rattle.uu_map.specs.declared.token.Multiplicative.{Multiplicative}
use Rattle.uu_map.specs.declared.token.Token.{Token}
use Rattle.uu_map.specs.declared.token.Token.TheVariants as tokens
use Rattle.uu_map.specs.declared.expression.Level.{Level}
use Rattle.uu_map.specs.declared.expression.Reading.{Reading}
use Rattle.uu_map.specs.declared.expression.Stage.{Stage}
use Rattle.uu_map.specs.declared.expression.Stage.TheVariants.{Operand, Operator, Done}
use Rattle.uu_map.specs.Expression.{kept, sum_of, product_of, both, negated, cost_of}

-- the levels around the one that is read, the innermost first; that level; what comes next; whether
-- `DEAD` was read
pub record ReadingState : Type 0 where
  pub outer : List Level
  pub level : Level
  pub stage : Stage
  pub dead : Bool

abbrev pub sum_with : Option (Option ℤ × Additive) → Option ℤ → Option ℤ
sum_with None v = v
sum_with (Some (u, op)) v = both (sum_of op) u v

abbrev pub product_with : Option (Option ℤ × Multiplicative) → Option ℤ → Option ℤ
product_with None v = v
product_with (Some (u, op)) v = both (product_of op) u v

abbrev pub negated_if : Bool → Option ℤ → Option ℤ
negated_if false v = v
negated_if true v = negated v

abbrev pub flipped : Additive → Bool → Bool
flipped Plus negative = negative
flipped Minus negative = not negative

abbrev pub one_less : ℕ → Option ℕ
one_less zero = None
one_less (suc n) = Some n

-- a reading as a state
abbrev pub reading_state : Reading → ReadingState
reading_state r = record { outer = reverse r.outer.items; level = r.level; stage = r.stage; dead = r.dead }

-- a level in which nothing was read
abbrev pub fresh : ℕ → Level
fresh room = record { sum = None; product = None; negative = false; room = room; base = room }

-- after a factor of this value
abbrev pub with_factor : List Level → Level → Bool → Option ℤ → ReadingState
with_factor outer l dead v = record { outer = outer; level = record l { product = None; negative = false; room = l.base }; stage = Operator (product_with l.product (negated_if l.negative v)); dead = dead }

-- after a token where an operand is expected
abbrev pub at_operand : List Level → Level → Bool → Token → Option ReadingState
at_operand outer l dead (tokens.Amount v) = Some (with_factor outer l dead (option_and_then kept v))
at_operand outer l dead tokens.Dead = Some (with_factor outer l true None)
at_operand outer l dead tokens.Open = option_map (λ room. record { outer = l ∷ outer; level = fresh room; stage = Operand; dead = dead }) (one_less l.room)
at_operand outer l dead (tokens.Additive op) = option_map (λ room. record { outer = outer; level = record l { negative = flipped op l.negative; room = room }; stage = Operand; dead = dead }) (one_less l.room)
at_operand outer l dead _ = None

-- after the parenthesis that closes a sum of this value
abbrev pub closed : List Level → Level → Bool → Option ℤ → ReadingState
closed [] l dead v = record { outer = []; level = l; stage = Done v; dead = dead }
closed (m ∷ outer) l dead v = with_factor outer m dead v

-- after a token that follows a product of this value
abbrev pub at_operator : List Level → Level → Bool → Option ℤ → Token → Option ReadingState
at_operator outer l dead v (tokens.Additive op) = Some (record { outer = outer; level = record l { sum = Some (sum_with l.sum v, op) }; stage = Operand; dead = dead })
at_operator outer l dead v (tokens.Multiplicative op) = Some (record { outer = outer; level = record l { product = Some (v, op) }; stage = Operand; dead = dead })
at_operator outer l dead v tokens.Close = Some (closed outer l dead (sum_with l.sum v))
at_operator outer l dead v _ = None

abbrev pub at_stage : List Level → Level → Bool → Stage → Token → Option ReadingState
at_stage outer l dead Operand t = at_operand outer l dead t
at_stage outer l dead (Operator v) t = at_operator outer l dead v t
at_stage outer l dead (Done v) t = None

abbrev pub step : ReadingState → Token → Option ReadingState
step s t = at_stage s.outer s.level s.dead s.stage t

abbrev pub finish : Bool → Stage → Option Cost
finish dead (Done v) = cost_of dead v
finish dead _ = None

abbrev pub run : ReadingState → List Token → Option Cost
run s [] = finish s.dead s.stage
run s (t ∷ ts) = option_and_then (λ n. run n ts) (step s t)

-- before the first token of an expression that nests at most this deep
abbrev pub start : ℕ → ReadingState
start room = record { outer = []; level = fresh room; stage = Operand; dead = false }
