-- The expressions that give costs (UUCP Mapping Project README, on costs as arithmetic expressions;
-- the grammar's details, the limits and `DEAD` are this project's choice).
--
--     sum     := product (("+" | "-") product)*
--     product := factor (("*" | "/") factor)*
--     factor  := number | SYMBOL | "(" sum ")" | ("+" | "-") factor
use Rattle.std.specs.Prelude.{ℕ, zero, suc, ◌^◌, Bool, true, false, ◌||◌, ◌&&◌, List, [], ◌∷◌, ◌++◌, Option, Some, None, option_and_then, option_map, ℤ, pos, negsuc, ◌+ℤ◌, ◌-ℤ◌, ◌*ℤ◌, neg_ℤ, unsigned_abs, nat_le, if◌then◌else◌}
use Rattle.std.specs.Int.RustNames.{int_div}
use Rattle.uu_map.specs.declared.entry.Cost.{Cost}
use Rattle.uu_map.specs.declared.entry.Cost.TheVariants.{Value, Dead}
use Rattle.uu_map.specs.declared.token.Additive.{Additive}
use Rattle.uu_map.specs.declared.token.Additive.TheVariants.{Plus, Minus}
use Rattle.uu_map.specs.declared.token.Multiplicative.{Multiplicative}
use Rattle.uu_map.specs.declared.token.Multiplicative.TheVariants.{Times, Over}
use Rattle.uu_map.specs.declared.token.Token.{Token}
use Rattle.uu_map.specs.declared.token.Token.TheVariants as tokens

-- The tree of an expression: operators of one kind go from left to right, and `*` and `/` bind more
-- tightly than `+` and `-`.
mutual
  pub data Sum : Type 0 where
    one_product : Product → Sum
    added : Sum → Additive → Product → Sum

  pub data Product : Type 0 where
    one_factor : Factor → Product
    scaled : Product → Multiplicative → Factor → Product

  pub data Factor : Type 0 where
    amount : Option ℤ → Factor
    dead : Factor
    group : Sum → Factor
    signed : Additive → Factor → Factor

-- the tokens that a tree is written with
abbrev mutual
  pub sum_text : Sum → List Token
  sum_text (one_product p) = product_text p
  sum_text (added s op p) = sum_text s ++ tokens.Additive op ∷ product_text p

  pub product_text : Product → List Token
  product_text (one_factor f) = factor_text f
  product_text (scaled p op f) = product_text p ++ tokens.Multiplicative op ∷ factor_text f

  pub factor_text : Factor → List Token
  factor_text (amount v) = tokens.Amount v ∷ []
  factor_text dead = tokens.Dead ∷ []
  factor_text (group s) = tokens.Open ∷ (sum_text s ++ tokens.Close ∷ [])
  factor_text (signed op f) = tokens.Additive op ∷ factor_text f

-- the greatest value within an expression; the least is as far below 0
abbrev pub most_value : ℕ
most_value = 10 ^ 12

-- a value within an expression is from -10^12 to 10^12
abbrev pub kept : ℤ → Option ℤ
kept z = if nat_le (unsigned_abs z) most_value then Some z else None

-- a sum or a difference, a product or a quotient, and a number after a minus sign
abbrev pub sum_of : Additive → ℤ → ℤ → Option ℤ
sum_of Plus x y = kept (x +ℤ y)
sum_of Minus x y = kept (x -ℤ y)

-- division rounds towards zero; division by zero has no value
abbrev pub quotient_of : ℤ → ℤ → Option ℤ
quotient_of x (pos zero) = None
quotient_of x (pos (suc n)) = kept (int_div x (pos (suc n)))
quotient_of x (negsuc n) = kept (int_div x (negsuc n))

abbrev pub product_of : Multiplicative → ℤ → ℤ → Option ℤ
product_of Times x y = kept (x *ℤ y)
product_of Over x y = quotient_of x y

abbrev pub both : (ℤ → ℤ → Option ℤ) → Option ℤ → Option ℤ → Option ℤ
both f None y = None
both f (Some x) None = None
both f (Some x) (Some y) = f x y

abbrev pub negated : Option ℤ → Option ℤ
negated None = None
negated (Some z) = kept (neg_ℤ z)

abbrev pub with_sign : Additive → Option ℤ → Option ℤ
with_sign Plus v = v
with_sign Minus v = negated v

-- the value of a tree, or none if a value within it exceeds the limit or a divisor is zero
abbrev mutual
  pub sum_value : Sum → Option ℤ
  sum_value (one_product p) = product_value p
  sum_value (added s op p) = both (sum_of op) (sum_value s) (product_value p)

  pub product_value : Product → Option ℤ
  product_value (one_factor f) = factor_value f
  product_value (scaled p op f) = both (product_of op) (product_value p) (factor_value f)

  pub factor_value : Factor → Option ℤ
  factor_value (amount v) = option_and_then kept v
  factor_value dead = None
  factor_value (group s) = sum_value s
  factor_value (signed op f) = with_sign op (factor_value f)

-- parentheses and signs are nested at most this deep
abbrev mutual
  pub sum_fits : ℕ → Sum → Bool
  sum_fits room (one_product p) = product_fits room p
  sum_fits room (added s op p) = sum_fits room s && product_fits room p

  pub product_fits : ℕ → Product → Bool
  product_fits room (one_factor f) = factor_fits room f
  product_fits room (scaled p op f) = product_fits room p && factor_fits room f

  pub factor_fits : ℕ → Factor → Bool
  factor_fits room (amount v) = true
  factor_fits room dead = true
  factor_fits zero (group s) = false
  factor_fits (suc room) (group s) = sum_fits room s
  factor_fits zero (signed op f) = false
  factor_fits (suc room) (signed op f) = factor_fits room f

-- the symbol `DEAD` occurs
abbrev mutual
  pub sum_is_dead : Sum → Bool
  sum_is_dead (one_product p) = product_is_dead p
  sum_is_dead (added s op p) = sum_is_dead s || product_is_dead p

  pub product_is_dead : Product → Bool
  product_is_dead (one_factor f) = factor_is_dead f
  product_is_dead (scaled p op f) = product_is_dead p || factor_is_dead f

  pub factor_is_dead : Factor → Bool
  factor_is_dead (amount v) = false
  factor_is_dead dead = true
  factor_is_dead (group s) = sum_is_dead s
  factor_is_dead (signed op f) = factor_is_dead f

-- the cost of an expression of this value: a negative value counts as 0, and with `DEAD` the value
-- doesn't count
abbrev pub cost_of_value : ℤ → Cost
cost_of_value (pos n) = Value n
cost_of_value (negsuc n) = Value 0

abbrev pub cost_of : Bool → Option ℤ → Option Cost
cost_of true v = Some Dead
cost_of false v = option_map cost_of_value v
