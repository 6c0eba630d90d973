-- Reading an expression token by token gives its tree's value.
use Rattle.std.proofs.Common.{◌≡◌, ℕ, zero, suc, ◌^◌, Bool, true, false, cond, ◌||◌, ◌&&◌, List, [], ◌∷◌, ◌++◌, Option, Some, None, option_and_then, ℤ, pos, negsuc, ◌+ℤ◌, ◌-ℤ◌, ◌*ℤ◌, neg_ℤ, unsigned_abs, nat_le, refl, sym, ap, ◌∙◌, append_assoc}
use Rattle.std.proofs.Math.Bool.{or-false, or_assoc, or-true}
use Rattle.std.specs.Int.RustNames.{int_div}
use Rattle.uu_map.specs.declared.token.Additive.{Additive}
use Rattle.uu_map.specs.declared.token.Additive.TheVariants.{Plus, Minus}
use Rattle.uu_map.specs.declared.token.Multiplicative.{Multiplicative}
use Rattle.uu_map.specs.declared.token.Multiplicative.TheVariants.{Times, Over}
use Rattle.uu_map.specs.declared.token.Token.{Token}
use Rattle.uu_map.specs.declared.token.Token.TheVariants as tokens
use Rattle.uu_map.specs.declared.expression.Level.{Level}
use Rattle.uu_map.specs.declared.expression.Stage.{Stage}
use Rattle.uu_map.specs.declared.expression.Stage.TheVariants.{Operand, Operator}
use Rattle.uu_map.specs.Expression.{Sum, Product, Factor, one_product, added, one_factor, scaled, amount, dead, group, signed, sum_text, product_text, factor_text, kept, sum_of, product_of, both, negated, with_sign, sum_value, product_value, factor_value, sum_fits, product_fits, factor_fits, sum_is_dead, product_is_dead, factor_is_dead, cost_of}
use Rattle.uu_map.specs.Internal.Reading.{ReadingState, sum_with, product_with, negated_if, flipped, run, start}

-- ---- values on the way are kept

kept_again : (z : ℤ) → option_and_then kept (kept z) ≡ kept z
kept_again z = go (nat_le (unsigned_abs z) (10 ^ 12)) refl
  where
    go : (b : Bool) → nat_le (unsigned_abs z) (10 ^ 12) ≡ b → option_and_then kept (cond b (Some z) None) ≡ cond b (Some z) None
    go true e = ap (λ t. cond t (Some z) None) e
    go false e = refl

kept_sum_of : (op : Additive) (x y : ℤ) → option_and_then kept (sum_of op x y) ≡ sum_of op x y
kept_sum_of Plus x y = kept_again (x +ℤ y)
kept_sum_of Minus x y = kept_again (x -ℤ y)

kept_product_of : (op : Multiplicative) (x y : ℤ) → option_and_then kept (product_of op x y) ≡ product_of op x y
kept_product_of Times x y = kept_again (x *ℤ y)
kept_product_of Over x (pos zero) = refl
kept_product_of Over x (pos (suc n)) = kept_again (int_div x (pos (suc n)))
kept_product_of Over x (negsuc n) = kept_again (int_div x (negsuc n))

kept_both : (f : ℤ → ℤ → Option ℤ) → ((x y : ℤ) → option_and_then kept (f x y) ≡ f x y) → (v w : Option ℤ) → option_and_then kept (both f v w) ≡ both f v w
kept_both f h None w = refl
kept_both f h (Some x) None = refl
kept_both f h (Some x) (Some y) = h x y

kept_and_then : (v : Option ℤ) → option_and_then kept (option_and_then kept v) ≡ option_and_then kept v
kept_and_then None = refl
kept_and_then (Some z) = kept_again z

kept_negated : (v : Option ℤ) → option_and_then kept (negated v) ≡ negated v
kept_negated None = refl
kept_negated (Some z) = kept_again (neg_ℤ z)

kept_with_sign : (op : Additive) (v : Option ℤ) → option_and_then kept v ≡ v → option_and_then kept (with_sign op v) ≡ with_sign op v
kept_with_sign Plus v h = h
kept_with_sign Minus v h = kept_negated v

mutual
  kept_sum : (s : Sum) → option_and_then kept (sum_value s) ≡ sum_value s
  kept_sum (one_product p) = kept_product p
  kept_sum (added s op p) = kept_both (sum_of op) (kept_sum_of op) (sum_value s) (product_value p)

  kept_product : (p : Product) → option_and_then kept (product_value p) ≡ product_value p
  kept_product (one_factor f) = kept_factor f
  kept_product (scaled p op f) = kept_both (product_of op) (kept_product_of op) (product_value p) (factor_value f)

  kept_factor : (f : Factor) → option_and_then kept (factor_value f) ≡ factor_value f
  kept_factor (amount v) = kept_and_then v
  kept_factor dead = refl
  kept_factor (group s) = kept_sum s
  kept_factor (signed op f) = kept_with_sign op (factor_value f) (kept_factor f)

-- ---- signs

neg-neg : (z : ℤ) → neg_ℤ (neg_ℤ z) ≡ z
neg-neg (pos zero) = refl
neg-neg (pos (suc n)) = refl
neg-neg (negsuc n) = refl

abs-neg : (z : ℤ) → unsigned_abs (neg_ℤ z) ≡ unsigned_abs z
abs-neg (pos zero) = refl
abs-neg (pos (suc n)) = refl
abs-neg (negsuc n) = refl

is_kept : (b : Bool) (z : ℤ) → cond b (Some z) None ≡ Some z → b ≡ true
is_kept true z e = refl
is_kept false z e = cc

negated_kept : (z : ℤ) → kept z ≡ Some z → negated (kept (neg_ℤ z)) ≡ Some z
negated_kept z h =
    let within : nat_le (unsigned_abs z) (10 ^ 12) ≡ true = is_kept _ z h in
    let opposite : kept (neg_ℤ z) ≡ Some (neg_ℤ z) = ap (λ t. cond (nat_le t (10 ^ 12)) (Some (neg_ℤ z)) None) (abs-neg z) ∙ ap (λ b. cond b (Some (neg_ℤ z)) None) within in
    ap negated opposite ∙ (ap kept (neg-neg z) ∙ h)

negated_twice : (v : Option ℤ) → option_and_then kept v ≡ v → negated (negated v) ≡ v
negated_twice None h = refl
negated_twice (Some z) h = negated_kept z h

negated_if-flipped : (op : Additive) (n : Bool) (v : Option ℤ) → option_and_then kept v ≡ v → negated_if (flipped op n) v ≡ negated_if n (with_sign op v)
negated_if-flipped Plus n v h = refl
negated_if-flipped Minus false v h = refl
negated_if-flipped Minus true v h = sym (negated_twice v h)

-- ---- tests

cond_and : {A : Type 0} (a b : Bool) (x y : A) → cond (a && b) x y ≡ cond a (cond b x y) y
cond_and true b x y = refl
cond_and false b x y = refl

-- ---- what reading gives at each tree

abbrev level_of : Option (Option ℤ × Additive) → Option (Option ℤ × Multiplicative) → Bool → ℕ → ℕ → Level
level_of sum product negative room base = record { sum = sum; product = product; negative = negative; room = room; base = base }

abbrev plain : Option (Option ℤ × Additive) → ℕ → Level
plain sum base = level_of sum None false base base

abbrev at : List Level → Level → Stage → Bool → ReadingState
at outer level stage d = record { outer = outer; level = level; stage = stage; dead = d }

-- a sum is read up to its last product
abbrev pending : Sum → Option (Option ℤ × Additive)
pending (one_product p) = None
pending (added s op p) = Some (sum_value s, op)

abbrev last : Sum → Option ℤ
last (one_product p) = product_value p
last (added s op p) = product_value p

sum_with-pending : (s : Sum) → sum_with (pending s) (last s) ≡ sum_value s
sum_with-pending (one_product p) = refl
sum_with-pending (added s op p) = refl

mutual
  reads_sum : (s : Sum) (outer : List Level) (base : ℕ) (d : Bool) (rest : List Token) → run (at outer (plain None base) Operand d) (sum_text s ++ rest) ≡ cond (sum_fits base s) (run (at outer (plain (pending s) base) (Operator (last s)) (d || sum_is_dead s)) rest) None
  reads_sum (one_product p) outer base d rest = reads_product p outer None base d rest
  reads_sum (added s op p) outer base d rest =
      ap (run (at outer (plain None base) Operand d)) (append_assoc (sum_text s) (tokens.Additive op ∷ product_text p) rest)
      ∙ (reads_sum s outer base d (tokens.Additive op ∷ (product_text p ++ rest))
      ∙ (ap (λ v. cond (sum_fits base s) (run (at outer (plain (Some (v, op)) base) Operand (d || sum_is_dead s)) (product_text p ++ rest)) None) (sum_with-pending s)
      ∙ (ap (λ r. cond (sum_fits base s) r None) (reads_product p outer (Some (sum_value s, op)) base (d || sum_is_dead s) rest)
      ∙ (ap (λ e. cond (sum_fits base s) (cond (product_fits base p) (run (at outer (plain (Some (sum_value s, op)) base) (Operator (product_value p)) e) rest) None) None) (or_assoc d (sum_is_dead s) (product_is_dead p))
      ∙ sym (cond_and (sum_fits base s) (product_fits base p) _ _)))))

  reads_product : (p : Product) (outer : List Level) (sum : Option (Option ℤ × Additive)) (base : ℕ) (d : Bool) (rest : List Token) → run (at outer (plain sum base) Operand d) (product_text p ++ rest) ≡ cond (product_fits base p) (run (at outer (plain sum base) (Operator (product_value p)) (d || product_is_dead p)) rest) None
  reads_product (one_factor f) outer sum base d rest = reads_factor f outer sum None false base base d rest
  reads_product (scaled p op f) outer sum base d rest =
      ap (run (at outer (plain sum base) Operand d)) (append_assoc (product_text p) (tokens.Multiplicative op ∷ factor_text f) rest)
      ∙ (reads_product p outer sum base d (tokens.Multiplicative op ∷ (factor_text f ++ rest))
      ∙ (ap (λ r. cond (product_fits base p) r None) (reads_factor f outer sum (Some (product_value p, op)) false base base (d || product_is_dead p) rest)
      ∙ (ap (λ e. cond (product_fits base p) (cond (factor_fits base f) (run (at outer (plain sum base) (Operator (both (product_of op) (product_value p) (factor_value f))) e) rest) None) None) (or_assoc d (product_is_dead p) (factor_is_dead f))
      ∙ sym (cond_and (product_fits base p) (factor_fits base f) _ _))))

  reads_factor : (f : Factor) (outer : List Level) (sum : Option (Option ℤ × Additive)) (product : Option (Option ℤ × Multiplicative)) (negative : Bool) (room base : ℕ) (d : Bool) (rest : List Token) → run (at outer (level_of sum product negative room base) Operand d) (factor_text f ++ rest) ≡ cond (factor_fits room f) (run (at outer (plain sum base) (Operator (product_with product (negated_if negative (factor_value f)))) (d || factor_is_dead f)) rest) None
  reads_factor (amount v) outer sum product negative room base d rest = ap (λ e. run (at outer (plain sum base) (Operator (product_with product (negated_if negative (option_and_then kept v)))) e) rest) (sym (or-false d))
  reads_factor dead outer sum product negative room base d rest = ap (λ e. run (at outer (plain sum base) (Operator (product_with product (negated_if negative None))) e) rest) (sym (or-true d))
  reads_factor (group s) outer sum product negative zero base d rest = refl
  reads_factor (group s) outer sum product negative (suc room) base d rest =
      ap (run (at (level_of sum product negative (suc room) base ∷ outer) (plain None room) Operand d)) (append_assoc (sum_text s) (tokens.Close ∷ []) rest)
      ∙ (reads_sum s (level_of sum product negative (suc room) base ∷ outer) room d (tokens.Close ∷ rest)
      ∙ ap (λ v. cond (sum_fits room s) (run (at outer (plain sum base) (Operator (product_with product (negated_if negative v))) (d || sum_is_dead s)) rest) None) (sum_with-pending s))
  reads_factor (signed op f) outer sum product negative zero base d rest = refl
  reads_factor (signed op f) outer sum product negative (suc room) base d rest =
      reads_factor f outer sum product (flipped op negative) room base d rest
      ∙ ap (λ v. cond (factor_fits room f) (run (at outer (plain sum base) (Operator (product_with product v)) (d || factor_is_dead f)) rest) None) (negated_if-flipped op negative (factor_value f) (kept_factor f))

-- an expression and the parenthesis that closes it
pub reads_expression : (room : ℕ) (s : Sum) → run (start room) (sum_text s ++ tokens.Close ∷ []) ≡ cond (sum_fits room s) (cost_of (sum_is_dead s) (sum_value s)) None
reads_expression room s =
    reads_sum s [] room false (tokens.Close ∷ [])
    ∙ ap (λ v. cond (sum_fits room s) (cost_of (sum_is_dead s) v) None) (sum_with-pending s)
