-- What reading accepts is the text of a tree.
use Rattle.std.proofs.Common.{◌≡◌, ℕ, zero, suc, Bool, true, false, List, [], ◌∷◌, ◌++◌, Option, Some, None, option_map, option_and_then, ℤ, refl, sym, ap, ◌∙◌, append_assoc}
use Rattle.std.proofs.lemmas.List.{append-nil}
use Rattle.uu_map.specs.declared.entry.Cost.{Cost}
use Rattle.uu_map.specs.declared.token.Additive.{Additive}
use Rattle.uu_map.specs.declared.token.Multiplicative.{Multiplicative}
use Rattle.uu_map.specs.declared.token.Token.{Token}
use Rattle.uu_map.specs.declared.token.Token.TheVariants as tokens
use Rattle.uu_map.specs.declared.expression.Level.{Level}
use Rattle.uu_map.specs.declared.expression.Stage.{Stage}
use Rattle.uu_map.specs.declared.expression.Stage.TheVariants.{Operand, Operator, Done}
use Rattle.uu_map.specs.Expression.{Sum, Product, Factor, kept, one_product, added, one_factor, scaled, amount, dead, group, signed, sum_text, product_text, factor_text}
use Rattle.uu_map.specs.Internal.Reading.{ReadingState, one_less, sum_with, flipped, with_factor, closed, at_operand, at_operator, at_stage, step, finish, run, start}

-- ---- what comes before a state

abbrev SumBefore : Option (Option ℤ × Additive) → List Token → Type 0
SumBefore None t = t ≡ []
SumBefore (Some (v, op)) t = (s : Sum) × (t ≡ sum_text s ++ tokens.Additive op ∷ [])

abbrev ProductBefore : Option (Option ℤ × Multiplicative) → List Token → Type 0
ProductBefore None t = t ≡ []
ProductBefore (Some (v, op)) t = (p : Product) × (t ≡ product_text p ++ tokens.Multiplicative op ∷ [])

abbrev signs_text : List Additive → List Token
signs_text [] = []
signs_text (op ∷ ops) = tokens.Additive op ∷ signs_text ops

abbrev LevelBefore : Option (Option ℤ × Additive) → Option (Option ℤ × Multiplicative) → List Token → Type 0
LevelBefore sum product t = (a : List Token) × (b : List Token) × (ops : List Additive) × SumBefore sum a × ProductBefore product b × (t ≡ a ++ (b ++ signs_text ops))

abbrev OuterBefore : List Level → List Token → Type 0
OuterBefore [] t = t ≡ []
OuterBefore (l ∷ ls) t = (o : List Token) × (u : List Token) × OuterBefore ls o × LevelBefore l.sum l.product u × (t ≡ o ++ (u ++ tokens.Open ∷ []))

abbrev StageBefore : List Level → Level → Stage → List Token → Type 0
StageBefore outer l Operand t = (o : List Token) × (u : List Token) × OuterBefore outer o × LevelBefore l.sum l.product u × (t ≡ o ++ u)
StageBefore outer l (Operator v) t = (o : List Token) × (a : List Token) × (p : Product) × OuterBefore outer o × SumBefore l.sum a × ProductBefore l.product [] × (t ≡ o ++ (a ++ product_text p))
StageBefore outer l (Done v) t = (s : Sum) × (t ≡ sum_text s ++ tokens.Close ∷ [])

abbrev Grown : Option ReadingState → List Token → Type 0
Grown None t = Unit {0}
Grown (Some s) t = StageBefore s.outer s.level s.stage t

-- ---- trees of what comes before

abbrev with_signs : List Additive → Factor → Factor
with_signs [] f = f
with_signs (op ∷ ops) f = signed op (with_signs ops f)

factor_text-with_signs : (ops : List Additive) (f : Factor) → factor_text (with_signs ops f) ≡ signs_text ops ++ factor_text f
factor_text-with_signs [] f = refl
factor_text-with_signs (op ∷ ops) f = ap (λ t. tokens.Additive op ∷ t) (factor_text-with_signs ops f)

product_to : (product : Option (Option ℤ × Multiplicative)) (b : List Token) (f : Factor) → ProductBefore product b → (p : Product) × (product_text p ≡ b ++ factor_text f)
product_to None b f e = (one_factor f, sym (ap (λ x. x ++ factor_text f) e))
product_to (Some (v, op)) b f (q, e) = (scaled q op f, sym (ap (λ x. x ++ factor_text f) e ∙ append_assoc (product_text q) (tokens.Multiplicative op ∷ []) (factor_text f)))

sum_to : (sum : Option (Option ℤ × Additive)) (a : List Token) (p : Product) → SumBefore sum a → (s : Sum) × (sum_text s ≡ a ++ product_text p)
sum_to None a p e = (one_product p, sym (ap (λ x. x ++ product_text p) e))
sum_to (Some (v, op)) a p (s, e) = (added s op p, sym (ap (λ x. x ++ product_text p) e ∙ append_assoc (sum_text s) (tokens.Additive op ∷ []) (product_text p)))

signs_more : (ops : List Additive) (op : Additive) → signs_text (ops ++ op ∷ []) ≡ signs_text ops ++ tokens.Additive op ∷ []
signs_more [] op = refl
signs_more (o ∷ ops) op = ap (λ t. tokens.Additive o ∷ t) (signs_more ops op)

-- ---- one token

regroup : (a b c d : List Token) → (a ++ (b ++ c)) ++ d ≡ a ++ (b ++ (c ++ d))
regroup a b c d = simp append_assoc

-- a factor
factor_grows : (outer : List Level) (l : Level) (d : Bool) (v : Option ℤ) (o u t : List Token) (f : Factor) → OuterBefore outer o → LevelBefore l.sum l.product u → t ≡ o ++ (u ++ factor_text f) → Grown (Some (with_factor outer l d v)) t
factor_grows outer l d v o u t f before (a, b, ops, in_sum, in_product, e) et =
    let (p, ep) = product_to l.product b (with_signs ops f) in_product in
    (o, a, p, before, in_sum, refl, et ∙ ap (λ x. o ++ x) (ap (λ x. x ++ factor_text f) e ∙ (regroup a b (signs_text ops) (factor_text f) ∙ ap (λ x. a ++ x) (ap (λ x. b ++ x) (sym (factor_text-with_signs ops f)) ∙ sym ep))))

operand_grows : (outer : List Level) (l : Level) (d : Bool) (k : Token) (t : List Token) → StageBefore outer l Operand t → Grown (at_operand outer l d k) (t ++ k ∷ [])
operand_grows outer l d (tokens.Amount v) t (o, u, before, here, e) = factor_grows outer l d (option_and_then kept v) o u _ (amount v) before here (ap (λ x. x ++ tokens.Amount v ∷ []) e ∙ append_assoc o u (tokens.Amount v ∷ []))
operand_grows outer l d tokens.Dead t (o, u, before, here, e) = factor_grows outer l true None o u _ dead before here (ap (λ x. x ++ tokens.Dead ∷ []) e ∙ append_assoc o u (tokens.Dead ∷ []))
operand_grows outer l d tokens.Open t (o, u, before, here, e) = go l.room
  where
    go : (n : ℕ) → Grown (option_map (λ room. record { outer = l ∷ outer; level = record { sum = None; product = None; negative = false; room = room; base = room }; stage = Operand; dead = d }) (one_less n)) (t ++ tokens.Open ∷ [])
    go zero = tt
    go (suc n) = (t ++ tokens.Open ∷ [], [], (o, u, before, here, ap (λ x. x ++ tokens.Open ∷ []) e ∙ append_assoc o u (tokens.Open ∷ [])), ([], [], [], refl, refl, refl), sym (append-nil (t ++ tokens.Open ∷ [])))
operand_grows outer l d (tokens.Additive op) t (o, u, before, (a, b, ops, in_sum, in_product, eu), e) = go l.room
  where
    regroup : (a b c k : List Token) → (o ++ (a ++ (b ++ c))) ++ k ≡ o ++ (a ++ (b ++ (c ++ k)))
    regroup a b c k = simp append_assoc

    go : (n : ℕ) → Grown (option_map (λ room. record { outer = outer; level = record l { negative = flipped op l.negative; room = room }; stage = Operand; dead = d }) (one_less n)) (t ++ tokens.Additive op ∷ [])
    go zero = tt
    go (suc n) = (o, a ++ (b ++ signs_text (ops ++ op ∷ [])), before, (a, b, ops ++ op ∷ [], in_sum, in_product, refl), ap (λ x. x ++ tokens.Additive op ∷ []) (e ∙ ap (λ x. o ++ x) eu) ∙ (regroup a b (signs_text ops) (tokens.Additive op ∷ []) ∙ ap (λ x. o ++ (a ++ (b ++ x))) (sym (signs_more ops op))))
operand_grows outer l d tokens.Close t before = tt
operand_grows outer l d (tokens.Multiplicative op) t before = tt
operand_grows outer l d tokens.Other t before = tt

-- a parenthesis that closes a sum
closed_grows : (outer : List Level) (l : Level) (d : Bool) (v : Option ℤ) (o a t : List Token) (p : Product) → OuterBefore outer o → SumBefore l.sum a → t ≡ o ++ (a ++ product_text p) → Grown (Some (closed outer l d v)) (t ++ tokens.Close ∷ [])
closed_grows [] l d v o a t p before in_sum e =
    let (s, es) = sum_to l.sum a p in_sum in
    (s, ap (λ x. x ++ tokens.Close ∷ []) (e ∙ (ap (λ x. x ++ (a ++ product_text p)) before ∙ sym es)))
closed_grows (m ∷ outer) l d v o a t p (o', u, before, here, eo) in_sum e =
    let (s, es) = sum_to l.sum a p in_sum in
    factor_grows outer m d v o' u _ (group s) before here
    (ap (λ x. x ++ tokens.Close ∷ []) (e ∙ (ap (λ x. x ++ (a ++ product_text p)) eo ∙ ap (λ x. (o' ++ (u ++ tokens.Open ∷ [])) ++ x) (sym es))) ∙ regroup o' u (sum_text s))
  where
    regroup : (x y z : List Token) → ((x ++ (y ++ tokens.Open ∷ [])) ++ z) ++ tokens.Close ∷ [] ≡ x ++ (y ++ tokens.Open ∷ (z ++ tokens.Close ∷ []))
    regroup x y z = simp append_assoc

operator_grows : (outer : List Level) (l : Level) (d : Bool) (v : Option ℤ) (k : Token) (t : List Token) → StageBefore outer l (Operator v) t → Grown (at_operator outer l d v k) (t ++ k ∷ [])
operator_grows outer l d v (tokens.Additive op) t (o, a, p, before, in_sum, none, e) =
    let (s, es) = sum_to l.sum a p in_sum in (
      o,
      sum_text s ++ tokens.Additive op ∷ [],
      before,
      (sum_text s ++ tokens.Additive op ∷ [], [], [], (s, refl), none, sym (append-nil (sum_text s ++ tokens.Additive op ∷ []))),
      ap (λ x. x ++ tokens.Additive op ∷ []) e ∙ (append_assoc o (a ++ product_text p) (tokens.Additive op ∷ []) ∙ ap (λ x. o ++ (x ++ tokens.Additive op ∷ [])) (sym es)),
    )
operator_grows outer l d v (tokens.Multiplicative op) t (o, a, p, before, in_sum, none, e) = (
  o,
  a ++ (product_text p ++ tokens.Multiplicative op ∷ []),
  before,
  (a, product_text p ++ tokens.Multiplicative op ∷ [], [], in_sum, (p, refl), ap (λ x. a ++ x) (sym (append-nil (product_text p ++ tokens.Multiplicative op ∷ [])))),
  ap (λ x. x ++ tokens.Multiplicative op ∷ []) e ∙ regroup o a (product_text p) (tokens.Multiplicative op ∷ []),
)
operator_grows outer l d v tokens.Close t (o, a, p, before, in_sum, none, e) = closed_grows outer l d (sum_with l.sum v) o a t p before in_sum e
operator_grows outer l d v (tokens.Amount w) t before = tt
operator_grows outer l d v tokens.Dead t before = tt
operator_grows outer l d v tokens.Open t before = tt
operator_grows outer l d v tokens.Other t before = tt

stage_grows : (outer : List Level) (l : Level) (d : Bool) (stage : Stage) (k : Token) (t : List Token) → StageBefore outer l stage t → Grown (at_stage outer l d stage k) (t ++ k ∷ [])
stage_grows outer l d Operand k t before = operand_grows outer l d k t before
stage_grows outer l d (Operator v) k t before = operator_grows outer l d v k t before
stage_grows outer l d (Done v) k t before = tt

-- ---- all tokens

finished : (outer : List Level) (l : Level) (d : Bool) (stage : Stage) (t : List Token) (c : Cost) → StageBefore outer l stage t → finish d stage ≡ Some c → (s : Sum) × (t ++ [] ≡ sum_text s ++ tokens.Close ∷ [])
finished outer l d Operand t c before e = absurd cc
finished outer l d (Operator v) t c before e = absurd cc
finished outer l d (Done v) t c (s, e) _ = (s, append-nil t ∙ e)

accepted : (ts : List Token) (s : ReadingState) (t : List Token) (c : Cost) → StageBefore s.outer s.level s.stage t → run s ts ≡ Some c → (tree : Sum) × (t ++ ts ≡ sum_text tree ++ tokens.Close ∷ [])
accepted [] s t c before e = finished s.outer s.level s.dead s.stage t c before e
accepted (k ∷ ts) s t c before e = go (λ n grown r. accepted ts n (t ++ k ∷ []) c grown r) (step s k) (stage_grows s.outer s.level s.dead s.stage k t before) e
  where
    go : ((n : ReadingState) → StageBefore n.outer n.level n.stage (t ++ k ∷ []) → run n ts ≡ Some c → (tree : Sum) × ((t ++ k ∷ []) ++ ts ≡ sum_text tree ++ tokens.Close ∷ [])) → (o : Option ReadingState) → Grown o (t ++ k ∷ []) → option_and_then (λ n. run n ts) o ≡ Some c → (tree : Sum) × (t ++ k ∷ ts ≡ sum_text tree ++ tokens.Close ∷ [])
    go rec None grown r = absurd cc
    go rec (Some n) grown r = let (tree, et) = rec n grown r in (tree, sym (append_assoc t (k ∷ []) ts) ∙ et)

-- what is accepted from the start is the text of a tree and a closing parenthesis
pub accepted_expression : (room : ℕ) (ts : List Token) (c : Cost) → run (start room) ts ≡ Some c → (tree : Sum) × (ts ≡ sum_text tree ++ tokens.Close ∷ [])
accepted_expression room ts c e = accepted ts (start room) [] c ([], [], refl, ([], [], [], refl, refl, refl), refl) e
