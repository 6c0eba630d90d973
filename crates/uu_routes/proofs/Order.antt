-- The order of labels.
use Rattle.std.proofs.Common.{◌≡◌, ℕ, ◌+◌, true, false, List, [], ◌∷◌, ◌++◌, length, slice_index_or, Ordering, refl, sym, ap, ◌∙◌, arith, length-append}
use Rattle.std.specs.declared.cmp.Ordering.TheVariants.{Less, Equal, Greater}
use Rattle.std.specs.Ordering.{nat_cmp, ordering_then, ordering_reverse, is_lt, is_gt}
use Rattle.std.specs.Cmp.{IsTotalOrder}
use Rattle.std.specs.Cmp.Lexicographic.{slice_cmp}
use Rattle.std.proofs.lemmas.Bool.Decides.{nat_tests}
use Rattle.std.proofs.lemmas.Cmp.{nat_cmp_total, nat_list_cmp_total, then_total, on_total, tied_itself, upto}
use Rattle.uu_routes.specs.declared.net.Edge.{Edge}
use Rattle.uu_routes.specs.declared.label.Label.{Label}
use Rattle.uu_routes.specs.Internal.Labels.{label_cmp, is_below, onward}
use Rattle.uu_routes.specs.Internal.Nets.{IsUpTo}

pub label_total : IsTotalOrder label_cmp
label_total = then_total (then_total (on_total (λ (l : Label). l.cost) nat_cmp_total) (on_total (λ (l : Label). length l.path) nat_cmp_total)) (on_total (λ (l : Label). l.path) nat_list_cmp_total)

pub up_to_itself : (a : Label) → IsUpTo a a
up_to_itself a = ap is_gt (tied_itself label_total a)

pub up_to_trans : (a b c : Label) → IsUpTo a b → IsUpTo b c → IsUpTo a c
up_to_trans a b c p q = upto label_total a b c p q

reversed : (o p : Ordering) → o ≡ ordering_reverse p → is_lt p ≡ false → is_gt o ≡ false
reversed o Less e h = absurd cc
reversed o Equal e h = ap is_gt e
reversed o Greater e h = ap is_gt e

pub up_to_from_not_below : (w l : Label) → is_below w l ≡ false → IsUpTo l w
unfolding is_below
up_to_from_not_below w l h = reversed (label_cmp l w) (label_cmp w l) (label_total.antisymm l w) h

less_up_to : (o : Ordering) → is_lt o ≡ true → is_gt o ≡ false
less_up_to Less h = refl
less_up_to Equal h = absurd cc
less_up_to Greater h = absurd cc

pub up_to_from_below : (w l : Label) → is_below w l ≡ true → IsUpTo w l
unfolding is_below
up_to_from_below w l h = less_up_to (label_cmp w l) h

-- ---- the same link at the end

ends_alike : (p q : List ℕ) (v : ℕ) → length p ≡ length q → slice_cmp nat_cmp (p ++ v ∷ []) (q ++ v ∷ []) ≡ slice_cmp nat_cmp p q
ends_alike [] [] v e = ap (λ o. ordering_then o Equal) (tied_itself nat_cmp_total v)
ends_alike [] (y ∷ q) v e = absurd (omega arith)
ends_alike (x ∷ p) [] v e = absurd (omega arith)
ends_alike (x ∷ p) (y ∷ q) v e = ap (ordering_then (nat_cmp x y)) (ends_alike p q v (omega arith))

more_alike : (a b d : ℕ) → nat_cmp (a + d) (b + d) ≡ nat_cmp a b
more_alike a b d = grind (arith, nat_tests)

both_alike : (x y z w : Ordering) → (y ≡ Equal → z ≡ w) → ordering_then (ordering_then x y) z ≡ ordering_then (ordering_then x y) w
both_alike Less y z w h = refl
both_alike Equal Less z w h = refl
both_alike Equal Equal z w h = h refl
both_alike Equal Greater z w h = refl
both_alike Greater y z w h = refl

lengths_alike : (p q : List ℕ) (v : ℕ) → nat_cmp (length (p ++ v ∷ [])) (length (q ++ v ∷ [])) ≡ nat_cmp (length p) (length q)
lengths_alike p q v = ap (λ n. nat_cmp n (length (q ++ v ∷ []))) (length-append p (v ∷ [])) ∙ (ap (λ n. nat_cmp (length p + 1) n) (length-append q (v ∷ [])) ∙ more_alike (length p) (length q) 1)

tied_lengths : (m n : ℕ) → nat_cmp m n ≡ Equal → m ≡ n
tied_lengths m n e = grind (arith, nat_tests)

onward_alike : (a b : Label) (e : Edge) → label_cmp (onward a e) (onward b e) ≡ label_cmp a b
onward_alike a b e =
    ap (λ o. ordering_then (ordering_then o (nat_cmp (length (a.path ++ e.to ∷ [])) (length (b.path ++ e.to ∷ [])))) (slice_cmp nat_cmp (a.path ++ e.to ∷ []) (b.path ++ e.to ∷ []))) (more_alike a.cost b.cost e.cost)
    ∙ (ap (λ o. ordering_then (ordering_then (nat_cmp a.cost b.cost) o) (slice_cmp nat_cmp (a.path ++ e.to ∷ []) (b.path ++ e.to ∷ []))) (lengths_alike a.path b.path e.to)
    ∙ both_alike (nat_cmp a.cost b.cost) (nat_cmp (length a.path) (length b.path)) _ _ (λ t. ends_alike a.path b.path e.to (tied_lengths _ _ t)))

pub onward_up_to : (a b : Label) (e : Edge) → IsUpTo a b → IsUpTo (onward a e) (onward b e)
onward_up_to a b e h = ap is_gt (onward_alike a b e) ∙ h

-- ---- a way and a link, compared with another way

then_equal : (x : Ordering) → ordering_then x Equal ≡ x
then_equal Less = refl
then_equal Equal = refl
then_equal Greater = refl

then_grouped : (x y z : Ordering) → ordering_then x (ordering_then y z) ≡ ordering_then (ordering_then x y) z
then_grouped Less y z = refl
then_grouped Equal y z = refl
then_grouped Greater y z = refl

ends_compared : (p q : List ℕ) (v w : ℕ) → length p ≡ length q → slice_cmp nat_cmp (p ++ v ∷ []) (q ++ w ∷ []) ≡ ordering_then (slice_cmp nat_cmp p q) (nat_cmp v w)
ends_compared [] [] v w e = then_equal (nat_cmp v w)
ends_compared [] (y ∷ q) v w e = absurd (omega arith)
ends_compared (x ∷ p) [] v w e = absurd (omega arith)
ends_compared (x ∷ p) (y ∷ q) v w e = ap (ordering_then (nat_cmp x y)) (ends_compared p q v w (omega arith)) ∙ then_grouped (nat_cmp x y) (slice_cmp nat_cmp p q) (nat_cmp v w)

only_one : (last : List ℕ) → length last ≡ 1 → last ≡ slice_index_or last 0 0 ∷ []
only_one [] e = absurd (omega arith)
only_one (x ∷ []) e = refl
only_one (x ∷ y ∷ last) e = absurd (omega arith)

pub split_compared : (p other front last : List ℕ) (v : ℕ) → length front ≡ length p → length last ≡ 1 → other ≡ front ++ last → ordering_then (slice_cmp nat_cmp p front) (nat_cmp v (slice_index_or last 0 0)) ≡ slice_cmp nat_cmp (p ++ v ∷ []) other
split_compared p other front last v e one split =
    sym (ap (slice_cmp nat_cmp (p ++ v ∷ [])) (split ∙ ap (λ l. front ++ l) (only_one last one)) ∙ ends_compared p front v (slice_index_or last 0 0) (sym e))

-- what the order of costs and numbers of hosts is, if it was found by the parts
pub below_by : (base : Label) (e : Edge) (other : Label) (p q : List ℕ) (a b o : Ordering) → p ≡ base.path → q ≡ other.path → a ≡ nat_cmp (base.cost + e.cost) other.cost → b ≡ nat_cmp (length p + 1) (length q) → o ≡ ordering_then a b
    → is_lt (ordering_then o (slice_cmp nat_cmp (p ++ e.to ∷ []) q)) ≡ is_below (onward base e) other
unfolding is_below
below_by base e other p q a b o front back costs hops is =
    ap (λ x. is_lt (ordering_then x (slice_cmp nat_cmp (p ++ e.to ∷ []) q))) (is ∙ (ap (λ x. ordering_then x b) costs ∙ ap (ordering_then (nat_cmp (base.cost + e.cost) other.cost)) hops))
    ∙ (ap (λ x. is_lt (ordering_then (ordering_then (nat_cmp (base.cost + e.cost) other.cost) (nat_cmp (length x + 1) (length q))) (slice_cmp nat_cmp (x ++ e.to ∷ []) q))) front
    ∙ (ap (λ x. is_lt (ordering_then (ordering_then (nat_cmp (base.cost + e.cost) other.cost) (nat_cmp (length base.path + 1) (length x))) (slice_cmp nat_cmp (base.path ++ e.to ∷ []) x))) back
    ∙ ap (λ n. is_lt (ordering_then (ordering_then (nat_cmp (base.cost + e.cost) other.cost) (nat_cmp n (length other.path))) (slice_cmp nat_cmp (base.path ++ e.to ∷ []) other.path))) (sym (length-append base.path (e.to ∷ [])))))
