-- What it leaves to follow the links from one way.
use Rattle.std.proofs.Common.{◌≡◌, ℕ, ◌<◌, Bool, true, false, cond, ◌⊎◌, List, [], ◌∷◌, length, Option, Some, None, refl, sym, ap, ◌∙◌, inl, inr, subst}
use Rattle.std.specs.Prelude.{slice_set}
use Rattle.std.specs.List.{AllByRecursion}
use Rattle.std.proofs.lemmas.List.{length-set, get_or-set_same, get_or-set_other}
use Rattle.std.proofs.lemmas.Bool.{cases_eq}
use Rattle.uu_routes.specs.declared.net.Edge.{Edge}
use Rattle.uu_routes.specs.declared.label.Label.{Label}
use Rattle.uu_routes.specs.Internal.Labels.{label_at, is_below, improved, onward, relaxed}
use Rattle.uu_routes.specs.Internal.Nets.{IsUpTo}
use Rattle.uu_routes.proofs.Order.{up_to_itself, up_to_trans, up_to_from_not_below, up_to_from_below}

-- the label isn't after this one
abbrev pub Reaches : Option Label → Label → Type 0
Reaches None m = ⊥
Reaches (Some l) m = IsUpTo l m

pub reaches_more : (o : Option Label) (a b : Label) → Reaches o a → IsUpTo a b → Reaches o b
reaches_more None a b h u = absurd h
reaches_more (Some l) a b h u = up_to_trans l a b h u

abbrev pub In : {X : Type 0} → List X → X → Type 0
In [] x = ⊥
In (y ∷ ys) x = (y ≡ x) ⊎ In ys x

-- ---- one host

pub record Better (w : Label) (o p : Option Label) : Type 0 where
  pub from : (l : Label) → p ≡ Some l → (o ≡ Some l) ⊎ (l ≡ w)
  pub lower : (m : Label) → Reaches o m → Reaches p m
  pub met : Reaches p w

pub some_same : {X : Type 0} → (x y : X) → Some x ≡ Some y → x ≡ y
some_same x y e = cc

pub better_by : (w : Label) (o : Option Label) → Better w o (improved w o)
better_by w None = record {
  from = λ l e. inr (sym (some_same w l e));
  lower = λ m h. absurd h;
  met = up_to_itself w;
}
better_by w (Some l) = go (is_below w l) refl
  where
    go : (t : Bool) → is_below w l ≡ t → Better w (Some l) (cond t (Some w) (Some l))
    go true e = record {
      from = λ m f. inr (sym (some_same w m f));
      lower = λ m h. up_to_trans w l m (up_to_from_below w l e) h;
      met = up_to_itself w;
    }
    go false e = record {
      from = λ m f. inl f;
      lower = λ m h. h;
      met = up_to_from_not_below w l e;
    }

-- ---- one link

pub record IsEased (base : Label) (es : List Edge) (old new : List (Option Label)) : Type 0 where
  pub size : length new ≡ length old
  pub from : (i : ℕ) (l : Label) → label_at new i ≡ Some l → (label_at old i ≡ Some l) ⊎ ((e : Edge) × (In es e × ((e.to ≡ i) × (l ≡ onward base e))))
  pub lower : (i : ℕ) (m : Label) → Reaches (label_at old i) m → Reaches (label_at new i) m
  pub met : (e : Edge) → In es e → Reaches (label_at new e.to) (onward base e)

abbrev eased_by : Label → Edge → List (Option Label) → List (Option Label)
eased_by base e ls = slice_set ls e.to (improved (onward base e) (label_at ls e.to))

one_link : (base : Label) (e : Edge) (ls : List (Option Label)) → e.to < length ls → IsEased base (e ∷ []) ls (eased_by base e ls)
one_link base e ls h = record {
  size = length-set ls e.to (improved (onward base e) (label_at ls e.to));
  from = λ i l f. elim (cases_eq i e.to) [
    | inl s ↦ elim (b.from l (sym same ∙ (ap (λ j. label_at new j) (sym s) ∙ f))) [
      | inl g ↦ inl (ap (λ j. label_at ls j) s ∙ g)
      | inr g ↦ inr (e, (inl refl, (sym s, g)))
    ]
    | inr n ↦ inl (sym (other i n) ∙ f)
  ];
  lower = λ i m r. elim (cases_eq i e.to) [
    | inl s ↦ subst (λ (j : ℕ). Reaches (label_at new j) m) (sym s) (subst (λ (o : Option Label). Reaches o m) (sym same) (b.lower m (subst (λ (j : ℕ). Reaches (label_at ls j) m) s r)))
    | inr n ↦ subst (λ (o : Option Label). Reaches o m) (sym (other i n)) r
  ];
  met = λ f i. elim i [
    | inl s ↦ subst (λ (x : Edge). Reaches (label_at new x.to) (onward base x)) s (subst (λ (o : Option Label). Reaches o (onward base e)) (sym same) b.met)
    | inr n ↦ absurd n
  ];
}
  where
    new : List (Option Label)
    new = eased_by base e ls

    same : label_at (eased_by base e ls) e.to ≡ improved (onward base e) (label_at ls e.to)
    same = get_or-set_same ls e.to (improved (onward base e) (label_at ls e.to)) None h

    other : (i : ℕ) → (i ≡ e.to → ⊥) → label_at (eased_by base e ls) i ≡ label_at ls i
    other i n = get_or-set_other ls e.to i (improved (onward base e) (label_at ls e.to)) None n

    b : Better (onward base e) (label_at ls e.to) (improved (onward base e) (label_at ls e.to))
    b = better_by (onward base e) (label_at ls e.to)

-- ---- all links

not_at_all : (base : Label) (ls : List (Option Label)) → IsEased base [] ls ls
not_at_all base ls = record {
  size = refl;
  from = λ i l f. inl f;
  lower = λ i m r. r;
  met = λ e i. absurd i;
}

then_more : (base : Label) (e : Edge) (es : List Edge) (a b c : List (Option Label)) → IsEased base (e ∷ []) a b → IsEased base es b c → IsEased base (e ∷ es) a c
then_more base e es a b c p q = record {
  size = q.size ∙ p.size;
  from = λ i l f. elim (q.from i l f) [
    | inl g ↦ elim (p.from i l g) [ inl h ↦ inl h | inr (x, (k, r)) ↦ elim k [ inl s ↦ inr (x, (inl s, r)) | inr n ↦ absurd n ] ]
    | inr (x, (k, r)) ↦ inr (x, (inr k, r))
  ];
  lower = λ i m r. q.lower i m (p.lower i m r);
  met = λ x i. elim i [ inl s ↦ q.lower x.to (onward base x) (p.met x (inl s)) | inr k ↦ q.met x k ];
}

pub eased : (base : Label) (es : List Edge) (ls : List (Option Label)) → AllByRecursion (λ e. e.to < length ls) es → IsEased base es ls (relaxed base es ls)
eased base [] ls h = not_at_all base ls
eased base (e ∷ es) ls h =
    let one = one_link base e ls h.0 in
    then_more base e es ls (eased_by base e ls) (relaxed base es (eased_by base e ls)) one (eased base es (eased_by base e ls) (subst (λ (n : ℕ). AllByRecursion (λ (x : Edge). x.to < n) es) (sym one.size) h.1))
