-- Rows in the order of a name: one row at most has the name.
use Rattle.std.proofs.Common.{◌≡◌, ℕ, Bool, true, false, cond, ◌||◌, List, [], ◌∷◌, find, Some, refl, ap, ◌∙◌}
use Rattle.std.specs.Cmp.Lexicographic.{bytes_decides}
use Rattle.std.specs.List.{AllByRecursion, list_any}
use Rattle.std.proofs.lemmas.Bool.{both_ways}
use Rattle.uu_names.proofs.Basics.{AllPairsByRecursion, all_weaker, later_other}
use Rattle.uu_core.specs.State.{ComesBefore, same_text}
use Rattle.uu_tables.specs.Changes.{alter}

-- ---- one row at most has the name

module _ {V : Type 0} (name : V → List ℕ) where
  abbrev pub before : V → V → Type 0
  before a b = ComesBefore (name a) (name b)

  abbrev pub has : List ℕ → V → Bool
  has key row = same_text (name row) key

  others : (key : List ℕ) (row : V) (rows : List V) → has key row ≡ true → AllByRecursion (before row) rows → AllByRecursion (λ other. has key other ≡ true → other ≡ row) rows
  others key row rows own later =
      all_weaker (before row) (λ other. has key other ≡ true → other ≡ row) (λ other ahead again. absurd (both_ways _ (later_other (name row) (name other) ahead) (ap (same_text (name other)) ((bytes_decides (name row) key).0 own) ∙ again))) rows later

  pub only_one : (key : List ℕ) (rows : List V) → AllPairsByRecursion before rows → (found : V) → find (has key) rows ≡ Some found → AllByRecursion (λ other. has key other ≡ true → other ≡ found) rows
  only_one key [] h found e = tt
  only_one key (row ∷ rows) h found e = by_test (has key row) refl e (only_one key rows h.1 found)
    where
      by_test : (t : Bool) → has key row ≡ t → cond t (Some row) (find (has key) rows) ≡ Some found → (find (has key) rows ≡ Some found → AllByRecursion (λ other. has key other ≡ true → other ≡ found) rows) → (has key row ≡ true → row ≡ found) × AllByRecursion (λ other. has key other ≡ true → other ≡ found) rows
      by_test true own is rest = let same : row ≡ found = cc in ((λ _. same), all_weaker (λ other. has key other ≡ true → other ≡ row) (λ other. has key other ≡ true → other ≡ found) (λ other one again. one again ∙ same) rows (others key row rows own h.0))
      by_test false other is rest = ((λ own. absurd (both_ways _ other own)), rest is)

-- two changes that agree for the elements that are changed
pub agree : {X : Type 0} (p : X → Bool) (c d : X → X) (xs : List X) → AllByRecursion (λ x. p x ≡ true → c x ≡ d x) xs → alter p c xs ≡ alter p d xs
agree p c d [] h = refl
agree p c d (x ∷ xs) h = λ i. one (p x) h.0 i ∷ agree p c d xs h.1 i
  where
    one : (b : Bool) → (b ≡ true → c x ≡ d x) → cond b (c x) x ≡ cond b (d x) x
    one true same = same refl
    one false same = refl

-- ---- what is found is there

pub found : {X : Type 0} (p : X → Bool) (xs : List X) → list_any p xs ≡ true → (x : X) × (find p xs ≡ Some x) × (p x ≡ true)
found p [] e = absurd (cc)
found p (y ∷ xs) e = by_test (p y) refl e (found p xs)
  where
    by_test : (b : Bool) → p y ≡ b → b || list_any p xs ≡ true → (list_any p xs ≡ true → (x : _) × (find p xs ≡ Some x) × (p x ≡ true)) → (x : _) × (cond b (Some y) (find p xs) ≡ Some x) × (p x ≡ true)
    by_test true own e rest = (y, refl, own)
    by_test false other e rest = rest e

pub none_passes : {X : Type 0} (p : X → Bool) (xs : List X) → list_any p xs ≡ false → AllByRecursion (λ x. p x ≡ false) xs
none_passes p [] e = tt
none_passes p (y ∷ xs) e = by_test (p y) refl e (none_passes p xs)
  where
    by_test : (b : Bool) → p y ≡ b → b || list_any p xs ≡ false → (list_any p xs ≡ false → AllByRecursion (λ x. p x ≡ false) xs) → (p y ≡ false) × AllByRecursion (λ x. p x ≡ false) xs
    by_test true own e rest = absurd (cc)
    by_test false other e rest = (other, rest e)
