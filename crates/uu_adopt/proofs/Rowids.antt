-- Rowids that rise, and what they say of the rows of a table.
use Rattle.std.proofs.Common.{◌≡◌, ◌<◌, inl, inr, ℕ, ℤ, pos, List, [], ◌∷◌, Bool, true, false, ◌&&◌, map, filter, refl, sym, ap, subst, ◌∙◌, arith, Ordering, Less, int_cmp}
use Rattle.std.specs.Prelude.{◌↔◌, IsTrue, ◌<ℤ◌, int_lt}
use Rattle.std.specs.List.{AllByRecursion}
use Rattle.std.specs.List.Sorted.{IsPermutation}
use Rattle.std.specs.Ordering.{is_eq}
use Rattle.std.proofs.lemmas.Int.{ints}
use Rattle.std.proofs.lemmas.Bool.{and_parts, false_from_ne_true}
use Rattle.std.proofs.lemmas.List.{map-id}
use Rattle.std.proofs.lemmas.List.Sorted.{IsPermutation-sym}
use Rattle.std.specs.Cmp.{Equal-is}
use Rattle.uu_names.proofs.Basics.{lt-int_lt}
use Rattle.sqlite.specs.declared.types.Value.{Value}
use Rattle.sqlite.specs.declared.types.Value.TheVariants.{Int}
use Rattle.sqlite.specs.Order.{Row, column, value_cmp}
use Rattle.sqlite.specs.Tree.{Trees, IsAscending, IsTable, rowid}
use Rattle.sqlite.specs.View.{is_int}
use Rattle.sqlite.specs.Edit.{id_in}
use Rattle.sqlite.specs.Query.{IsAnswer}
use Rattle.sqlite.specs.Program.{overlay}
use Rattle.sqlite_keyed.specs.Lists.{insert_sorted, sort_by}
use Rattle.sqlite_keyed.proofs.ListLemmas.{ascending-map, ascending_weaker}
use Rattle.sqlite_trees.proofs.ListLemmas.{all-permutation, ascending_from_map, pull_back}
use Rattle.sqlite_typed.proofs.TestLemmas.{last_key}
use Rattle.sqlite_rules.proofs.ListLemmas.{all_has, all_from}
use Rattle.sqlite_rules.proofs.TableLemmas.{int_is}
use Rattle.sqlite_value.proofs.OrderLemmas.{value_cmp-Int, value_cmp_total}
use Rattle.uu_schema.specs.Rowids.{AreNumbered, OnceEach}
use Rattle.uu_schema.proofs.Rows.{all_stay, once}
use Rattle.uu_schema.proofs.Rowids.{has_moved}
use Rattle.uu_schema.proofs.Sorted.{IsPermutation-insert_sorted, rises_insert_sorted}
use Rattle.uu_schema.proofs.Answers.{answer_moved, answer_sorted}
use Rattle.uu_adopt.specs.Reading.{AreRowids}
use Rattle.uu_rows.proofs.Meanings.{at_places, by_places}
use Rattle.uu_adopt.proofs.Meanings.{rowids_of}

-- ---- the test

-- each is a whole number past the one before it
abbrev pub rise_from : ℤ → List Row → Bool
rise_from last [] = true
rise_from last (r ∷ rows) = is_int (rowid r) && int_lt last (id_in (rowid r)) && rise_from (id_in (rowid r)) rows

abbrev pub rise : List Row → Bool
rise [] = true
rise (r ∷ rows) = is_int (rowid r) && rise_from (id_in (rowid r)) rows

pub goes_on : (last : ℤ) (r : Row) (rows : List Row) (n : ℤ) (b : Bool) → rowid r ≡ Int n → int_lt last n ≡ b → rise_from last (r ∷ rows) ≡ b && rise_from n rows
goes_on last r rows n b is past = ap (λ v. is_int v && int_lt last (id_in v) && rise_from (id_in v) rows) is ∙ ap (λ t. t && rise_from n rows) past

pub int_is_lower : (a b : ℤ) → int_lt a b ≡ true → a <ℤ b
int_is_lower a b h = grind (arith, ints)

abbrev Below : Row → Row → Type 0
Below a b = id_in (rowid a) <ℤ id_in (rowid b)

over : (x y : ℤ) (rows : List Row) → x <ℤ y → AllByRecursion (λ b. y <ℤ id_in (rowid b)) rows → AllByRecursion (λ b. x <ℤ id_in (rowid b)) rows
over x y [] h all = tt
over x y (r ∷ rows) h all = (let first = all.0 in omega (arith, ints, h, first), over x y rows h all.1)

risen_after : (last : ℤ) (rows : List Row) → rise_from last rows ≡ true → AllByRecursion (λ b. last <ℤ id_in (rowid b)) rows × AreRowids rows
risen_after last [] h = (tt, record { numbered = tt; rising = tt })
risen_after last (r ∷ rows) h =
    let parts = and_parts (is_int (rowid r) && int_lt last (id_in (rowid r))) (rise_from (id_in (rowid r)) rows) h in
    let one = and_parts (is_int (rowid r)) (int_lt last (id_in (rowid r))) parts.0 in
    let first = int_is_lower last (id_in (rowid r)) one.1 in
    let more = risen_after (id_in (rowid r)) rows parts.1 in
    ((first, over last (id_in (rowid r)) rows first more.0), record { numbered = (one.0, more.1.numbered); rising = (more.0, more.1.rising) })

risen : (rows : List Row) → rise rows ≡ true → AreRowids rows
risen [] h = record { numbered = tt; rising = tt }
risen (r ∷ rows) h =
    let parts = and_parts (is_int (rowid r)) (rise_from (id_in (rowid r)) rows) h in
    let more = risen_after (id_in (rowid r)) rows parts.1 in
    record { numbered = (parts.0, more.1.numbered); rising = (more.0, more.1.rising) }

does_rise_after : (last : ℤ) (rows : List Row) → AllByRecursion (λ b. last <ℤ id_in (rowid b)) rows → AreNumbered rows → IsAscending Below rows → rise_from last rows ≡ true
does_rise_after last [] h n up = refl
does_rise_after last (r ∷ rows) h n up = rw (n.0, lt-int_lt last (id_in (rowid r)) h.0) (does_rise_after (id_in (rowid r)) rows up.0 n.1 up.1)

does_rise : (rows : List Row) → AreNumbered rows → IsAscending Below rows → rise rows ≡ true
does_rise [] n up = refl
does_rise (r ∷ rows) n up = rw n.0 (does_rise_after (id_in (rowid r)) rows up.0 n.1 up.1)

-- a test that computes whether they rise tells it
pub as_rise : (b : Bool) (rows : List Row) → b ≡ rise rows → IsTrue b ↔ AreRowids rows
as_rise b rows is = (λ yes. risen rows (sym is ∙ yes), λ it. is ∙ does_rise rows it.numbered it.rising)

-- ---- rowids that rise tell the rows of a table apart

abbrev pub id_shown : Row → Row
id_shown r = column r 0 ∷ []

id_less : (x y : ℤ) → x <ℤ y → value_cmp (Int x) (Int y) ≡ Less
id_less x y h = value_cmp-Int x y ∙ (let e : int_cmp x y ≡ Less = grind (arith, ints) in e)

-- whole numbers, compared as values
less_value : (u v : Value) → IsTrue (is_int u) → IsTrue (is_int v) → id_in u <ℤ id_in v → value_cmp u v ≡ Less
less_value u v h k less = ap (λ x. value_cmp x v) (int_is u h) ∙ ap (value_cmp (Int (id_in u))) (int_is v k) ∙ id_less (id_in u) (id_in v) less

all_with : (P Q R : Row → Type 0) → ((r : Row) → P r → Q r → R r) → (rs : List Row) → AllByRecursion P rs → AllByRecursion Q rs → AllByRecursion R rs
all_with P Q R step [] p q = tt
all_with P Q R step (r ∷ rs) p q = (step r p.0 q.0, all_with P Q R step rs p.1 q.1)

-- an order of rows that each have a property
ascending_with : (P : Row → Type 0) (Q R : Row → Row → Type 0) → ((x y : Row) → P x → P y → Q x y → R x y) → (rs : List Row) → AllByRecursion P rs → IsAscending Q rs → IsAscending R rs
ascending_with P Q R step [] p up = tt
ascending_with P Q R step (r ∷ rs) p up = (all_with P (Q r) (R r) (λ y. step r y p.0) rs p.1 up.0, ascending_with P Q R step rs p.1 up.1)

abbrev IsNumbered : Row → Type 0
IsNumbered r = IsTrue (is_int (rowid r))

in_table : (rs : List Row) → AreRowids rs → IsTable rs
in_table rs it = ascending_with IsNumbered Below (λ x y. value_cmp (rowid x) (rowid y) ≡ Less) (λ x y. less_value (rowid x) (rowid y)) rs it.numbered it.rising

-- rows that show their rowids first
module _ (shown : Row → Row) (same : (r : Row) → rowid (shown r) ≡ rowid r) where
  numbered_in : (rs : List Row) → AreNumbered (map shown rs) → AreNumbered rs
  numbered_in [] h = tt
  numbered_in (r ∷ rs) h = (subst (λ v. IsTrue (is_int v)) (same r) h.0, numbered_in rs h.1)

  below_in : (x y : Row) → Below (shown x) (shown y) → Below x y
  below_in x y h = subst (λ v. id_in (rowid x) <ℤ id_in v) (same y) (subst (λ u. id_in u <ℤ id_in (rowid (shown y))) (same x) h)

  rowids_in : (rs : List Row) → AreRowids (map shown rs) → AreRowids rs
  rowids_in rs it = record { numbered = numbered_in rs it.numbered; rising = ascending_weaker _ Below below_in rs (ascending_from_map Below shown rs it.rising) }

  pub ids_apart : (table rows : List Row) → IsPermutation (map shown table) rows → AreRowids rows → AreNumbered table × OnceEach table
  ids_apart table rows moved it =
      let back = pull_back shown _ rows moved table refl in
      let rs = back.0 in
      let mine = rowids_in rs (subst AreRowids back.2 it) in
      let away = IsPermutation-sym table rs back.1 in
      let apart = once rs (in_table rs mine) in
      (all-permutation IsNumbered rs table away mine.numbered, λ x y j k. apart x y (has_moved table rs x back.1 j) (has_moved table rs y back.1 k))

-- typed rows whose first column is a number that rises
module _ {X : Type 0} (cells : X → Row) (number : X → ℕ) (first : (x : X) → rowid (cells x) ≡ Int (pos (number x))) where
  keys_numbered : (xs : List X) → AreNumbered (map cells xs)
  keys_numbered [] = tt
  keys_numbered (x ∷ xs) = (subst (λ v. IsTrue (is_int v)) (sym (first x)) refl, keys_numbered xs)

  key_below : (x y : X) → number x < number y → Below (cells x) (cells y)
  key_below x y h = subst (λ v. id_in (rowid (cells x)) <ℤ id_in v) (sym (first y)) (subst (λ u. id_in u <ℤ pos (number y)) (sym (first x)) (omega (arith, ints, h)))

  pub keys_rise : (xs : List X) → IsAscending (λ x y. number x < number y) xs → AreRowids (map cells xs)
  keys_rise xs up = record { numbered = keys_numbered xs; rising = ascending-map Below cells xs (ascending_weaker _ (λ x y. Below (cells x) (cells y)) key_below xs up) }

-- ---- what the question on the rowids of a table says of its rows, both ways

module _ (tree : ℕ) (db : Trees) (rows : List Row) (bare : overlay db [] tree ≡ db tree) (a : IsAnswer (rowids_of tree) (overlay db []) [] rows) where
  ids_moved : IsPermutation (map id_shown (db tree)) rows
  ids_moved = subst (λ l. IsPermutation (map id_shown l) rows) (sym (all_stay (db tree))) (answer_moved tree [] (at_places (0 ∷ [])) (by_places (0 ∷ [])) db [] rows bare a)

  pub ids_found : AreRowids rows → AreNumbered (db tree) × OnceEach (db tree)
  ids_found = ids_apart id_shown (λ r. refl) (db tree) rows ids_moved

  no_ties : (rs : List Row) → OnceEach rs → IsAscending (λ x y. x ≡ y → ⊥) rs → IsAscending (λ x y. is_eq (value_cmp (rowid x) (rowid y)) ≡ false) rs
  no_ties [] apart up = tt
  no_ties (r ∷ rs) apart up = (
    all_from (λ b. is_eq (value_cmp (rowid r) (rowid b)) ≡ false) rs (λ b k. false_from_ne_true _ (λ tie. all_has (λ x. r ≡ x → ⊥) rs b up.0 k (apart r b (inl refl) (inr k) ((Equal-is _).0 tie)))),
    no_ties rs (λ x y h k. apart x y (inr h) (inr k)) up.1,
  )

  all_sorted : (order : Row → Row → Ordering) (P : Row → Type 0) (new : Row) (rs : List Row) → P new → AllByRecursion P rs → AllByRecursion P (insert_sorted order new rs)
  all_sorted order P new rs h all = all-permutation P (new ∷ rs) (insert_sorted order new rs) (IsPermutation-sym _ _ (IsPermutation-insert_sorted order new rs)) (h, all)

  abbrev rowid_order : Row → Row → Ordering
  rowid_order x y = value_cmp (column x 0) (column y 0)

  sorted_all : (P : Row → Type 0) (rs : List Row) → AllByRecursion P rs → AllByRecursion P (sort_by rowid_order rs)
  sorted_all P [] all = tt
  sorted_all P (r ∷ rs) all = all_sorted rowid_order P r (sort_by rowid_order rs) all.0 (sorted_all P rs all.1)

  sorted_rise : (rs : List Row) → IsAscending (λ x y. is_eq (rowid_order x y) ≡ false) rs → IsAscending (λ x y. rowid_order x y ≡ Less) (sort_by rowid_order rs)
  sorted_rise [] apart = tt
  sorted_rise (r ∷ rs) apart = rises_insert_sorted rowid_order (record { antisymm = λ x y. value_cmp_total.antisymm (column x 0) (column y 0); trans = λ x y z. value_cmp_total.trans (column x 0) (column y 0) (column z 0); congr = λ x y z. value_cmp_total.congr (column x 0) (column y 0) (column z 0) }) r (sort_by rowid_order rs) (sorted_all _ rs apart.0) (sorted_rise rs apart.1)

  int_less : (x y : ℤ) → value_cmp (Int x) (Int y) ≡ Less → x <ℤ y
  int_less x y h = let e : int_cmp x y ≡ Less = sym (value_cmp-Int x y) ∙ h in grind (arith, ints)

  less_id : (x y : Row) → IsNumbered x → IsNumbered y → rowid_order x y ≡ Less → Below x y
  less_id x y h k less = int_less (id_in (rowid x)) (id_in (rowid y)) (sym (ap (λ u. value_cmp u (rowid y)) (int_is (rowid x) h) ∙ ap (value_cmp (Int (id_in (rowid x)))) (int_is (rowid y) k)) ∙ less)

  numbered_shown : (rs : List Row) → AreNumbered rs → AreNumbered (map id_shown rs)
  numbered_shown [] h = tt
  numbered_shown (r ∷ rs) h = (h.0, numbered_shown rs h.1)

  -- rowids that tell the rows apart rise in the answer
  pub ids_held : (rs : List Row) → IsPermutation rs (db tree) → IsAscending (λ x y. x ≡ y → ⊥) rs → AreNumbered (db tree) → OnceEach (db tree) → AreRowids rows
  ids_held rs moved other numbered each =
      let back = IsPermutation-sym rs (db tree) moved in
      let apart = no_ties rs (λ x y j k. each x y (has_moved rs (db tree) x moved j) (has_moved rs (db tree) y moved k)) other in
      let mine : AreNumbered rs = all-permutation IsNumbered (db tree) rs back numbered in
      let ss = sort_by rowid_order rs in
      let is : rows ≡ map id_shown ss =
      answer_sorted tree [] (at_places (0 ∷ [])) (by_places (0 ∷ [])) db [] rows bare a rs (λ r. r) rowid_order (λ x y. last_key refl) apart
      (subst (λ l. IsPermutation l (filter (λ (r : Row). true) (db tree))) (sym (map-id rs)) (subst (IsPermutation rs) (all_stay (db tree)) moved)) in
      let sorted : AreNumbered ss = sorted_all IsNumbered rs mine in
      subst AreRowids (sym is) (record {
        numbered = numbered_shown ss sorted;
        rising = ascending-map Below id_shown ss (ascending_with IsNumbered (λ x y. rowid_order x y ≡ Less) Below less_id ss sorted (sorted_rise rs apart));
      })
