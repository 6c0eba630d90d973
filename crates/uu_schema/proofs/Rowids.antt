-- Rows whose rowids tell them apart: one more at a free rowid, and those that a DELETE by a test
-- leaves.
use Rattle.std.proofs.Common.{◌≡◌, ◌⊎◌, inl, inr, ℤ, List, [], ◌∷◌, map, filter, Bool, true, false, sym, ap, subst, ◌∙◌, true≢false}
use Rattle.std.specs.Prelude.{not, IsTrue}
use Rattle.std.specs.List.Sorted.{IsPermutation}
use Rattle.std.specs.Ordering.{is_eq}
use Rattle.std.proofs.lemmas.List.Sorted.{IsPermutation-map, IsPermutation-sym}
use Rattle.uu_names.proofs.Basics.{is_eq-ordering_reverse}
use Rattle.sqlite.specs.declared.types.Value.TheVariants.{Int}
use Rattle.sqlite.specs.Order.{Row, column, value_cmp}
use Rattle.sqlite.specs.Tree.{rowid, put_row}
use Rattle.sqlite.specs.View.{is_int}
use Rattle.sqlite.specs.Edit.{id_in, is_taken, without_all}
use Rattle.sqlite_value.proofs.OrderLemmas.{value_cmp_total}
use Rattle.sqlite_trees.proofs.ListLemmas.{map-map, all-permutation}
use Rattle.sqlite_keyed.proofs.ListLemmas.{none_from_any}
use Rattle.sqlite_rules.specs.Lists.{Has}
use Rattle.sqlite_rules.specs.Calls.{ids_of}
use Rattle.sqlite_rules.proofs.ListLemmas.{all_has, all_from, has_filtered, has_kept}
use Rattle.sqlite_rules.proofs.TableLemmas.{int_is, put_has}
use Rattle.sqlite_rules.proofs.ProbeLemmas.{has_mapped, mapped_has}
use Rattle.uu_schema.specs.Rowids.{AreNumbered, OnceEach}
use Rattle.uu_schema.proofs.Rows.{cleared}

-- the same members, in another order
pub has_moved : {X : Type 0} (xs ys : List X) (x : X) → IsPermutation xs ys → Has xs x → Has ys x
has_moved xs ys x same = all_has (Has ys) xs x (all-permutation (Has ys) ys xs (IsPermutation-sym xs ys same) (all_from (Has ys) ys (λ e h. h)))

-- ---- a row more

pub numbered_put : (new : Row) (rows : List Row) → IsTrue (is_int (rowid new)) → AreNumbered rows → AreNumbered (put_row new rows)
numbered_put new rows fit numbered = all_from (λ r. IsTrue (is_int (rowid r))) (put_row new rows) (λ r h. elim (put_has new rows r h) [
  | inl same ↦ subst (λ x. IsTrue (is_int (rowid x))) (sym same) fit
  | inr old ↦ all_has (λ x. IsTrue (is_int (rowid x))) rows r numbered old
])

pub once_put : (new : Row) (rows : List Row) → is_taken rows new ≡ false → OnceEach rows → OnceEach (put_row new rows)
once_put new rows free once a b h k tie = go (put_has new rows a h) (put_has new rows b k)
  where
    apart : (r : Row) → Has rows r → is_eq (value_cmp (rowid r) (rowid new)) ≡ false
    apart r there = all_has (λ x. is_eq (value_cmp (rowid x) (rowid new)) ≡ false) rows r (none_from_any (λ x. is_eq (value_cmp (rowid x) (rowid new))) rows free) there

    go : (a ≡ new) ⊎ Has rows a → (b ≡ new) ⊎ Has rows b → a ≡ b
    go (inl first) (inl second) = first ∙ sym second
    go (inl first) (inr old) =
        let same : is_eq (value_cmp (rowid new) (rowid b)) ≡ true = subst (λ x. is_eq (value_cmp (rowid x) (rowid b)) ≡ true) first (ap is_eq tie) in
        absurd (true≢false (sym same ∙ ap is_eq (value_cmp_total.antisymm (rowid new) (rowid b)) ∙ is_eq-ordering_reverse (value_cmp (rowid b) (rowid new)) ∙ apart b old))
    go (inr old) (inl second) = absurd (true≢false (sym (ap is_eq tie) ∙ ap (λ x. is_eq (value_cmp (rowid a) (rowid x))) second ∙ apart a old))
    go (inr first) (inr second) = once a b first second tie

-- ---- rows that go

pub once_left : (p : Row → Bool) (rows : List Row) → OnceEach rows → OnceEach (filter p rows)
once_left p rows once a b h k tie = once a b (has_filtered p rows a h).0 (has_filtered p rows b k).0 tie

-- the rowids of the rows that pass a test, in any order, are taken out, so those that fail it are
-- left
pub picked_gone : (p : Row → Bool) (rows shown : List Row) → OnceEach rows → AreNumbered rows → IsPermutation (map (λ r. column r 0 ∷ []) (filter p rows)) shown → without_all rows (ids_of shown) ≡ filter (λ r. not (p r)) rows
picked_gone p rows shown once numbered order = cleared p rows (ids_of shown) once numbered sound complete
  where
    id_of : Row → ℤ
    id_of r = id_in (rowid r)

    same : IsPermutation (map id_of (filter p rows)) (ids_of shown)
    same = subst (λ l. IsPermutation l (ids_of shown)) (map-map id_of (λ r. column r 0 ∷ []) (filter p rows)) (IsPermutation-map id_of _ _ order)

    sound : (id : ℤ) → Has (ids_of shown) id → (r : Row) × Has rows r × (p r ≡ true) × (rowid r ≡ Int id)
    sound id h =
        let it = has_mapped id_of (filter p rows) id (has_moved (ids_of shown) (map id_of (filter p rows)) id (IsPermutation-sym _ _ same) h) in
        let there = has_filtered p rows it.0 it.1 in
        (it.0, there.0, there.1, int_is (rowid it.0) (all_has (λ r. IsTrue (is_int (rowid r))) rows it.0 numbered there.0) ∙ ap Int (sym it.2))

    complete : (r : Row) (id : ℤ) → Has rows r → p r ≡ true → rowid r ≡ Int id → Has (ids_of shown) id
    complete r id h passes keyed =
        let here = mapped_has id_of (filter p rows) r (has_kept p rows r h passes) in
        has_moved (map id_of (filter p rows)) (ids_of shown) id same (subst (Has (map id_of (filter p rows))) (ap id_in keyed) here)
