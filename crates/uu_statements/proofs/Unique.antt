-- A row that INSERT put in has a key of its own: its rowid is free, and the index of the key
-- refuses a row that agrees with another.
use Rattle.std.proofs.Common.{◌≡◌, ◌≢◌, inr, ℕ, ℤ, List, [], ◌∷◌, Bool, true, false, refl, sym, ap, subst, ◌∙◌, Ordering, Less, Equal, Greater, true≢false}
use Rattle.std.specs.Prelude.{IsTrue, ◌&&◌}
use Rattle.std.specs.Ordering.{is_eq, is_ne, ordering_reverse}
use Rattle.std.proofs.lemmas.Bool.{and_parts, not-true}
use Rattle.std.proofs.lemmas.Cmp.{tied_itself}
use Rattle.sqlite.specs.Collation.TheVariants.{Binary}
use Rattle.sqlite.specs.declared.types.Value.TheVariants.{Int, Text}
use Rattle.sqlite.specs.Order.{Row, column, value_cmp}
use Rattle.sqlite.specs.Ops.{binary}
use Rattle.sqlite.specs.Tree.{Trees, rowid, put_row}
use Rattle.sqlite.specs.View.{is_int}
use Rattle.sqlite.specs.Edit.{id_in, is_taken}
use Rattle.sqlite_value.specs.Keys.{plain, first_key}
use Rattle.sqlite_value.proofs.OrderLemmas.{value_cmp_total}
use Rattle.sqlite_schema.specs.Rules.{equal, differ, agree, clashes, Fits}
use Rattle.sqlite_schema.specs.declared.schema.Constraint.TheVariants.{Unique, ForeignKey}
use Rattle.sqlite_rules.specs.Lists.{Has}
use Rattle.sqlite_rules.proofs.ListLemmas.{all_has}
use Rattle.sqlite_rules.proofs.TableLemmas.{int_is, has_put}
use Rattle.sqlite_keyed.proofs.ListLemmas.{none_from_any}
use Rattle.uu_schema.specs.Rowids.{AreNumbered}
use Rattle.uu_schema.proofs.Rows.{put_permutes}
use Rattle.uu_schema.proofs.Rowids.{has_moved}
use Rattle.uu_schema.specs.Schema.{spool_schema, systems, entries, links, taken}

turned : (o : Ordering) → is_eq o ≡ false → is_ne (ordering_reverse o) ≡ true
turned Less h = refl
turned Equal h = absurd (cc)
turned Greater h = refl

-- rowids that are not tied differ
apart : (a b : ℤ) → is_eq (value_cmp (Int b) (Int a)) ≡ false → differ (Int a) (Int b) ≡ true
unfolding binary
apart a b h = let e = ap is_ne (value_cmp_total.antisymm (Int a) (Int b)) ∙ turned (value_cmp (Int b) (Int a)) h in rw e refl

pub equal_number : (n : ℤ) → equal Binary (Int n) (Int n) ≡ true
unfolding binary
equal_number n = rw (tied_itself value_cmp_total (Int n)) refl

pub equal_text : (t : List ℕ) → equal Binary (Text t) (Text t) ≡ true
unfolding binary
equal_text t = rw (tied_itself value_cmp_total (Text t)) refl

both_false : (a b : Bool) → (a && b) ≡ false → b ≡ true → a ≡ false
both_false true b h k = absurd (true≢false (sym k ∙ h))
both_false false b h k = refl

-- the new row agrees with none that was there
pub fresh_key : (places : List ℕ) (r : Row) (rows : List Row) → IsTrue (is_int (rowid r)) → AreNumbered rows → is_taken rows r ≡ false → ((s : Row) → Has (put_row r rows) s → clashes plain places (put_row r rows) s ≡ false)
    → (s : Row) → Has rows s → agree plain places r places s ≡ false
fresh_key places r rows int numbered free unique s there =
    let id = int_is (rowid r) int in
    let other = int_is (rowid s) (all_has (λ x. IsTrue (is_int (rowid x))) rows s numbered there) in
    let untied : is_eq (value_cmp (rowid s) (rowid r)) ≡ false = all_has (λ x. is_eq (value_cmp (rowid x) (rowid r)) ≡ false) rows s (none_from_any (λ x. is_eq (value_cmp (rowid x) (rowid r))) rows free) there in
    let differs : differ (rowid r) (rowid s) ≡ true = subst (λ v. differ v (rowid s) ≡ true) (sym id) (subst (λ v. differ (Int (id_in (rowid r))) v ≡ true) (sym other)
    (apart (id_in (rowid r)) (id_in (rowid s)) (subst (λ v. is_eq (value_cmp (Int (id_in (rowid s))) v) ≡ false) id (subst (λ v. is_eq (value_cmp v (rowid r)) ≡ false) other untied)))) in
    let none = unique s (has_moved (r ∷ rows) (put_row r rows) s (put_permutes r rows free) (inr there)) in
    both_false _ _ (all_has (λ x. (agree plain places x places s && differ (rowid x) (rowid s)) ≡ false) (put_row r rows) r (none_from_any (λ x. agree plain places x places s && differ (rowid x) (rowid s)) (put_row r rows) none) (has_put r rows)) differs

-- ---- the indexes of the tables

no_reference : Unique ≢ ForeignKey
no_reference e = absurd (cc)

pub unique_systems : (db : Trees) → Fits spool_schema db → (s : Row) → Has (db systems.tree) s → clashes plain (1 ∷ []) (db systems.tree) s ≡ false
unique_systems db fits s there = not-true _ (and_parts _ true (all_has _ (db systems.tree) s (fits.rules Unique no_reference).1.0 there)).0

pub unique_entries : (db : Trees) → Fits spool_schema db → (s : Row) → Has (db entries.tree) s → clashes plain (1 ∷ []) (db entries.tree) s ≡ false
unique_entries db fits s there = not-true _ (and_parts _ true (all_has _ (db entries.tree) s (fits.rules Unique no_reference).1.1.1.1.0 there)).0

pub unique_links : (db : Trees) → Fits spool_schema db → (s : Row) → Has (db links.tree) s → clashes plain (1 ∷ []) (db links.tree) s ≡ false
unique_links db fits s there = not-true _ (and_parts _ true (all_has _ (db links.tree) s (fits.rules Unique no_reference).1.1.1.1.1.0 there)).0

pub unique_taken : (db : Trees) → Fits spool_schema db → (s : Row) → Has (db taken.tree) s → clashes plain (1 ∷ 2 ∷ []) (db taken.tree) s ≡ false
unique_taken db fits s there = not-true _ (and_parts _ true (all_has _ (db taken.tree) s (fits.rules Unique no_reference).1.1.1.1.1.1.0 there)).0

-- ---- rows of one key agree

pub agree_text : (a b : Row) (t : List ℕ) → column a 1 ≡ Text t → column b 1 ≡ Text t → agree plain (1 ∷ []) a (1 ∷ []) b ≡ true
unfolding first_key
agree_text a b t h k = rw (h, k, equal_text t) refl

pub agree_text_number : (a b : Row) (t : List ℕ) (n : ℤ) → column a 1 ≡ Text t → column b 1 ≡ Text t → column a 2 ≡ Int n → column b 2 ≡ Int n → agree plain (1 ∷ 2 ∷ []) a (1 ∷ 2 ∷ []) b ≡ true
unfolding first_key
agree_text_number a b t n h k i j = rw (h, k, i, j, equal_text t, equal_number n) refl
