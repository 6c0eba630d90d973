-- Whether a database names a later version.
use Rattle.std.proofs.Common.{◌≡◌, ◌⊎◌, ◌≤◌, ℕ, ℤ, inl, inr, pos, List, [], ◌∷◌, ◌++◌, true, map, filter, refl, sym, ap, subst, ◌∙◌, arith}
use Rattle.std.specs.Prelude.{◌&&◌, ◌<ℤ◌}
use Rattle.std.specs.List.{list_all}
use Rattle.std.specs.List.Sorted.{IsPermutation}
use Rattle.std.proofs.lemmas.Bool.{and_parts}
use Rattle.std.proofs.lemmas.Int.{ints}
use Rattle.std.proofs.lemmas.List.Sorted.{IsPermutation-sym}
use Rattle.sqlite.specs.declared.types.Value.TheVariants.{Null, Int}
use Rattle.sqlite.specs.Order.{Row, column}
use Rattle.sqlite.specs.Tree.{Trees}
use Rattle.sqlite.specs.Term.{holds}
use Rattle.sqlite.specs.State as db
use Rattle.sqlite_schema.specs.Rules.{equal}
use Rattle.sqlite_value.specs.declared.keys.Collation.TheVariants.{Binary}
use Rattle.sqlite_rules.specs.Lists.{Has}
use Rattle.sqlite_rules.proofs.ListLemmas.{has_filtered, has_kept}
use Rattle.sqlite_rules.proofs.ProbeLemmas.{has_mapped, mapped_has}
use Rattle.uu_schema.specs.Steps.{Stands}
use Rattle.uu_schema.proofs.Rowids.{has_moved}
use Rattle.uu_schema.proofs.Answers.{answer_of, answer_moved}
use Rattle.uu_schema.specs.declared.version.Version.{Version}
use Rattle.uu_schema.specs.Schema.{spool}
use Rattle.uu_schema.specs.declared.version.Version.TheVariants.{First, Second, Third, Fourth}
use Rattle.uu_schema.specs.Made.{version as ours}
use Rattle.uu_schema.specs.Encoded.{HoldsStateAs}
use Rattle.uu_schema.specs.Earlier.{schema_of}
use Rattle.uu_core.specs.State.{State}
use Rattle.uu_adopt.specs.Texts.{version_text}
use Rattle.uu_adopt.specs.Version.{HasLater, ShowsLater, IsLater}
use Rattle.uu_rows.proofs.Meanings.{at_places, is_first}
use Rattle.uu_adopt.proofs.Meanings.{version_means}

one_of : (xs : List Row) (y x : Row) → Has (xs ++ y ∷ []) x → Has xs x ⊎ (x ≡ y)
one_of [] y x (inl same) = inr same
one_of [] y x (inr none) = absurd none
one_of (z ∷ xs) y x (inl same) = inl (inl same)
one_of (z ∷ xs) y x (inr more) = elim (one_of xs y x more) [ inl h ↦ inl (inr h) | inr h ↦ inr h ]

pub later_more : (rows : List Row) (row : Row) → (HasLater rows → ⊥) → (ShowsLater row → ⊥) → HasLater (rows ++ row ∷ []) → ⊥
later_more rows row none fresh it = elim (one_of rows row it.row it.there) [
  | inl before ↦ none (record { row = it.row; there = before; shows = it.shows })
  | inr same ↦ fresh (subst ShowsLater same it.shows)
]

module _ (v : Version) (old new : db.State) (rows : List Row) where
  abbrev shown : Row → Row
  shown r = column r 2 ∷ []

  abbrev firsts : List Row
  firsts = filter (λ r. list_all (holds ([] ∷ r ∷ [])) (is_first ∷ [])) (old.now.trees spool.tree)

  version_moved : Stands (schema_of v) old.now → db.Shown version_text [] old new rows → IsPermutation (map shown firsts) rows
  version_moved stands h =
      let a = answer_of (schema_of v) version_text _ _ [] old new (version_means v) stands.schema rows h in
      answer_moved spool.tree (is_first ∷ []) (at_places (2 ∷ [])) [] old.now.trees [] rows refl a

  pub later_found : Stands (schema_of v) old.now → db.Shown version_text [] old new rows → HasLater rows → IsLater old.now.trees
  later_found stands h later =
      let there = has_moved rows (map shown firsts) later.row (IsPermutation-sym _ _ (version_moved stands h)) later.there in
      let from = has_mapped shown firsts later.row there in
      let row = from.0 in
      let kept = has_filtered (λ r. list_all (holds ([] ∷ r ∷ [])) (is_first ∷ [])) (old.now.trees spool.tree) row from.1 in
      record {
        row = row;
        there = kept.0;
        first = (and_parts (equal Binary (column row 0) (Int (pos 1))) true kept.1).0;
        version = later.shows.version;
        is = sym (ap (λ (r : Row). column r 0) from.2) ∙ later.shows.is;
        later = later.shows.later;
      }

  pub later_not : Stands (schema_of v) old.now → db.Shown version_text [] old new rows → (HasLater rows → ⊥) → IsLater old.now.trees → ⊥
  later_not stands h none it =
      let kept = has_kept (λ r. list_all (holds ([] ∷ r ∷ [])) (is_first ∷ [])) (old.now.trees spool.tree) it.row it.there (ap (λ b. b && true) it.first) in
      none (record { row = shown it.row; there = has_moved (map shown firsts) rows (shown it.row) (version_moved stands h) (mapped_has shown firsts it.row kept); shows = record { version = it.version; is = it.is; later = it.later } })

-- a row of one of our versions names no later one
never_later : (n next : ℕ) (it : Row) (version : ℤ) → n ≤ 4 → column it 2 ≡ Int version → pos ours <ℤ version → Has ((Int (pos 1) ∷ Null ∷ Int (pos n) ∷ Int (pos next) ∷ []) ∷ []) it → ⊥
never_later n next it version few is later (inl same) =
    let mine : Int version ≡ Int (pos n) = sym is ∙ ap (λ (r : Row). column r 2) same in
    let v : version ≡ pos n = cc in
    let late = subst (λ m. pos ours <ℤ m) v later in omega (arith, ints, late, few)
never_later n next it version few is later (inr none) = none

-- tables that are held have no such row
pub not_later : (v : Version) (db : Trees) (s : State) → HoldsStateAs v db s → IsLater db → ⊥
not_later First db s holds it = never_later 1 s.next it.row it.version (omega arith) it.is it.later (subst (λ rows. Has rows it.row) holds.tables.spool it.there)
not_later Second db s holds it = never_later 2 s.next it.row it.version (omega arith) it.is it.later (subst (λ rows. Has rows it.row) holds.tables.spool it.there)
not_later Third db s holds it = never_later 3 s.next it.row it.version (omega arith) it.is it.later (subst (λ rows. Has rows it.row) holds.tables.spool it.there)
not_later Fourth db s holds it = never_later 4 s.next it.row it.version (omega arith) it.is it.later (subst (λ rows. Has rows it.row) holds.tables.spool it.there)
