-- What a sound database says of its rows: each has a value of the right type in each column.
use Rattle.std.proofs.Common.{Option, Some, ◌≡◌, ℕ, zero, suc, ◌+◌, ◌<◌, ◌≤◌, true, false, not, List, [], ◌∷◌, length, drop, refl, ◌∙◌, arith}
use Rattle.std.specs.List.{AllByRecursion}
use Rattle.std.proofs.lemmas.Bool.{and_parts}
use Rattle.sqlite.specs.declared.types.Value.{Value}
use Rattle.sqlite.specs.declared.types.Value.TheVariants.{Null, Int, Real, Text, Blob}
use Rattle.sqlite.specs.Order.{Row, column}
use Rattle.sqlite.specs.Tree.{Trees}
use Rattle.sqlite_catalog.specs.Listing.{IsSound}
use Rattle.sqlite_schema.specs.Rules.{passes, are_typed, is_of}
use Rattle.sqlite_schema.specs.declared.schema.Column.{Column}
use Rattle.sqlite.specs.Kind.TheVariants.{Blob as Bytes}
use Rattle.sqlite_schema.specs.declared.schema.Constraint.TheVariants.{Datatype, NotNull}
use Rattle.sqlite_sql.specs.Ops.{is_null}
use Rattle.sqlite_keyed.proofs.ListLemmas.{all_both}
use Rattle.sqlite.specs.Schema.{Schema}
use Rattle.uu_names.proofs.Basics.{and_second}
use Rattle.uu_schema.specs.declared.version.Version.{Version}
use Rattle.uu_schema.specs.declared.version.Version.TheVariants.{First, Second, Third, Fourth}
use Rattle.uu_schema.specs.Schema.{spool_schema, spool, bodies}
use Rattle.uu_schema.specs.Earlier.{first_schema, second_schema, third_schema, schema_of}

-- ---- rows of so many values

four : (r : Row) → length r ≡ 4 → r ≡ column r 0 ∷ column r 1 ∷ column r 2 ∷ column r 3 ∷ []
four [] n = absurd (omega (arith, n))
four (a ∷ []) n = absurd (omega (arith, n))
four (a ∷ b ∷ []) n = absurd (omega (arith, n))
four (a ∷ b ∷ c ∷ []) n = absurd (omega (arith, n))
four (a ∷ b ∷ c ∷ d ∷ []) n = refl
four (a ∷ b ∷ c ∷ d ∷ e ∷ r) n = absurd (omega (arith, n))

-- a column that is not NULL is there
there : (r : Row) (at : ℕ) → is_null (column r at) ≡ false → at < length r
there [] at h = absurd (cc)
there (v ∷ r) zero h = omega arith
there (v ∷ r) (suc at) h = let it = there r at h in omega (arith, it)

null_is : (v : Value) → is_null v ≡ true → v ≡ Null
null_is Null h = refl
null_is (Int n) h = absurd (cc)
null_is (Real x) h = absurd (cc)
null_is (Text t) h = absurd (cc)
null_is (Blob b) h = absurd (cc)

full : (v : Value) → not (is_null v) ≡ true → is_null v ≡ false
full Null h = absurd (cc)
full (Int n) h = refl
full (Real x) h = refl
full (Text t) h = refl
full (Blob b) h = refl

wide : (key : Option ℕ) (at : ℕ) (columns : List Column) (vs : Row) → are_typed key at columns vs ≡ true → length vs ≤ length columns
wide key at [] [] h = omega arith
wide key at [] (v ∷ vs) h = absurd (cc)
wide key at (c ∷ cs) [] h = omega arith
wide key at (c ∷ cs) (v ∷ vs) h = let it : length vs ≤ length cs = wide key (at + 1) cs vs (and_second _ _ h) in omega (arith, it)

-- ---- the table `spool`

pub spool_four : (schema : Schema) (r : Row) (db : Trees) → passes NotNull schema db spool r ≡ true → passes Datatype schema db spool r ≡ true → (length r ≡ 4) × (column r 1 ≡ Null)
spool_four schema r db present typed = go r (there r 3 (full _ (and_parts (not (is_null (column r 3))) true (and_second (not (is_null (column r 2))) _ present)).0)) (and_parts (are_typed (Some 0) 0 spool.columns (drop 1 r)) _ typed).0
  where
    go : (r : Row) → 3 < length r → are_typed (Some 0) 0 spool.columns (drop 1 r) ≡ true → (length r ≡ 4) × (column r 1 ≡ Null)
    go [] long h = absurd (omega (arith, long))
    go (a ∷ []) long h = absurd (omega (arith, long))
    go (a ∷ v ∷ vs) long h = let w = wide (Some 0) 0 spool.columns (v ∷ vs) h in (omega (arith, w, long), null_is v (and_parts (is_null v) _ h).0)

abbrev pub IsSpoolRow : Row → Type 0
IsSpoolRow r = r ≡ column r 0 ∷ Null ∷ column r 2 ∷ column r 3 ∷ []

spool_row_is : (schema : Schema) (r : Row) (db : Trees) → passes NotNull schema db spool r ≡ true → passes Datatype schema db spool r ≡ true → IsSpoolRow r
spool_row_is schema r db present typed =
    let it = spool_four schema r db present typed in
    four r it.0 ∙ (λ i. column r 0 ∷ it.1 i ∷ column r 2 ∷ column r 3 ∷ [])

pub spool_rows_are : (v : Version) (db : Trees) → IsSound (schema_of v) db → AllByRecursion IsSpoolRow (db spool.tree)
spool_rows_are First db sound = all_both _ _ IsSpoolRow (λ r. spool_row_is first_schema r db) (db spool.tree) (sound.obeys.rules NotNull).0 (sound.obeys.rules Datatype).0
spool_rows_are Second db sound = all_both _ _ IsSpoolRow (λ r. spool_row_is second_schema r db) (db spool.tree) (sound.obeys.rules NotNull).0 (sound.obeys.rules Datatype).0
spool_rows_are Third db sound = all_both _ _ IsSpoolRow (λ r. spool_row_is third_schema r db) (db spool.tree) (sound.obeys.rules NotNull).0 (sound.obeys.rules Datatype).0
spool_rows_are Fourth db sound = all_both _ _ IsSpoolRow (λ r. spool_row_is spool_schema r db) (db spool.tree) (sound.obeys.rules NotNull).0 (sound.obeys.rules Datatype).0

-- ---- the table `bodies`

bytes_in : (v : Value) → is_null v ≡ false → is_of Bytes v ≡ true → (b : List ℕ) × (v ≡ Blob b)
bytes_in Null some h = absurd (cc)
bytes_in (Int n) some h = absurd (cc)
bytes_in (Real x) some h = absurd (cc)
bytes_in (Text t) some h = absurd (cc)
bytes_in (Blob b) some h = (b, refl)

-- its bytes are bytes
pub record HasBytes (r : Row) : Type 0 where
  pub bytes : List ℕ
  pub is : column r 2 ≡ Blob bytes

body_row_is : (r : Row) (db : Trees) → passes NotNull spool_schema db bodies r ≡ true → passes Datatype spool_schema db bodies r ≡ true → HasBytes r
body_row_is r db present typed =
    let some = full _ (and_parts (not (is_null (column r 2))) true present).0 in
    go r (there r 2 some) some (and_parts (are_typed (Some 0) 0 bodies.columns (drop 1 r)) _ typed).0
  where
    go : (r : Row) → 2 < length r → is_null (column r 2) ≡ false → are_typed (Some 0) 0 bodies.columns (drop 1 r) ≡ true → HasBytes r
    go (a ∷ v ∷ b ∷ vs) long some h =
        let rest = and_second (is_null v) _ h in
        let it = bytes_in b some (and_parts (is_of Bytes b) (are_typed (Some 0) 2 [] vs) rest).0 in
        record { bytes = it.0; is = it.1 }
    go r long some h = absurd (omega (arith, long))

pub body_rows_are : (db : Trees) → IsSound spool_schema db → AllByRecursion HasBytes (db bodies.tree)
body_rows_are db sound = all_both _ _ HasBytes (λ r. body_row_is r db) (db bodies.tree) (sound.obeys.rules NotNull).1.1.1.0 (sound.obeys.rules Datatype).1.1.1.0
