-- One list of objects has one schema.
use Rattle.std.proofs.Common.{◌≡◌, ◌≤◌, false, ◌+◌, ℕ, zero, suc, pos, List, [], ◌∷◌, length, filter, slice_get, Some, refl, sym, ap, subst, ◌∙◌, arith}
use Rattle.std.specs.List.{AllByRecursion, AllZip}
use Rattle.sqlite.specs.declared.types.Value.{Value}
use Rattle.sqlite.specs.declared.types.Value.TheVariants.{Null, Int, Real, Text, Blob}
use Rattle.sqlite.specs.Order.{Row, column}
use Rattle.sqlite.specs.Tree.{Trees}
use Rattle.sqlite.specs.Schema.{Schema}
use Rattle.sqlite.specs.Table.{Table}
use Rattle.sqlite_schema.specs.declared.schema.Index.{Index}
use Rattle.sqlite_schema.specs.declared.schema.View.{View as Stored}
use Rattle.sqlite_schema.specs.Names.{same_name}
use Rattle.sqlite_rules.proofs.ListLemmas.{all_has}
use Rattle.sqlite.specs.Tree.{IsAscending}
use Rattle.sqlite_catalog.specs.Listing.{IsTableRow, IsIndexRow, IsViewRow, IsDefined, IsSound, automatic, is_index_row, is_view_row}
use Rattle.sqlite_trees.specs.Objects.{catalog_tree}
use Rattle.sqlite_catalog.proofs.StepLemmas.{named_once, same_itself}
use Rattle.uu_schema.specs.Objects.{IsSimple}

zip_same : {A B : Type 0} (R : A → B → Type 0) → ((x : A) (y z : B) → R x y → R x z → y ≡ z) → (xs : List A) (ys zs : List B) → AllZip R xs ys → AllZip R xs zs → ys ≡ zs
zip_same R same [] [] [] h k = refl
zip_same R same [] [] (z ∷ zs) h k = absurd k
zip_same R same [] (y ∷ ys) zs h k = absurd h
zip_same R same (x ∷ xs) [] zs h k = absurd h
zip_same R same (x ∷ xs) (y ∷ ys) [] h k = absurd k
zip_same R same (x ∷ xs) (y ∷ ys) (z ∷ zs) h k = λ i. same x y z h.0 k.0 i ∷ zip_same R same xs ys zs h.1 k.1 i

one_tree : (row : Row) (s t : ℕ) → column row 0 ≡ Int (pos (s + 1)) → column row 0 ≡ Int (pos (t + 1)) → s ≡ t
one_tree row s t h k = let e : s + 1 ≡ t + 1 = cc in omega (arith, e)

one_text : (row : Row) (at : ℕ) (s t : List ℕ) → column row at ≡ Text s → column row at ≡ Text t → s ≡ t
one_text row at s t h k = cc

one_table : (row : Row) (t u : Table) → IsTableRow row t → IsTableRow row u → t ≡ u
one_table row t u h k =
    let tree = one_tree row t.tree u.tree h.described.id k.described.id in
    let sql = one_text row 4 h.sql k.sql h.sql_is k.sql_is in
    let made : h.defined.0 ≡ k.defined.0 = let a = h.defined.1 in let b = k.defined.1 in cc in
    h.defined.2 ∙ (λ i. record (made i) { tree = tree i }) ∙ sym k.defined.2

-- if there is at most one key, it is at place 0
first_place : (keys : List (List ℕ)) (at : ℕ) (key : List ℕ) → length keys ≤ 1 → slice_get keys at ≡ Some key → at ≡ 0
first_place keys zero key few h = refl
first_place [] (suc at) key few h = absurd (cc)
first_place (k ∷ []) (suc at) key few h = absurd (cc)
first_place (k ∷ l ∷ keys) (suc at) key few h = absurd (omega (arith, few))

-- an index of this table, by the text of its row
one_defined : (table : Table) (i j : Index) (v w : Value) → v ≡ w → length table.uniques ≤ 1 → i.tree ≡ j.tree → IsDefined table i v → IsDefined table j w → i ≡ j
one_defined table i j Null Null same few tree h k =
    let a = first_place table.uniques h.0 h.1 few h.2 in
    let b = first_place table.uniques k.0 k.1 few k.2 in
    let at : h.0 ≡ k.0 = a ∙ sym b in
    let key : h.1 ≡ k.1 = let p = h.2 in let q = k.2 in let e = at in cc in
    h.3 ∙ (λ n. automatic table (at n) (key n) (tree n)) ∙ sym k.3
one_defined table i j (Text s) (Text t) same few tree h k =
    let made : h.0 ≡ k.0 = let a = h.1 in let b = k.1 in cc in
    h.2 ∙ (λ n. record (made n) { tree = tree n; table = table.tree }) ∙ sym k.2
one_defined table i j Null (Int n) same few tree h k = absurd k
one_defined table i j Null (Real x) same few tree h k = absurd k
one_defined table i j Null (Text t) same few tree h k = absurd (cc)
one_defined table i j Null (Blob b) same few tree h k = absurd k
one_defined table i j (Int n) w same few tree h k = absurd h
one_defined table i j (Real x) w same few tree h k = absurd h
one_defined table i j (Blob b) w same few tree h k = absurd h
one_defined table i j (Text s) Null same few tree h k = absurd (cc)
one_defined table i j (Text s) (Int n) same few tree h k = absurd k
one_defined table i j (Text s) (Real x) same few tree h k = absurd k
one_defined table i j (Text s) (Blob b) same few tree h k = absurd k

one_index : (tables : List Table) → IsAscending (λ (s t : Table). same_name s.name t.name ≡ false) tables → AllByRecursion (λ (table : Table). length table.uniques ≤ 1) tables
    → (row : Row) (i j : Index) → IsIndexRow tables row i → IsIndexRow tables row j → i ≡ j
one_index tables named few row i j h k =
    let owner = one_text row 3 h.table.name k.table.name h.described.owner_is k.described.owner_is in
    let table = named_once tables h.table k.table named h.listed k.listed (ap (λ name. same_name h.table.name name) (sym owner) ∙ same_itself h.table.name) in
    let tree = one_tree row i.tree j.tree h.described.id k.described.id in
    one_defined h.table i j (column row 4) (column row 4) refl (all_has _ tables h.table few h.listed) tree h.defined (subst (λ (t : Table). IsDefined t j (column row 4)) (sym table) k.defined)

no_views : (rows : List Row) (views : List Stored) → AllZip IsViewRow rows [] → AllZip IsViewRow rows views → views ≡ []
no_views [] [] h k = refl
no_views [] (v ∷ views) h k = absurd k
no_views (row ∷ rows) views h k = absurd h

pub one_schema : (db : Trees) (known read : Schema) → IsSimple known → IsSound known db → IsSound read db → read ≡ known
one_schema db known read simple h k =
    let a = h.lists.listed in
    let b = k.lists.listed in
    let tables : read.tables ≡ known.tables = zip_same IsTableRow one_table _ read.tables known.tables b.tables a.tables in
    let indexes : read.indexes ≡ known.indexes = zip_same (IsIndexRow known.tables) (one_index known.tables a.named simple.keys) _ read.indexes known.indexes (subst (λ ts. AllZip (IsIndexRow ts) (filter is_index_row (db catalog_tree)) read.indexes) tables b.indexes) a.indexes in
    let none : AllZip IsViewRow (filter is_view_row (db catalog_tree)) [] = subst (AllZip IsViewRow (filter is_view_row (db catalog_tree))) simple.views a.views in
    let views : read.views ≡ known.views = no_views (filter is_view_row (db catalog_tree)) read.views none b.views ∙ sym simple.views in
    λ i. record { tables = tables i; indexes = indexes i; views = views i }
