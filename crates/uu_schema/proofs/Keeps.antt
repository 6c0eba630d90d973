-- Tables that a statement does not name.
use Rattle.std.proofs.Common.{◌≡◌, ◌≢◌, ◌==◌, ℕ, List, [], ◌∷◌, false, refl, ◌∙◌, arith}
use Rattle.std.specs.List.{list_any}
use Rattle.std.proofs.lemmas.Bool.{or_parts}
use Rattle.std.proofs.lemmas.Bool.Decides.{nat_tests}
use Rattle.sqlite.specs.Tree.{Trees}
use Rattle.sqlite.specs.Table.{Table}
use Rattle.sqlite.specs.Edit.{Edit, Applies}
use Rattle.sqlite_schema.specs.declared.schema.Keys.TheVariants.{Enforced}
use Rattle.sqlite_keyed.proofs.ListLemmas.{all_weaker, all_both, all_of}
use Rattle.uu_schema.specs.Schema.{spool_schema}
use Rattle.uu_schema.specs.Made.{KeepsOtherTables}

apart_from : (n : ℕ) (more : List ℕ) (t : ℕ) → list_any (λ m. m == t) (n ∷ more) ≡ false → t ≢ n
apart_from n more t h e = let no : (n == t) ≡ false = (or_parts (n == t) (list_any (λ m. m == t) more) h).0 in absurd (grind (arith, nat_tests))

pub keeps_one : (edit : Edit) (old new : Trees) → Applies spool_schema Enforced old edit new → KeepsOtherTables (edit.table.tree ∷ []) old new
keeps_one edit old new a = all_weaker (λ (t : Table). t.tree ≢ edit.table.tree → new t.tree ≡ old t.tree) (λ t. list_any (λ n. n == t.tree) (edit.table.tree ∷ []) ≡ false → new t.tree ≡ old t.tree)
    (λ t h k. h (apart_from edit.table.tree [] t.tree k)) spool_schema.tables a.tables

pub keeps_more : (n : ℕ) (more : List ℕ) (a b c : Trees) → KeepsOtherTables (n ∷ []) a b → KeepsOtherTables more b c → KeepsOtherTables (n ∷ more) a c
keeps_more n more a b c p q = all_both (λ (t : Table). list_any (λ m. m == t.tree) (n ∷ []) ≡ false → b t.tree ≡ a t.tree) (λ t. list_any (λ m. m == t.tree) more ≡ false → c t.tree ≡ b t.tree)
    (λ t. list_any (λ m. m == t.tree) (n ∷ more) ≡ false → c t.tree ≡ a t.tree)
    (λ t f g k. let parts = or_parts (n == t.tree) (list_any (λ m. m == t.tree) more) k in g parts.1 ∙ f (rw parts.0 refl)) spool_schema.tables p q

pub keeps_all : (written : List ℕ) (a : Trees) → KeepsOtherTables written a a
keeps_all written a = all_of (λ (t : Table). list_any (λ m. m == t.tree) written ≡ false → a t.tree ≡ a t.tree) (λ t k. refl) spool_schema.tables
