-- If no link has a row, there is none.
use Rattle.std.proofs.Common.{◌≡◌, ℕ, zero, suc, true, List, [], ◌∷◌, map, flat_map, sym, ◌∙◌, All, refl}
use Rattle.std.proofs.lemmas.List.Elements.{All-head}
use Rattle.sqlite.specs.Effect.{Database}
use Rattle.uu_core.specs.declared.custody.Taken.{Taken}
use Rattle.uu_core.specs.State.{State, Link, IsLink, says_nothing}
use Rattle.uu_tables.specs.Tables.{links_from, links_of, taken_columns, taken_rows}
use Rattle.uu_schema.specs.declared.version.Version.{Version}
use Rattle.uu_schema.specs.declared.version.Version.TheVariants.{First, Second, Third, Fourth}
use Rattle.uu_schema.specs.Encoded.{EncodesAs}
use Rattle.uu_store.specs.Kept.{HasNoLinks}
use Rattle.uu_store.proofs.NoWaits.{both_none}

no_below : (name : List ℕ) (below : ℕ) → links_from name below ≡ [] → below ≡ 0
no_below name zero h = refl
no_below name (suc n) h = absurd (cc)

none_taken : (name : List ℕ) (taken : List Taken) → map (taken_columns name) taken ≡ [] → taken ≡ []
none_taken name [] h = refl
none_taken name (t ∷ taken) h = absurd (cc)

-- a link without rows says nothing
silent : (l : Link) → links_of l ≡ [] → taken_rows l ≡ [] → says_nothing l ≡ true
silent l h k = rw (no_below l.name l.below h, none_taken l.name l.taken k) refl

none_left : (ls : List Link) → All IsLink ls → flat_map links_of ls ≡ [] → flat_map taken_rows ls ≡ [] → ls ≡ []
none_left [] good h k = refl
none_left (l ∷ ls) good h k =
    let first = both_none (links_of l) (flat_map links_of ls) h in
    let second = both_none (taken_rows l) (flat_map taken_rows ls) k in
    let nothing = sym (silent l first.0 second.0) ∙ (All-head IsLink l ls good).says in
    absurd (cc)

pub no_links : (v : Version) (database : Database) (s : State) → HasNoLinks v → EncodesAs v database s → s.links ≡ []
no_links First database s early enc = none_left s.links enc.holds.good.links enc.holds.tables.links enc.holds.tables.taken
no_links Second database s early enc = none_left s.links enc.holds.good.links enc.holds.tables.links enc.holds.tables.taken
no_links Third database s early enc = absurd early
no_links Fourth database s early enc = absurd early
