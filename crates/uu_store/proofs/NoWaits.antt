-- If no success wait has a row, each is 0.
use Rattle.std.proofs.Common.{◌≡◌, ℕ, zero, suc, List, [], ◌∷◌, ◌++◌, flat_map, refl}
use Rattle.std.specs.List.{AllByRecursion}
use Rattle.uu_core.specs.declared.system.SystemRow.{SystemRow}
use Rattle.uu_tables.specs.Earlier.{waits_from, waits_of}

pub both_none : {X : Type 0} (xs ys : List X) → xs ++ ys ≡ [] → (xs ≡ []) × (ys ≡ [])
both_none [] ys h = (refl, h)
both_none (x ∷ xs) ys h = absurd (cc)

no_wait : (name : List ℕ) (wait : ℕ) → waits_from name wait ≡ [] → wait ≡ 0
no_wait name zero h = refl
no_wait name (suc n) h = absurd (cc)

pub none_waits : (rows : List SystemRow) → flat_map waits_of rows ≡ [] → AllByRecursion (λ (row : SystemRow). row.def.success_wait ≡ 0) rows
none_waits [] h = tt
none_waits (row ∷ rows) h = let both = both_none (waits_of row) (flat_map waits_of rows) h in (no_wait row.def.name row.def.success_wait both.0, none_waits rows both.1)
