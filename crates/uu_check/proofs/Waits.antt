-- Systems and their success waits.
use Rattle.std.proofs.Common.{◌≡◌, ℕ, zero, suc, ◌≤◌, Bool, true, List, [], ◌∷◌, ◌++◌, map, refl, sym, ap, arith}
use Rattle.std.specs.List.{AllByRecursion, flat_map}
use Rattle.std.proofs.lemmas.Bool.{and_parts, leb-true, le-leb}
use Rattle.uu_names.proofs.Basics.{text_from, AllPairsByRecursion}
use Rattle.uu_times.specs.System.{most_success_wait}
use Rattle.uu_core.specs.declared.system.SystemRow.{SystemRow}
use Rattle.uu_core.specs.State.{ComesBefore, same_text}
use Rattle.uu_tables.specs.declared.earlier.BareSystem.{BareSystem}
use Rattle.uu_tables.specs.declared.earlier.WaitColumns.{WaitColumns}
use Rattle.uu_tables.specs.Earlier.{bare_system, placed, waits_from, waits_of}
use Rattle.uu_check.specs.Tests.{owns_wait, fits_wait}
use Rattle.uu_check.proofs.Walks.{Item}

-- the row of a system, and its success wait
pub record Waited : Type 0 where
  pub columns : BareSystem
  pub seconds : ℕ

abbrev pub head : Waited → BareSystem
head w = w.columns

abbrev pub kids : Waited → List WaitColumns
kids w = waits_from w.columns.name w.seconds

abbrev pub IsGood : Waited → Type 0
IsGood w = w.seconds ≤ most_success_wait

one_row : (s : BareSystem) (w : WaitColumns) (n : ℕ) → w.wait ≡ n → 1 ≤ n → s.name ≡ w.system → waits_from s.name n ≡ w ∷ []
one_row s w zero is some name = absurd (omega (arith, some))
one_row s w (suc n) is some name = λ i. record { system = name i; wait = sym is i } ∷ []

pub wait_of_rows : (s : BareSystem) (ws : List WaitColumns) → AllByRecursion (λ w. owns_wait s w ≡ true) ws → fits_wait s ws ≡ true → Item owns_wait fits_wait head kids IsGood s ws
wait_of_rows s [] own test = record { item = record { columns = s; seconds = 0 }; good = omega arith; row = refl; children = refl }
wait_of_rows s (w ∷ []) own test =
    let parts = and_parts _ _ test in
    record { item = record { columns = s; seconds = w.wait }; good = leb-true _ _ parts.1; row = refl; children = one_row s w w.wait refl (leb-true _ _ parts.0) (text_from _ _ own.0) }
wait_of_rows s (w ∷ other ∷ more) own test = absurd (cc)

-- ---- the waits of rows

abbrev pub with_seconds : SystemRow → ℕ → SystemRow
with_seconds row seconds = record row { def = record row.def { success_wait = seconds } }

-- rows with these waits, one after the other
abbrev pub waiting : List SystemRow → List Waited → List SystemRow
waiting [] waits = []
waiting (row ∷ rows) [] = row ∷ rows
waiting (row ∷ rows) (w ∷ waits) = with_seconds row w.seconds ∷ waiting rows waits

pub columns_stay : (rows : List SystemRow) (waits : List Waited) → map bare_system (waiting rows waits) ≡ map bare_system rows
columns_stay [] waits = refl
columns_stay (row ∷ rows) [] = refl
columns_stay (row ∷ rows) (w ∷ waits) = ap (λ l. bare_system row ∷ l) (columns_stay rows waits)

pub placed_stay : (rows : List SystemRow) (waits : List Waited) → flat_map placed (waiting rows waits) ≡ flat_map placed rows
placed_stay [] waits = refl
placed_stay (row ∷ rows) [] = refl
placed_stay (row ∷ rows) (w ∷ waits) = ap (λ l. placed row ++ l) (placed_stay rows waits)

pub waits_are : (rows : List SystemRow) (waits : List Waited) → map head waits ≡ map bare_system rows → flat_map waits_of (waiting rows waits) ≡ flat_map kids waits
waits_are [] [] same = refl
waits_are [] (w ∷ waits) same = absurd (cc)
waits_are (row ∷ rows) [] same = absurd (cc)
waits_are (row ∷ rows) (w ∷ waits) same =
    let first : w.columns ≡ bare_system row = cc in
    let rest : map head waits ≡ map bare_system rows = cc in
    λ i. waits_from (sym first i).name w.seconds ++ waits_are rows waits rest i

-- what holds of each row with any wait, and of each wait
pub each_waiting : (P : SystemRow → Type 0) (Q : SystemRow → Type 0) → ((row : SystemRow) (seconds : ℕ) → seconds ≤ most_success_wait → P row → Q (with_seconds row seconds)) → (rows : List SystemRow) (waits : List Waited) → map head waits ≡ map bare_system rows
    → AllByRecursion P rows → AllByRecursion IsGood waits → AllByRecursion Q (waiting rows waits)
each_waiting P Q step [] waits same h k = tt
each_waiting P Q step (row ∷ rows) [] same h k = absurd (cc)
each_waiting P Q step (row ∷ rows) (w ∷ waits) same h k = let rest : map head waits ≡ map bare_system rows = cc in (step row w.seconds k.0 h.0, each_waiting P Q step rows waits rest h.1 k.1)

-- pairs that only the names tell of
pub still_apart : (rows : List SystemRow) (waits : List Waited) → AllPairsByRecursion (λ (a b : SystemRow). ComesBefore a.def.name b.def.name) rows → AllPairsByRecursion (λ (a b : SystemRow). ComesBefore a.def.name b.def.name) (waiting rows waits)
still_apart [] waits h = tt
still_apart (row ∷ rows) [] h = h
still_apart (row ∷ rows) (w ∷ waits) h = (ahead row rows waits h.0, still_apart rows waits h.1)
  where
    ahead : (row : SystemRow) (rows : List SystemRow) (waits : List Waited) → AllByRecursion (λ (b : SystemRow). ComesBefore row.def.name b.def.name) rows → AllByRecursion (λ (b : SystemRow). ComesBefore row.def.name b.def.name) (waiting rows waits)
    ahead row [] waits h = tt
    ahead row (x ∷ rows) [] h = h
    ahead row (x ∷ rows) (w ∷ waits) h = (h.0, ahead row rows waits h.1)

-- ---- the waits of a state

pub wait_fits : (name : List ℕ) (s : BareSystem) (n : ℕ) → n ≤ most_success_wait → fits_wait s (waits_from name n) ≡ true
wait_fits name s zero few = refl
wait_fits name s (suc n) few = rw (le-leb 1 (suc n) (omega arith), le-leb (suc n) most_success_wait few) refl

pub wait_owned : (s : BareSystem) (name : List ℕ) (n : ℕ) (t : Bool) → same_text s.name name ≡ t → AllByRecursion (λ w. owns_wait s w ≡ t) (waits_from name n)
wait_owned s name zero t is = tt
wait_owned s name (suc n) t is = (is, tt)
