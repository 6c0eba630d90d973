-- Systems and their lines.
use Rattle.std.proofs.Common.{◌≡◌, ℕ, suc, ◌+◌, ◌<◌, ◌≤◌, Bool, true, false, ◌==◌, List, [], ◌∷◌, map, length, IsTrue, Option, None, Some, refl, sym, ap, arith}
use Rattle.std.specs.Prelude.{◌&&◌, ◌||◌}
use Rattle.std.specs.List.{AllByRecursion}
use Rattle.std.proofs.lemmas.Bool.{and_parts, leb-true, le-leb, eqb-true, eq-eqb, and_right}
use Rattle.std.proofs.lemmas.List.{length-map}
use Rattle.uu_names.specs.Name.{is_site_name}
use Rattle.uu_names.proofs.Basics.{earlier_other, text_from, AllPairsByRecursion, lt-eqb}
use Rattle.uu_times.specs.declared.system.Line.{Line}
use Rattle.uu_core.specs.declared.system.Outcome.{Outcome}
use Rattle.uu_core.specs.declared.system.Outcome.TheVariants.{Never, Failed, Done}
use Rattle.uu_core.specs.declared.system.CallState.{CallState}
use Rattle.uu_core.specs.declared.system.SystemRow.{SystemRow}
use Rattle.uu_core.specs.State.{IsCall, IsOutcome, ComesBefore, same_text, last_second, most_failures}
use Rattle.uu_tables.specs.declared.earlier.BareSystem.{BareSystem}
use Rattle.uu_tables.specs.Earlier.{PlacedLine, line_columns, placed, placed_from, bare_system}
use Rattle.uu_tables.specs.Tables.{outcome_number, reason_of}
use Rattle.uu_check.specs.Tests.{is_outcome, are_placed, owns_line, fits_system}
use Rattle.uu_check.proofs.Walks.{Item}

-- ---- calls

-- the outcome that a row shows
pub record Shown (why : Option (List ℕ)) (outcome last failures wait : ℕ) : Type 0 where
  pub it : Outcome
  pub number : outcome_number it ≡ outcome
  pub reason : reason_of it ≡ why
  pub good : IsOutcome it (record { last = last; failures = failures; wait = wait; outcome = it })

pub shown : (why : Option (List ℕ)) (outcome last failures wait : ℕ) → is_outcome why outcome last failures wait ≡ true → Shown why outcome last failures wait
shown (Some why) outcome last failures wait h = let parts = and_parts _ _ h in record { it = Failed why; number = sym (eqb-true _ _ parts.0); reason = refl; good = parts.1 }
shown None outcome last failures wait h = go (outcome == 2) refl h
  where
    zeros : Bool
    zeros = (outcome == 0) && (last == 0) && (failures == 0) && (wait == 0)

    go : (t : Bool) → (outcome == 2) ≡ t → (t || ((outcome == 0) && (last == 0) && (failures == 0) && (wait == 0))) ≡ true → Shown None outcome last failures wait
    go true e k = record { it = Done; number = sym (eqb-true _ _ e); reason = refl; good = tt }
    go false e k = let c = and_parts _ _ k in let b = and_parts _ _ c.0 in let a = and_parts _ _ b.0 in
        record { it = Never; number = sym (eqb-true _ _ a.0); reason = refl; good = (eqb-true _ _ a.1, eqb-true _ _ b.1, eqb-true _ _ c.1) }

pub outcome_fits : (it : Outcome) (call : CallState) → IsOutcome it call → is_outcome (reason_of it) (outcome_number it) call.last call.failures call.wait ≡ true
outcome_fits Never call good = rw (eq-eqb call.last 0 good.0, eq-eqb call.failures 0 good.1, eq-eqb call.wait 0 good.2) refl
outcome_fits (Failed why) call good = rw good refl
outcome_fits Done call good = refl

-- ---- systems

pub record IsGoodSystem (row : SystemRow) : Type 0 where
  pub name : IsTrue (is_site_name row.def.name)
  pub most : row.def.max_retries ≤ 1000000
  pub few : length row.def.lines ≤ 32
  pub call : IsCall row.call

abbrev pub owns : BareSystem → PlacedLine → Bool
owns s p = owns_line s (line_columns p)

abbrev pub fits : BareSystem → List PlacedLine → Bool
fits s ps = fits_system s (map line_columns ps)

abbrev pub line_in : PlacedLine → Line
line_in p = p.line

back : (s : BareSystem) (place : ℕ) (ps : List PlacedLine) → AllByRecursion (λ p. owns s p ≡ true) ps → are_placed place (map line_columns ps) ≡ true → placed_from s.name place (map line_in ps) ≡ ps
back s place [] own h = refl
back s place (p ∷ ps) own h =
    let parts = and_parts _ _ h in
    let system : s.name ≡ p.system = text_from _ _ own.0 in
    let here : place ≡ p.place = sym (eqb-true _ _ parts.0) in
    λ i. record { system = system i; place = here i; line = p.line } ∷ back s (place + 1) ps own.1 parts.1 i

pub system_of_rows : (s : BareSystem) (ps : List PlacedLine) → AllByRecursion (λ p. owns s p ≡ true) ps → fits s ps ≡ true → Item owns fits bare_system placed IsGoodSystem s ps
system_of_rows s ps own test =
    let d = and_parts _ _ test in let c = and_parts _ _ d.0 in let b = and_parts _ _ c.0 in let a = and_parts _ _ b.0 in
    let z = and_parts _ _ b.1 in let y = and_parts _ _ z.0 in let x = and_parts _ _ y.0 in
    let o = shown s.call.why s.call.outcome s.call.last s.call.failures s.call.wait z.1 in
    let few : length (map line_columns ps) ≤ 32 = leb-true _ _ c.1 in
    record {
      item = record { def = record { name = s.name; lines = map line_in ps; max_retries = s.max_retries; success_wait = 0 }; call = record { last = s.call.last; failures = s.call.failures; wait = s.call.wait; outcome = o.it } };
      good = record {
        name = a.0;
        most = leb-true _ _ a.1;
        few = omega (arith, few, length-map ps line_columns, length-map ps line_in);
        call = record { last = leb-true _ _ x.0; failures = leb-true _ _ x.1; wait = leb-true _ _ y.1; outcome = o.good };
      };
      row = λ i. record s { call = record s.call { outcome = o.number i; why = o.reason i } };
      children = back s 0 ps own d.1;
    }

lines_placed : (name : List ℕ) (place : ℕ) (lines : List Line) → are_placed place (map line_columns (placed_from name place lines)) ≡ true
lines_placed name place [] = refl
lines_placed name place (line ∷ lines) = rw (eq-eqb place place refl) (lines_placed name (place + 1) lines)

placed_length : (name : List ℕ) (place : ℕ) (lines : List Line) → length (map line_columns (placed_from name place lines)) ≡ length lines
placed_length name place [] = refl
placed_length name place (line ∷ lines) = ap suc (placed_length name (place + 1) lines)

pub system_fits : (row : SystemRow) → IsGoodSystem row → fits (bare_system row) (placed row) ≡ true
system_fits row good =
    let few : length (map line_columns (placed row)) ≤ 32 = (let e = placed_length row.def.name 0 row.def.lines in let k = good.few in omega (arith, e, k)) in
    rw (good.name, le-leb row.def.max_retries 1000000 good.most, le-leb row.call.last last_second good.call.last, le-leb row.call.failures most_failures good.call.failures, le-leb row.call.wait 31536000 good.call.wait, outcome_fits row.call.outcome row.call good.call.outcome, le-leb (length (map line_columns (placed row))) 32 few)
    (lines_placed row.def.name 0 row.def.lines)

-- a line is that of one system
pub lines_owned : (name other : List ℕ) (t : Bool) → same_text name other ≡ t → (place : ℕ) (lines : List Line) → AllByRecursion (λ (p : PlacedLine). same_text name p.system ≡ t) (placed_from other place lines)
lines_owned name other t h place [] = tt
lines_owned name other t h place (line ∷ lines) = (h, lines_owned name other t h (place + 1) lines)

-- ---- lines differ

-- the ranges of the second are not those of the first
abbrev pub Differ : PlacedLine → PlacedLine → Type 0
Differ p q = (same_text p.system q.system && (p.place == q.place)) ≡ false

later_differ : (name : List ℕ) (line : Line) (here place : ℕ) (lines : List Line) → here < place → AllByRecursion (Differ (record { system = name; place = here; line = line })) (placed_from name place lines)
later_differ name line here place [] below = tt
later_differ name line here place (next ∷ lines) below = (and_right (same_text name name) (here == place) (lt-eqb here place below), later_differ name line here (place + 1) lines (omega (arith, below)))

own_differ : (name : List ℕ) (place : ℕ) (lines : List Line) → AllPairsByRecursion Differ (placed_from name place lines)
own_differ name place [] = tt
own_differ name place (line ∷ lines) = (later_differ name line place (place + 1) lines (omega arith), own_differ name (place + 1) lines)

pub lines_differ : (row : SystemRow) → AllPairsByRecursion Differ (placed row)
lines_differ row = own_differ row.def.name 0 row.def.lines

others_differ : (p : PlacedLine) (name : List ℕ) (place : ℕ) (lines : List Line) → same_text p.system name ≡ false → AllByRecursion (Differ p) (placed_from name place lines)
others_differ p name place [] h = tt
others_differ p name place (line ∷ lines) h = (rw h refl, others_differ p name (place + 1) lines h)

pub systems_differ : (x y : SystemRow) → ComesBefore x.def.name y.def.name → AllByRecursion (λ p. AllByRecursion (Differ p) (placed y)) (placed x)
systems_differ x y before = go 0 x.def.lines
  where
    go : (place : ℕ) (lines : List Line) → AllByRecursion (λ p. AllByRecursion (Differ p) (placed y)) (placed_from x.def.name place lines)
    go place [] = tt
    go place (line ∷ lines) = (others_differ (record { system = x.def.name; place = place; line = line }) y.def.name 0 y.def.lines (earlier_other x.def.name y.def.name before), go (place + 1) lines)
