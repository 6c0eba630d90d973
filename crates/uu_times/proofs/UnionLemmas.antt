-- The ranges of simple strings hold their minutes, and so do the runs that they are put together
-- to.
use Rattle.std.proofs.Common.{◌≡◌, ℕ, zero, suc, ◌+◌, ◌*◌, ◌/◌, ◌%◌, ◌<◌, ◌≤◌, Bool, true, false, ◌&&◌, ◌||◌, max, Option, None, Some, IfSome, List, [], ◌∷◌, ◌++◌, All, lit≤, refl, ap, sym, ◌∙◌, arith, add-one, append_assoc, drop, drop-cons, get_or, length, nat_eq, nat_le, nat_lt}
use Rattle.std.specs.List.{AllByRecursion}
use Rattle.std.specs.List.Sorted.{IsNonDecreasingBy, IsPermutation}
use Rattle.std.proofs.lemmas.Bool.{cond-false, cond-true, cond_both, leb-true, leb-false, eqb-true, lt-ltb, le-ltb, le-leb, lt-leb, and_left}
use Rattle.std.proofs.lemmas.Bool.Decides.{nat_tests}
use Rattle.std.proofs.lemmas.List.Elements.{All-nil, All-cons, All-head, All-tail, All-append, recursion_from_All}
use Rattle.std.proofs.lemmas.List.Folds.{list_any-append}
use Rattle.std.proofs.lemmas.List.Sorted.{IsNonDecreasingBy-drop, list_any-IsPermutation, All-permutation}
use Rattle.std.proofs.Math.Bool.{or_assoc}
use Rattle.uu_times.specs.declared.days.Simple.{Simple}
use Rattle.uu_times.specs.Days.{in_hours}
use Rattle.uu_times.specs.Internal.Simples.{has_day, has_minute, any_has}
use Rattle.uu_times.specs.Ranges.{within, holds, AreRunsFrom, AreSeparateRanges, maximal_runs}
use Rattle.uu_times.proofs.Runs.{maximal_runs_runs}
use Rattle.uu_times.specs.Internal.Union.{IsDaily, day_ranges, ranges_on, days_ranges, week_ranges, merged_from, merged}

-- the hours of a day
holds-day : (day minute : ℕ) (hours : Option (ℕ × ℕ)) → IfSome hours (λ h. (h.0 < 1440) × (h.1 < 1440))
    → holds (day_ranges (1440 * day) hours) minute ≡ (nat_eq (minute / 1440) day && in_hours hours (minute % 1440))
holds-day day minute None daily = grind (arith, nat_tests)
holds-day day minute (Some hours) daily = grind (arith, nat_tests)

-- if the day is named, and if it isn't
named : (here has hours : Bool) (same : here ≡ true → has ≡ true) → (here && hours) ≡ (here && (has && hours))
named true has hours same = ap (λ b. b && hours) (sym (same refl))
named false has hours same = refl

unnamed : (here has hours : Bool) (same : here ≡ true → has ≡ false) → false ≡ (here && (has && hours))
unnamed true has hours same = ap (λ b. b && hours) (sym (same refl))
unnamed false has hours same = refl

-- a simple string on a day
holds_on : (simple : Simple) (day minute : ℕ) → IsDaily simple → holds (ranges_on simple day) minute ≡ (nat_eq (minute / 1440) day && has_minute minute simple)
holds_on simple day minute daily =
    cond_both (has_day simple.days day) (day_ranges (1440 * day) simple.hours) [] (λ rs. holds rs minute ≡ (nat_eq (minute / 1440) day && has_minute minute simple))
    (λ yes. holds-day day minute simple.hours daily
    ∙ named (nat_eq (minute / 1440) day) (has_day simple.days (minute / 1440)) (in_hours simple.hours (minute % 1440)) (λ here. ap (has_day simple.days) (eqb-true (minute / 1440) day here) ∙ yes))
    (λ no. unnamed (nat_eq (minute / 1440) day) (has_day simple.days (minute / 1440)) (in_hours simple.hours (minute % 1440)) (λ here. ap (has_day simple.days) (eqb-true (minute / 1440) day here) ∙ no))

-- one day more
one_more : (at day : ℕ) (has : Bool) → ((nat_lt at day && has) || (nat_eq at day && has)) ≡ (nat_lt at (suc day) && has)
one_more at day true = grind (arith, nat_tests)
one_more at day false = grind (arith, nat_tests)

holds_days : (simple : Simple) (day minute : ℕ) → IsDaily simple → holds (days_ranges simple day) minute ≡ (nat_lt (minute / 1440) day && has_minute minute simple)
unfolding days_ranges
holds_days simple zero minute daily = sym (and_left (nat_lt (minute / 1440) 0) (has_minute minute simple) (le-ltb (minute / 1440) 0 (omega arith)))
holds_days simple (suc day) minute daily =
    list_any-append (within minute) (days_ranges simple day) (ranges_on simple day)
    ∙ ap (λ b. b || holds (ranges_on simple day) minute) (holds_days simple day minute daily)
    ∙ ap (λ b. (nat_lt (minute / 1440) day && has_minute minute simple) || b) (holds_on simple day minute daily)
    ∙ one_more (minute / 1440) day (has_minute minute simple)

-- the ranges of simple strings hold their minutes
pub holds_week : (simples : List Simple) (minute : ℕ) → minute < 10080 → All IsDaily simples → holds (week_ranges simples) minute ≡ any_has simples minute
holds_week [] minute below daily = refl
holds_week (simple ∷ simples) minute below daily =
    list_any-append (within minute) (days_ranges simple 7) (week_ranges simples)
    ∙ ap (λ b. b || holds (week_ranges simples) minute)
    (holds_days simple 7 minute (All-head IsDaily simple simples daily)
    ∙ ap (λ b. b && has_minute minute simple) (lt-ltb (minute / 1440) 7 (omega arith)))
    ∙ ap (λ b. has_minute minute simple || b) (holds_week simples minute below (All-tail IsDaily simple simples daily))

-- a range of week minutes
abbrev pub IsRange : ℕ × ℕ → Type 0
IsRange range = (range.0 ≤ range.1) × (range.1 < 10080)

ranges_day : (day : ℕ) (hours : Option (ℕ × ℕ)) → day < 7 → IfSome hours (λ h. (h.0 < 1440) × (h.1 < 1440)) → All IsRange (day_ranges (1440 * day) hours)
ranges_day day None below daily = All-cons IsRange (1440 * day, 1440 * day + 1439) [] (omega arith, omega arith) (All-nil IsRange)
ranges_day day (Some hours) below daily =
    cond_both (nat_le hours.0 hours.1) ((1440 * day + hours.0, 1440 * day + hours.1) ∷ []) ((1440 * day, 1440 * day + hours.1) ∷ (1440 * day + hours.0, 1440 * day + 1439) ∷ []) (All IsRange)
    (λ rises. All-cons IsRange (1440 * day + hours.0, 1440 * day + hours.1) [] (omega (arith, leb-true hours.0 hours.1 rises), omega arith) (All-nil IsRange))
    (λ crosses. All-cons IsRange (1440 * day, 1440 * day + hours.1) ((1440 * day + hours.0, 1440 * day + 1439) ∷ []) (omega arith, omega arith)
    (All-cons IsRange (1440 * day + hours.0, 1440 * day + 1439) [] (omega arith, omega arith) (All-nil IsRange)))

ranges_days : (simple : Simple) (day : ℕ) → day ≤ 7 → IsDaily simple → All IsRange (days_ranges simple day)
unfolding days_ranges
ranges_days simple zero le daily = All-nil IsRange
ranges_days simple (suc day) le daily =
    All-append IsRange (days_ranges simple day) (ranges_on simple day) (ranges_days simple day (omega arith) daily)
    (cond_both (has_day simple.days day) (day_ranges (1440 * day) simple.hours) [] (All IsRange)
    (λ yes. ranges_day day simple.hours (omega arith) daily) (λ no. All-nil IsRange))

pub ranges_week : (simples : List Simple) → All IsDaily simples → All IsRange (week_ranges simples)
ranges_week [] daily = All-nil IsRange
ranges_week (simple ∷ simples) daily =
    All-append IsRange (days_ranges simple 7) (week_ranges simples) (ranges_days simple 7 (lit≤ tt) (All-head IsDaily simple simples daily))
    (ranges_week simples (All-tail IsDaily simple simples daily))

-- ranges whose first minutes don't fall
abbrev pub Rises : ℕ → List (ℕ × ℕ) → Type 0
Rises low [] = Unit {0}
Rises low (range ∷ ranges) = (low ≤ range.0) × Rises range.0 ranges

rises_behind : (first : ℕ × ℕ) (ranges : List (ℕ × ℕ)) → IsNonDecreasingBy (λ (r : ℕ × ℕ). r.0) (first ∷ ranges) → Rises first.0 ranges
rises_behind first [] sorted = tt
rises_behind first (range ∷ ranges) sorted =
    (sorted 0 1 first (omega arith) (omega arith), rises_behind range ranges (IsNonDecreasingBy-drop (λ (r : ℕ × ℕ). r.0) 1 (first ∷ range ∷ ranges) sorted))

rises_sooner : (low sooner : ℕ) (ranges : List (ℕ × ℕ)) → sooner ≤ low → Rises low ranges → Rises sooner ranges
rises_sooner low sooner [] le rises = tt
rises_sooner low sooner (range ∷ ranges) le rises = (omega arith, rises.1)

-- two ranges that touch are one
touching : (run range : ℕ × ℕ) (minute : ℕ) → run.0 ≤ run.1 → run.0 ≤ range.0 → range.0 ≤ range.1 → range.0 ≤ run.1 + 1
    → (nat_le run.0 minute && nat_le minute (max run.1 range.1)) ≡ ((nat_le run.0 minute && nat_le minute run.1) || (nat_le range.0 minute && nat_le minute range.1))
touching run range minute up after rises touch = grind (arith, nat_tests)

-- put together they are apart
runs_merged : (start : ℕ) (run : ℕ × ℕ) (ranges : List (ℕ × ℕ)) → start ≤ run.0 → IsRange run → AllByRecursion IsRange ranges → Rises run.0 ranges
    → AreRunsFrom start (merged_from run ranges)
runs_merged start run [] after is each rises = (after, is.0, is.1, tt)
runs_merged start run (range ∷ ranges) after is each rises =
    cond_both (nat_le range.0 (run.1 + 1)) (merged_from (run.0, max run.1 range.1) ranges) (run ∷ merged_from range ranges) (AreRunsFrom start)
    (λ touch. runs_merged start (run.0, max run.1 range.1) ranges after (omega arith, omega arith) each.1 (rises_sooner range.0 run.0 ranges rises.0 rises.1))
    (λ apart. (after, is.0, is.1, runs_merged (run.1 + 2) range ranges (omega (arith, leb-false range.0 (run.1 + 1) apart)) each.0 each.1 rises.1))

-- and hold what they held
holds_merged : (run : ℕ × ℕ) (ranges : List (ℕ × ℕ)) (minute : ℕ) → IsRange run → AllByRecursion IsRange ranges → Rises run.0 ranges
    → holds (merged_from run ranges) minute ≡ (within minute run || holds ranges minute)
holds_merged run [] minute is each rises = refl
holds_merged run (range ∷ ranges) minute is each rises =
    cond_both (nat_le range.0 (run.1 + 1)) (merged_from (run.0, max run.1 range.1) ranges) (run ∷ merged_from range ranges)
    (λ rs. holds rs minute ≡ (within minute run || holds (range ∷ ranges) minute))
    (λ touch. holds_merged (run.0, max run.1 range.1) ranges minute (omega arith, omega arith) each.1 (rises_sooner range.0 run.0 ranges rises.0 rises.1)
    ∙ ap (λ b. b || holds ranges minute) (touching run range minute is.0 rises.0 each.0.0 (leb-true range.0 (run.1 + 1) touch))
    ∙ or_assoc (within minute run) (within minute range) (holds ranges minute))
    (λ apart. ap (λ b. within minute run || b) (holds_merged range ranges minute each.0 each.1 rises.1))

-- the runs of sorted ranges
pub merged_runs : (simples : List Simple) (sorted : List (ℕ × ℕ)) → All IsDaily simples → IsPermutation (week_ranges simples) sorted
    → IsNonDecreasingBy (λ (r : ℕ × ℕ). r.0) sorted → AreSeparateRanges (merged sorted) × (maximal_runs (any_has simples) ≡ merged sorted)
merged_runs simples [] daily moved rises =
    (tt, maximal_runs_runs (any_has simples) [] tt (λ minute below. sym (holds_week simples minute below daily) ∙ list_any-IsPermutation (within minute) (week_ranges simples) [] moved))
merged_runs simples (range ∷ ranges) daily moved rises =
    let each : AllByRecursion IsRange (range ∷ ranges) =
    recursion_from_All IsRange (range ∷ ranges) (All-permutation IsRange (week_ranges simples) (range ∷ ranges) moved (ranges_week simples daily)) in
    let behind : Rises range.0 ranges = rises_behind range ranges rises in
    let runs : AreSeparateRanges (merged_from range ranges) = runs_merged 0 range ranges (omega arith) each.0 each.1 behind in (
      runs,
      maximal_runs_runs (any_has simples) (merged_from range ranges) runs (λ minute below.
          sym (holds_week simples minute below daily)
          ∙ list_any-IsPermutation (within minute) (week_ranges simples) (range ∷ ranges) moved
          ∙ sym (holds_merged range ranges minute each.0 each.1 behind)),
    )

-- one day more
pub days_ranges_more : (simple : Simple) (day : ℕ) → days_ranges simple (day + 1) ≡ days_ranges simple day ++ ranges_on simple day
unfolding days_ranges
days_ranges_more simple day = ap (days_ranges simple) (add-one day)

-- a simple string more
pub week_more : (ranges next : List (ℕ × ℕ)) (simples : List Simple) (at : ℕ) (d : Simple) (whole : List (ℕ × ℕ)) → at < length simples
    → next ≡ ranges ++ days_ranges (get_or simples at d) 7 → ranges ++ week_ranges (drop at simples) ≡ whole → next ++ week_ranges (drop (suc at) simples) ≡ whole
week_more ranges next simples at d whole below is answer =
    ap (λ r. r ++ week_ranges (drop (suc at) simples)) is
    ∙ append_assoc ranges (days_ranges (get_or simples at d) 7) (week_ranges (drop (suc at) simples))
    ∙ ap (λ s. ranges ++ week_ranges s) (sym (drop-cons simples at d below))
    ∙ answer

-- a range that goes on with the run, and one that is apart from it
pub goes-on : (runs : List (ℕ × ℕ)) (run : ℕ × ℕ) (rest : List (ℕ × ℕ)) (at : ℕ) (d : ℕ × ℕ) (whole : List (ℕ × ℕ)) → at < length rest
    → (get_or rest at d).0 ≤ run.1 + 1 → runs ++ merged_from run (drop at rest) ≡ whole
    → runs ++ merged_from (run.0, max run.1 (get_or rest at d).1) (drop (suc at) rest) ≡ whole
goes-on runs run rest at d whole below touches answer =
    ap (λ rs. runs ++ rs) (sym (ap (merged_from run) (drop-cons rest at d below)
    ∙ cond-true (nat_le (get_or rest at d).0 (run.1 + 1)) (merged_from (run.0, max run.1 (get_or rest at d).1) (drop (suc at) rest)) (run ∷ merged_from (get_or rest at d) (drop (suc at) rest)) (le-leb (get_or rest at d).0 (run.1 + 1) touches)))
    ∙ answer

pub stands_apart : (runs : List (ℕ × ℕ)) (run : ℕ × ℕ) (rest : List (ℕ × ℕ)) (at : ℕ) (d : ℕ × ℕ) (whole : List (ℕ × ℕ)) → at < length rest
    → run.1 + 1 < (get_or rest at d).0 → runs ++ merged_from run (drop at rest) ≡ whole
    → runs ++ run ∷ [] ++ merged_from (get_or rest at d) (drop (suc at) rest) ≡ whole
stands_apart runs run rest at d whole below apart answer =
    append_assoc runs (run ∷ []) (merged_from (get_or rest at d) (drop (suc at) rest))
    ∙ ap (λ rs. runs ++ rs) (sym (ap (merged_from run) (drop-cons rest at d below)
    ∙ cond-false (nat_le (get_or rest at d).0 (run.1 + 1)) (merged_from (run.0, max run.1 (get_or rest at d).1) (drop (suc at) rest)) (run ∷ merged_from (get_or rest at d) (drop (suc at) rest)) (lt-leb (get_or rest at d).0 (run.1 + 1) apart)))
    ∙ answer
