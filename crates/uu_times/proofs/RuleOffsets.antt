-- The clock of a rule with daylight saving time, in a year of UTC within which both changes lie.
use Rattle.std.proofs.Common.{◌≡◌, ℕ, suc, ◌<◌, ◌≤◌, negsuc, Bool, true, false, not, cond, ◌&&◌, ◌||◌, ℤ, pos, ◌+ℤ◌, ◌-ℤ◌, ◌*ℤ◌, ◌<ℤ◌, ◌≤ℤ◌, int_le, int_lt, Option, Some, None, refl, ap, sym, ◌∙◌, subst, arith, unsigned_abs}
use Rattle.std.specs.Prelude.{option_map, if◌then◌else◌}
use Rattle.std.specs.Int.{int_div_euclid}
use Rattle.std.proofs.Math.Bool.{or-true, or-false}
use Rattle.uu_names.proofs.Basics.{lt-int_lt}
use Rattle.jiff_core.specs.Calendar.{IsYear, days_from_civil, days_in_year, day_count, days_of_years}
use Rattle.jiff_core.specs.Timestamp.{nanos_of_seconds}
use Rattle.jiff_core.specs.declared.Offset.{Offset}
use Rattle.jiff_core.proofs.CalendarLemmas.{days_from_civil-day_count, day_count-next_year, days_of_months-zero}
use Rattle.jiff_core.proofs.SignedLemmas.{signed_arith}
use Rattle.jiff_tz.specs.PosixRule as rule
use Rattle.jiff_tz.specs.PosixText.{DstText, dst_view, day_time_view}
use Rattle.jiff_tz.specs.Year.{year_of_nanos}
use Rattle.jiff_tz.specs.declared.posix.Dst.{Dst}
use Rattle.jiff_tz.specs.declared.posix.DayTime.{DayTime}
use Rattle.jiff_tz.proofs.YearLemmas.{years_within_is}
use Rattle.uu_times.specs.Rule.{IsChange, ChangesInside, is_daylight, IsOfYear, IsInside, HasDay, IsOneDay}
use Rattle.uu_times.specs.Zone.{offset_at, zone_view}
use Rattle.uu_times.specs.declared.zone.Zone.{Zone}
use Rattle.uu_times.proofs.RuleDays.{named_is, one_day}

-- ---- comparisons

not_less : (a b : ℤ) → b ≤ℤ a → int_lt a b ≡ false
not_less a b h = elim (int_lt a b) as (λ t. int_lt a b ≡ t → t ≡ false) [
  | true ↦ λ e. absurd (omega (arith, signed_arith))
  | false ↦ λ e. refl
] refl

not_at_most : (a b : ℤ) → b <ℤ a → int_le a b ≡ false
not_at_most a b h = elim (int_le a b) as (λ t. int_le a b ≡ t → t ≡ false) [
  | true ↦ λ e. absurd (omega (arith, signed_arith))
  | false ↦ λ e. refl
] refl

at_most : (a b : ℤ) → a ≤ℤ b → int_le a b ≡ true
at_most a b h = elim (int_le a b) as (λ t. int_le a b ≡ t → t ≡ true) [
  | true ↦ λ e. refl
  | false ↦ λ e. absurd (omega (arith, signed_arith))
] refl

-- nanoseconds compare as their seconds
same_order : (a b : ℤ) → int_le (nanos_of_seconds a) (nanos_of_seconds b) ≡ int_le a b
same_order a b = elim (int_le a b) as (λ t. int_le a b ≡ t → int_le (nanos_of_seconds a) (nanos_of_seconds b) ≡ t) [
  | true ↦ λ e. at_most (nanos_of_seconds a) (nanos_of_seconds b) (omega (arith, signed_arith))
  | false ↦ λ e. not_at_most (nanos_of_seconds a) (nanos_of_seconds b) (omega (arith, signed_arith))
] refl

same_less : (a b : ℤ) → int_lt (nanos_of_seconds a) (nanos_of_seconds b) ≡ int_lt a b
same_less a b = elim (int_lt a b) as (λ t. int_lt a b ≡ t → int_lt (nanos_of_seconds a) (nanos_of_seconds b) ≡ t) [
  | true ↦ λ e. lt-int_lt (nanos_of_seconds a) (nanos_of_seconds b) (omega (arith, signed_arith))
  | false ↦ λ e. not_less (nanos_of_seconds a) (nanos_of_seconds b) (omega (arith, signed_arith))
] refl

-- ---- the year

-- a year begins at the end of the one before it
next_year : (year : ℤ) → IsYear year → days_from_civil (year +ℤ pos 1) 1 1 ≡ days_from_civil year 1 1 +ℤ pos (days_in_year year)
next_year year in_range =
    let next = day_count-next_year year (year +ℤ pos 1) (omega (arith, signed_arith)) refl in
    let here = days_from_civil-day_count year 1 1 in
    let there = days_from_civil-day_count (year +ℤ pos 1) 1 1 in
    omega (arith, signed_arith)

-- ---- the changes

-- a rule's moment is at the change
change_found : (year : ℤ) (when : DayTime) (ahead second : ℤ) → IsYear year → IsChange year (day_time_view when) ahead second → IsInside year second
    → rule.rule_nanos year when ahead ≡ nanos_of_seconds second
unfolding rule.rule_nanos
change_found year when ahead second in_range change inside =
    let named = named_is year when.date change.day when.date_in change.named in
    let moment : change.day *ℤ rule.nanos_per_day +ℤ nanos_of_seconds (when.time -ℤ ahead) ≡ nanos_of_seconds second = (let at = change.at in omega (arith, signed_arith)) in
    let next = next_year year in_range in
    let above : rule.first_nanosecond year ≤ℤ nanos_of_seconds second = (let after = inside.0 in omega (arith, signed_arith)) in
    let below : nanos_of_seconds second ≤ℤ rule.last_nanosecond year = (let before = inside.1 in omega (arith, signed_arith)) in
    rw (named, moment, not_less (nanos_of_seconds second) (rule.first_nanosecond year) above, not_less (rule.last_nanosecond year) (nanos_of_seconds second) below) refl

-- what the test says about the window it says about the seconds
window_is : (begin end second : ℤ) → rule.in_window (nanos_of_seconds begin, nanos_of_seconds end) (nanos_of_seconds second) ≡ is_daylight begin end second
window_is begin end second =
    rw (same_order begin end, same_order begin second, same_less second end, same_order end second, same_less second begin) (elim (int_le begin end) as (λ t. cond t (int_le begin second && int_lt second end) (not (int_le end second && int_lt second begin)) ≡ cond t (int_le begin second && int_lt second end) (int_le begin second || int_lt second end)) [
      | true ↦ refl
      | false ↦ outside
    ])
  where
    outside : not (int_le end second && int_lt second begin) ≡ (int_le begin second || int_lt second end)
    outside = elim (int_le end second) as (λ t. int_le end second ≡ t → not (t && int_lt second begin) ≡ (int_le begin second || int_lt second end)) [
      | true ↦ λ e.
          let past : int_lt second end ≡ false = not_less second end (omega (arith, signed_arith)) in
          rw past (by_begin (int_lt second begin) refl)
      | false ↦ λ e.
          let before : int_lt second end ≡ true = lt-int_lt second end (omega (arith, signed_arith)) in
          rw before (sym (or-true (int_le begin second)))
    ] refl
      where
        by_begin : (t : Bool) → int_lt second begin ≡ t → not t ≡ (int_le begin second || false)
        by_begin true e = sym (or-false (int_le begin second) ∙ not_at_most begin second (omega (arith, signed_arith)))
        by_begin false e = sym (or-false (int_le begin second) ∙ at_most begin second (omega (arith, signed_arith)))

-- the window of a year within which both changes lie
window_found : (standard : Offset) (daylight : Dst) (year begin end : ℤ) → IsYear year → ChangesInside standard.seconds (dst_view daylight) year begin end
    → rule.utc_window daylight year standard ≡ (nanos_of_seconds begin, nanos_of_seconds end)
unfolding rule.utc_window
window_found standard daylight year begin end in_range inside =
    let start = change_found year daylight.rule.start standard.seconds begin in_range inside.changes.begins inside.begin_in in
    let finish = change_found year daylight.rule.end daylight.offset.seconds end in_range inside.changes.ends inside.end_in in
    let after : int_le (nanos_of_seconds begin) (rule.first_nanosecond year) ≡ false = not_at_most (nanos_of_seconds begin) (rule.first_nanosecond year) (let later = inside.begin_in.0 in omega (arith, signed_arith)) in
    rw (start, finish, after) refl

-- ---- the offset

nonnegative : (z : ℤ) → pos 0 ≤ℤ z → pos (unsigned_abs z) ≡ z
nonnegative (pos n) h = refl
nonnegative (negsuc n) h = absurd (omega (arith, signed_arith))

-- the days before a year
days_before : (year : ℤ) (years : ℕ) → year +ℤ pos 10000 ≡ pos years → day_count year 1 1 ≡ days_of_years years
unfolding day_count
days_before year years e = rw e (omega (arith, days_of_months-zero year))

-- the year of a second of UTC
year_is : (year : ℤ) (second : ℕ) → IsYear year → IsOfYear year (pos second) → year_of_nanos (nanos_of_seconds (pos second)) ≡ year
year_is year second in_range of_year =
    let day : ℤ = int_div_euclid (nanos_of_seconds (pos second)) (pos 86_400_000_000_000) in
    let years : ℕ = unsigned_abs (year +ℤ pos 10000) in
    let count : ℕ = unsigned_abs (day +ℤ pos 4_371_953) in
    let next = next_year year in_range in
    let after = of_year.0 in
    let before = of_year.1 in
    let low : days_from_civil year 1 1 ≤ℤ day = omega (arith, signed_arith) in
    let high : day <ℤ days_from_civil (year +ℤ pos 1) 1 1 = omega (arith, signed_arith) in
    let first = days_from_civil-day_count year 1 1 in
    let last = days_from_civil-day_count (year +ℤ pos 1) 1 1 in
    let shifted : pos years ≡ year +ℤ pos 10000 = nonnegative (year +ℤ pos 10000) (omega (arith, signed_arith)) in
    let later : year +ℤ pos 1 +ℤ pos 10000 ≡ pos (suc years) = omega (arith, signed_arith) in
    let begins = days_before year years (sym shifted) in
    let ends = days_before (year +ℤ pos 1) (suc years) later in
    let counted : pos count ≡ day +ℤ pos 4_371_953 = nonnegative (day +ℤ pos 4_371_953) (omega (arith, signed_arith)) in
    let from : days_of_years years ≤ count = omega (arith, signed_arith) in
    let to : count < days_of_years (suc years) = omega (arith, signed_arith) in
    let within = years_within_is 20000 years count (omega (arith, signed_arith)) from to in
    ap (λ k. pos k -ℤ pos 10000) within ∙ omega (arith, signed_arith)

-- the seconds of the one offset or of the other
one_of : (is : Bool) (standard : Offset) (daylight : Dst) → (rule.match_some (cond is (Some daylight) None) standard (λ d. d.offset)).seconds ≡ cond is daylight.offset.seconds standard.seconds
one_of true standard daylight = refl
one_of false standard daylight = refl

-- what the rule's parts show is what the library answers
offset_found : (standard : Offset) (rules : Option Dst) (daylight : DstText) (year begin end : ℤ) (second : ℕ) → option_map dst_view rules ≡ Some daylight → IsYear year
    → ChangesInside standard.seconds daylight year begin end → IsOfYear year (pos second)
    → (rule.match_some (rule.dst_at_by standard rules (nanos_of_seconds (pos second))) standard (λ d. d.offset)).seconds ≡ cond (is_daylight begin end (pos second)) daylight.seconds standard.seconds
offset_found standard None daylight year begin end second says in_range inside of_year = absurd cc
offset_found standard (Some d) daylight year begin end second says in_range inside of_year =
    let view : dst_view d ≡ daylight = cc in
    let here : ChangesInside standard.seconds (dst_view d) year begin end = subst (λ t. ChangesInside standard.seconds t year begin end) (sym view) inside in
    let window = window_found standard d year begin end in_range here in
    rw (year_is year second in_range of_year, window, window_is begin end (pos second))
    (one_of (is_daylight begin end (pos second)) standard d ∙ ap (λ (t : DstText). cond (is_daylight begin end (pos second)) t.seconds standard.seconds) view)

-- ---- the law

pub offset_by_rule : (zone : Zone) (daylight : DstText) → (zone_view zone).dst ≡ Some daylight → (year begin end : ℤ) → IsYear year
    → ChangesInside (zone_view zone).std_seconds daylight year begin end → (second : ℕ) → IsOfYear year (pos second)
    → offset_at zone second ≡ (if is_daylight begin end (pos second) then daylight.seconds else (zone_view zone).std_seconds)
unfolding offset_at
offset_by_rule zone daylight says year begin end in_range inside second of_year =
    offset_found zone.rule.std_offset zone.rule.dst daylight year begin end second says in_range inside of_year

days_of : (rules : Option Dst) (daylight : DstText) → option_map dst_view rules ≡ Some daylight → (year : ℤ)
    → (HasDay year daylight.start.0 → IsOneDay year daylight.start.0) × (HasDay year daylight.finish.0 → IsOneDay year daylight.finish.0)
days_of None daylight says year = absurd cc
days_of (Some d) daylight says year =
    let view : dst_view d ≡ daylight = cc in
    subst (λ (t : DstText). (HasDay year t.start.0 → IsOneDay year t.start.0) × (HasDay year t.finish.0 → IsOneDay year t.finish.0)) view
    (one_day year d.rule.start.date d.rule.start.date_in, one_day year d.rule.end.date d.rule.end.date_in)

pub days_by_rule : (zone : Zone) (daylight : DstText) → (zone_view zone).dst ≡ Some daylight → (year : ℤ)
    → (HasDay year daylight.start.0 → IsOneDay year daylight.start.0) × (HasDay year daylight.finish.0 → IsOneDay year daylight.finish.0)
days_by_rule zone daylight says year = days_of zone.rule.dst daylight says year
