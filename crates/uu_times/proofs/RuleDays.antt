-- The day of a year that a rule names is the one that the library finds, and it is one day.
use Rattle.std.proofs.Common.{◌≡◌, ℕ, zero, suc, ◌+◌, ◌-◌, ◌*◌, ◌%◌, ◌<◌, ◌≤◌, Bool, true, false, cond, leb, ltb, ◌&&◌, ◌==◌, ℤ, pos, ◌+ℤ◌, Some, inl, inr, refl, ap, sym, ◌∙◌, subst, arith}
use Rattle.std.specs.Prelude.{IsTrue}
use Rattle.std.proofs.lemmas.Bool.Decides.{leb_tells, eqb_tells, nat_tests}
use Rattle.std.proofs.Math.Bool.{and-false, and-true}
use Rattle.std.proofs.lemmas.Option.{same_Some}
use Rattle.jiff_core.specs.Calendar.{IsCivilDate, days_from_civil, days_in_month, days_in_year, days_of_months, day_of_year, is_leap_year}
use Rattle.jiff_core.proofs.CalendarLemmas.{days_from_civil-day_count, day_count-day_of_year, day_count-day, days_in_month_bounds, days_of_months-zero, days_of_months_more, days_of_months_mono, days_of_months_table, days_of_months_all, day_of_year_before, weekday_number-add, weekday_number-parts}
use Rattle.jiff_core.proofs.MarchLemmas.{leap_day}
use Rattle.jiff_core.proofs.SignedLemmas.{signed_arith}
use Rattle.jiff_tz.specs.PosixDay.{is_rule_day}
use Rattle.jiff_tz.specs.PosixRule.{rule_day, sunday_number, last_weekday, nth_weekday, weekday_of_month}
use Rattle.jiff_tz.specs.declared.posix.Day.{Day}
use Rattle.jiff_tz.specs.declared.posix.Day.TheVariants.{JulianOne, JulianZero, WeekdayOfMonth}
use Rattle.uu_times.specs.Rule.{IsSameDate, weekday_of, IsWeekdayOf, IsNamed, HasDay, IsOneDay}

-- ---- `Jn`

-- without 29 February, a year's first 59 days are those of January and February
two_months : days_of_months (pos 1970) 2 ≡ 59
two_months = days_of_months_table (pos 1970) 2 (omega arith)

-- the nth day of the year lies in one of its months
in_month : (year : ℤ) (months n : ℕ) → 1 ≤ n → n ≤ days_of_months year months
    → (month : ℕ) × (date : ℕ) × (1 ≤ month) × (month ≤ months) × (1 ≤ date) × (date ≤ days_in_month year month) × (days_of_months year (month - 1) + date ≡ n)
in_month year zero n low high = absurd (omega (arith, days_of_months-zero year))
in_month year (suc months) n low high = elim (leb_tells n (days_of_months year months)) [
  | inl within ↦
      let found = in_month year months n low within.1 in
      (found.0, found.1, found.2, omega (arith, found.3), found.4, found.5, found.6)
  | inr past ↦
      let back : suc months - 1 ≡ months = omega arith in
      let more = days_of_months_more year (suc months) (omega arith) in
      let after = past.1 in
      let month_days : days_of_months year (suc months) ≡ days_of_months year months + days_in_month year (suc months) = rw back at more in
      (suc months, n - days_of_months year months, omega arith, omega arith, omega arith, omega arith, rw back (omega arith))
]

-- a date comes a day later in a leap year, from 1 March on, which is day 60
place_in : (year : ℤ) (month date n : ℕ) → IsCivilDate (pos 1970) month date → day_of_year (pos 1970) month date ≡ n
    → day_of_year year month date ≡ n + (cond (is_leap_year year && leb 60 n) 1 0)
place_in year month date n there place =
    let months = there.1 in
    let days = there.2 in
    let here : day_of_year year month date ≡ days_of_months year (month - 1) + date = refl in
    let common : days_of_months (pos 1970) (month - 1) + date ≡ n = place in
    let table = days_of_months_table year (month - 1) (omega arith) in
    let plain = days_of_months_table (pos 1970) (month - 1) (omega arith) in
    let no_leap : leap_day (pos 1970) ≡ 0 = refl in
    elim (leb_tells 3 month) [
      | inl late ↦
          let third = late.1 in
          let before = days_of_months_mono (pos 1970) 2 (month - 1) (omega arith) in
          let sixty : leb 60 n ≡ true = (let two = two_months in grind (arith, nat_tests)) in
          let after : ltb 1 (month - 1) ≡ true = grind (arith, nat_tests) in
          let table_after = rw after at table in
          let plain_after = rw after at plain in
          rw (sixty, and-true (is_leap_year year)) (omega arith)
      | inr early ↦
          let second = early.1 in
          let before = day_of_year_before (pos 1970) month date 2 months.0 days.1 (omega arith) in
          let sixty : leb 60 n ≡ false = (let two = two_months in grind (arith, nat_tests)) in
          let after : ltb 1 (month - 1) ≡ false = grind (arith, nat_tests) in
          let table_after = rw after at table in
          let plain_after = rw after at plain in
          rw (sixty, and-false (is_leap_year year)) (omega arith)
    ]

-- the day number of a date is that of the year's first day, and its place
day_in : (year : ℤ) (month date place : ℕ) → 1 ≤ date → day_of_year year month date ≡ place → days_from_civil year month date ≡ days_from_civil year 1 1 +ℤ pos (place - 1)
day_in year month date place low is =
    let count = day_count-day_of_year year month date low in
    let here = days_from_civil-day_count year month date in
    let first = days_from_civil-day_count year 1 1 in
    omega (arith, signed_arith)

same_date : (year day : ℤ) (n : ℕ) → IsSameDate year n day → day ≡ days_from_civil year 1 1 +ℤ pos (n - 1 + cond (is_leap_year year && leb 60 n) 1 0)
same_date year day n same =
    let place = place_in year same.month same.date n same.there same.place in
    let low = same.there.2.0 in
    let in_year = day_in year same.month same.date (n + cond (is_leap_year year && leb 60 n) 1 0) low place in
    let here : days_of_months (pos 1970) (same.month - 1) + same.date ≡ n = same.place in
    let back : n + cond (is_leap_year year && leb 60 n) 1 0 - 1 ≡ n - 1 + cond (is_leap_year year && leb 60 n) 1 0 = omega arith in
    same.day_is ∙ in_year ∙ ap (λ k. days_from_civil year 1 1 +ℤ pos k) back

-- ---- `Mm.w.d`

-- a day of a month, from its first
from_first : (year : ℤ) (month a b : ℕ) → 1 ≤ a → a ≤ b → days_from_civil year month b ≡ days_from_civil year month a +ℤ pos (b - a)
from_first year month a b low order =
    let count = day_count-day year month a b low (omega arith) in
    let here = days_from_civil-day_count year month b in
    let first = days_from_civil-day_count year month a in
    omega (arith, signed_arith)

weekday_is : (day : ℤ) → weekday_of day ≡ pos (sunday_number day)
weekday_is day = let parts = weekday_number-parts day in omega (arith, signed_arith)

later_weekday : (a b : ℤ) (k : ℕ) → b ≡ a +ℤ pos k → sunday_number b ≡ (sunday_number a + k) % 7
later_weekday a b k e = let later = weekday_number-add a b k e in omega (arith, later)

weekday_named : (day : ℤ) (weekday : ℕ) → weekday_of day ≡ pos weekday → sunday_number day ≡ weekday
weekday_named day weekday e = let is = weekday_is day in omega (arith, signed_arith)

-- the library's day
weekday_found : (year : ℤ) (month week weekday : ℕ) (day : ℤ) → weekday ≤ 6 → IsWeekdayOf year month week weekday day → weekday_of_month year month week weekday ≡ day
weekday_found year month week weekday day most is = elim (eqb_tells week 5) [
  | inl fifth ↦
      let of_week : ltb (days_in_month year month) (is.date + 7) ≡ true = subst (λ (b : Bool). cond b (ltb (days_in_month year month) (is.date + 7)) (ltb (7 * (week - 1)) is.date && leb is.date (7 * week)) ≡ true) fifth.0 is.week_is in
      rw fifth.0 (by_last of_week)
  | inr other ↦
      let of_week : ltb (7 * (week - 1)) is.date && leb is.date (7 * week) ≡ true = subst (λ (b : Bool). cond b (ltb (days_in_month year month) (is.date + 7)) (ltb (7 * (week - 1)) is.date && leb is.date (7 * week)) ≡ true) other.0 is.week_is in
      rw other.0 (by_nth of_week)
]
  where
    number : sunday_number day ≡ weekday
    number = weekday_named day weekday is.weekday_is

    by_last : ltb (days_in_month year month) (is.date + 7) ≡ true → last_weekday year month weekday ≡ day
    by_last e =
        let near : days_in_month year month < is.date + 7 = grind (arith, nat_tests) in
        let within = is.last in
        let end = from_first year month is.date (days_in_month year month) is.first is.last in
        let end_from : days_from_civil year month (days_in_month year month) ≡ day +ℤ pos (days_in_month year month - is.date) = end ∙ ap (λ d. d +ℤ pos (days_in_month year month - is.date)) (sym is.day_is) in
        let last = later_weekday day (days_from_civil year month (days_in_month year month)) (days_in_month year month - is.date) end_from in
        let steps : (sunday_number (days_from_civil year month (days_in_month year month)) + 7 - weekday) % 7 ≡ days_in_month year month - is.date = omega (arith, last, number) in
        rw steps (omega (arith, signed_arith, end_from))

    by_nth : ltb (7 * (week - 1)) is.date && leb is.date (7 * week) ≡ true → nth_weekday year month week weekday ≡ day
    by_nth e =
        let above : 7 * (week - 1) < is.date = grind (arith, nat_tests) in
        let below : is.date ≤ 7 * week = grind (arith, nat_tests) in
        let here = from_first year month 1 is.date (omega arith) is.first in
        let day_from : day ≡ days_from_civil year month 1 +ℤ pos (is.date - 1) = is.day_is ∙ here in
        let later = later_weekday (days_from_civil year month 1) day (is.date - 1) day_from in
        let steps : (weekday + 7 - sunday_number (days_from_civil year month 1)) % 7 + 7 * (week - 1) ≡ is.date - 1 = omega (arith, later, number) in
        omega (arith, signed_arith, day_from, steps)

-- and there is one
weekday_there : (year : ℤ) (month week weekday : ℕ) → 1 ≤ week → week ≤ 5 → weekday ≤ 6 → (day : ℤ) × IsWeekdayOf year month week weekday day
weekday_there year month week weekday low high most = elim (eqb_tells week 5) [
  | inl fifth ↦ by_last fifth.0
  | inr other ↦ by_nth other.0 (omega (arith, other.1))
]
  where
    days : (days_in_month year month ≤ 31) × (28 ≤ days_in_month year month)
    days = days_in_month_bounds year month

    back : ℕ
    back = (sunday_number (days_from_civil year month (days_in_month year month)) + 7 - weekday) % 7

    ahead : ℕ
    ahead = (weekday + 7 - sunday_number (days_from_civil year month 1)) % 7

    by_last : (week == 5) ≡ true → (day : ℤ) × IsWeekdayOf year month week weekday day
    by_last fifth =
        let date : ℕ = days_in_month year month - back in
        let within = days.1 in
        let near : back < 7 = omega arith in
        let end = from_first year month date (days_in_month year month) (omega arith) (omega arith) in
        let last = later_weekday (days_from_civil year month date) (days_from_civil year month (days_in_month year month)) (days_in_month year month - date) end in
        let number : sunday_number (days_from_civil year month date) ≡ weekday = omega (arith, last) in (
          days_from_civil year month date,
          record {
            date = date;
            first = omega arith;
            last = omega arith;
            day_is = refl;
            weekday_is = weekday_is (days_from_civil year month date) ∙ ap pos number;
            week_is = rw fifth (grind (arith, nat_tests));
          },
        )

    by_nth : (week == 5) ≡ false → week < 5 → (day : ℤ) × IsWeekdayOf year month week weekday day
    by_nth other before =
        let date : ℕ = 1 + ahead + 7 * (week - 1) in
        let within = days.1 in
        let near : ahead < 7 = omega arith in
        let here = from_first year month 1 date (omega arith) (omega arith) in
        let later = later_weekday (days_from_civil year month 1) (days_from_civil year month date) (date - 1) here in
        let number : sunday_number (days_from_civil year month date) ≡ weekday = omega (arith, later) in (
          days_from_civil year month date,
          record {
            date = date;
            first = omega arith;
            last = omega arith;
            day_is = refl;
            weekday_is = weekday_is (days_from_civil year month date) ∙ ap pos number;
            week_is = rw other (grind (arith, nat_tests));
          },
        )

-- ---- all

pub named_is : (year : ℤ) (named : Day) (day : ℤ) → IsTrue (is_rule_day named) → IsNamed year named day → rule_day year named ≡ Some day
unfolding rule_day
named_is year (JulianOne n) day in_range is = ap Some (sym (same_date year day n is))
named_is year (JulianZero n) day in_range is =
    let there : ltb n (days_in_year year) ≡ true = (let within = is.0 in grind (arith, nat_tests)) in
    rw there (ap Some (sym is.1))
named_is year (WeekdayOfMonth month week weekday) day in_range is = ap Some (weekday_found year month week weekday day (grind (arith, nat_tests)) is)

pub named_there : (year : ℤ) (named : Day) → IsTrue (is_rule_day named) → HasDay year named → (day : ℤ) × IsNamed year named day
named_there year (JulianOne n) in_range has =
    let all : days_of_months (pos 1970) 12 ≡ 365 = days_of_months_all (pos 1970) in
    let low : 1 ≤ n = grind (arith, nat_tests) in
    let high : n ≤ 365 = grind (arith, nat_tests) in
    date_there (in_month (pos 1970) 12 n low (omega arith))
  where
    date_there : (month : ℕ) × (date : ℕ) × (1 ≤ month) × (month ≤ 12) × (1 ≤ date) × (date ≤ days_in_month (pos 1970) month) × (days_of_months (pos 1970) (month - 1) + date ≡ n) → (day : ℤ) × IsSameDate year n day
    date_there (month, date, from, to, first, last, place) = (
      days_from_civil year month date,
      record {
        month = month;
        date = date;
        there = ((omega (arith, signed_arith), omega (arith, signed_arith)), (from, to), (first, last));
        place = place;
        day_is = refl;
      },
    )
named_there year (JulianZero n) in_range has = (days_from_civil year 1 1 +ℤ pos n, (has, refl))
named_there year (WeekdayOfMonth month week weekday) in_range has =
    weekday_there year month week weekday (grind (arith, nat_tests)) (grind (arith, nat_tests)) (grind (arith, nat_tests))

pub one_day : (year : ℤ) (named : Day) → IsTrue (is_rule_day named) → HasDay year named → IsOneDay year named
one_day year named in_range has =
    let found = named_there year named in_range has in
    record {
      day = found.0;
      is = found.1;
      only = λ other is. same_Some other found.0 (sym (named_is year named other in_range is) ∙ named_is year named found.0 in_range found.1);
    }
