-- What a rule with daylight saving time means (POSIX.1-2017, 8.3, the variable TZ), on the calendar
-- of `jiff_core`. Days are counted from 1970-01-01 on, and seconds from its midnight in UTC.
use Rattle.std.specs.Prelude.{◌≡◌, ℕ, ◌+◌, ◌-◌, ◌*◌, ◌<◌, ◌≤◌, nat_le, nat_lt, ℤ, pos, ◌+ℤ◌, ◌-ℤ◌, ◌*ℤ◌, ◌≤ℤ◌, ◌<ℤ◌, int_le, int_lt, Bool, true, ◌&&◌, ◌||◌, ◌==◌, if◌then◌else◌}
use Rattle.std.specs.Int.{int_rem_euclid}
use Rattle.jiff_core.specs.Calendar.{IsCivilDate, days_from_civil, days_in_month, days_in_year, day_of_year}
use Rattle.jiff_tz.specs.PosixText.{DstText}
use Rattle.jiff_tz.specs.declared.posix.Day.{Day}
use Rattle.jiff_tz.specs.declared.posix.Day.TheVariants.{JulianOne, JulianZero, WeekdayOfMonth}

-- ---- the days that a rule names

-- `Jn`: the date that is the nth day of a year without 29 February, as 1970
pub record IsSameDate (year : ℤ) (n : ℕ) (day : ℤ) : Type 0 where
  pub month : ℕ
  pub date : ℕ
  pub there : IsCivilDate (pos 1970) month date
  pub place : day_of_year (pos 1970) month date ≡ n
  pub day_is : day ≡ days_from_civil year month date

-- the day of the week, 0 for Sunday: 1970-01-01 was a Thursday
abbrev pub weekday_of : ℤ → ℤ
weekday_of day = int_rem_euclid (day +ℤ pos 4) (pos 7)

-- of the days of a month with one weekday, the first is that of week 1, and the last that of week 5
abbrev pub is_of_week : ℤ → ℕ → ℕ → ℕ → Bool
is_of_week year month week date =
    if week == 5 then nat_lt (days_in_month year month) (date + 7)
    else nat_lt (7 * (week - 1)) date && nat_le date (7 * week)

-- `Mm.w.d`: the day of the month that has this weekday and is of this week
pub record IsWeekdayOf (year : ℤ) (month week weekday : ℕ) (day : ℤ) : Type 0 where
  pub date : ℕ
  pub first : 1 ≤ date
  pub last : date ≤ days_in_month year month
  pub day_is : day ≡ days_from_civil year month date
  pub weekday_is : weekday_of day ≡ pos weekday
  pub week_is : is_of_week year month week date ≡ true

-- the day of the year that a rule names; `n` counts days from 1 January on, from 0, with 29
-- February
abbrev pub IsNamed : ℤ → Day → ℤ → Type 0
IsNamed year (JulianOne n) day = IsSameDate year n day
IsNamed year (JulianZero n) day = (n < days_in_year year) × (day ≡ days_from_civil year 1 1 +ℤ pos n)
IsNamed year (WeekdayOfMonth month week weekday) day = IsWeekdayOf year month week weekday day

-- the year has the day: a year of 365 days has no day `365`
abbrev pub HasDay : ℤ → Day → Type 0
HasDay year (JulianOne n) = Unit {0}
HasDay year (JulianZero n) = n < days_in_year year
HasDay year (WeekdayOfMonth month week weekday) = Unit {0}

-- a rule names exactly one day
pub record IsOneDay (year : ℤ) (named : Day) : Type 0 where
  pub day : ℤ
  pub is : IsNamed year named day
  pub only : (other : ℤ) → IsNamed year named other → other ≡ day

-- ---- when the clock changes

-- the second of a change: the rule's time on the day that it names, on a clock so many seconds
-- ahead of UTC
pub record IsChange (year : ℤ) (when : Day × ℤ) (ahead second : ℤ) : Type 0 where
  pub day : ℤ
  pub named : IsNamed year when.0 day
  pub at : second ≡ (pos 86400 *ℤ day +ℤ when.1) -ℤ ahead

-- daylight saving time begins by the clock of standard time, and ends by its own clock
pub record AreChanges (standard : ℤ) (daylight : DstText) (year begin end : ℤ) : Type 0 where
  pub begins : IsChange year daylight.start standard begin
  pub ends : IsChange year daylight.finish daylight.seconds end

-- daylight saving time lasts from its beginning to its end; if it ends first in the year, it lasts
-- up to the end, and again from the beginning on
abbrev pub is_daylight : ℤ → ℤ → ℤ → Bool
is_daylight begin end second =
    if int_le begin end then int_le begin second && int_lt second end
    else int_le begin second || int_lt second end

-- ---- years of UTC

abbrev pub new_year : ℤ → ℤ
new_year year = pos 86400 *ℤ days_from_civil year 1 1

abbrev pub IsOfYear : ℤ → ℤ → Type 0
IsOfYear year second = (new_year year ≤ℤ second) × (second <ℤ new_year (year +ℤ pos 1))

-- in the year, and not its first second
abbrev pub IsInside : ℤ → ℤ → Type 0
IsInside year second = (new_year year <ℤ second) × (second <ℤ new_year (year +ℤ pos 1))

-- The changes of a year are in that year, also as UTC counts it, and aren't its first second. The
-- library moves a change outside its year to the year's edge. So `EST5EDT,0/0,J365/25`, which means
-- daylight saving time all year (RFC 9636), has standard time in the first hours of each year.
pub record ChangesInside (standard : ℤ) (daylight : DstText) (year begin end : ℤ) : Type 0 where
  pub changes : AreChanges standard daylight year begin end
  pub begin_in : IsInside year begin
  pub end_in : IsInside year end
