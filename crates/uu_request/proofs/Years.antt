-- The years that a site's clock may show.
use Rattle.std.proofs.Common.{◌≡◌, ℕ, refl, arith, ℤ, pos, negsuc, neg_ℤ, ◌≤ℤ◌}
use Rattle.std.proofs.lemmas.Int.{by_lt_z, ints}
use Rattle.std.specs.Int.{int_div_euclid}
use Rattle.jiff_core.specs.Date.{epoch_day}
use Rattle.jiff_core.specs.declared.civil.date.Date.{Date}
use Rattle.jiff_core.specs.declared.civil.datetime.DateTime.{DateTime}
use Rattle.jiff_core.proofs.SignedLemmas.{signed_arith}
use Rattle.jiff_core.proofs.CalendarLemmas.{days_from_civil-day_count, day_count-epoch, day_count-lt_year}
use Rattle.jiff_core.proofs.DateLemmas.{civil, days_from_civil-day, days_from_civil-next_year}
use Rattle.jiff_core.specs.Timestamp.{IsOffsetSeconds}
use Rattle.uu_times.specs.Moment.{IsDateTimeAt, local_second}
use Rattle.uu_times.specs.Zone.{offset_at}
use Rattle.uu_times.specs.declared.zone.Zone.{Zone}

-- a date of 1969-12-30 or later
year_from : (d : Date) → neg_ℤ (pos 2) ≤ℤ epoch_day d → pos 1000 ≤ℤ d.year
year_from d late =
    by_lt_z d.year (pos 1969)
    (λ before. absurd (omega (
      arith,
      signed_arith,
      late,
      day_count-epoch,
      days_from_civil-day_count d.year d.month d.day,
      days_from_civil-day_count (pos 1969) 12 30,
      days_from_civil-day (pos 1969) 12 30 31 (omega arith) (omega arith),
      days_from_civil-day_count (pos 1970) 1 1,
      days_from_civil-next_year (pos 1969) (pos 1970) (omega (arith, signed_arith)) refl,
      day_count-lt_year d.year d.month d.day (pos 1969) 12 30 (civil d) (omega arith) before,
    )))
    (λ after. omega (arith, signed_arith))

-- the day of a second that is at most two days before the first
day_from : (shown day : ℤ) → neg_ℤ (pos 172800) ≤ℤ shown → day ≡ int_div_euclid shown (pos 86400) → neg_ℤ (pos 2) ≤ℤ day
day_from (pos s) day from is = omega (arith, ints)
day_from (negsuc s) day from is = omega (arith, ints)

pub shown_year : (local : DateTime) (second : ℕ) (zone : Zone) → IsOffsetSeconds (offset_at zone second) → IsDateTimeAt local (local_second zone second)
    → (pos 1000 ≤ℤ local.date.year) × (local.date.year ≤ℤ pos 9999)
shown_year local second zone within shown =
    let from : neg_ℤ (pos 172800) ≤ℤ local_second zone second = omega (arith, signed_arith, within.0) in
    (year_from local.date (day_from (local_second zone second) (epoch_day local.date) from shown.day), omega (arith, signed_arith, civil local.date))
