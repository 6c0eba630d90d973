-- Local time and the minute of the local week. Division rounds towards minus infinity.
use Rattle.std.specs.Prelude.{◌≡◌, ℕ, ◌<◌, ℤ, pos, ◌+ℤ◌, ◌*ℤ◌}
use Rattle.std.specs.Int.{int_div_euclid, int_rem_euclid}
use Rattle.jiff_core.specs.Date.{epoch_day}
use Rattle.jiff_core.specs.Time.{time_nanos}
use Rattle.jiff_core.specs.declared.civil.datetime.DateTime.{DateTime}
use Rattle.uu_times.specs.Zone.{offset_at}
use Rattle.uu_times.specs.declared.zone.Zone.{Zone}

-- the last second of a moment: the first one of the year 2100 (this project's choice)
abbrev pub last_second : ℕ
last_second = 4102444800

abbrev pub IsPast : ℕ → Type 0
IsPast second = last_second < second

-- the second that a zone's clock shows at a UTC second
abbrev pub local_second : Zone → ℕ → ℤ
local_second zone second = pos second +ℤ offset_at zone second

-- the minute of the week, from Sunday 00:00 on: 1970-01-01 was a Thursday, the fifth day
abbrev pub week_minute : ℤ → ℤ
week_minute shown = int_rem_euclid (int_div_euclid shown (pos 60) +ℤ pos 5760) (pos 10080)

-- the date and the time of day at a second that a clock shows
pub record IsDateTimeAt (local : DateTime) (shown : ℤ) : Type 0 where
  pub day : epoch_day local.date ≡ int_div_euclid shown (pos 86400)
  pub time : pos (time_nanos local.time) ≡ int_rem_euclid shown (pos 86400) *ℤ pos 1_000_000_000
