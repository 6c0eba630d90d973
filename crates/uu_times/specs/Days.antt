-- Days of the week and hours of the day. Day 0 is Sunday.
use Rattle.std.specs.Prelude.{ℕ, Bool, true, ◌&&◌, ◌||◌, nat_le, if◌then◌else◌, Option, None, Some}

-- how many minutes a day has
abbrev pub day_minutes : ℕ
day_minutes = 1440

-- the day is one of those from first to last
abbrev pub spans : ℕ × ℕ → ℕ → Bool
spans days day = nat_le days.0 day && nat_le day days.1

-- The minute of the day is within the hours, both ends included. Hours that end before they begin
-- have the minutes of one day from their beginning on, and those up to their end (this project's
-- choice). Without hours it is the whole day.
abbrev pub in_hours : Option (ℕ × ℕ) → ℕ → Bool
in_hours None minute = true
in_hours (Some hours) minute =
    if nat_le hours.0 hours.1 then nat_le hours.0 minute && nat_le minute hours.1
    else nat_le hours.0 minute || nat_le minute hours.1
