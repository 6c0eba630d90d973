-- What the code keeps of simple strings: days as seven flags, and hours.
use Rattle.std.specs.Prelude.{ℕ, ◌/◌, ◌%◌, Bool, false, ◌&&◌, ◌||◌, ◌==◌, if◌then◌else◌, Option, None, Some, option_map, List, [], ◌∷◌}
use Rattle.std.specs.List.{list_any}
use Rattle.std.specs.Str.{byte}
use Rattle.uu_times.specs.declared.days.Days.{Days}
use Rattle.uu_times.specs.declared.days.Simple.{Simple}
use Rattle.uu_times.specs.Days.{day_minutes, spans, in_hours}
use Rattle.uu_times.specs.Grammar.{DayWord, word_days, Spelling, bounds_of}

-- the first and the last day that a day word of two letters names, in lower case: `wk` is Monday to
-- Friday
abbrev pub two_letters : ℕ → ℕ → Option (ℕ × ℕ)
two_letters first second =
    if first == byte "s" && second == byte "u" then Some (0, 0)
    else (if first == byte "m" && second == byte "o" then Some (1, 1)
    else (if first == byte "t" && second == byte "u" then Some (2, 2)
    else (if first == byte "w" && second == byte "e" then Some (3, 3)
    else (if first == byte "t" && second == byte "h" then Some (4, 4)
    else (if first == byte "f" && second == byte "r" then Some (5, 5)
    else (if first == byte "s" && second == byte "a" then Some (6, 6)
    else (if first == byte "w" && second == byte "k" then Some (1, 5)
    else None)))))))

-- no day
abbrev pub no_days : Days
no_days = record { sunday = false; monday = false; tuesday = false; wednesday = false; thursday = false; friday = false; saturday = false }

-- these days, and those of a day word
abbrev pub with_days : Days → ℕ × ℕ → Days
with_days days more = record {
  sunday = days.sunday || spans more 0;
  monday = days.monday || spans more 1;
  tuesday = days.tuesday || spans more 2;
  wednesday = days.wednesday || spans more 3;
  thursday = days.thursday || spans more 4;
  friday = days.friday || spans more 5;
  saturday = days.saturday || spans more 6;
}

-- whether the day is among them
abbrev pub has_day : Days → ℕ → Bool
has_day days day =
    if day == 0 then days.sunday
    else (if day == 1 then days.monday
    else (if day == 2 then days.tuesday
    else (if day == 3 then days.wednesday
    else (if day == 4 then days.thursday
    else (if day == 5 then days.friday
    else days.saturday)))))

-- whether the simple string has the minute of the week
abbrev pub has_minute : ℕ → Simple → Bool
has_minute minute simple = has_day simple.days (minute / day_minutes) && in_hours simple.hours (minute % day_minutes)

-- whether one of the simple strings has it
abbrev pub any_has : List Simple → ℕ → Bool
any_has simples minute = list_any (has_minute minute) simples

-- the days of words, added to other days
abbrev pub days_of : Days → List DayWord → Days
days_of days [] = days
days_of days (word ∷ words) = days_of (with_days days (word_days word)) words

-- what is kept of a simple string
abbrev pub simple_of : Spelling → Simple
simple_of spelling = record { days = days_of no_days spelling.words; hours = option_map bounds_of spelling.hours }
