-- From simple strings to the runs of their minutes.
use Rattle.std.specs.Prelude.{ℕ, zero, suc, ◌+◌, ◌*◌, ◌<◌, nat_le, if◌then◌else◌, max, Option, None, Some, IfSome, List, [], ◌∷◌, ◌++◌}
use Rattle.std.specs.List.{flat_map}
use Rattle.uu_times.specs.declared.days.Simple.{Simple}
use Rattle.uu_times.specs.Internal.Simples.{has_day}

-- hours end within the day
abbrev pub IsDaily : Simple → Type 0
IsDaily simple = IfSome simple.hours (λ hours. (hours.0 < 1440) × (hours.1 < 1440))

-- the hours of the day whose first minute of the week is given
abbrev pub day_ranges : ℕ → Option (ℕ × ℕ) → List (ℕ × ℕ)
day_ranges first None = (first, first + 1439) ∷ []
day_ranges first (Some hours) =
    if nat_le hours.0 hours.1 then (first + hours.0, first + hours.1) ∷ []
    else (first, first + hours.1) ∷ (first + hours.0, first + 1439) ∷ []

-- the ranges of a simple string on a day
abbrev pub ranges_on : Simple → ℕ → List (ℕ × ℕ)
ranges_on simple day = if has_day simple.days day then day_ranges (1440 * day) simple.hours else []

-- the ranges of the days below the given one
unfoldable pub days_ranges : Simple → ℕ → List (ℕ × ℕ)
days_ranges simple zero = []
days_ranges simple (suc day) = days_ranges simple day ++ ranges_on simple day

-- the ranges of simple strings
abbrev pub week_ranges : List Simple → List (ℕ × ℕ)
week_ranges simples = flat_map (λ simple. days_ranges simple 7) simples

-- ranges in order of their first minutes, merged if no minute lies between two; the first one is
-- apart already
abbrev pub merged_from : ℕ × ℕ → List (ℕ × ℕ) → List (ℕ × ℕ)
merged_from run [] = run ∷ []
merged_from run (range ∷ ranges) =
    if nat_le range.0 (run.1 + 1) then merged_from (run.0, max run.1 range.1) ranges else run ∷ merged_from range ranges

abbrev pub merged : List (ℕ × ℕ) → List (ℕ × ℕ)
merged [] = []
merged (range ∷ ranges) = merged_from range ranges
