-- A set of week minutes and its ranges. Minute 0 is Sunday 00:00, local, and 10,079 Saturday 23:59.
use Rattle.std.specs.Prelude.{ℕ, zero, suc, ◌+◌, ◌<◌, ◌≤◌, Bool, ◌&&◌, nat_le, ◌==◌, if◌then◌else◌, List, [], ◌∷◌}
use Rattle.std.specs.List.{list_any}

-- how many minutes a week has
abbrev pub week_minutes : ℕ
week_minutes = 10080

-- the minute lies in the range, both ends included
abbrev pub within : ℕ → ℕ × ℕ → Bool
within minute range = nat_le range.0 minute && nat_le minute range.1

-- the minute lies in one of the ranges
abbrev pub holds : List (ℕ × ℕ) → ℕ → Bool
holds ranges minute = list_any (within minute) ranges

-- ranges in order from the minute `start` on, with at least one minute between two that is in none
abbrev pub AreRunsFrom : ℕ → List (ℕ × ℕ) → Type 0
AreRunsFrom start [] = Unit {0}
AreRunsFrom start (range ∷ ranges) =
    (start ≤ range.0) × (range.0 ≤ range.1) × (range.1 < week_minutes) × AreRunsFrom (range.1 + 2) ranges

-- ranges of week minutes in order, with at least one minute between two that is in none
abbrev pub AreSeparateRanges : List (ℕ × ℕ) → Type 0
AreSeparateRanges ranges = AreRunsFrom 0 ranges

-- a minute put before the runs of later minutes
abbrev pub onto_runs : ℕ → List (ℕ × ℕ) → List (ℕ × ℕ)
onto_runs minute [] = (minute, minute) ∷ []
onto_runs minute (range ∷ ranges) =
    if range.0 == minute + 1 then (minute, range.1) ∷ ranges else (minute, minute) ∷ range ∷ ranges

-- the maximal runs of a set among so many minutes from `start` on
unfoldable pub runs_from : (ℕ → Bool) → ℕ → ℕ → List (ℕ × ℕ)
runs_from set start zero = []
runs_from set start (suc count) =
    if set start then onto_runs start (runs_from set (start + 1) count) else runs_from set (start + 1) count

-- the maximal runs of a set of week minutes: first and last minute of each, in order
unfoldable pub maximal_runs : (ℕ → Bool) → List (ℕ × ℕ)
maximal_runs set = runs_from set 0 week_minutes
