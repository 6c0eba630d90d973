-- The lowest grade for which a system is called, and how long it is left alone after a failed call
-- (Taylor UUCP 1.07 manual, `time`, `timegrade` and `max-retries`; the growing waits are this
-- project's choice).
use Rattle.std.specs.Prelude.{ℕ, ◌+◌, ◌-◌, ◌*◌, ◌^◌, min, max, Bool, ◌&&◌, ◌==◌, nat_le, nat_lt, List, map, filter, find, Option, option_and_then, unwrap_or, if◌then◌else◌}
use Rattle.std.specs.List.{reduce}
use Rattle.uu_times.specs.System.{System}
use Rattle.uu_times.specs.Days.{day_minutes}
use Rattle.uu_times.specs.Ranges.{holds}
use Rattle.uu_times.specs.declared.system.Line.{Line}
use Rattle.uu_core.specs.declared.system.CallState.{CallState}
use Rattle.uu_core.specs.State.{most_failures}

-- the lines whose windows contain the minute of the week
abbrev pub lines_at : List Line → ℕ → List Line
lines_at lines week = filter (λ line. holds line.windows week) lines

-- the lowest grade among them, which has the greatest rank; none if there is no such line
abbrev pub limit_at : List Line → ℕ → Option ℕ
limit_at lines week = reduce max (map (λ line. line.grade) (lines_at lines week))

-- the line of that grade, the first on a tie
abbrev pub line_at : List Line → ℕ → Option Line
line_at lines week =
    option_and_then (λ grade. find (λ line. line.grade == grade) (lines_at lines week)) (limit_at lines week)

-- the failures in a row after one more
abbrev pub one_more : ℕ → ℕ
one_more failures = min (failures + 1) most_failures

-- the minutes to wait after a first failure if there is no retry number
abbrev pub first_wait : ℕ
first_wait = 10

-- the minutes to wait after so many failures if there is no retry number: 10, 20, 40, .. up to a
-- day
abbrev pub growing_minutes : ℕ → ℕ
growing_minutes failures = min day_minutes (first_wait * 2 ^ (failures - 1))

-- the minutes of the line's retry number, else the growing ones
abbrev pub retry_minutes : List Line → ℕ → ℕ → ℕ
retry_minutes lines week failures =
    unwrap_or (option_and_then (λ line. line.retry) (line_at lines week)) (growing_minutes failures)

-- after `max-retries` failures or more, at least a day
abbrev pub wait_minutes : System → ℕ → ℕ → ℕ
wait_minutes def week failures =
    if nat_le def.max_retries failures then max (retry_minutes def.lines week failures) day_minutes
    else retry_minutes def.lines week failures

-- the wait in seconds after so many failures, the last one at this minute of the week
abbrev pub wait_after : System → ℕ → ℕ → ℕ
wait_after def week failures = 60 * wait_minutes def week failures

-- the system is left alone: the wait has begun and isn't over; if the clock was set back to before
-- `last`, the system is free (this project's choice)
abbrev pub is_held : CallState → ℕ → Bool
is_held call now = nat_le call.last now && nat_lt now (call.last + call.wait)
