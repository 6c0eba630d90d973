-- A wait is a year at most.
use Rattle.std.proofs.Common.{ℕ, ◌*◌, ◌≤◌, max, leb, Bool, true, false, cond, ◌==◌, find, Option, Some, None, IfSome, unwrap_or, option_and_then, arith}
use Rattle.std.proofs.lemmas.List.Elements.{All-filter}
use Rattle.uu_names.proofs.Basics.{found_has, and_then_has}
use Rattle.uu_times.specs.Days.{day_minutes}
use Rattle.uu_times.specs.System.{System, AreWithinLimits, HasRetry, IsRetry, most_retry_minutes}
use Rattle.uu_times.specs.declared.system.Line.{Line}
use Rattle.uu_core.specs.State.{most_wait}
use Rattle.uu_core.specs.Waiting.{lines_at, limit_at, line_at, retry_minutes, growing_minutes, wait_after}

retry_within : (line : Option Line) (growing : ℕ) → IfSome line HasRetry → growing ≤ day_minutes → unwrap_or (option_and_then (λ l. l.retry) line) growing ≤ most_retry_minutes
retry_within None growing h g = omega (arith, g)
retry_within (Some line) growing h g = by_retry line.retry h
  where
    by_retry : (retry : Option ℕ) → IfSome retry IsRetry → unwrap_or retry growing ≤ most_retry_minutes
    by_retry None h = omega (arith, g)
    by_retry (Some minutes) h = h.1

growing_within : (failures : ℕ) → growing_minutes failures ≤ day_minutes
growing_within failures = omega arith

minutes_within : (test : Bool) (minutes : ℕ) → minutes ≤ most_retry_minutes → 60 * cond test (max minutes day_minutes) minutes ≤ most_wait
minutes_within true minutes h = omega (arith, h)
minutes_within false minutes h = omega (arith, h)

pub wait_within : (def : System) (week failures : ℕ) → AreWithinLimits def.lines def.max_retries def.success_wait → wait_after def week failures ≤ most_wait
wait_within def week failures h =
    minutes_within (leb def.max_retries failures) (retry_minutes def.lines week failures)
    (retry_within (line_at def.lines week) (growing_minutes failures) (and_then_has HasRetry (λ grade. find (λ (line : Line). line.grade == grade) (lines_at def.lines week)) (λ grade. found_has HasRetry (λ (line : Line). line.grade == grade) (lines_at def.lines week) (All-filter _ HasRetry def.lines h.1)) (limit_at def.lines week)) (growing_within failures))
