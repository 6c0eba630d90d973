-- What a sys file says about a system (Taylor UUCP 1.07 manual, "The Sys File"; the limits are this
-- project's choice).
use Rattle.std.specs.Prelude.{ℕ, ◌≤◌, List, length, IfSome, All}
use Rattle.uu_times.specs.declared.system.Line.{Line}

-- a system, the lines that say when it may be called, after how many failures in a row calls become
-- rare, and how many seconds it is left alone after a successful call
pub record System : Type 0 where
  pub name : List ℕ
  pub lines : List Line
  pub max_retries : ℕ
  pub success_wait : ℕ

-- the most time lines of a system
abbrev pub most_lines : ℕ
most_lines = 32

-- the most minutes before a call is tried again: a year
abbrev pub most_retry_minutes : ℕ
most_retry_minutes = 525600

-- the most failures in a row after which calls may become rare, and the number if a sys file
-- doesn't say
abbrev pub most_retries : ℕ
most_retries = 1000000

abbrev pub default_retries : ℕ
default_retries = 26

-- the most seconds that a system is left alone after a successful call, 365 days, and the number if
-- a sys file doesn't say
abbrev pub most_success_wait : ℕ
most_success_wait = 31536000

abbrev pub default_success_wait : ℕ
default_success_wait = 0

-- a minute to a year
abbrev pub IsRetry : ℕ → Type 0
IsRetry minutes = (1 ≤ minutes) × (minutes ≤ most_retry_minutes)

-- a line's retry number, if it has one, is within its limits
abbrev pub HasRetry : Line → Type 0
HasRetry line = IfSome line.retry IsRetry

-- at most 32 lines, each retry number within its limits, at most a million failures, and at most a
-- year after a successful call
abbrev pub AreWithinLimits : List Line → ℕ → ℕ → Type 0
AreWithinLimits lines max_retries success_wait = (length lines ≤ most_lines) × All HasRetry lines × (max_retries ≤ most_retries) × (success_wait ≤ most_success_wait)
