-- When each system can next be called, for which job, and why not before. (Held systems and limits:
-- Taylor UUCP 1.07 manual, on the time commands of the sys file. How far it looks ahead, what it
-- says, and in which order, is this project's choice.)
use Rattle.std.specs.Prelude.{◌≡◌, ◌≢◌, ℕ, ◌+◌, ◌*◌, ◌%◌, ◌<◌, ◌≤◌, max, ℤ, pos, negsuc, Bool, true, false, ◌&&◌, ◌||◌, ◌==◌, nat_le, nat_lt, List, [], map, Option, Some, None, IfSome, ⊤, All, AllPairs, Contains, if◌then◌else◌}
use Rattle.std.specs.Ordering.{nat_cmp, is_lt}
use Rattle.std.specs.Cmp.Lexicographic.{slice_cmp}
use Rattle.uu_times.specs.Moment.{last_second, local_second, week_minute}
use Rattle.uu_times.specs.declared.moment.Moment.{Moment}
use Rattle.uu_times.specs.declared.zone.Zone.{Zone}
use Rattle.uu_core.specs.declared.due.Due.{Due}
use Rattle.uu_core.specs.declared.job.JobHead.{JobHead}
use Rattle.uu_core.specs.declared.system.CallState.{CallState}
use Rattle.uu_core.specs.declared.system.SystemRow.{SystemRow}
use Rattle.uu_core.specs.declared.next_call.NextCall.{NextCall}
use Rattle.uu_core.specs.declared.next_call.NextPoll.{NextPoll}
use Rattle.uu_core.specs.declared.next_call.Why.{Why}
use Rattle.uu_core.specs.declared.next_call.Why.TheVariants as why
use Rattle.uu_core.specs.State.{same_text}
use Rattle.uu_core.specs.Waiting.{limit_at, is_held}
use Rattle.uu_core.specs.Due.{is_within}
use Rattle.uu_core.specs.Queues.{jobs_for, IsFirstJob}

-- ---- at a second

-- a number that isn't negative
abbrev pub natural : ℤ → ℕ
natural (pos n) = n
natural (negsuc n) = 0

-- the minute of the week that the site's clock shows at a UTC second
unfoldable pub week_at : Zone → ℕ → ℕ
week_at zone second = natural (week_minute (local_second zone second))

-- the lowest grade for which the system may be called at the second, if it may; the second is in
-- this minute of the week
abbrev pub limit_by : SystemRow → ℕ → ℕ → Option ℕ
limit_by row second week = if is_held row.call second then None else limit_at row.def.lines week

abbrev pub limit_in : Zone → SystemRow → ℕ → Option ℕ
limit_in zone row second = limit_by row second (week_at zone second)

-- ---- the seconds looked at

-- how far it looks ahead: 28 days
abbrev pub looked_ahead : ℕ
looked_ahead = 28 * 86400

-- The end of the system's wait if that is later, else the second itself. If the clock was set back
-- to before the last call, it comes to the wait again.
abbrev pub free_from : CallState → ℕ → ℕ
free_from call now = max now (call.last + call.wait)

-- The seconds looked at are the second of the question and each later whole minute of UTC, up to 28
-- days after it. If the system's wait ends after it, they go up to 28 days after that end. None is
-- after the last moment.
abbrev pub is_looked_at : CallState → ℕ → ℕ → Bool
is_looked_at call now second =
    (second == now || (nat_lt now second && second % 60 == 0))
    && nat_le second (free_from call now + looked_ahead) && nat_le second last_second

-- ---- the next call

-- at the second, which is looked at, the system may be called for the grade
abbrev pub is_callable : Zone → SystemRow → ℕ → ℕ → ℕ → Bool
is_callable zone row grade now second = is_looked_at row.call now second && is_within (limit_in zone row second) grade

-- the least number that passes a test, if one does
abbrev pub IsLeast : (ℕ → Bool) → Option ℕ → Type 0
IsLeast test (Some least) = (test least ≡ true) × ((other : ℕ) → test other ≡ true → least ≤ other)
IsLeast test None = (other : ℕ) → test other ≡ false

-- no time line is open, or those that are open are for higher grades, or the system is left alone
abbrev pub why_limited : Bool → Option ℕ → ℕ → Why
why_limited held None grade = why.Closed
why_limited held (Some limit) grade = if nat_le grade limit then (if held then why.Held else why.Due) else why.Grade

-- why the system is, or isn't, called for the grade at the second, which is in this minute of the
-- week
abbrev pub why_by : SystemRow → ℕ → ℕ → ℕ → Why
why_by row grade second week = why_limited (is_held row.call second) (limit_at row.def.lines week) grade

abbrev pub why_at : Zone → SystemRow → ℕ → ℕ → Why
why_at zone row grade second = why_by row grade second (week_at zone second)

-- The seconds looked at before the next call, and the present one. If no call comes, all of them.
abbrev pub is_looked_at_before : CallState → ℕ → Option ℕ → ℕ → Bool
is_looked_at_before call now None second = is_looked_at call now second
is_looked_at_before call now (Some next) second = is_looked_at call now second && (second == now || nat_lt second next)

-- the greatest number that passes a test
abbrev pub IsGreatest : (ℕ → Bool) → ℕ → Type 0
IsGreatest test greatest = (test greatest ≡ true) × ((other : ℕ) → test other ≡ true → other ≤ greatest)

-- Why the system isn't called before the next call, or `Due` if it is called now. Of several
-- reasons it is the one that ends last: the reason at the last second before the call.
pub record IsReason (zone : Zone) (row : SystemRow) (grade now : ℕ) (next : Option ℕ) (reason : Why) : Type 0 where
  pub last : ℕ
  pub is_last : IsGreatest (is_looked_at_before row.call now next) last
  pub reason_is : reason ≡ why_at zone row grade last

-- when a system that has a job can next be called for the first of its jobs; if it may be called
-- for any of them, it may be called for that one
pub record IsNextCall (zone : Zone) (rows : List SystemRow) (jobs : List JobHead) (now : ℕ) (next : NextCall) : Type 0 where
  pub row : SystemRow
  pub there : Contains rows row
  pub system : next.system ≡ row.def.name
  pub job : IsFirstJob (jobs_for row.def.name jobs) next.grade next.number
  pub second : IsLeast (is_callable zone row next.grade now) next.second
  pub why : IsReason zone row next.grade now next.second next.why

-- by second, and those that are never called last
abbrev pub is_sooner_at : Option ℕ → Option ℕ → Bool → Bool → Bool
is_sooner_at (Some first) (Some second) by_job by_name = nat_lt first second || (first == second && by_job)
is_sooner_at (Some first) None by_job by_name = true
is_sooner_at None (Some second) by_job by_name = false
is_sooner_at None None by_job by_name = by_name

-- the one comes before the other: by second, and then by grade and number; of those that are never
-- called, by the bytes of their names
abbrev pub is_sooner : NextCall → NextCall → Bool
is_sooner a b =
    is_sooner_at a.second b.second (nat_lt a.grade b.grade || (a.grade == b.grade && nat_lt a.number b.number))
    (is_lt (slice_cmp nat_cmp a.system b.system))

-- when each system that has a job can next be called, one for each of them, in that order
pub record AreNextCalls (zone : Zone) (rows : List SystemRow) (jobs : List JobHead) (now : ℕ) (calls : List NextCall) : Type 0 where
  pub sound : All (IsNextCall zone rows jobs now) calls
  pub each : (row : SystemRow) → Contains rows row → jobs_for row.def.name jobs ≢ [] → Contains (map (λ call. call.system) calls) row.def.name
  pub once : AllPairs (λ a b. same_text a.system b.system ≡ false) calls
  pub in_order : AllPairs (λ a b. is_sooner b a ≡ false) calls

-- ---- calls without a job

-- the highest grade: a system that may be called for any grade may be called for this one
abbrev pub highest : ℕ
highest = 0

-- when a system can next be called, with a job or without one: for the highest grade
pub record IsNextPoll (zone : Zone) (rows : List SystemRow) (now : ℕ) (next : NextPoll) : Type 0 where
  pub row : SystemRow
  pub there : Contains rows row
  pub system : next.system ≡ row.def.name
  pub second : IsLeast (is_callable zone row highest now) next.second
  pub why : IsReason zone row highest now next.second next.why

-- by second, and in one second by the bytes of the names; those that are never called last
abbrev pub is_polled_sooner : NextPoll → NextPoll → Bool
is_polled_sooner a b =
    let by_name = is_lt (slice_cmp nat_cmp a.system b.system) in
    is_sooner_at a.second b.second by_name by_name

-- when each system can next be called, one for each of them, in that order
pub record AreNextPolls (zone : Zone) (rows : List SystemRow) (now : ℕ) (polls : List NextPoll) : Type 0 where
  pub sound : All (IsNextPoll zone rows now) polls
  pub each : (row : SystemRow) → Contains rows row → Contains (map (λ poll. poll.system) polls) row.def.name
  pub once : AllPairs (λ a b. same_text a.system b.system ≡ false) polls
  pub in_order : AllPairs (λ a b. is_polled_sooner b a ≡ false) polls

-- it isn't before the second of the question, or after the last moment
abbrev pub IsInTime : ℕ → Option ℕ → Type 0
IsInTime now next = IfSome next (λ second. (now ≤ second) × (second ≤ last_second))

abbrev pub IsAhead : ℕ → NextCall → Type 0
IsAhead now call = IsInTime now call.second

abbrev pub IsPollAhead : ℕ → NextPoll → Type 0
IsPollAhead now poll = IsInTime now poll.second

-- ---- compared with what is due

-- the moment of a second on the site's clock
pub record IsMomentAt (zone : Zone) (second : ℕ) (at : Moment) : Type 0 where
  pub second_is : at.second ≡ second
  pub week_is : pos at.week ≡ week_minute (local_second zone second)

-- what is listed for the call if the system is due
abbrev pub due_by : NextCall → Due
due_by call = record { system = call.system; grade = call.grade; number = call.number }

-- before the second of the next call, or at any second if none comes
abbrev pub IsEarlier : ℕ → Option ℕ → Type 0
IsEarlier earlier (Some second) = earlier < second
IsEarlier earlier None = ⊤

-- ---- how they are found

-- the answer for one system
pub record IsToldOf (zone : Zone) (row : SystemRow) (now : ℕ) (call : NextCall) : Type 0 where
  pub system : call.system ≡ row.def.name
  pub second : IsLeast (is_callable zone row call.grade now) call.second
  pub why : IsReason zone row call.grade now call.second call.why

pub record IsPollToldOf (zone : Zone) (row : SystemRow) (now : ℕ) (poll : NextPoll) : Type 0 where
  pub system : poll.system ≡ row.def.name
  pub second : IsLeast (is_callable zone row highest now) poll.second
  pub why : IsReason zone row highest now poll.second poll.why

-- the first minute from one on and before another that passes a test, as the second at which it
-- begins
abbrev pub IsFirstOpen : (ℕ → Bool) → ℕ → ℕ → Option ℕ → Type 0
IsFirstOpen test from end None = (minute : ℕ) → from ≤ minute → minute < end → test minute ≡ false
IsFirstOpen test from end (Some second) =
    (minute : ℕ) × (second ≡ 60 * minute) × (from ≤ minute) × (minute < end) × (test minute ≡ true)
    × ((other : ℕ) → from ≤ other → other < minute → test other ≡ false)

-- the key by which calls are sorted
abbrev pub turn_at : Option ℕ → ℕ → ℕ → ℕ × ℕ × ℕ
turn_at (Some second) grade number = (second, grade, number)
turn_at None grade number = (18446744073709551615, 0, 0)

abbrev pub turn_of : NextCall → ℕ × ℕ × ℕ
turn_of call = turn_at call.second call.grade call.number

abbrev pub poll_turn_at : Option ℕ → ℕ
poll_turn_at (Some second) = second
poll_turn_at None = 18446744073709551615

abbrev pub poll_turn : NextPoll → ℕ
poll_turn poll = poll_turn_at poll.second
