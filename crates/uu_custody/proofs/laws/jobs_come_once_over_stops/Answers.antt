use Rattle.uu_core.specs.After.{job_of}
use Rattle.uu_core.specs.declared.command.Command.TheVariants.{Queue}
use Rattle.uu_core.specs.declared.command.Reply.TheVariants.{Number}
use Rattle.uu_custody.specs.Events.{sender, exchanges_at}
use Rattle.uu_store.proofs.Acknowledging.{of_exchanges}
use Rattle.uu_custody.proofs.Coming.{come_once, of_world, nothing_in_the_way, runs_proceed, told_waited, first_waited}
use Rattle.std.proofs.Common.{inl, inr}
use Rattle.uu_custody.proofs.Sessions.{plainly}
use Rattle.uu_custody.proofs.laws.jobs_come_once_over_stops.Goals as goal

pub returns-clause-once : goal.returns-clause-once
returns-clause-once c crossing a b events sent received good well nothing p q keeps =
    let custody = c.handed_on_jobs_come_once.ensures in
    come_once custody.never_twice custody.apart custody.never_lost custody.same c.jobs_stay_through_runs.ensures.stays crossing a b sent received good well nothing events
    (runs_proceed crossing a b events sent received p q keeps)

pub returns-clause-world : goal.returns-clause-world
returns-clause-world c crossing a b events sent received good well nothing p q keeps =
    let custody = c.handed_on_jobs_come_once.ensures in
    of_world custody.never_twice custody.apart custody.never_lost custody.same c.jobs_stay_through_runs.ensures.stays crossing a b sent received good well nothing events
    (runs_proceed crossing a b events sent received p q keeps)

pub returns-clause-told : goal.returns-clause-told
returns-clause-told c crossing a b events sent received good well nothing p q keeps new number told own =
    let follow = c.runs_follow_one_another.ensures.states in
    (returns-clause-once c crossing a b events sent received good well nothing p q keeps).never_lost (job_of number new)
    (told_waited crossing a sent new number follow c.numbers_are_not_used_again.ensures.used c.jobs_stay_through_runs.ensures.queued
    (of_exchanges follow (exchanges_at sender events) a sent told.0 (Queue new) (Number number) (plainly crossing a _ sent p) told.1 told.2) own)

pub returns-clause-free : goal.returns-clause-free
returns-clause-free c crossing a b events sent received good well nothing p q keeps =
    nothing_in_the_way crossing a b events sent received (c.handed_on_jobs_come_once.ensures.gets_through crossing)
    (returns-clause-world c crossing a b events sent received good well nothing p q keeps)

pub returns-clause-told_under : goal.returns-clause-told_under
returns-clause-told_under c crossing a b events sent received good well nothing p q keeps key new number told =
    elim (c.acknowledged_jobs_are_accounted_for.ensures.under_keys a (exchanges_at sender events) sent key new number good (plainly crossing a _ sent p) told) [
      | inl was ↦ inl was.kept
      | inr it ↦ inr (
        it.0,
        it.1,
        λ own.
            (returns-clause-once c crossing a b events sent received good well nothing p q keeps).never_lost (job_of number it.0)
            (first_waited crossing a sent key it.0 number c.runs_follow_one_another.ensures.states c.jobs_stay_through_runs.ensures.queued_once it.1 own),
      )
    ]
