use Rattle.uu_core.specs.declared.command.Command.TheVariants.{Queue, QueueOnce}
use Rattle.uu_core.specs.declared.command.Reply.TheVariants.{Number}
use Rattle.uu_store.proofs.Acknowledging.{of_exchanges, accounted, accounted_under}
use Rattle.uu_store.proofs.laws.acknowledged_jobs_are_accounted_for.Goals as goal

pub returns-clause-plain : goal.returns-clause-plain
returns-clause-plain c s told_of counted new number good passes told =
    let follow = c.runs_follow_one_another.ensures.states in
    let numbers = c.numbers_are_not_used_again.ensures in
    let stay = c.jobs_stay_through_runs.ensures in
    let made = c.jobs_are_handed_in.ensures in
    accounted follow numbers.rise numbers.handed_in stay.queued stay.queued_once stay.stays made.step made.run s good number counted new
    (of_exchanges follow told_of s counted told.0 (Queue new) (Number number) passes told.1 told.2)

pub returns-clause-under_keys : goal.returns-clause-under_keys
returns-clause-under_keys c s told_of counted key new number good passes told =
    let follow = c.runs_follow_one_another.ensures.states in
    let numbers = c.numbers_are_not_used_again.ensures in
    let stay = c.jobs_stay_through_runs.ensures in
    let made = c.jobs_are_handed_in.ensures in
    accounted_under follow numbers.rise numbers.handed_in stay.queued stay.queued_once stay.stays made.step made.run s good number c.keys_are_answered_again.ensures.kept c.keys_are_answered_again.ensures.origin counted key new
    (of_exchanges follow told_of s counted told.0 (QueueOnce key new) (Number number) passes told.1 told.2)
