use Rattle.std.proofs.Common.{map}
use Rattle.sqlite.specs.Held.{state}
use Rattle.uu_store.specs.Stretches.{as_stretch, exchanges}
use Rattle.uu_store.specs.Acknowledged.{IsAccountedFor, IsAccountedForUnder}
use Rattle.uu_store.proofs.Reopening.{all_store, passes_from, left_somehow}
use Rattle.uu_store.proofs.Accounting.{stores_claim}
use Rattle.uu_store.proofs.laws.no_answered_command_is_lost_over.Goals as goal

pub returns-clause-commands : goal.returns-clause-commands
returns-clause-commands g c s before stretches found it =
    passes_from c.runs_follow_one_another.ensures.states c.runs_follow_one_another.ensures.replies (map (as_stretch g.S.Store) stretches) (state g.S.Store before).may_leave (state g.S.Store found) s it.kept it.led

pub returns-clause-throughout : goal.returns-clause-throughout
returns-clause-throughout g c s before stretches found it =
    all_store c.runs_follow_one_another.ensures.replies (map (as_stretch g.S.Store) stretches) (state g.S.Store before).may_leave (state g.S.Store found) s it.kept it.led

pub returns-clause-jobs : goal.returns-clause-jobs
returns-clause-jobs g c s before stretches found new number it acknowledged =
    let all = map (as_stretch g.S.Store) stretches in
    stores_claim c.states_stay_well_formed.ensures.empty (state g.S.Store before).may_leave all (state g.S.Store found) s (λ counted. IsAccountedFor s counted new number) it.kept
    (λ good counted passes. c.acknowledged_jobs_are_accounted_for.ensures.plain s (exchanges all) counted new number good passes acknowledged)
    (left_somehow all (state g.S.Store before).may_leave (state g.S.Store found) it.led) (returns-clause-commands g c s before stretches found it)

pub returns-clause-keys : goal.returns-clause-keys
returns-clause-keys g c s before stretches found key new number it acknowledged =
    let all = map (as_stretch g.S.Store) stretches in
    stores_claim c.states_stay_well_formed.ensures.empty (state g.S.Store before).may_leave all (state g.S.Store found) s (λ counted. IsAccountedForUnder s counted key number) it.kept
    (λ good counted passes. c.acknowledged_jobs_are_accounted_for.ensures.under_keys s (exchanges all) counted key new number good passes acknowledged)
    (left_somehow all (state g.S.Store before).may_leave (state g.S.Store found) it.led) (returns-clause-commands g c s before stretches found it)
