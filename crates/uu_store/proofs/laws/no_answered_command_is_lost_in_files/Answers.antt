use Rattle.uu_store.specs.Files.{file_exchanges, last_left}
use Rattle.uu_store.specs.Acknowledged.{IsAccountedFor, IsAccountedForUnder}
use Rattle.uu_store.proofs.FileRuns.{all_keep, files_pass, claims_pass}
use Rattle.uu_store.proofs.laws.no_answered_command_is_lost_in_files.Goals as goal

pub returns-clause-commands : goal.returns-clause-commands
returns-clause-commands g c s keeps all =
    files_pass c.runs_follow_one_another.ensures.states c.runs_follow_one_another.ensures.replies g.H.FileHistory.stretches g.H.FileHistory.before s keeps all

pub returns-clause-throughout : goal.returns-clause-throughout
returns-clause-throughout g c s keeps all = all_keep c.runs_follow_one_another.ensures.replies g.H.FileHistory.stretches g.H.FileHistory.before s keeps all

pub returns-clause-jobs : goal.returns-clause-jobs
returns-clause-jobs g c s new number keeps all told =
    let stretches = g.H.FileHistory.stretches in
    let before = g.H.FileHistory.before in
    claims_pass c.states_stay_well_formed.ensures.empty stretches before (last_left before stretches) s (λ counted. IsAccountedFor s counted new number) keeps
    (λ good counted passes. c.acknowledged_jobs_are_accounted_for.ensures.plain s (file_exchanges stretches) counted new number good passes told)
    (returns-clause-commands g c s keeps all)

pub returns-clause-keys : goal.returns-clause-keys
returns-clause-keys g c s key new number keeps all told =
    let stretches = g.H.FileHistory.stretches in
    let before = g.H.FileHistory.before in
    claims_pass c.states_stay_well_formed.ensures.empty stretches before (last_left before stretches) s (λ counted. IsAccountedForUnder s counted key number) keeps
    (λ good counted passes. c.acknowledged_jobs_are_accounted_for.ensures.under_keys s (file_exchanges stretches) counted key new number good passes told)
    (returns-clause-commands g c s keeps all)
