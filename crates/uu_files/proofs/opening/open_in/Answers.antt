use Rattle.std.proofs.lemmas.Result.{IfOk-weaker}
use Rattle.uu_files.proofs.Settling.{failed_settled, settled_finds}
use Rattle.uu_files.proofs.opening.open_in.Goals as goal

pub returns-clause-found : goal.returns-clause-found
returns-clause-found g c = λ image settled.
    let files = c.pool_for.new.files in
    let now = c.pool_for.ensures.settled image settled in
    IfOk-weaker c.open_files_with.result _ _ (λ conn found clean. settled_finds image files now conn (found clean)) c.open_files_with.ensures.found

pub returns-clause-cause : goal.returns-clause-cause
returns-clause-cause g c = λ image settled.
    let files = c.pool_for.new.files in
    let now = c.pool_for.ensures.settled image settled in
    failed_settled image files now c.open_files_with.result c.open_files_with.ensures.cause c.open_files_with.ensures.unharmed
