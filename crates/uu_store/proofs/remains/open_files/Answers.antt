use Rattle.std.proofs.Common.{◌≡◌, sym, subst}
use Rattle.sqlite.specs.Files.{file_state}
use Rattle.sqlite_wal.specs.Files.{image_at}
use Rattle.uu_core.specs.State.{empty}
use Rattle.uu_store.specs.Kept.{Keeps}
use Rattle.uu_store.specs.Openings.{IsRightFault, LeavesAlone, LeavesAsKept}
use Rattle.uu_store.proofs.Images.{failed_has}
use Rattle.uu_store.proofs.Opening.{keeps_sound, none_fits, is_found, some_weaker, named_of_opening, left_of_opening, alone_of_opening}
use Rattle.uu_store.proofs.Refusing.{opening_cause}
use Rattle.uu_store.proofs.remains.open_files.Goals as goal

pub returns-in-Ok-clause-found : goal.returns-in-Ok-clause-found
returns-in-Ok-clause-found g c = is_found (image_at g.T.Start) (file_state c.in-Ok.conn) c.in-Ok.ensures.opened c.in-Ok.ensures.found

pub returns-in-Err-clause-named : goal.returns-in-Err-clause-named
returns-in-Err-clause-named g c = subst (IsRightFault (image_at g.T.Start) c.opening_fault.result) (sym c.of_opening.ensures)
    (named_of_opening (image_at g.T.Start) c.in-Err.left c.in-Err.error c.opening_fault.result c.opening_fault.ensures.named c.opening_fault.ensures.kind c.in-Err.ensures.unopened
    (some_weaker c.in-Err.left (λ it cause clean which is.
    let (files, settled, fails, leaves) = cause clean in
    opening_cause _ files g.T.Start.log g.T.Start.db settled.log_shows settled.db_shows it c.in-Err.error which (c.opening_fault.ensures.kind which is)
    (λ memory. let told = c.opening_fault.ensures.memory memory in cc) fails) c.in-Err.ensures.cause))

pub returns-in-Err-clause-left : goal.returns-in-Err-clause-left
returns-in-Err-clause-left g c = subst (LeavesAsKept (image_at g.T.Start)) (sym c.of_opening.ensures) (left_of_opening (image_at g.T.Start) c.in-Err.left (some_weaker c.in-Err.left (λ it cause clean taken s keeps.
    let (files, settled, fails, leaves) = cause clean in
    failed_has (λ trees. Keeps trees s) (s ≡ empty) (keeps_sound s) (none_fits s) _ files g.T.Start.log g.T.Start.db
    settled.log_shows settled.db_shows settled.log_stays settled.db_stays it leaves taken keeps) c.in-Err.ensures.cause))

pub returns-in-Err-clause-left_alone : goal.returns-in-Err-clause-left_alone
returns-in-Err-clause-left_alone g c = subst (LeavesAlone (image_at g.T.Start) c.opening_fault.result) (sym c.of_opening.ensures) (alone_of_opening (image_at g.T.Start) c.opening_fault.result c.in-Err.left)
