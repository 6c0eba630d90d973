use Rattle.uu_core.proofs.NextCallLaws.{listed_then, not_listed_before, due_is_now}
use Rattle.uu_core.proofs.laws.calls_come_when_told.Goals as goal

pub returns-clause-listed : goal.returns-clause-listed
returns-clause-listed c zone rows jobs now second call at dues next = listed_then zone rows jobs now call next second at dues

pub returns-clause-not_before : goal.returns-clause-not_before
returns-clause-not_before c zone rows jobs now earlier call at dues by_name next = not_listed_before zone rows jobs now call next by_name earlier at dues

pub returns-clause-due : goal.returns-clause-due
returns-clause-due c zone rows jobs now call h next = due_is_now zone rows jobs now call next h
