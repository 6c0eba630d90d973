use Rattle.uu_store.proofs.FileRuns.{stretch_is, closed_is}
use Rattle.uu_store.proofs.laws.calls_make_a_stretch.Goals as goal

pub returns-clause-let_go : goal.returns-clause-let_go
returns-clause-let_go g c in_hand before commands begun ended replies stopped store started ran last numbered = stretch_is in_hand before commands begun ended replies stopped started ran store last numbered

pub returns-clause-closed : goal.returns-clause-closed
returns-clause-closed g c in_hand before commands begun ended replies stopped files started ran close = closed_is in_hand before commands begun ended replies stopped started ran files close
