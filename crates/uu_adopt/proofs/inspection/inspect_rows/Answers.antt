use Rattle.std.proofs.Common.{refl}
use Rattle.uu_adopt.specs.AllRows.{TellsState}
use Rattle.uu_adopt.proofs.Composing.{answers, stops, and_then, of_version, same_version, not_some}
use Rattle.uu_adopt.proofs.inspection.inspect_rows.Goals as goal

pub returns-in_err-names_later-clause-finds : goal.returns-in_err-names_later-clause-finds
returns-in_err-names_later-clause-finds g c v = stops (c.names_later.ensures.reads v) c.from_residual.ensures.0

pub returns-then-branch-clause-finds : goal.returns-then-branch-clause-finds
returns-then-branch-clause-finds g c v = answers (c.in_ok-names_later.ensures.reads v) (λ ok. refl) (λ trees told tables. told.0 c.if-branch.true)

pub returns-in_default-clause-finds : goal.returns-in_default-clause-finds
returns-in_default-clause-finds g c v = answers (c.in_ok-names_later.ensures.reads v) (λ ok. refl) (λ trees told tables. absurd (not_some c.args.tables v c.in_default.is tables))

pub returns-in_err-are_of_a_state-clause-finds : goal.returns-in_err-are_of_a_state-clause-finds
returns-in_err-are_of_a_state-clause-finds g c v =
    stops (and_then (c.in_ok-names_later.ensures.reads v) (of_version g.S.Store TellsState v c.in-Some.version _ _ _ c.are_of_a_state.ensures)) c.from_residual-in_err-are_of_a_state.ensures.0

pub returns-then-branch-2-clause-finds : goal.returns-then-branch-2-clause-finds
returns-then-branch-2-clause-finds g c v =
    answers (and_then (c.in_ok-names_later.ensures.reads v) (of_version g.S.Store TellsState v c.in-Some.version _ _ _ c.in_ok-are_of_a_state.ensures)) (λ ok. refl)
    (λ trees found tables. (found.1 (same_version c.args.tables v c.in-Some.version tables c.in-Some.is)).0 c.if-branch-2.true)

pub returns-else-branch-2-clause-finds : goal.returns-else-branch-2-clause-finds
returns-else-branch-2-clause-finds g c v =
    answers (and_then (c.in_ok-names_later.ensures.reads v) (of_version g.S.Store TellsState v c.in-Some.version _ _ _ c.in_ok-are_of_a_state.ensures)) (λ ok. refl)
    (λ trees found tables. (found.0.1 c.if-branch.false, (found.1 (same_version c.args.tables v c.in-Some.version tables c.in-Some.is)).1 c.if-branch-2.false))
