use Rattle.std.proofs.Common.{refl, arith}
use Rattle.std.proofs.lemmas.List.Elements.{All-weaker}
use Rattle.uu_core.specs.Laws.{new_numbers}
use Rattle.uu_renumber.specs.Renumbered.{renumbered}
use Rattle.uu_renumber.proofs.Renumbering.{good, above_both, needless, same_verdict, same_after}
use Rattle.uu_renumber.proofs.laws.renumbered_spools_give_new_numbers.Goals as goal

pub returns-clause-good : goal.returns-clause-good
returns-clause-good c = good

pub returns-clause-same : goal.returns-clause-same
returns-clause-same c state number = refl

pub returns-clause-needless : goal.returns-clause-needless
returns-clause-needless c = needless

pub returns-clause-verdict : goal.returns-clause-verdict
returns-clause-verdict c = same_verdict

pub returns-clause-after : goal.returns-clause-after
returns-clause-after c = same_after

pub returns-clause-queued : goal.returns-clause-queued
returns-clause-queued c state number given job e =
    let is = (c.numbers_are_not_used_again.ensures.used (renumbered number state) job given e).0 in omega arith

pub returns-clause-fresh : goal.returns-clause-fresh
returns-clause-fresh c state number commands =
    All-weaker _ _ (above_both state.next number) (new_numbers (renumbered number state) commands) (c.numbers_are_not_used_again.ensures.fresh (renumbered number state) commands)
