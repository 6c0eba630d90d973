use Rattle.std.proofs.Common.{Ok, sym, ap, subst, ◌∙◌}
use Rattle.uu_questions.specs.Systems.{AreRowsOfSystems}
use Rattle.uu_questions.proofs.SystemRows.{rows_theirs}
use Rattle.uu_questions.proofs.systems.systems_of.Goals as goal

pub returns-clause-systems : goal.returns-clause-systems
returns-clause-systems c =
    let systems = c.args.systems.items in
    let theirs = rw c.deref.ensures.value at (c.are_of_systems.ensures.yes (c.in_ok-are_of_systems.was ∙ ap Ok c.if-not-branch.false)) in
    subst (λ made. AreRowsOfSystems made systems) (sym (c.in_ok-rows_from.ensures ∙ rows_theirs systems theirs.0 theirs.1)) theirs.1
