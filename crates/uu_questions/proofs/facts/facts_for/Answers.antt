use Rattle.std.proofs.Common.{inl, inr, sym, subst}
use Rattle.std.specs.Prelude.{IfOk}
use Rattle.uu_core.specs.declared.command.Command.{Command}
use Rattle.uu_tables.specs.Plans.{IsFor}
use Rattle.uu_questions.proofs.facts.facts_for.Goals as goal

pub returns-in-Done-clause-asks : goal.returns-in-Done-clause-asks
returns-in-Done-clause-asks g c = rw c.in-Done.is (rw c.as_slice.ensures at c.done_facts.ensures.asks)

pub returns-in-Release-clause-asks : goal.returns-in-Release-clause-asks
returns-in-Release-clause-asks g c = rw c.in-Release.is (rw c.as_slice-in-Release.ensures at c.release_facts.ensures.asks)

pub returns-in-Kill-clause-suits : goal.returns-in-Kill-clause-suits
returns-in-Kill-clause-suits g c =
    elim c.in-Kill.is [
      | inl kill ↦ subst (λ (command : Command). IfOk c.job_facts.result (λ facts. IsFor facts command)) (sym kill.1) (c.job_facts.ensures.kill c.in-Kill.job kill.0)
      | inr (inl regrade) ↦ subst (λ (command : Command). IfOk c.job_facts.result (λ facts. IsFor facts command)) (sym regrade.2) (c.job_facts.ensures.regrade c.in-Kill.job regrade.0 regrade.1)
      | inr (inr rejuvenate) ↦ subst (λ (command : Command). IfOk c.job_facts.result (λ facts. IsFor facts command)) (sym rejuvenate.2) (c.job_facts.ensures.rejuvenate c.in-Kill.job rejuvenate.0 rejuvenate.1)
    ]
