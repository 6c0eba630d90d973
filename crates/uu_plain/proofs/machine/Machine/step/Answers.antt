use Rattle.uu_plain.specs.Lists.{state_of}
use Rattle.uu_plain.proofs.PlainLemmas.{given_in_order}
use Rattle.uu_plain.proofs.machine.Machine.step.Goals as goal

pub invariant_of-self : goal.invariant_of-self
invariant_of-self c = given_in_order (state_of c.self.inside.lists) (state_of c.step.new.self) c.args.command c.step.result c.self.invariant c.step.ensures
