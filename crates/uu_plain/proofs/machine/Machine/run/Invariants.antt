use Rattle.std.proofs.Common.{◌≡◌}
use Rattle.uu_core.specs.Run.{state_after, replies_to}
use Rattle.uu_plain.proofs.machine.Machine.run.Given as goal

abbrev pub invariant-loop-command : goal.invariant-loop-command
invariant-loop-command l = record {
  state : l.self ≡ state_after l.initial.self l.yielded;
  replies : l.replies.items ≡ replies_to l.initial.self l.yielded;
}
