use Rattle.std.proofs.Common.{◌≡◌, drop, find}
use Rattle.uuspool.specs.Answers.{is_of}
use Rattle.uuspool.proofs.routing.entry_of.Given as goal

abbrev pub invariant-loop-entry : goal.invariant-loop-entry
invariant-loop-entry l = find (is_of l.host) (drop l.entry-index l.entries) ≡ find (is_of l.host) l.entries
