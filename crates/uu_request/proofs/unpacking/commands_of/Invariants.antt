use Rattle.std.proofs.Common.{◌≡◌, ◌++◌, length, map}
use Rattle.std.specs.Vec.Iter.{into_iter_items, into_iter_len}
use Rattle.uu_core.specs.TakeIns.{offering}
use Rattle.uu_request.proofs.unpacking.commands_of.Given as goal

-- the commands of the jobs that were gone over
abbrev pub invariant-loop-offered : goal.invariant-loop-offered
invariant-loop-offered l = record {
  offers : l.yielded ++ into_iter_items l.offered-iterator ≡ into_iter_items l.initial.offered-iterator;
  left : into_iter_len l.offered-iterator ≡ length (into_iter_items l.offered-iterator);
  commands : l.commands.items ≡ map (offering l.sender) l.yielded;
}
