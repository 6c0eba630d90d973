use Rattle.std.proofs.Common.{◌≡◌, ◌+◌, drop}
use Rattle.std.specs.List.{prefix_len}
use Rattle.uu_adopt.proofs.assembly.count_own.Given as goal

abbrev pub invariant-loop-child : goal.invariant-loop-child
invariant-loop-child g l = record { at : l.count ≡ l.child-index; rest : prefix_len (g.P.Owner.owns l.owner) l.children ≡ l.count + prefix_len (g.P.Owner.owns l.owner) (drop l.count l.children) }
