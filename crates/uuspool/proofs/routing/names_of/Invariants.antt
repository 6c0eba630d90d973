use Rattle.std.proofs.Common.{◌≡◌, take, map}
use Rattle.uu_core.specs.declared.system.SystemRow.{SystemRow}
use Rattle.uuspool.proofs.routing.names_of.Given as goal

abbrev pub invariant-loop-system : goal.invariant-loop-system
invariant-loop-system l = l.names.items ≡ map (λ (row : SystemRow). row.def.name) (take l.system-index l.systems)
