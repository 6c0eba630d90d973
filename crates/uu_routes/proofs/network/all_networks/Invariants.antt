use Rattle.std.proofs.Common.{◌≡◌, take}
use Rattle.std.specs.Prelude.{flat_map}
use Rattle.uu_routes.specs.Map.{networks_in}
use Rattle.uu_routes.proofs.network.all_networks.Given as goal

abbrev pub invariant-loop-entry : goal.invariant-loop-entry
invariant-loop-entry l = l.found.items ≡ flat_map (networks_in l.entries) (take l.entry-index l.entries)
