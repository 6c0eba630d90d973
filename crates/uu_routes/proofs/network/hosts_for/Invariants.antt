use Rattle.std.proofs.Common.{◌≡◌, map, take}
use Rattle.uu_routes.specs.Map.{host_for}
use Rattle.uu_routes.proofs.network.hosts_for.Given as goal

abbrev pub invariant-loop-name : goal.invariant-loop-name
invariant-loop-name l = l.hosts.items ≡ map (host_for l.entries) (take l.name-index l.names)
