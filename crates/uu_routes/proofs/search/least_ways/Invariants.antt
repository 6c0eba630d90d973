use Rattle.std.proofs.Common.{◌≡◌}
use Rattle.uu_routes.specs.Internal.Nets.{AreFound}
use Rattle.uu_routes.proofs.search.least_ways.Given as goal

abbrev pub invariant-loop-hops : goal.invariant-loop-hops
invariant-loop-hops l = record { found : AreFound l.net l.hops l.labels.items; links : l.links ≡ l.net.links }
