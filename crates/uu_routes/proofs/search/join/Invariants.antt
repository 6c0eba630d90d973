use Rattle.std.proofs.Common.{◌≡◌, drop, length}
use Rattle.uu_routes.specs.Internal.Labels.{joined}
use Rattle.uu_routes.proofs.search.join.Given as goal

abbrev pub invariant-loop-network : goal.invariant-loop-network
invariant-loop-network l = record {
  size : length l.labels.items ≡ length l.ways;
  rest : joined (drop l.network-index l.networks) l.ways l.labels.items ≡ joined l.networks l.ways l.initial.labels.items;
}
