use Rattle.std.proofs.Common.{◌≡◌, drop, length}
use Rattle.uu_routes.specs.Internal.Labels.{rounded}
use Rattle.uu_routes.proofs.search.round.Given as goal

abbrev pub invariant-loop-at : goal.invariant-loop-at
invariant-loop-at l = record {
  size : length l.labels.items ≡ length l.ways;
  rest : rounded (drop l.at l.links) (drop l.at l.ways) l.labels.items ≡ rounded l.links l.ways l.initial.labels.items;
}
