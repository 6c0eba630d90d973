use Rattle.std.proofs.Common.{◌≡◌, drop, length}
use Rattle.uu_routes.specs.Internal.Labels.{relaxed}
use Rattle.uu_routes.proofs.label.relax.Given as goal

abbrev pub invariant-loop-edge : goal.invariant-loop-edge
invariant-loop-edge l = record {
  size : length l.labels.items ≡ length l.initial.labels.items;
  rest : relaxed l.base (drop l.edge-index l.edges) l.labels.items ≡ relaxed l.initial.base l.initial.edges l.initial.labels.items;
}
