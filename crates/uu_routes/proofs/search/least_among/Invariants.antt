use Rattle.std.proofs.Common.{◌≡◌, drop, None}
use Rattle.std.specs.Prelude.{option_copied}
use Rattle.uu_routes.specs.Internal.Labels.{least_among}
use Rattle.uu_routes.proofs.search.least_among.Given as goal

abbrev pub invariant-loop-edge : goal.invariant-loop-edge
invariant-loop-edge l = least_among l.ways (drop l.edge-index l.edges) (option_copied l.least) ≡ least_among l.ways l.edges None
