use Rattle.std.proofs.Common.{◌≡◌, drop}
use Rattle.uu_routes.specs.Map.{first_cost}
use Rattle.uu_routes.proofs.first.first_cost.Given as goal

abbrev pub invariant-loop-link : goal.invariant-loop-link
invariant-loop-link l = first_cost l.entries l.own l.host (drop l.link-index l.links) ≡ first_cost l.entries l.own l.host l.links
