use Rattle.std.proofs.Common.{◌≡◌, drop}
use Rattle.uu_routes.specs.Site.{system_for}
use Rattle.uu_routes.proofs.site.system_for.Given as goal

abbrev pub invariant-loop-neighbour : goal.invariant-loop-neighbour
invariant-loop-neighbour l = system_for (drop l.neighbour-index l.neighbours) l.host ≡ system_for l.neighbours l.host
