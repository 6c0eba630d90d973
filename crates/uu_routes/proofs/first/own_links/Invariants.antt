use Rattle.std.proofs.Common.{◌≡◌, drop}
use Rattle.uu_routes.specs.Map.{own_links}
use Rattle.uu_routes.proofs.first.own_links.Given as goal

abbrev pub invariant-loop-entry : goal.invariant-loop-entry
invariant-loop-entry l = own_links (drop l.entry-index l.entries) l.own ≡ own_links l.entries l.own
