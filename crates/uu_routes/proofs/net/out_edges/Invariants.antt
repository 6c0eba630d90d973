use Rattle.std.proofs.Common.{◌≡◌, drop, replicate, length, []}
use Rattle.uu_routes.specs.Internal.Tables.{linked}
use Rattle.uu_routes.proofs.net.out_edges.Given as goal

abbrev pub invariant-loop-link : goal.invariant-loop-link
invariant-loop-link l = linked l.names (drop l.link-index l.links) l.table.items ≡ linked l.names l.links (replicate (length l.names) [])
