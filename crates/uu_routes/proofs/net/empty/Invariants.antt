use Rattle.std.proofs.Common.{◌≡◌, replicate, []}
use Rattle.uu_routes.proofs.net.empty.Given as goal

abbrev pub invariant-loop : goal.invariant-loop
invariant-loop l = l.table.items ≡ replicate l.counter []
