use Rattle.std.proofs.Common.{◌≡◌, None, replicate}
use Rattle.uu_routes.proofs.search.blank.Given as goal

abbrev pub invariant-loop : goal.invariant-loop
invariant-loop l = l.labels.items ≡ replicate l.counter None
