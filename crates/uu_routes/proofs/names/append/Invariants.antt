use Rattle.std.proofs.Common.{◌≡◌, ◌++◌, take}
use Rattle.uu_routes.proofs.names.append.Given as goal

abbrev pub invariant-loop-site : goal.invariant-loop-site
invariant-loop-site l = l.names.items ≡ l.initial.names.items ++ take l.site-index l.sites
