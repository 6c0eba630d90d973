use Rattle.std.proofs.Common.{◌≡◌, ◌++◌, length, option_map}
use Rattle.uu_map.specs.Internal.StatementReading.{link_of, list_of}
use Rattle.uu_map.proofs.statement.links_of.Given as goal

abbrev pub invariant-loop-rest : goal.invariant-loop-rest
invariant-loop-rest l = option_map (λ more. l.links.items ++ more) (list_of link_of l.rest) ≡ list_of link_of l.list

abbrev pub decreases-loop-rest : goal.decreases-loop-rest
decreases-loop-rest l = length l.rest
