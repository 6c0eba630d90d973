use Rattle.std.proofs.Common.{◌≡◌, ◌++◌, length, option_map}
use Rattle.uu_map.specs.Internal.StatementReading.{alias_of, list_of}
use Rattle.uu_map.proofs.statement.aliases_of.Given as goal

abbrev pub invariant-loop-rest : goal.invariant-loop-rest
invariant-loop-rest l = option_map (λ more. l.aliases.items ++ more) (list_of alias_of l.rest) ≡ list_of alias_of l.list

abbrev pub decreases-loop-rest : goal.decreases-loop-rest
decreases-loop-rest l = length l.rest
