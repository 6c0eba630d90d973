use Rattle.std.proofs.Common.{◌≡◌, length}
use Rattle.uu_map.specs.Token.{tokens}
use Rattle.uu_map.specs.Internal.Reading.{reading_state, run, start}
use Rattle.uu_map.proofs.expression.cost.Given as goal

abbrev pub invariant-loop-token : goal.invariant-loop-token
invariant-loop-token l = run (reading_state l.reading) (tokens l.rest) ≡ run (start 32) (tokens l.text)

abbrev pub decreases-loop-token : goal.decreases-loop-token
decreases-loop-token l = length l.rest
