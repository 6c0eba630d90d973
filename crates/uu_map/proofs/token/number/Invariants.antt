use Rattle.std.proofs.Common.{◌≡◌, ◌+◌, min, take}
use Rattle.uu_map.specs.Token.{decimal}
use Rattle.uu_map.proofs.token.number.Given as goal

abbrev pub invariant-loop-digit : goal.invariant-loop-digit
invariant-loop-digit l = l.number ≡ min (decimal (take l.digit-index l.digits)) (1000000000000 + 1)
