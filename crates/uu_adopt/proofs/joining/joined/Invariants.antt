use Rattle.std.proofs.Common.{◌≡◌, take}
use Rattle.uu_adopt.specs.Assembly.{joined}
use Rattle.uu_adopt.proofs.joining.joined.Given as goal

abbrev pub invariant-loop-piece : goal.invariant-loop-piece
invariant-loop-piece l = l.bytes.items ≡ joined (take l.piece-index l.pieces)
