use Rattle.std.proofs.Common.{◌≡◌, ◌++◌, take}
use Rattle.std.specs.List.{flat_map}
use Rattle.uu_names.proofs.envelopes.append.Given as goal

abbrev pub invariant-loop-piece : goal.invariant-loop-piece
invariant-loop-piece l =
    l.bytes.items ≡ l.initial.bytes.items ++ flat_map (λ piece. piece.now) (take l.piece-index l.pieces)
