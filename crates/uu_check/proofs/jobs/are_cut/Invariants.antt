use Rattle.std.proofs.Common.{◌≡◌, drop}
use Rattle.uu_check.specs.Tests.{are_cut}
use Rattle.uu_check.proofs.jobs.are_cut.Given as goal

abbrev pub invariant-loop-piece : goal.invariant-loop-piece
invariant-loop-piece l = record { at : l.place ≡ l.piece-index; rest : are_cut 0 l.fn.size l.pieces ≡ are_cut l.place l.left (drop l.place l.pieces) }
