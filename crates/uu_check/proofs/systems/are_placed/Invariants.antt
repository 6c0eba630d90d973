use Rattle.std.proofs.Common.{◌≡◌, drop}
use Rattle.uu_check.specs.Tests.{are_placed}
use Rattle.uu_check.proofs.systems.are_placed.Given as goal

abbrev pub invariant-loop-line : goal.invariant-loop-line
invariant-loop-line l = record { at : l.place ≡ l.line-index; rest : are_placed 0 l.lines ≡ are_placed l.place (drop l.place l.lines) }
