use Rattle.std.proofs.Common.{All, take}
use Rattle.uu_core.specs.TakeIns.{offering}
use Rattle.uu_core.specs.WellFormed.{IsCommand}
use Rattle.uu_core.proofs.sound.take_ins_are_sound.Given as goal

abbrev pub invariant-loop-offered : goal.invariant-loop-offered
invariant-loop-offered l = All (λ offered. IsCommand (offering l.it.from offered)) (take l.offered-index l.offered-items)
