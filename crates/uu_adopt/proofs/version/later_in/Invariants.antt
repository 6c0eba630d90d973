use Rattle.std.proofs.Common.{take}
use Rattle.uu_adopt.specs.Version.{HasLater}
use Rattle.uu_adopt.proofs.version.later_in.Given as goal

abbrev pub invariant-loop-row : goal.invariant-loop-row
invariant-loop-row l = HasLater (take l.row-index l.rows) → ⊥
