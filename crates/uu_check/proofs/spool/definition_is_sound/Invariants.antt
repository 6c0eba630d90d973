use Rattle.std.proofs.Common.{All, take}
use Rattle.uu_core.specs.State.{IsLine}
use Rattle.uu_check.proofs.spool.definition_is_sound.Given as goal

abbrev pub invariant-loop-line : goal.invariant-loop-line
invariant-loop-line l = All IsLine (take l.line-index l.line-items)
