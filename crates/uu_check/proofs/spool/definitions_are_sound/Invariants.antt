use Rattle.std.proofs.Common.{All, take}
use Rattle.uu_core.specs.State.{IsDefinition}
use Rattle.uu_tables.specs.declared.rows.SystemColumns.{SystemColumns}
use Rattle.uu_check.proofs.spool.definitions_are_sound.Given as goal

abbrev pub invariant-loop-system : goal.invariant-loop-system
invariant-loop-system l = All (λ (system : SystemColumns). IsDefinition system.def) (take l.system-index l.systems)
