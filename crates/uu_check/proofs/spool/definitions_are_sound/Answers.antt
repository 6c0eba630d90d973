use Rattle.std.proofs.Common.{arith}
use Rattle.uu_core.specs.State.{IsDefinition}
use Rattle.uu_names.proofs.Basics.{all_from_take, all_more}
use Rattle.uu_tables.specs.declared.rows.SystemColumns.{SystemColumns}
use Rattle.uu_check.proofs.spool.definitions_are_sound.Goals as goal

pub loop-system-preserved : goal.loop-system-preserved
loop-system-preserved c =
    all_more (λ (system : SystemColumns). IsDefinition system.def) c.args.systems.now c.loop-system.system-index c.system-item.result c.loop-system-test.true c.system-item.is c.loop-system.invariant c.definition_is_sound.ensures

pub returns : goal.returns
returns c = all_from_take (λ (system : SystemColumns). IsDefinition system.def) c.args.systems.now c.loop-system.system-index (omega arith) c.loop-system.invariant
