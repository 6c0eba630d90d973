use Rattle.std.proofs.Common.{refl, arith}
use Rattle.sqlite.specs.Held.{state}
use Rattle.uu_schema.specs.Held.{MakesEmpty}
use Rattle.uu_schema.specs.Schema.{no_schema, spool_schema}
use Rattle.uu_adopt.proofs.Becoming.{becomes_ok, becomes_err, makes_empty, halted_unmade}
use Rattle.uu_adopt.proofs.adoption.create_tables.Goals as goal

pub returns-in-Ok-clause-makes : goal.returns-in-Ok-clause-makes
returns-in-Ok-clause-makes g c = record {
  becomes = becomes_ok no_schema spool_schema MakesEmpty _ (makes_empty c.states_stay_well_formed.ensures.empty) (state g.S.Store c.args.conn.now) (state g.S.Store c.create.new.conn) c.create.result (rw c.in-Ok.is refl) c.create.ensures.whole;
  unmade = tt;
  clean = c.create.ensures.whole.survives.clean;
}

pub returns-in-Err-clause-makes : goal.returns-in-Err-clause-makes
returns-in-Err-clause-makes g c =
    let a = state g.S.Store c.args.conn.now in
    let b = state g.S.Store c.create.new.conn in
    let d = state g.S.Store c.halt_fault.new.conn in
    record {
      becomes = becomes_err no_schema spool_schema MakesEmpty _ (makes_empty c.states_stay_well_formed.ensures.empty) a b d c.create.result c.halt_fault.result (rw c.in-Err.is refl) c.create.ensures.whole c.halt_fault.ensures.memory c.halt_fault.ensures.survives;
      unmade = halted_unmade a b d c.in-Err.halt c.create.result c.halt_fault.result c.in-Err.is c.halt_fault.ensures.fresh c.create.ensures.before c.halt_fault.ensures.commit c.halt_fault.ensures.survives;
      clean = omega (arith, c.create.ensures.whole.survives.clean, c.halt_fault.ensures.survives.clean);
    }
