use Rattle.std.proofs.Common.{refl, arith}
use Rattle.sqlite.specs.Held.{state}
use Rattle.uu_schema.specs.Encoded.{HoldsAgain}
use Rattle.uu_schema.specs.Schema.{spool_schema}
use Rattle.uu_schema.specs.Earlier.{schema_of}
use Rattle.uu_adopt.proofs.Becoming.{becomes_ok, becomes_err, halted_unmade, halted_spared}
use Rattle.uu_adopt.proofs.adoption.write_anew.Goals as goal

pub returns-in-Ok-clause-makes : goal.returns-in-Ok-clause-makes
returns-in-Ok-clause-makes g c = record {
  becomes = becomes_ok (schema_of c.args.from) spool_schema (HoldsAgain c.args.from) (HoldsAgain c.args.from) (λ old new again. again) (state g.S.Store c.args.conn.now) (state g.S.Store c.renew.new.conn) c.renew.result (rw c.in-Ok.is refl) c.renew.ensures.whole;
  unmade = tt;
  clean = c.renew.ensures.whole.survives.clean;
}

pub returns-in-Err-clause-makes : goal.returns-in-Err-clause-makes
returns-in-Err-clause-makes g c =
    let a = state g.S.Store c.args.conn.now in
    let b = state g.S.Store c.renew.new.conn in
    let d = state g.S.Store c.halt_fault.new.conn in
    record {
      becomes = becomes_err (schema_of c.args.from) spool_schema (HoldsAgain c.args.from) (HoldsAgain c.args.from) (λ old new again. again) a b d c.renew.result c.halt_fault.result (rw c.in-Err.is refl) c.renew.ensures.whole c.halt_fault.ensures.memory c.halt_fault.ensures.survives;
      unmade = halted_unmade a b d c.in-Err.halt c.renew.result c.halt_fault.result c.in-Err.is c.halt_fault.ensures.fresh c.renew.ensures.before c.halt_fault.ensures.commit c.halt_fault.ensures.survives;
      clean = omega (arith, c.renew.ensures.whole.survives.clean, c.halt_fault.ensures.survives.clean);
    }

pub returns-in-Err-clause-spared : goal.returns-in-Err-clause-spared
returns-in-Err-clause-spared g c =
    halted_spared (state g.S.Store c.args.conn.now) (state g.S.Store c.renew.new.conn) (state g.S.Store c.halt_fault.new.conn) c.in-Err.halt c.renew.result c.halt_fault.result c.in-Err.is c.halt_fault.ensures.fresh
    c.renew.ensures.idle c.renew.ensures.undone c.halt_fault.ensures.commit c.halt_fault.ensures.memory c.halt_fault.ensures.survives (returns-in-Err-clause-makes g c).unmade
