use Rattle.std.proofs.Common.{false, Ok, Err, sym, subst}
use Rattle.sqlite.specs.Held.{state}
use Rattle.uu_schema.specs.Steps.{StaysUnclean}
use Rattle.uu_statements.specs.Step.{IsToldStep}
use Rattle.uu_store.specs.Spool.{disk, failure_of, has_failed, IsFaultBetween, Notes}
use Rattle.uu_store.proofs.Stepping.{changed}
use Rattle.uu_store.proofs.spool.Spool.make_changes.Goals as goal

pub returns-in-Ok-clause-same : goal.returns-in-Ok-clause-same
returns-in-Ok-clause-same g c = rw c.in-Ok.is at c.carry_out.ensures.same

pub returns-in-Ok-clause-step : goal.returns-in-Ok-clause-step
returns-in-Ok-clause-step g c s t leads =
    changed s t c.args.reply c.args.self.now _ (Ok c.in-Ok.answer) (g.met.S.Store.settled c.args.self.now.conn.store) c.requires
    (λ good. (rw c.in-Ok.is at (c.carry_out.ensures.step s t (leads good).0), (leads good).1))

pub returns-in-Err-clause-marked : goal.returns-in-Err-clause-marked
returns-in-Err-clause-marked g c = subst (IsFaultBetween false (has_failed c.noted.new.self)) (sym c.noted.ensures.same) (c.noted.ensures.marked c.in-Err.ensures.fresh)

pub returns-in-Err-clause-noted : goal.returns-in-Err-clause-noted
returns-in-Err-clause-noted g c = subst (Notes (failure_of c.noted.new.self)) (sym c.noted.ensures.same) c.noted.ensures.noted

pub returns-in-Err-clause-step : goal.returns-in-Err-clause-step
returns-in-Err-clause-step g c s t leads =
    let reply = c.args.reply in
    let old = disk c.args.self.now in
    changed s t reply c.args.self.now c.noted.new.self (Err c.noted.result) (g.met.S.Store.settled c.args.self.now.conn.store) (returns-in-Err-clause-marked g c)
    (λ good. (
      subst (λ h. IsToldStep s t reply old (state g.S.Store h) (Err c.noted.result)) (sym c.noted.ensures.connection)
          (subst (λ fault. IsToldStep s t reply old (state g.S.Store c.carry_out.new.conn) (Err fault)) (sym c.noted.ensures.same) (rw c.in-Err.is at (c.carry_out.ensures.step s t (leads good).0))),
      (leads good).1,
    ))

pub returns-in-Err-clause-clean : goal.returns-in-Err-clause-clean
returns-in-Err-clause-clean g c =
    subst (λ h. StaysUnclean (state g.S.Store c.args.self.now.conn) (state g.S.Store h)) (sym c.noted.ensures.connection) c.carry_out.ensures.clean
