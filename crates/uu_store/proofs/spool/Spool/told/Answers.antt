use Rattle.std.proofs.Common.{◌≡◌, false, inl, refl, sym, ap, subst, ◌∙◌, arith}
use Rattle.std.specs.Prelude.{is_err, IfErr}
use Rattle.uu_schema.specs.declared.fault.StoreFault.TheVariants.{Memory}
use Rattle.uu_schema.proofs.Resting.{is_memory}
use Rattle.uu_schema.specs.Faults.{NamesPartOf, NamesPartUnlessMemory}
use Rattle.uu_schema.specs.Steps.{CommitsNothing, UnchangedIf}
use Rattle.uu_store.specs.Spool.{failure_of, has_failed, IsFaultBetween, Notes}
use Rattle.uu_store.proofs.spool.Spool.told.Goals as goal

pub returns-in-Ok : goal.returns-in-Ok
returns-in-Ok g c = record {
  same = (c.in-Ok.is, refl);
  cause = tt;
  marked = tt;
  noted = tt;
  memory = λ clean is. absurd (cc);
  survives = record { clean = omega arith; shield = λ shielded. shielded; counts = omega arith; limit = refl; closes = λ clean is_open. inl is_open; crash = λ clean trees may. inl may };
}

pub returns-in-Err : goal.returns-in-Err
returns-in-Err g c =
    let conn = c.args.self.now.conn in
    let now = c.noted.new.self in
    let fault = c.store_fault-fault.result in
    let told = sym c.noted.ensures.same in
    let same = sym c.noted.ensures.connection in
    record {
      same = ap is_err c.in-Err.is;
      cause = subst (λ asked. IfErr asked (λ error. NamesPartOf error c.noted.result × NamesPartUnlessMemory error c.noted.result)) (sym c.in-Err.is)
          (subst (NamesPartOf c.in-Err.error) told c.store_fault-fault.ensures.kind, subst (NamesPartUnlessMemory c.in-Err.error) told c.store_fault-fault.ensures.other);
      marked = subst (IsFaultBetween false (has_failed now)) told (c.noted.ensures.marked c.store_fault-fault.ensures.fresh);
      noted = subst (Notes (failure_of now)) told c.noted.ensures.noted;
      memory = λ clean is. subst (UnchangedIf g.S.Store (fault ≡ Memory) conn) same c.store_fault-fault.ensures.memory clean (told ∙ is_memory c.noted.result is);
      survives = subst (CommitsNothing g.S.Store conn) same c.store_fault-fault.ensures.survives;
    }
