use Rattle.std.proofs.Common.{true≢false, sym, ◌∙◌, arith}
use Rattle.uu_core.specs.State.{State}
use Rattle.uu_core.specs.TakeIns.{commands_in}
use Rattle.uu_store.proofs.Asking.{question_told}
use Rattle.uu_store.proofs.Running.{ran_failed}
use Rattle.uu_store.proofs.Stepping.{asked_before, unasked, is_between, bundle_ahead, ran_bundle, bundle_stops_ok, bundle_stops_memory}
use Rattle.uu_store.proofs.spool.Spool.take_in.Goals as goal

pub returns-then-is_failed-clause-ran : goal.returns-then-is_failed-clause-ran
returns-then-is_failed-clause-ran g c = ran_failed c.args.self.now (commands_in c.args.bundle) _ (bundle_ahead c.args.bundle) (sym c.is_failed.ensures ∙ c.if-is_failed.true)

pub returns-in-Ok : goal.returns-in-Ok
returns-in-Ok g c =
    let old = c.args.self.now in
    let new = c.carry_out_bundle.new.self in
    let r = c.carry_out_bundle.result in
    let usable = sym c.is_failed.ensures ∙ c.if-is_failed.false in
    let asked = rw c.in-Ok.is at (question_told _ old c.told.new.self usable (g.met.S.Store.settled old.conn.store) _ usable c.facts_for_take_in-facts.result c.told.result c.told.ensures c.facts_for_take_in-facts.ensures.asks.answers) in
    let steps = λ (s : State). asked_before s _ _ _ c.in-Ok.facts old c.told.new.self new r asked (c.carry_out_bundle.ensures.step s) c.carry_out_bundle.ensures.clean in
    let settles = g.met.S.Store.settled new.conn.store in
    record {
      marked = is_between r _ _ usable c.carry_out_bundle.ensures.marked;
      noted = c.carry_out_bundle.ensures.noted;
      step = λ clean s. (steps s).ok clean;
      memory = λ clean s. (steps s).memory clean;
      stop_ok = bundle_stops_ok c.args.bundle old new r settles steps;
      stop_memory = bundle_stops_memory c.args.bundle old new r settles steps;
      stop_store = λ clean s. (steps s).stop clean;
      clean = omega (arith, asked.clean, c.carry_out_bundle.ensures.clean);
      every = c.carry_out_bundle.ensures.every;
      failed = λ had. absurd (true≢false (sym had ∙ usable));
      ran = ran_bundle c.args.bundle old new r settles steps c.carry_out_bundle.ensures.every (omega (arith, asked.clean, c.carry_out_bundle.ensures.clean));
    }

pub returns-in-Err : goal.returns-in-Err
returns-in-Err g c =
    let old = c.args.self.now in
    let new = c.told.new.self in
    let usable = sym c.is_failed.ensures ∙ c.if-is_failed.false in
    let asked = rw c.in-Err.is at (question_told _ old c.told.new.self usable (g.met.S.Store.settled old.conn.store) _ usable c.facts_for_take_in-facts.result c.told.result c.told.ensures c.facts_for_take_in-facts.ensures.asks.answers) in
    let steps = λ (s : State). unasked s _ _ _ old new c.in-Err.fault asked in
    let settles = g.met.S.Store.settled new.conn.store in
    record {
      marked = asked.marked;
      noted = asked.noted;
      step = λ clean s. (steps s).ok clean;
      memory = λ clean s. (steps s).memory clean;
      stop_ok = bundle_stops_ok c.args.bundle old new _ settles steps;
      stop_memory = bundle_stops_memory c.args.bundle old new _ settles steps;
      stop_store = λ clean s. (steps s).stop clean;
      clean = asked.clean;
      every = tt;
      failed = λ had. absurd (true≢false (sym had ∙ usable));
      ran = ran_bundle c.args.bundle old new _ settles steps tt asked.clean;
    }
