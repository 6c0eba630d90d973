use Rattle.std.proofs.Common.{◌≡◌, sym, subst, ◌∙◌}
use Rattle.uu_core.specs.State.{State, empty}
use Rattle.uu_tables.specs.Tables.{tables_of}
use Rattle.uu_tables.specs.Changes.{applied}
use Rattle.uu_schema.specs.declared.fault.StoreFault.TheVariants.{Store}
use Rattle.uu_schema.specs.declared.fault.StoreKind.TheVariants.{Database}
use Rattle.std.specs.Prelude.{⊤, Err}
use Rattle.uu_store.specs.Commands.{IsStep}
use Rattle.uu_store.proofs.Copies.{step_failed, step_refused}
use Rattle.uu_store.proofs.Stepping.{answered_by, unplanned, is_between}
use Rattle.uu_store.proofs.spool.Spool.fill.Goals as goal

pub returns-then-is_failed-clause-step : goal.returns-then-is_failed-clause-step
returns-then-is_failed-clause-step g c s are = step_failed empty s (λ _. ⊤) c.args.self.now (sym c.is_failed.ensures ∙ c.if-is_failed.true)

pub returns-in-Ok-clause-marked : goal.returns-in-Ok-clause-marked
returns-in-Ok-clause-marked g c = is_between c.make_changes.result _ _ (sym c.is_failed.ensures ∙ c.if-is_failed.false) c.make_changes.ensures.marked

pub returns-in-Ok-clause-step : goal.returns-in-Ok-clause-step
returns-in-Ok-clause-step g c s are =
    answered_by empty s (λ _. ⊤) _ (λ good. tt) c.args.self.now c.make_changes.new.self c.make_changes.result
    (c.make_changes.ensures.step empty s (λ good. (
      subst (λ changes. applied changes (tables_of empty) ≡ tables_of s) (sym c.as_slice.ensures.value) (rw c.in-Ok.is at c.changes.ensures s are),
      are.good,
    )))

pub returns-in-Err-Memory-clause-step : goal.returns-in-Err-Memory-clause-step
returns-in-Err-Memory-clause-step g c s are = unplanned empty s (λ _. ⊤) c.args.self.now (g.met.S.Store.settled c.args.self.now.conn.store)

pub returns-in-Err-Bad-clause-step : goal.returns-in-Err-Bad-clause-step
returns-in-Err-Bad-clause-step g c s are =
    subst (λ fault. IsStep {R = Unit {0}} empty s (λ _. ⊤) c.args.self.now c.noted.new.self (Err fault)) (sym c.noted.ensures.same)
    (step_refused empty s (λ _. ⊤) c.args.self.now c.noted.new.self Database c.noted.ensures.connection (g.met.S.Store.settled c.args.self.now.conn.store))
