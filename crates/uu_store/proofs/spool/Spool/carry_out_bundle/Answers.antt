use Rattle.std.proofs.Common.{◌≡◌, sym, subst}
use Rattle.uu_core.specs.State.{IsWellFormed}
use Rattle.uu_core.specs.TakeIns.{commands_in, after_take_in}
use Rattle.uu_tables.specs.Tables.{tables_of}
use Rattle.uu_tables.specs.Changes.{applied}
use Rattle.uu_tables.specs.TakeInPlans.{IsTakeInPlan}
use Rattle.uu_store.proofs.Stepping.{answered_by, replies_of, unplanned}
use Rattle.uu_store.proofs.spool.Spool.carry_out_bundle.Goals as goal

pub returns-in-Ok-clause-step : goal.returns-in-Ok-clause-step
returns-in-Ok-clause-step g c s facts =
    let bundle = c.args.bundle in
    let next = (after_take_in s bundle).0 in
    let planned : IsWellFormed s → IsTakeInPlan s bundle c.in-Ok.plan = λ good. rw c.in-Ok.is at (c.plan_take_in.ensures.plan s good facts) in
    answered_by s next (λ replies. replies.items ≡ (after_take_in s bundle).1) c.in-Ok.plan.replies (λ good. (planned good).replies) c.args.self.now c.make_changes.new.self c.make_changes.result
    (c.make_changes.ensures.step s next (λ good. (
      subst (λ changes. applied changes (tables_of s) ≡ tables_of next) (sym c.as_slice.ensures.value) (planned good).tables,
      c.states_stay_well_formed.ensures.run s (commands_in bundle) c.take_ins_are_sound.ensures good,
    )))

pub returns-in-Ok-clause-every : goal.returns-in-Ok-clause-every
returns-in-Ok-clause-every g c =
    replies_of c.args.bundle c.in-Ok.plan.replies c.make_changes.result c.make_changes.ensures.same (rw c.in-Ok.is at c.plan_take_in.ensures.every)

pub returns-clause-step : goal.returns-clause-step
returns-clause-step g c s facts = unplanned s (after_take_in s c.args.bundle).0 (λ replies. replies.items ≡ (after_take_in s c.args.bundle).1) c.args.self.now (g.met.S.Store.settled c.args.self.now.conn.store)
