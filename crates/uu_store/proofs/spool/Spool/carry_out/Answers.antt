use Rattle.std.proofs.Common.{◌≡◌, sym, subst}
use Rattle.uu_core.specs.State.{IsWellFormed}
use Rattle.uu_core.specs.After.{after}
use Rattle.uu_tables.specs.Tables.{tables_of}
use Rattle.uu_tables.specs.Changes.{applied}
use Rattle.uu_tables.specs.Plans.{IsPlan}
use Rattle.uu_store.proofs.Stepping.{answered_by, unplanned}
use Rattle.uu_store.proofs.spool.Spool.carry_out.Goals as goal

pub returns-in-Ok-clause-step : goal.returns-in-Ok-clause-step
returns-in-Ok-clause-step g c s facts =
    let command = c.args.command in
    let next = (after s command).0 in
    let planned : IsWellFormed s → IsPlan s command c.in-Ok.plan = λ good. rw c.in-Ok.is at (c.make_plan.ensures s good facts) in
    answered_by s next (λ reply. reply ≡ (after s command).1) c.in-Ok.plan.reply (λ good. (planned good).reply) c.args.self.now c.make_changes.new.self c.make_changes.result
    (c.make_changes.ensures.step s next (λ good. (
      subst (λ changes. applied changes (tables_of s) ≡ tables_of next) (sym c.as_slice.ensures.value) (planned good).tables,
      c.states_stay_well_formed.ensures.step s command c.commands_are_sound.ensures good,
    )))

pub returns-clause-step : goal.returns-clause-step
returns-clause-step g c s facts = unplanned s (after s c.args.command).0 (λ reply. reply ≡ (after s c.args.command).1) c.args.self.now (g.met.S.Store.settled c.args.self.now.conn.store)
