use Rattle.std.proofs.Common.{sym, ◌∙◌}
use Rattle.sqlite.specs.Held.{state}
use Rattle.uu_core.specs.State.{job_at}
use Rattle.uu_store.specs.HandedOut.{is_found_bounded}
use Rattle.uu_store.specs.Spool.{disk}
use Rattle.uu_store.proofs.Asking.{question_failed, question_told, told_holds}
use Rattle.uu_store.proofs.Handing.{answers_as, answers_within, found_bounded, shown, within_as, within_ok}
use Rattle.uu_store.proofs.spool.Spool.job.Goals as goal

pub returns-then-is_failed-clause-question : goal.returns-then-is_failed-clause-question
returns-then-is_failed-clause-question g c = question_failed _ c.args.self.now (sym c.is_failed.ensures ∙ c.if-is_failed.true)

pub returns-clause-question : goal.returns-clause-question
returns-clause-question g c =
    let old = disk c.args.self.now in
    let new = state g.S.Store c.job_of_number-found.new.conn in
    question_told _ c.args.self.now c.told.new.self (sym c.is_failed.ensures ∙ c.if-is_failed.false) (g.met.S.Store.settled c.args.self.now.conn.store) _ (sym c.is_failed.ensures ∙ c.if-is_failed.false) c.and_then.result c.told.result c.told.ensures
    (answers_within is_found_bounded _ old new c.job_of_number-found.result c.and_then.result c.and_then.ensures
    (answers_as _ _ old new c.job_of_number-found.result (λ s found. shown found (job_at s c.args.number)) c.job_of_number-found.ensures.answers))

pub returns-clause-size : goal.returns-clause-size
returns-clause-size g c =
    told_holds _ c.and_then.result _ c.told.new.self c.told.result c.told.ensures (within_as is_found_bounded _ c.job_of_number-found.result c.and_then.result c.and_then.ensures c.job_of_number-found.ensures.size)

pub returns-clause-bounds : goal.returns-clause-bounds
returns-clause-bounds g c =
    told_holds _ c.and_then.result _ c.told.new.self c.told.result c.told.ensures (within_ok is_found_bounded _ c.job_of_number-found.result c.and_then.result c.and_then.ensures found_bounded)
