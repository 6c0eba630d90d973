use Rattle.std.proofs.Common.{sym, ◌∙◌}
use Rattle.sqlite.specs.Held.{state}
use Rattle.uu_store.specs.Spool.{disk}
use Rattle.uu_store.proofs.Asking.{question_failed, question_told, told_holds}
use Rattle.uu_store.proofs.Handing.{all_bounded, are_bounded, answers_within, within_ok}
use Rattle.uu_store.proofs.spool.Spool.jobs.Goals as goal

pub returns-then-is_failed-clause-question : goal.returns-then-is_failed-clause-question
returns-then-is_failed-clause-question g c = question_failed _ c.args.self.now (sym c.is_failed.ensures ∙ c.if-is_failed.true)

pub returns-clause-question : goal.returns-clause-question
returns-clause-question g c =
    question_told _ c.args.self.now c.told.new.self (sym c.is_failed.ensures ∙ c.if-is_failed.false) (g.met.S.Store.settled c.args.self.now.conn.store) _ (sym c.is_failed.ensures ∙ c.if-is_failed.false) c.and_then.result c.told.result c.told.ensures
    (answers_within are_bounded _ (disk c.args.self.now) (state g.S.Store c.list_jobs-heads.new.conn) c.list_jobs-heads.result c.and_then.result c.and_then.ensures c.list_jobs-heads.ensures.answers)

pub returns-clause-bounds : goal.returns-clause-bounds
returns-clause-bounds g c =
    told_holds _ c.and_then.result _ c.told.new.self c.told.result c.told.ensures (within_ok are_bounded _ c.list_jobs-heads.result c.and_then.result c.and_then.ensures (λ heads. all_bounded heads.items))
