use Rattle.std.proofs.Common.{sym, ◌∙◌}
use Rattle.sqlite.specs.Held.{state}
use Rattle.uu_store.specs.Spool.{disk}
use Rattle.uu_store.proofs.Asking.{question_failed, question_told, told_holds}
use Rattle.uu_store.proofs.Handing.{all_timed, are_timed, answers_within, within_as, within_ok}
use Rattle.uu_store.proofs.spool.Spool.systems.Goals as goal

pub returns-then-is_failed-clause-question : goal.returns-then-is_failed-clause-question
returns-then-is_failed-clause-question g c = question_failed _ c.args.self.now (sym c.is_failed.ensures ∙ c.if-is_failed.true)

pub returns-clause-question : goal.returns-clause-question
returns-clause-question g c =
    question_told _ c.args.self.now c.told.new.self (sym c.is_failed.ensures ∙ c.if-is_failed.false) (g.met.S.Store.settled c.args.self.now.conn.store) _ (sym c.is_failed.ensures ∙ c.if-is_failed.false) c.and_then.result c.told.result c.told.ensures
    (answers_within are_timed _ (disk c.args.self.now) (state g.S.Store c.all_systems-systems.new.conn) c.all_systems-systems.result c.and_then.result c.and_then.ensures c.all_systems-systems.ensures.answers)

pub returns-clause-bounds : goal.returns-clause-bounds
returns-clause-bounds g c =
    told_holds _ c.and_then.result _ c.told.new.self c.told.result c.told.ensures (within_ok are_timed _ c.all_systems-systems.result c.and_then.result c.and_then.ensures (λ systems. all_timed systems.items))

pub returns-clause-formed : goal.returns-clause-formed
returns-clause-formed g c =
    told_holds _ c.and_then.result _ c.told.new.self c.told.result c.told.ensures (within_as are_timed _ c.all_systems-systems.result c.and_then.result c.and_then.ensures c.all_systems-systems.ensures.formed)
