use Rattle.std.proofs.Common.{sym, ◌∙◌}
use Rattle.uu_store.proofs.Asking.{question_failed, question_told}
use Rattle.uu_store.proofs.spool.Spool.entries.Goals as goal

pub returns-then-is_failed : goal.returns-then-is_failed
returns-then-is_failed g c = record { question = question_failed _ c.args.self.now (sym c.is_failed.ensures ∙ c.if-is_failed.true) }

pub returns : goal.returns
returns g c = record { question = question_told _ c.args.self.now c.told.new.self (sym c.is_failed.ensures ∙ c.if-is_failed.false) (g.met.S.Store.settled c.args.self.now.conn.store) _ (sym c.is_failed.ensures ∙ c.if-is_failed.false) c.all_entries-texts.result c.told.result c.told.ensures c.all_entries-texts.ensures.answers }
