use Rattle.std.proofs.Common.{sym, ◌∙◌}
use Rattle.uu_store.proofs.Asking.{question_failed, question_told}
use Rattle.uu_store.proofs.Copies.{contents_answer}
use Rattle.uu_store.proofs.spool.Spool.contents.Goals as goal

pub returns-then-is_failed : goal.returns-then-is_failed
returns-then-is_failed g c = record { question = question_failed _ c.args.self.now (sym c.is_failed.ensures ∙ c.if-is_failed.true) }

pub returns : goal.returns
returns g c = record {
  question =
      let old = c.args.self.now in
      let usable = sym c.is_failed.ensures ∙ c.if-is_failed.false in
      question_told _ old c.told.new.self usable (g.met.S.Store.settled old.conn.store) _ usable c.read_contents-contents.result c.told.result c.told.ensures
      (contents_answer g.S.Store old.conn c.read_contents-contents.new.conn c.read_contents-contents.result c.read_contents-contents.ensures);
}
