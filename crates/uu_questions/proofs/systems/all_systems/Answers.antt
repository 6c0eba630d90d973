use Rattle.std.proofs.Common.{◌≡◌}
use Rattle.std.proofs.lemmas.Result.{IfOk-weaker}
use Rattle.uu_rows.proofs.Showing.{answered}
use Rattle.uu_questions.specs.Answers.{Asks}
use Rattle.uu_questions.proofs.Answering.{answer_in}
use Rattle.uu_questions.proofs.Asking.{asks_as, asks_refused}
use Rattle.uu_questions.proofs.SystemRows.{all_theirs}
use Rattle.uu_questions.proofs.systems.all_systems.Goals as goal

pub returns-clause-answers : goal.returns-clause-answers
returns-clause-answers g c =
    let it : Asks g.S.Store (λ s systems. systems.items ≡ s.systems) c.args.conn.now c.all_columns.new.conn c.systems_or_error.result =
    asks_as c.all_columns.ensures (λ ok. answered c.all_columns.result _ c.in_ok-systems.was)
    (λ s good columns. IfOk-weaker c.systems_or_error.result _ _ (λ made theirs. all_theirs s _ (answer_in _ c.all_columns.result _ c.in_ok-systems.was columns) made.items theirs) c.systems_or_error.ensures.systems) in
    it.answers

pub returns-clause-formed : goal.returns-clause-formed
returns-clause-formed g c = IfOk-weaker c.systems_or_error.result _ _ (λ made theirs. theirs.good) c.systems_or_error.ensures.systems

pub returns-in_err-systems-clause-answers : goal.returns-in_err-systems-clause-answers
returns-in_err-systems-clause-answers g c =
    let it : Asks g.S.Store (λ s systems. systems.items ≡ s.systems) c.args.conn.now c.all_columns.new.conn c.from_residual.result = asks_refused c.all_columns.ensures c.from_residual.ensures.0 in
    it.answers
