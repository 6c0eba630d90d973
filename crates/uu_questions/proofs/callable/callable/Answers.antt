use Rattle.std.proofs.Common.{◌≡◌, ap, ◌∙◌}
use Rattle.uu_core.specs.Due.{may_be_called}
use Rattle.uu_rows.proofs.Showing.{answered}
use Rattle.uu_questions.specs.Answers.{Asks}
use Rattle.uu_questions.proofs.Answering.{answer_in}
use Rattle.uu_questions.proofs.Asking.{asks_as, asks_refused}
use Rattle.uu_questions.proofs.callable.callable.Goals as goal

pub returns : goal.returns
returns g c =
    let first : Asks g.S.Store (λ s systems. systems.items ≡ s.systems) c.args.conn.now c.all_systems.new.conn c.all_systems.result = record { idle = c.all_systems.ensures.idle; answers = c.all_systems.ensures.answers } in
    asks_as first (λ ok. answered c.all_systems.result _ c.in_ok-rows.was)
    (λ s good it name grade. c.in_ok-limits.ensures name grade ∙ ap (λ rows. may_be_called rows c.args.at.now name grade) (c.deref.ensures.value ∙ answer_in _ c.all_systems.result _ c.in_ok-rows.was it))

pub returns-in_err-rows : goal.returns-in_err-rows
returns-in_err-rows g c =
    let first : Asks g.S.Store (λ s systems. systems.items ≡ s.systems) c.args.conn.now c.all_systems.new.conn c.all_systems.result = record { idle = c.all_systems.ensures.idle; answers = c.all_systems.ensures.answers } in
    asks_refused first c.from_residual.ensures.0

pub returns-in_err-limits : goal.returns-in_err-limits
returns-in_err-limits g c =
    let first : Asks g.S.Store (λ s systems. systems.items ≡ s.systems) c.args.conn.now c.all_systems.new.conn c.all_systems.result = record { idle = c.all_systems.ensures.idle; answers = c.all_systems.ensures.answers } in
    asks_refused first c.from_residual-in_err-limits.ensures.0
