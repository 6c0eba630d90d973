use Rattle.uu_carriers.proofs.Together.{come_once}
use Rattle.uu_carriers.proofs.laws.messages_come_once_in_lines.Goals as goal

pub returns : goal.returns
returns g c places count first steps lines sites among within typed files =
    come_once g.H.Sites.before g.H.Sites.stretches c.runs_follow_one_another.ensures.replies c.one_database_has_one_state.ensures c.what_is_packed_may_be_said.ensures
    (λ settings s it make asked output good own system word grade of texts answers.
    let said = c.what_is_answered_may_be_said.ensures settings s it make asked output good own system word grade of texts answers in
    (said.0, said.1, said.2, said.3, said.4.said))
    c.messages_come_once_in_texts.ensures places count first steps lines sites among within typed files
