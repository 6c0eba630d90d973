use Rattle.std.proofs.Common.{ap, ◌∙◌, not}
use Rattle.std.proofs.Math.Bool.{not-not}
use Rattle.sqlite.specs.Held.{state}
use Rattle.uu_core.specs.State.{is_waiting}
use Rattle.uu_questions.proofs.Meanings.{waiting_means}
use Rattle.uu_questions.proofs.Known.{waiting_rows}
use Rattle.uu_questions.proofs.Asking.{asks_read}
use Rattle.uu_questions.proofs.facts.is_waiting.Goals as goal

pub has_row-requires : goal.has_row-requires
has_row-requires g c = waiting_means.plain

pub returns : goal.returns
returns g c =
    let a = state g.S.Store c.args.conn.now in
    let b = state g.S.Store c.has_row.new.conn in
    asks_read (rw c.params-to_sql.ensures at c.has_row.ensures) (λ s of rows shown there is. is ∙ ap not (waiting_rows a b s _ rows of shown) ∙ not-not _ ∙ ap (is_waiting s) c.as_str.ensures.text)
