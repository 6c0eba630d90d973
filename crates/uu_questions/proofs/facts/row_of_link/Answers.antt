use Rattle.sqlite.specs.Held.{state}
use Rattle.uu_questions.proofs.Meanings.{link_means}
use Rattle.uu_questions.proofs.LinkRows.{link_answer}
use Rattle.uu_questions.proofs.Asking.{asks_read}
use Rattle.uu_questions.proofs.facts.row_of_link.Goals as goal

pub typed_row-requires : goal.typed_row-requires
typed_row-requires g c = link_means.plain

pub returns : goal.returns
returns g c =
    let a = state g.S.Store c.args.conn.now in
    let b = state g.S.Store c.typed_row.new.conn in
    asks_read (rw (c.params-to_sql.ensures, c.as_str.ensures.text) at c.typed_row.ensures) (λ s of rows shown found it. link_answer a b s rows of c.args.name.now shown found it.0)
