use Rattle.sqlite.specs.Held.{state}
use Rattle.uu_questions.proofs.Meanings.{entries_means}
use Rattle.uu_questions.proofs.Listed.{entries_found}
use Rattle.uu_questions.proofs.Asking.{asks_read}
use Rattle.uu_questions.proofs.entries.all_rows.Goals as goal

pub typed_rows-requires : goal.typed_rows-requires
typed_rows-requires g c = entries_means.plain

pub returns : goal.returns
returns g c =
    let a = state g.S.Store c.args.conn.now in
    let b = state g.S.Store c.typed_rows.new.conn in
    asks_read c.typed_rows.ensures (λ s of rows shown found it. entries_found a b s rows of shown found.items it.0)
