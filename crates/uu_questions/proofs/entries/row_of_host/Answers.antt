use Rattle.std.proofs.Common.{ap, ◌∙◌, option_map}
use Rattle.sqlite.specs.Held.{state}
use Rattle.uu_core.specs.State.{entry_at}
use Rattle.uu_tables.specs.Tables.{entry_columns}
use Rattle.uu_questions.proofs.Meanings.{entry_means}
use Rattle.uu_questions.proofs.Listed.{entry_found}
use Rattle.uu_questions.proofs.Asking.{asks_read}
use Rattle.uu_questions.proofs.entries.row_of_host.Goals as goal

pub typed_row-requires : goal.typed_row-requires
typed_row-requires g c = entry_means.plain

pub returns : goal.returns
returns g c =
    let a = state g.S.Store c.args.conn.now in
    let b = state g.S.Store c.typed_row.new.conn in
    asks_read (rw c.params-to_sql.ensures at c.typed_row.ensures)
    (λ s of rows shown found it. entry_found a b s c.as_str.result.now rows of shown found it.0 ∙ ap (λ h. option_map entry_columns (entry_at s h)) c.as_str.ensures.text)
