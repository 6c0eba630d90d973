use Rattle.sqlite.specs.Held.{state}
use Rattle.uu_questions.proofs.Meanings.{system_means}
use Rattle.uu_questions.proofs.SystemRows.{system_found}
use Rattle.uu_questions.proofs.Asking.{asks_read}
use Rattle.uu_questions.proofs.systems.columns_of_name.Goals as goal

pub typed_row-requires : goal.typed_row-requires
typed_row-requires g c = system_means.plain

pub returns : goal.returns
returns g c =
    let a = state g.S.Store c.args.conn.now in
    let b = state g.S.Store c.typed_row.new.conn in
    asks_read (rw c.params-to_sql.ensures at c.typed_row.ensures) (λ s of rows shown found it. system_found a b s rows of c.args.name.now shown found it.1 it.0)
