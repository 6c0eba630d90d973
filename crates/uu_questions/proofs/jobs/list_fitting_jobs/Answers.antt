use Rattle.std.proofs.Common.{◌≡◌, ◌∷◌, [], ap₂, subst}
use Rattle.sqlite.specs.Held.{state}
use Rattle.sqlite.specs.Values.{bound}
use Rattle.uu_schema.specs.Cells.{job_cells}
use Rattle.uu_rows.specs.Readable.{IsTypedHead}
use Rattle.uu_questions.proofs.Texts.{jobs_text}
use Rattle.uu_questions.specs.Reading.{AsksAndReads, AreTyped}
use Rattle.uu_questions.proofs.Meanings.{jobs_means}
use Rattle.uu_questions.proofs.Listed.{sought, wanted_bound, jobs_listed}
use Rattle.uu_questions.proofs.Asking.{asks_read}
use Rattle.uu_questions.proofs.jobs.list_fitting_jobs.Goals as goal

pub typed_rows-requires : goal.typed_rows-requires
typed_rows-requires g c = jobs_means.plain

pub returns : goal.returns
returns g c =
    let f = c.args.filter.now in
    let is : bound (c.params-to_sql.result ∷ c.params-to_sql-2.result ∷ []) ≡ sought f =
    ap₂ (λ a b. a ∷ b ∷ []) (wanted_bound c.system_text-system.result _ _ c.params-to_sql.ensures c.system_text-system.ensures) (wanted_bound c.user_text-user.result _ _ c.params-to_sql-2.ensures c.user_text-user.ensures) in
    let a = state g.S.Store c.args.conn.now in
    let b = state g.S.Store c.typed_rows.new.conn in
    asks_read (subst (λ params. AsksAndReads g.S.Store (AreTyped job_cells IsTypedHead) jobs_text params c.args.conn.now c.typed_rows.new.conn c.typed_rows.result) is c.typed_rows.ensures)
    (λ s of rows shown found it. jobs_listed a b s f rows of shown found.items it.1 it.0)
