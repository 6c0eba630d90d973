use Rattle.std.proofs.Common.{◌∷◌, [], ◌∙◌}
use Rattle.uu_rows.proofs.Columns.{seven}
use Rattle.uu_rows.proofs.rows.SystemColumnsTypedRow.read.Goals as goal

pub returns-clause-row : goal.returns-clause-row
returns-clause-row c =
    let name = c.in_ok-definition_in.ensures.name in
    let text = c.in_ok-definition_in.ensures.text in
    let last = c.in_ok-number_in.ensures.value in
    let failures = c.in_ok-number_in-2.ensures.value in
    let wait = c.in_ok-number_in-3.ensures.value in
    let outcome = c.in_ok-number_in-4.ensures.value in
    let why = c.in_ok-word_or_null_in.ensures.value in
    seven c.args.row.now c.in_ok-has_width.ensures.width ∙ (λ i. name i ∷ text i ∷ last i ∷ failures i ∷ wait i ∷ outcome i ∷ why i ∷ [])
