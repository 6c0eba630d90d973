use Rattle.std.proofs.Common.{◌∷◌, [], ◌∙◌}
use Rattle.uu_rows.proofs.Columns.{nine}
use Rattle.uu_rows.proofs.borrowed.head_in.Goals as goal

pub returns-clause-row : goal.returns-clause-row
returns-clause-row c =
    let number = c.in_ok-number_in.ensures.value in
    let system = c.in_ok-name_in.ensures.value in
    let grade = c.in_ok-grade_in.ensures.value in
    let user = c.in_ok-word_in.ensures.value in
    let kind = c.in_ok-kind_in.ensures.number in
    let queued = c.in_ok-seconds_in.ensures.value in
    let first = c.in_ok-kind_in.ensures.first in
    let second = c.in_ok-kind_in.ensures.second in
    let size = c.in_ok-number_in-2.ensures.value in
    nine c.args.row.now c.in_ok-has_width.ensures.width ∙ (λ i. number i ∷ system i ∷ grade i ∷ user i ∷ kind i ∷ queued i ∷ first i ∷ second i ∷ size i ∷ [])
