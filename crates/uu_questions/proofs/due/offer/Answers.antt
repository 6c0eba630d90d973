use Rattle.std.proofs.Common.{◌≡◌, ◌&&◌, ◌∷◌, ◌++◌, [], true, not, cond, None, nat_cmp, sym, ap, ◌∙◌}
use Rattle.std.specs.Cmp.Lexicographic.{slice_cmp, texts_ties}
use Rattle.std.specs.BTreeMap.{get}
use Rattle.uu_core.specs.Due.{is_listed}
use Rattle.uu_questions.proofs.DueRows.{left_after}
use Rattle.uu_questions.proofs.due.offer.Goals as goal

pub returns-in_ok-push : goal.returns-in_ok-push
returns-in_ok-push c may free =
    let due = c.args.due in
    let dues = c.args.dues.now.items in
    let old = get (slice_cmp nat_cmp) c.args.left.now in
    let yes : (may due.system due.grade && not (is_listed dues due.system)) ≡ true = sym (free due.system due.grade) ∙ sym c.is_free.ensures ∙ c.if-is_free.true in
    let pushed = c.in_ok-push.ensures.items in (
      λ name grade.
          let tied = ap (λ t. cond t None (old name)) (sym (texts_ties due.system name)) in
          left_after (may name grade) dues due name grade (old name) _ (free name grade) (c.remove.ensures.updates.0 name ∙ tied) ∙ ap (λ l. may name grade && not (is_listed l name)) (sym pushed),
      pushed ∙ sym (ap (λ b. cond b (dues ++ due ∷ []) dues) yes),
    )
