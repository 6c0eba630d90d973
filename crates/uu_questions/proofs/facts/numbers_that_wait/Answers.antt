use Rattle.std.proofs.Common.{◌≡◌, ◌∙◌, ◌++◌, filter, get_or, refl, sym, ap, arith, append-nil}
use Rattle.std.proofs.lemmas.List.{take_all}
use Rattle.uu_tables.specs.Plans.{waits_under}
use Rattle.uu_questions.proofs.Asking.{asks_as, asks_both, asks_beside, asks_refused}
use Rattle.uu_questions.proofs.WaitingJobs.{kept_more, one_if}
use Rattle.uu_questions.proofs.facts.numbers_that_wait.Goals as goal
use Rattle.uu_questions.proofs.facts.numbers_that_wait.Goals.{then-branch+in_ok-push, else-branch}

pub returns-in_err-waits_under : goal.returns-in_err-waits_under
returns-in_err-waits_under g c = asks_refused (asks_beside c.loop-number.invariant refl c.waits_under.ensures) c.from_residual.ensures.0

pub loop-number-preserved : goal.loop-number-preserved
loop-number-preserved g c =
    let i = c.loop-number.number-index in
    let numbers = c.args.numbers.now in
    let waits = c.in_ok-waits_under.field-0 in
    let pushed : c.if-branch.found.items ≡ c.loop-number.found.items ++ one_if waits (get_or numbers i 0) = elim c.if-branch.branch [
      | then-branch+in_ok-push w ↦ ap (λ v. v.items) w.found-is ∙ w.in_ok-push.ensures.items ∙ ap (λ t. c.loop-number.found.items ++ one_if t (get_or numbers i 0)) (sym w.if-branch.true)
      | else-branch w ↦ ap (λ v. v.items) w.found-is ∙ sym (append-nil c.loop-number.found.items) ∙ ap (λ t. c.loop-number.found.items ++ one_if t (get_or numbers i 0)) (sym w.if-branch.false)
    ] in
    asks_both c.loop-number.invariant refl c.waits_under.ensures c.in_ok-waits_under.was
    (λ s good so_far it. pushed ∙ kept_more (waits_under s c.args.name.now) numbers i c.loop-number.found.items waits (omega arith) so_far it)

pub returns : goal.returns
returns g c =
    asks_as c.loop-number.invariant (λ ok. refl)
    (λ s good all. all ∙ ap (filter (waits_under s c.args.name.now)) (take_all c.loop-number.number-index c.args.numbers.now (omega arith)))
