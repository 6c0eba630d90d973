use Rattle.std.proofs.Common.{◌≡◌, map, refl, sym, ap, ◌∙◌, arith, ◌++◌, append-nil}
use Rattle.std.proofs.lemmas.List.{take_all}
use Rattle.uu_names.proofs.Basics.{find-map}
use Rattle.uu_core.specs.State.{head_of}
use Rattle.uu_questions.proofs.Asking.{asks_as, asks_both, asks_beside, asks_refused}
use Rattle.uu_questions.proofs.FoundJobs.{found_in, found_more, are_found, one_or_none}
use Rattle.uu_questions.proofs.facts.heads_of_jobs.Goals as goal
use Rattle.uu_questions.proofs.facts.heads_of_jobs.Goals.{in-Some+in_ok-push, in_default}

pub returns-in_err-head : goal.returns-in_err-head
returns-in_err-head g c = asks_refused (asks_beside c.loop-number.invariant refl c.head_of_job.ensures) c.from_residual.ensures.0

pub returns-in_err-push : goal.returns-in_err-push
returns-in_err-push g c = asks_refused (asks_beside c.loop-number.invariant refl c.head_of_job.ensures) c.from_residual-in_err-push.ensures.0

pub loop-number-preserved : goal.loop-number-preserved
loop-number-preserved g c =
    let i = c.loop-number.number-index in
    let numbers = c.args.numbers.now in
    let pushed : c.match-branch-2.found.items ≡ c.loop-number.found.items ++ one_or_none c.in_ok-head.field-0 = elim c.match-branch-2.branch [
      | in-Some+in_ok-push w ↦ ap (λ v. v.items) w.found-is ∙ w.in_ok-push.ensures.items ∙ ap (λ o. c.loop-number.found.items ++ one_or_none o) (sym w.in-Some.is)
      | in_default w ↦ ap (λ v. v.items) w.found-is ∙ sym (append-nil c.loop-number.found.items) ∙ ap (λ o. c.loop-number.found.items ++ one_or_none o) (sym w.in_default.is)
    ] in
    asks_both c.loop-number.invariant refl c.head_of_job.ensures c.in_ok-head.was
    (λ s good so_far head. pushed ∙ found_more (map head_of s.jobs) numbers i c.loop-number.found.items c.in_ok-head.field-0 (omega arith) so_far (head ∙ sym (find-map _ head_of s.jobs)))

pub returns : goal.returns
returns g c =
    asks_as c.loop-number.invariant (λ ok. refl)
    (λ s good all. are_found s c.args.numbers.now c.loop-number.found.items good (all ∙ ap (found_in (map head_of s.jobs)) (take_all c.loop-number.number-index c.args.numbers.now (omega arith))))
