use Rattle.std.proofs.Common.{◌≡◌, Ok, None, IfSome, length, option_map, sym, subst, ◌∙◌}
use Rattle.std.proofs.lemmas.Result.{IfOk-weaker, IfOk-from_err}
use Rattle.sqlite.specs.Held.{state}
use Rattle.uu_core.specs.State.{job_at}
use Rattle.uu_questions.specs.Listing.{handed_out, head_and_bytes}
use Rattle.uu_questions.proofs.Answering.{then_answers, answers_as, answer_in, both_ok, none_ok}
use Rattle.uu_rows.proofs.Showing.{answered}
use Rattle.uu_questions.proofs.JobBytes.{handed, not_there}
use Rattle.uu_questions.proofs.jobs.job_of_number.Goals as goal

pub returns-clause-answers : goal.returns-clause-answers
returns-clause-answers g c =
    let a = state g.S.Store c.args.conn.now in
    let b = state g.S.Store c.head_of_job.new.conn in
    let d = state g.S.Store c.bytes_of_job.new.conn in
    then_answers _ a b c.head_of_job.result c.head_of_job.ensures.answers (answered _ _ c.in_ok-head.was) _ d c.bytes_of_job.result c.bytes_of_job.ensures.answers _ c.whole_job.result (λ ok. answered _ _ c.in_ok-bytes.was)
    (λ s good h k. IfOk-weaker c.whole_job.result _ _
    (λ found is. subst (λ o. option_map handed_out o ≡ option_map head_and_bytes (job_at s c.args.number)) (sym is)
    (handed s c.args.number c.in-Some.head c.in_ok-bytes.bytes (sym c.in-Some.is ∙ answer_in _ c.head_of_job.result _ c.in_ok-head.was h) (answer_in _ c.bytes_of_job.result _ c.in_ok-bytes.was k)))
    c.whole_job.ensures.job)

pub returns-clause-size : goal.returns-clause-size
returns-clause-size g c =
    both_ok c.whole_job.result _ _ _ (λ found is size. subst (λ o. IfSome o (λ job. job.0.size ≡ length job.1.items)) (sym is) size) c.whole_job.ensures.job c.whole_job.ensures.size

pub returns-in_default-clause-answers : goal.returns-in_default-clause-answers
returns-in_default-clause-answers g c =
    let a = state g.S.Store c.args.conn.now in
    let b = state g.S.Store c.head_of_job.new.conn in
    answers_as _ _ a b c.head_of_job.result (Ok None) c.head_of_job.ensures.answers (λ ok. answered _ _ c.in_ok-head.was)
    (λ s good h. not_there s c.args.number (sym c.in_default.is ∙ answer_in _ c.head_of_job.result _ c.in_ok-head.was h))

pub returns-in_err-bytes-clause-answers : goal.returns-in_err-bytes-clause-answers
returns-in_err-bytes-clause-answers g c =
    let a = state g.S.Store c.args.conn.now in
    let b = state g.S.Store c.head_of_job.new.conn in
    let d = state g.S.Store c.bytes_of_job.new.conn in
    let r = c.from_residual-in_err-bytes.result in
    let fails = c.from_residual-in_err-bytes.ensures.0 in
    then_answers _ a b c.head_of_job.result c.head_of_job.ensures.answers (answered _ _ c.in_ok-head.was) _ d c.bytes_of_job.result c.bytes_of_job.ensures.answers _ r (none_ok r c.bytes_of_job.result fails) (λ s good h k. IfOk-from_err r _ fails)
