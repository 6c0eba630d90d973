use Rattle.std.proofs.Common.{◌≡◌, ◌∙◌, get_or, ap}
use Rattle.std.proofs.lemmas.List.{set-get_or}
use Rattle.uu_core.specs.declared.job.JobHead.{JobHead}
use Rattle.uu_core.specs.State.{Job}
use Rattle.uu_plain.proofs.PlainLemmas.{own_number, other_number, job_changed, job_passed}
use Rattle.uu_plain.proofs.rows.regrade.Goals as goal
use Rattle.uu_plain.proofs.rows.regrade.Goals.{then-head-number, else-head-number}

pub loop-job-preserved : goal.loop-job-preserved
loop-job-preserved c =
    let change : Job → Job = λ job. record job { grade = c.args.grade } in
    let all = c.args.jobs.now in
    let i = c.loop-job.job-index in
    let job = get_or c.loop-job.jobs i c.job-item.result in
    let here : job ≡ get_or c.loop-job.jobs i job = ap (λ d. get_or c.loop-job.jobs i d) c.job-item.is in
    let head = ap (λ (h : JobHead). h.number) c.head.ensures in
    elim c.if-head-number.branch [
      | then-head-number w ↦
          w.jobs-is ∙ job_changed c.args.number change all c.loop-job.jobs i job _ c.loop-job-test.true c.loop-job.invariant here (own_number _ job.number c.args.number head w.if-head-number.true) w.regrade.ensures
      | else-head-number w ↦
          w.jobs-is ∙ set-get_or c.loop-job.jobs i c.job-item.result ∙ job_passed c.args.number change all c.loop-job.jobs i job c.loop-job-test.true c.loop-job.invariant here (other_number _ job.number c.args.number head w.if-head-number.false)
    ]
