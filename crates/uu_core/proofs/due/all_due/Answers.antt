use Rattle.std.proofs.Common.{◌<◌, ◌∙◌, ◌++◌, ◌∷◌, [], ap, map, filter, length, rules}
use Rattle.uu_core.specs.declared.job.JobHead.{JobHead}
use Rattle.uu_core.specs.Due.{may_go, due_of}
use Rattle.uu_core.proofs.DueLaws.{goes_too}
use Rattle.uu_core.proofs.due.all_due.Goals as goal

pub loop-job-preserved : goal.loop-job-preserved
loop-job-preserved c =
    let rows = c.args.rows.now in
    let at = c.args.at.now in
    let inside : c.loop-job.job-index < length c.args.jobs.now = search rules in
    goes_too rows at c.args.jobs.now c.loop-job.job-index c.job-item.result c.loop-job.dues.items c.list_free.new.dues.items inside c.loop-job.invariant
    (c.in_ok-list_free.ensures rows at c.in_ok-free.ensures ∙ ap (λ (j : JobHead). c.loop-job.dues.items ++ map due_of (filter (may_go rows at) (j ∷ []))) c.job-item.is)
