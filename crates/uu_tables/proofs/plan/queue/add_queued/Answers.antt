use Rattle.std.proofs.Common.{◌∙◌, ◌∷◌, ◌+◌, [], ap}
use Rattle.uu_tables.specs.Changes.{append, applied, new_job}
use Rattle.uu_tables.specs.Tables.{body_of}
use Rattle.uu_core.specs.After.{job_of}
use Rattle.uu_tables.proofs.plan.queue.add_queued.Goals as goal

pub returns : goal.returns
returns c t =
    let job = c.args.job.now in
    let number = c.args.number in
    let row = new_job number c.columns_of-columns.result in
    ap (λ l. applied l t) c.in_ok-vec.ensures.items
    ∙ ap (λ all. record t { next = number + 1; jobs = append row t.jobs; bodies = append (record { job = number; bytes = all }) t.bodies }) c.as_slice-bytes.ensures
    ∙ ap (λ head. record t { next = number + 1; jobs = append head t.jobs; bodies = append (body_of (job_of number job)) t.bodies }) (c.columns_of-columns.ensures number)
