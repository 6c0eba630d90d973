use Rattle.std.proofs.Common.{is_some, ap, ◌∙◌}
use Rattle.std.specs.Option.{option_copied}
use Rattle.uu_core.specs.Refusal.{decided}
use Rattle.uu_core.specs.Verdict.{done_reasons}
use Rattle.uu_core.specs.After.{done_call_of}
use Rattle.uu_tables.proofs.ReportLemmas.{success_wait_is_within}
use Rattle.uu_tables.proofs.plan.report.done_call.Goals as goal

pub returns-clause-wait : goal.returns-clause-wait
returns-clause-wait c =
    let row = option_copied c.args.row in
    success_wait_is_within row c.args.at.now c.decide_done.result (done_reasons (is_some row) c.args.system.now c.args.jobs.now c.args.found.now) c.decide_done.ensures c.definitions_are_within_limits.ensures

pub returns-clause-call : goal.returns-clause-call
returns-clause-call c all found =
    let row = option_copied c.args.row in
    c.decide_done.ensures
    ∙ ap (λ reasons. decided reasons (done_call_of row c.args.at.now)) (c.named_jobs_decide.ensures (is_some row) c.args.system.now c.args.jobs.now all c.args.found.now found)
