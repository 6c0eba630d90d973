use Rattle.std.proofs.Common.{◌≤◌, List, All, subst, sym}
use Rattle.std.proofs.lemmas.Result.{IfOk-weaker}
use Rattle.uu_times.specs.Moment.{last_second}
use Rattle.uu_core.specs.declared.queue.Queue.{Queue}
use Rattle.uu_report.specs.Reports.{IsQueuesReport}
use Rattle.uuspool.proofs.SumLemmas.{oldest_within}
use Rattle.uuspool.proofs.answer.queues_text.Goals as goal

pub queues_report-requires : goal.queues_report-requires
queues_report-requires c = record {
  seconds =
      subst (λ (queues : List Queue). All (λ queue. queue.sums.oldest ≤ last_second) queues) (sym c.deref.ensures.value)
      (oldest_within c.args.jobs.now c.in_ok-queues.queues.items c.in_ok-queues.ensures c.requires);
}

pub returns : goal.returns
returns c =
    IfOk-weaker c.queues_report.result _ _
    (λ text is. (c.in_ok-queues.queues.items, c.in_ok-queues.ensures, subst (λ (queues : List Queue). IsQueuesReport c.args.settings.now.zone queues text.items) c.deref.ensures.value is))
    c.queues_report.ensures
