use Rattle.std.proofs.Common.{◌≡◌, ◌∙◌, List, All, option_copied, subst, sym}
use Rattle.std.proofs.lemmas.Result.{IfOk-weaker}
use Rattle.uu_core.specs.Definitions.{picked}
use Rattle.uu_core.specs.NextCalls.{AreNextPolls, IsPollAhead}
use Rattle.uu_core.specs.Order.{AreByName}
use Rattle.uu_core.specs.declared.next_call.NextPoll.{NextPoll}
use Rattle.uu_core.specs.declared.system.SystemRow.{SystemRow}
use Rattle.uu_report.specs.Reports.{IsNextPollsReport}
use Rattle.uuspool.proofs.SumLemmas.{picked_by_name}
use Rattle.uuspool.proofs.answer.next_polls_text.Goals as goal

pub next_polls_report-requires : goal.next_polls_report-requires
next_polls_report-requires c = record { ahead = subst (λ (polls : List NextPoll). All (IsPollAhead c.args.at.now.second) polls) (sym c.deref-2.ensures.value) c.in_ok-polls.ensures.ahead }

pub returns : goal.returns
returns c =
    let zone = c.args.settings.now.zone in
    let second = c.args.at.now.second in
    let polls = c.in_ok-polls.polls.items in
    let wanted : c.deref.result.now ≡ picked (option_copied c.args.system) c.args.rows.items = c.deref.ensures.value ∙ c.pick_systems-wanted.ensures in
    IfOk-weaker c.next_polls_report.result _ _
    (λ text is. (
      polls,
      λ by_name. subst (λ (rows : List SystemRow). AreNextPolls zone rows second polls) wanted
          (c.in_ok-polls.ensures.polls (subst (AreByName (λ (row : SystemRow). row.def.name)) (sym wanted) (picked_by_name (option_copied c.args.system) c.args.rows.items by_name))),
      subst (λ (all : List NextPoll). IsNextPollsReport zone second all text.items) c.deref-2.ensures.value is,
    ))
    c.next_polls_report.ensures
