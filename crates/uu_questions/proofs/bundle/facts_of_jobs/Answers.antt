use Rattle.std.proofs.Common.{◌∙◌, length, map, refl, ap, arith, ◌+◌}
use Rattle.std.proofs.lemmas.List.{take_all, length_push}
use Rattle.uu_tables.specs.TakeInPlans.{fact_of}
use Rattle.uu_questions.proofs.Asking.{asks_as, asks_both, asks_beside, asks_refused}
use Rattle.uu_questions.proofs.Offers.{mapped_more}
use Rattle.uu_questions.proofs.bundle.facts_of_jobs.Goals as goal

pub returns-in_err-fact-clause-asks : goal.returns-in_err-fact-clause-asks
returns-in_err-fact-clause-asks g c = asks_refused (asks_beside c.loop-offered.invariant.0 refl c.fact_of.ensures) c.from_residual.ensures.0

pub returns-in_err-push-clause-asks : goal.returns-in_err-push-clause-asks
returns-in_err-push-clause-asks g c = asks_refused (asks_beside c.loop-offered.invariant.0 refl c.fact_of.ensures) c.from_residual-in_err-push.ensures.0

pub loop-offered-preserved : goal.loop-offered-preserved
loop-offered-preserved g c =
    let i = c.loop-offered.offered-index in
    let offered = c.offered-item.result in (
      asks_both c.loop-offered.invariant.0 refl c.fact_of.ensures c.in_ok-fact.was
          (λ s good so_far it known.
          c.in_ok-push.ensures.items
          ∙ mapped_more (fact_of s c.args.from.now) c.args.jobs.now i offered c.loop-offered.facts.items c.in_ok-fact.fact (omega arith) (so_far known) (it known ∙ ap (fact_of s c.args.from.now) c.offered-item.is)),
      ap length c.in_ok-push.ensures.items ∙ length_push c.loop-offered.facts.items c.in_ok-fact.fact ∙ ap (λ n. n + 1) c.loop-offered.invariant.1,
    )

pub returns-clause-asks : goal.returns-clause-asks
returns-clause-asks g c =
    asks_as c.loop-offered.invariant.0 (λ ok. refl)
    (λ s good all known. all known ∙ ap (map (fact_of s c.args.from.now)) (take_all c.loop-offered.offered-index c.args.jobs.now (omega arith)))
