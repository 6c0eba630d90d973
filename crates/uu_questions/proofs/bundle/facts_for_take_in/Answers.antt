use Rattle.std.proofs.Common.{◌∙◌, ap, map}
use Rattle.uu_tables.specs.TakeInPlans.{fact_of}
use Rattle.uu_questions.proofs.Asking.{asks_both, asks_beside, asks_refused}
use Rattle.uu_questions.proofs.bundle.facts_for_take_in.Goals as goal

pub returns-clause-asks : goal.returns-clause-asks
returns-clause-asks g c =
    asks_both c.facts_of_neighbour.ensures c.in_ok-facts.was c.facts_of_jobs.ensures.asks c.in_ok-jobs.was
    (λ s good neighbour jobs. record {
      known = neighbour.0;
      next = neighbour.1;
      before = neighbour.2;
      jobs = jobs neighbour.0 ∙ ap (map (fact_of s c.args.it.now.from)) c.as_slice.ensures;
    })

pub returns-in_err-facts-clause-asks : goal.returns-in_err-facts-clause-asks
returns-in_err-facts-clause-asks g c = asks_refused c.facts_of_neighbour.ensures c.from_residual.ensures.0

pub returns-in_err-jobs-clause-asks : goal.returns-in_err-jobs-clause-asks
returns-in_err-jobs-clause-asks g c = asks_refused (asks_beside c.facts_of_neighbour.ensures c.in_ok-facts.was c.facts_of_jobs.ensures.asks) c.from_residual-in_err-jobs.ensures.0
