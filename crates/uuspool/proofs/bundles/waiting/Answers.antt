use Rattle.std.proofs.Common.{◌≡◌, ◌∙◌, ℕ, Vec, Ok, ap, map, min}
use Rattle.std.specs.Prelude.{⊤}
use Rattle.std.specs.List.{fold}
use Rattle.std.specs.declared.alloc.Global.{Global}
use Rattle.uu_core.specs.declared.filter.Filter.{Filter}
use Rattle.uu_core.specs.declared.job.JobHead.{JobHead}
use Rattle.uu_questions.specs.Listing.{listed_jobs}
use Rattle.uuspool.specs.Internal.Asked.{ArePacked}
use Rattle.uuspool.specs.Internal.Choice.{heads_to_go}
use Rattle.uuspool.proofs.AskedLemmas.{asked_as, asked_one, asked_then}
use Rattle.uuspool.proofs.WaitingLemmas.{all_for, are_there, are_to_go, below_is, jobs_to_go, numbers_are}
use Rattle.uuspool.proofs.bundles.waiting.Goals as goal

pub returns : goal.returns
returns g c =
    let it = c.args.packing.now in
    let lowest = c.args.lowest in
    let wanted = c.in_ok-filter.filter in
    asked_as (λ s. ⊤) (λ s (heads : Vec JobHead Global). (c.in_ok-next.next ≡ s.next) × (heads.items ≡ listed_jobs wanted s)) c.args.spool.now c.jobs.new.self
    (λ s (one : Vec ℕ Global × ℕ). ArePacked it lowest s one.0.items one.1) c.in_ok-heads.heads (c.in_ok-numbers.numbers, c.least_number.result)
    (λ s shown known was.
    let good = shown.encodes.holds.good in
    let of_number : JobHead → ℕ = λ head. head.number in
    let found = was.1 ∙ ap (λ (f : Filter). listed_jobs f s) c.in_ok-filter.ensures in
    record {
      jobs = jobs_to_go it lowest s;
      are = are_to_go it lowest s good (c.jobs_are_listed_in_order.ensures.order (all_for it.system) s good);
      there = are_there it lowest s good;
      numbers_are = c.in_ok-numbers.ensures ∙ ap (λ heads. map of_number (heads_to_go it lowest heads)) (c.deref.ensures.value ∙ found) ∙ numbers_are it lowest s;
      below_is = c.least_number.ensures ∙ ap (λ heads. fold min c.in_ok-next.next (map of_number heads)) (c.deref-2.ensures.value ∙ found)
          ∙ ap (λ next. fold min next (map of_number (listed_jobs (all_for it.system) s))) was.0 ∙ below_is it lowest s good;
    })
    (asked_then (λ s. ⊤) (λ s next. next ≡ s.next) c.args.spool.now c.next.new.self c.jobs.new.self c.in_ok-next.next
    (asked_one (λ s next. next ≡ s.next) c.args.spool.now c.next.new.self (Ok c.in_ok-next.next) c.in_ok-next.ensures.question)
    (λ s. ⊤) (λ s (heads : Vec JobHead Global). heads.items ≡ listed_jobs wanted s) (Ok c.in_ok-heads.heads) (λ s shown known is. tt)
    (asked_one (λ s (heads : Vec JobHead Global). heads.items ≡ listed_jobs wanted s) c.next.new.self c.jobs.new.self (Ok c.in_ok-heads.heads) c.in_ok-heads.ensures.question))
