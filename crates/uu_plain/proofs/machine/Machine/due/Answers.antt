use Rattle.std.proofs.Common.{◌≡◌, ◌<◌, ◌∙◌, List, AllPairs, ap, sym, subst, map}
use Rattle.std.proofs.lemmas.Result.{IfOk-weaker}
use Rattle.uu_core.specs.declared.job.JobHead.{JobHead}
use Rattle.uu_core.specs.declared.system.SystemRow.{SystemRow}
use Rattle.uu_core.specs.State.{State, Job, head_of}
use Rattle.uu_core.specs.Due.{AreDue, HaveNumbers}
use Rattle.uu_plain.proofs.PlainLemmas.{have_numbers}
use Rattle.uu_plain.proofs.machine.Machine.due.Goals as goal

pub returns : goal.returns
returns c =
    let old = c.args.self.now in
    let at = c.args.at.now in
    let rows = c.deref.result.now in
    let heads = c.as_slice-2.result.now in
    let rows_are : rows ≡ old.systems = c.deref.ensures.value ∙ ap (λ (s : State). s.systems) c.self.view_is in
    let heads_are : heads ≡ map head_of old.jobs =
    c.as_slice-2.ensures.value ∙ c.in_ok-heads.ensures ∙ ap (map head_of) c.as_slice.ensures.value ∙ ap (λ (s : State). map head_of s.jobs) c.self.view_is in
    let rising : AllPairs (λ (a b : Job). a.number < b.number) old.jobs = subst (λ (s : State). AllPairs (λ (a b : Job). a.number < b.number) s.jobs) c.self.view_is c.self.invariant.rising in
    let numbers : HaveNumbers heads = subst HaveNumbers (sym heads_are) (have_numbers old.jobs rising) in
    IfOk-weaker c.choose.result (λ dues. HaveNumbers heads → AreDue rows heads at dues.items) (λ dues. AreDue old.systems (map head_of old.jobs) at dues.items)
    (λ dues h. subst (λ (r : List SystemRow). AreDue r (map head_of old.jobs) at dues.items) rows_are (subst (λ (l : List JobHead). AreDue rows l at dues.items) heads_are (h numbers)))
    c.choose.ensures
