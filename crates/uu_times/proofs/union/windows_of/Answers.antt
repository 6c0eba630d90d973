use Rattle.std.proofs.Common.{ℕ, ap, sym, subst, rules, ◌∙◌, ◌≡◌}
use Rattle.std.specs.List.Sorted.{IsNonDecreasingBy, IsPermutation}
use Rattle.std.proofs.lemmas.List.Sorted.{IsNonDecreasingBy-from_sort_by_key}
use Rattle.std.proofs.lemmas.Result.{IfOk-weaker}
use Rattle.uu_times.specs.Internal.Simples.{any_has}
use Rattle.uu_times.specs.Ranges.{AreSeparateRanges, maximal_runs}
use Rattle.uu_times.specs.Internal.Union.{week_ranges, merged}
use Rattle.uu_times.proofs.UnionLemmas.{merged_runs}
use Rattle.uu_times.proofs.union.windows_of.Goals as goal

pub from_runs-requires : goal.from_runs-requires
from_runs-requires c =
    let sorted = c.sort_by_key.new.self.items in
    let rises : IsNonDecreasingBy (λ (r : ℕ × ℕ). r.0) sorted = IsNonDecreasingBy-from_sort_by_key (λ (r : ℕ × ℕ). r.0) sorted c.in_ok-sort_by_key.ensures.sorted (λ a r q k. search rules) in
    let moved : IsPermutation (week_ranges c.args.simples.now) sorted = subst (λ xs. IsPermutation xs sorted) c.in_ok-ranges.ensures c.in_ok-sort_by_key.ensures.permutation in
    let runs : c.in_ok-merged.field-0.items ≡ merged sorted = c.in_ok-merged.ensures ∙ ap merged c.deref.ensures.value in
    subst AreSeparateRanges (sym runs) (merged_runs c.args.simples.now sorted c.requires moved rises).0

pub returns : goal.returns
returns c =
    let sorted = c.sort_by_key.new.self.items in
    let rises : IsNonDecreasingBy (λ (r : ℕ × ℕ). r.0) sorted = IsNonDecreasingBy-from_sort_by_key (λ (r : ℕ × ℕ). r.0) sorted c.in_ok-sort_by_key.ensures.sorted (λ a r q k. search rules) in
    let moved : IsPermutation (week_ranges c.args.simples.now) sorted = subst (λ xs. IsPermutation xs sorted) c.in_ok-ranges.ensures c.in_ok-sort_by_key.ensures.permutation in
    let runs : c.in_ok-merged.field-0.items ≡ merged sorted = c.in_ok-merged.ensures ∙ ap merged c.deref.ensures.value in
    IfOk-weaker c.from_runs.result (λ windows. windows ≡ c.in_ok-merged.field-0.items) (λ windows. windows ≡ maximal_runs (any_has c.args.simples.now))
    (λ windows same. same ∙ runs ∙ sym (merged_runs c.args.simples.now sorted c.requires moved rises).1) c.from_runs.ensures
