-- The greater of the two limits is under the name, and nothing changes under another name.
use Rattle.std.proofs.Common.{◌≡◌, List, ℕ, Some, cond, nat_cmp, sym, ap, ◌∙◌}
use Rattle.std.specs.BTreeMap.{get, is_at}
use Rattle.std.specs.Cmp.Lexicographic.{slice_cmp, texts_ties}
use Rattle.uu_names.proofs.Basics.{text_from}
use Rattle.uu_core.specs.State.{same_text}
use Rattle.uu_core.proofs.DueLemmas.{lowered, with_limit}
use Rattle.uu_core.proofs.callable.lower.Goals as goal
use Rattle.uu_core.proofs.callable.lower.Goals.{in-Some, in-None}

pub returns : goal.returns
returns c other grade =
    let name = c.args.name.now in
    let map = c.args.limits.now in
    let copy : c.in_ok-clone.field-0 ≡ name = c.in_ok-clone.ensures.cases in
    let tied : is_at (slice_cmp nat_cmp c.in_ok-clone.field-0) other ≡ same_text name other = ap (λ (k : List ℕ). is_at (slice_cmp nat_cmp k) other) copy ∙ sym (texts_ties name other) in
    let found : c.copied.result ≡ get (slice_cmp nat_cmp) map name = c.copied.ensures ∙ c.get.ensures.value in
    let new = c.in_ok-insert.ensures.updates.0 other ∙ ap (λ t. cond t (Some c.match-copied.lowest) (get (slice_cmp nat_cmp) map other)) tied in
    let lowest : c.match-copied.lowest ≡ with_limit c.copied.result c.args.lowest =
    elim c.match-copied.branch [
      | in-Some w ↦ w.lowest-is ∙ w.lower_of-lowest.ensures ∙ sym (ap (λ o. with_limit o c.args.lowest) w.in-Some.is)
      | in-None w ↦ w.lowest-is ∙ sym (ap (λ o. with_limit o c.args.lowest) w.in-None.is)
    ] in
    lowered (get (slice_cmp nat_cmp) map other) _ c.args.lowest c.match-copied.lowest (same_text name other) grade c.copied.result new (λ same. found ∙ ap (get (slice_cmp nat_cmp) map) (text_from name other same)) lowest
