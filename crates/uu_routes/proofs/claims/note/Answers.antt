-- The claim is noted under the name, and nothing changes under another name.
use Rattle.std.proofs.Common.{◌≡◌, List, ℕ, Some, cond, nat_cmp, sym, ap, ◌∙◌}
use Rattle.std.specs.BTreeMap.{get, is_at}
use Rattle.std.specs.Cmp.Lexicographic.{slice_cmp, texts_ties}
use Rattle.std.specs.Str.{bytes_eq}
use Rattle.uu_routes.specs.Internal.Claims.{claim_by}
use Rattle.uu_routes.proofs.Claiming.{noted_is}
use Rattle.uu_routes.proofs.claims.note.Goals as goal

pub returns : goal.returns
returns c other =
    let name = c.args.name.now in
    let known = get (slice_cmp nat_cmp) c.args.table.now in
    let tied : is_at (slice_cmp nat_cmp c.in_ok-clone.field-0) other ≡ bytes_eq name other = ap (λ (k : List ℕ). is_at (slice_cmp nat_cmp k) other) c.in_ok-clone.ensures.cases ∙ sym (texts_ties name other) in
    c.in_ok-insert.ensures.updates.0 other
    ∙ ap (λ t. cond t (Some c.claim_by-claim.result) (known other)) tied
    ∙ noted_is c.args.entry name known other c.claim_by-claim.result (c.claim_by-claim.ensures ∙ ap (claim_by c.args.entry) (c.copied.ensures ∙ c.get.ensures.value))
