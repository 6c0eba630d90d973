-- One entry more.
use Rattle.std.proofs.Common.{Option, Some, cond, take, sym, ap, ◌∙◌}
use Rattle.uu_map.specs.declared.entry.Entry.{Entry}
use Rattle.uu_routes.specs.declared.claims.Claim.{Claim}
use Rattle.uu_routes.specs.Map.{claims}
use Rattle.uu_routes.specs.Internal.Claims.{claim_among, claim_by, claimers}
use Rattle.uu_routes.proofs.Claiming.{one_more}
use Rattle.uu_routes.proofs.claims.table_of.Goals as goal

pub loop-place-preserved : goal.loop-place-preserved
loop-place-preserved c name =
    let es = c.args.entries.now in
    let i = c.loop-place.place in
    let entry = c.index-entries-place.result in
    let before : Option Claim = claim_among (claimers name 0 (take i es)) in
    c.in_ok-note_all.ensures name
    ∙ ap (λ (known : Option Claim). cond (claims name entry) (Some (claim_by i known)) known) (c.loop-place.invariant name)
    ∙ ap (λ (e : Entry). cond (claims name e) (Some (claim_by i before)) before) c.index-entries-place.is
    ∙ sym (one_more name es i entry c.loop-place-test.true)
