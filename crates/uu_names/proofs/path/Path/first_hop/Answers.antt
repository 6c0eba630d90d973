-- The text may be cut before its first `!`, and what comes before it is a site name.
use Rattle.std.proofs.Common.{◌≡◌, List, ℕ, subst, sym, ap, ◌∙◌, IsCharBoundary, arith}
use Rattle.std.proofs.lemmas.Grind.{common_steps}
use Rattle.uu_names.specs.Name.{is_site_name}
use Rattle.uu_names.specs.Path.{IsPathText, first_hop}
use Rattle.uu_names.proofs.PathParts.{cut_before, first_hop_site}
use Rattle.uu_names.proofs.path.Path.first_hop.Goals as goal

pub range-requires-clause-end_boundary : goal.range-requires-clause-end_boundary
range-requires-clause-end_boundary c =
    let e = c.as_str-text.ensures.value in
    subst (λ (t : List ℕ). IsCharBoundary t c.self.inside.hop_len) (sym e) (cut_before _ c.self.inside.hop_len c.self.invariant.0 c.self.invariant.1)

pub returns-clause-site : goal.returns-clause-site
returns-clause-site c =
    let e : c.range.result.now ≡ first_hop c.args.self.now = grind (arith, common_steps) in
    ap is_site_name e ∙ first_hop_site c.args.self.now (subst IsPathText c.self.view_is c.self.invariant.0)
