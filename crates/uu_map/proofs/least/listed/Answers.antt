use Rattle.std.proofs.Common.{◌≡◌, ◌∙◌, ap, None, map}
use Rattle.std.proofs.lemmas.Result.{IfOk-weaker}
use Rattle.uu_map.specs.Listing.{IsListing}
use Rattle.uu_map.specs.Internal.Ranking.{as_link, firsts_after}
use Rattle.uu_map.proofs.Ranks.{listing}
use Rattle.uu_map.proofs.least.listed.Goals as goal

pub returns : goal.returns
returns c =
    IfOk-weaker c.as_links.result (λ v. v.items ≡ map as_link c.in_ok-ranked.ranked.items) (λ v. IsListing c.args.links.items v.items)
    (λ v e. listing c.args.links.items c.in_ok-links.links.items v.items c.in_ok-firsts.field-0.items c.in_ok-ranked.ranked.items c.in_ok-links.ensures.same c.in_ok-links.ensures.sorted (c.in_ok-firsts.ensures ∙ ap (firsts_after None) c.deref.ensures.value) c.in_ok-ranked.ensures.same c.in_ok-ranked.ensures.order e)
    c.as_links.ensures
