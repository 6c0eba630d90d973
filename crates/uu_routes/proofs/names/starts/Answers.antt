use Rattle.std.proofs.Common.{◌≡◌, ◌↔◌, ◌++◌, ℕ, List, ap, map, subst, ◌∙◌, arith}
use Rattle.std.specs.List.{Contains}
use Rattle.std.proofs.lemmas.List.{take_all}
use Rattle.uu_routes.specs.declared.link.SiteLink.{SiteLink}
use Rattle.uu_routes.specs.Internal.Numbers.{hop_to, link_from}
use Rattle.uu_routes.proofs.Numbering.{once_same}
use Rattle.uu_routes.proofs.names.starts.Goals as goal

pub returns : goal.returns
returns c =
    let hops : List (List ℕ) = map hop_to c.args.first.now in
    let all : c.loop-link.names.items ≡ hops ++ map link_from c.args.links.now = c.loop-link.invariant ∙ ap (λ (links : List SiteLink). hops ++ map link_from links) (take_all c.loop-link.link-index c.args.links.now (omega arith)) in
    subst (λ (names : List (List ℕ)). (name : List ℕ) → Contains c.dedup.new.self.items name ↔ Contains names name) all (once_same c.loop-link.names.items c.dedup.new.self.items c.dedup.ensures.filtered)
