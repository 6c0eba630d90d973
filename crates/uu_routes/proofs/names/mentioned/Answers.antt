use Rattle.std.proofs.Common.{◌↔◌, ◌++◌, ℕ, List, map, subst, sym, ap, ◌∙◌}
use Rattle.std.specs.Prelude.{flat_map}
use Rattle.std.specs.List.{Contains}
use Rattle.uu_routes.specs.Internal.Numbers.{hop_to, link_from, link_to, network_sites}
use Rattle.uu_routes.proofs.Linking.{append_same}
use Rattle.uu_routes.proofs.names.mentioned.Goals as goal

pub returns : goal.returns
returns c =
    let before : List (List ℕ) = map hop_to c.args.first.now ++ map link_from c.args.links.now in
    let ends : List (List ℕ) = map link_to c.args.links.now in
    let sites : List (List ℕ) = flat_map network_sites c.args.networks.now in
    let same : (name : List ℕ) → Contains (c.in_ok-names.names.items ++ ends) name ↔ Contains (before ++ ends) name = append_same c.in_ok-names.names.items before ends c.in_ok-names.ensures in
    subst (λ (names : List (List ℕ)). (name : List ℕ) → Contains names name ↔ Contains ((before ++ ends) ++ sites) name)
    (sym (c.in_ok-add_networks.ensures ∙ ap (λ (names : List (List ℕ)). names ++ sites) c.in_ok-add_ends.ensures))
    (append_same (c.in_ok-names.names.items ++ ends) (before ++ ends) sites same)
