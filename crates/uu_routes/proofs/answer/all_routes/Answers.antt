use Rattle.std.proofs.Common.{◌≡◌, List, Option, All, length, sym, ap, subst, ◌∙◌}
use Rattle.std.proofs.lemmas.Result.{IfOk-weaker}
use Rattle.uu_routes.specs.declared.label.Label.{Label}
use Rattle.uu_routes.specs.Links.{most_hops}
use Rattle.uu_routes.specs.declared.link.Destination.{Destination}
use Rattle.uu_routes.specs.declared.net.Net.{Net}
use Rattle.uu_routes.specs.Routes.{AreRoutes}
use Rattle.uu_routes.specs.Internal.Nets.{IsFitNet, AreFound}
use Rattle.uu_routes.specs.Internal.Routing.{IsNumbered, destinations}
use Rattle.uu_routes.proofs.Answering.{fit, sizes, numbered, are_routes}
use Rattle.uu_routes.proofs.answer.all_routes.Goals as goal

pub least_ways-requires : goal.least_ways-requires
least_ways-requires c = subst (λ (n : Net). IsFitNet n) (sym c.in_ok-net.ensures) (fit c.args.names.now c.args.first.now c.args.links.now c.args.networks.now c.requires.order c.requires.same c.requires.cheap)

pub destinations-requires-clause-size : goal.destinations-requires-clause-size
destinations-requires-clause-size c =
    let found = subst (λ (n : Net). AreFound n most_hops c.in_ok-labels.labels.items) c.in_ok-net.ensures c.in_ok-labels.ensures in
    ap length c.deref.ensures.value ∙ sizes c.args.names.now c.args.first.now c.args.links.now c.args.networks.now c.in_ok-labels.labels.items found

pub destinations-requires-clause-numbered : goal.destinations-requires-clause-numbered
destinations-requires-clause-numbered c =
    let found = subst (λ (n : Net). AreFound n most_hops c.in_ok-labels.labels.items) c.in_ok-net.ensures c.in_ok-labels.ensures in
    subst (λ (ls : List (Option Label)). All (IsNumbered (length c.args.names.now)) ls) (sym c.deref.ensures.value) (numbered c.args.names.now c.args.first.now c.args.links.now c.args.networks.now c.in_ok-labels.labels.items c.requires.order c.requires.same found)

pub returns : goal.returns
returns c =
    let found = subst (λ (n : Net). AreFound n most_hops c.in_ok-labels.labels.items) c.in_ok-net.ensures c.in_ok-labels.ensures in
    let all : AreRoutes c.args.first.now c.args.links.now c.args.networks.now (destinations c.args.names.now c.args.names.now c.in_ok-labels.labels.items) = are_routes c.args.names.now c.args.first.now c.args.links.now c.args.networks.now c.in_ok-labels.labels.items c.requires.order c.requires.same found in
    IfOk-weaker c.destinations.result (λ v. v.items ≡ destinations c.args.names.now c.args.names.now c.deref.result.now) (λ v. AreRoutes c.args.first.now c.args.links.now c.args.networks.now v.items)
    (λ v e. subst (λ (ds : List Destination). AreRoutes c.args.first.now c.args.links.now c.args.networks.now ds) (sym (e ∙ ap (destinations c.args.names.now c.args.names.now) c.deref.ensures.value)) all)
    c.destinations.ensures
