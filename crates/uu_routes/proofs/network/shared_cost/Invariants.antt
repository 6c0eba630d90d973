use Rattle.std.proofs.Common.{◌≡◌, ◌++◌, ◌&&◌, drop, map}
use Rattle.std.specs.Prelude.{filter, min}
use Rattle.std.specs.List.{reduce}
use Rattle.std.specs.Option.{option_to_list}
use Rattle.uu_routes.specs.declared.link.SiteNetwork.{SiteNetwork}
use Rattle.uu_routes.specs.Map.{is_in, shared_cost}
use Rattle.uu_routes.proofs.network.shared_cost.Given as goal

abbrev pub invariant-loop-network : goal.invariant-loop-network
invariant-loop-network l = reduce min (option_to_list l.least ++ map (λ (n : SiteNetwork). n.cost) (filter (λ n. is_in n l.own && is_in n l.host) (drop l.network-index l.networks))) ≡ shared_cost l.networks l.own l.host
