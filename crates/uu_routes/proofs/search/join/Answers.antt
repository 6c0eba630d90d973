use Rattle.std.proofs.Common.{◌<◌, ◌+◌, ◌^◌, List, All, ap, sym, subst, length, ◌∙◌}
use Rattle.uu_routes.specs.declared.net.Edge.{Edge}
use Rattle.uu_routes.proofs.Rounds.{followed_size, join_step, least_from}
use Rattle.uu_routes.proofs.search.join.Goals as goal

pub follow-requires-clause-sums : goal.follow-requires-clause-sums
follow-requires-clause-sums c base is =
    let (u, at) = least_from c.args.ways.now c.as_slice-edges.result.now base (sym c.least_among.ensures ∙ is) in
    subst (λ (es : List Edge). All (λ (e : Edge). base.cost + e.cost < 2 ^ 64) es) (sym (c.as_slice-edges.ensures ∙ c.network-item.is))
    (c.requires.sound.sums u base at c.loop-network.network-index c.network-item.result c.loop-network-test.true)

pub loop-network-preserved : goal.loop-network-preserved
loop-network-preserved c = record {
  size = ap length c.in_ok-follow.ensures ∙ (followed_size _ c.as_slice-edges.result.now c.loop-network.labels.items ∙ c.loop-network.invariant.size);
  rest =
      join_step c.args.networks.now c.args.ways.now c.loop-network.network-index _ c.as_slice-edges.result.now c.network-item.result c.loop-network.labels.items c.follow.new.labels.items
      c.loop-network-test.true c.network-item.is c.as_slice-edges.ensures c.least_among.ensures c.in_ok-follow.ensures
      ∙ c.loop-network.invariant.rest;
}
