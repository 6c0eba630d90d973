use Rattle.std.proofs.Common.{◌<◌, ◌+◌, ◌^◌, List, Option, All, ap, sym, subst, length, arith, ◌∙◌}
use Rattle.uu_routes.specs.declared.label.Label.{Label}
use Rattle.uu_routes.specs.declared.net.Edge.{Edge}
use Rattle.uu_routes.specs.Internal.Labels.{followed}
use Rattle.uu_routes.proofs.Rounds.{edges_known, followed_size, none_known, round_step}
use Rattle.uu_routes.proofs.search.round.Goals as goal

pub follow-requires-clause-sums : goal.follow-requires-clause-sums
follow-requires-clause-sums c base is k d h =
    let at = c.loop-at.at in
    let there : at < length c.args.links.now = omega (arith, c.loop-at-test.true, c.requires.sound.size) in
    let es = c.as_slice.ensures ∙ sym (edges_known c.args.links.now at c.index-links-at.result there c.index-links-at.is) in
    subst (λ (es : List Edge). All (λ (e : Edge). base.cost + e.cost < 2 ^ 64) es) (sym es)
    (c.requires.sound.sums at base (none_known c.args.ways.now at c.index-ways-at.result c.loop-at-test.true c.index-ways-at.is ∙ (sym c.as_ref.ensures.value ∙ is))) k d h

pub loop-at-preserved : goal.loop-at-preserved
loop-at-preserved c = record {
  size = ap length c.in_ok-follow.ensures ∙ (followed_size _ c.as_slice.result.now c.loop-at.labels.items ∙ c.loop-at.invariant.size);
  rest =
      round_step c.args.links.now c.args.ways.now c.loop-at.at c.index-ways-at.result c.index-links-at.result c.loop-at.labels.items c.follow.new.labels.items
      c.requires.sound.size c.loop-at-test.true c.index-ways-at.is c.index-links-at.is
      (c.in_ok-follow.ensures ∙ (ap (λ (o : Option Label). followed o c.as_slice.result.now c.loop-at.labels.items) c.as_ref.ensures.value ∙ ap (λ (es : List Edge). followed c.index-ways-at.result es c.loop-at.labels.items) c.as_slice.ensures))
      ∙ c.loop-at.invariant.rest;
}
