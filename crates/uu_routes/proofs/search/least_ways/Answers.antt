use Rattle.std.proofs.Common.{◌≡◌, ℕ, ◌+◌, ◌-◌, ◌<◌, suc, List, All, None, Option, length, map, replicate, sym, ap, ◌∙◌, subst, arith}
use Rattle.std.proofs.lemmas.List.{length-map}
use Rattle.uu_routes.specs.declared.net.Edge.{Edge}
use Rattle.uu_routes.specs.declared.label.Label.{Label}
use Rattle.uu_routes.specs.Internal.Labels.{joined, rounded, way_of}
use Rattle.uu_routes.specs.Internal.Nets.{AreFound, AreSound, AreSoundNetworks}
use Rattle.uu_routes.proofs.Rounds.{are_sound_networks, are_sound_ways, first_found, next_found, rounded_size, steady}
use Rattle.uu_routes.proofs.search.least_ways.Goals as goal

-- how many rounds are left
abbrev steps : ℕ → ℕ
steps n = 127 - n

steps_up : (n : ℕ) → n < 127 → n + steps n ≡ 127
steps_up n h = omega (arith, h)

pub loop-hops-init : goal.loop-hops-init
loop-hops-init c = record {
  found = first_found c.args.net.now c.requires c.in_ok-labels.labels.items c.relax.new.labels.items c.start.result c.as_slice.result.now (c.in_ok-labels.ensures ∙ ap (λ (x : List (List Edge)). replicate (length x) None) c.as_slice-links.ensures) c.start.ensures c.as_slice.ensures c.in_ok-relax.ensures;
  links = c.as_slice-links.ensures;
}

pub returns-then-are_none : goal.returns-then-are_none
returns-then-are_none c =
    let net = c.args.net.now in
    let hops = c.loop-hops.hops in
    let before = c.loop-hops.labels.items in
    let is : c.deref-in-loop-hops.result.now ≡ map (way_of hops) before = c.deref-in-loop-hops.ensures.value ∙ (c.in_ok-ways.ensures ∙ ap (map (way_of hops)) c.deref.ensures.value) in
    let none : All (λ way. way ≡ None) (map (way_of hops) before) = subst (λ (ways : List (Option Label)). All (λ way. way ≡ None) ways) is (c.are_none.ensures.0 c.if-are_none.true) in
    subst (λ n. AreFound net n before) (let e : hops + steps hops ≡ 127 = steps_up hops c.loop-hops-test.true in e) (steady net c.requires hops before (omega (arith, c.loop-hops.auto.hops)) c.loop-hops.invariant.found none (steps hops))

pub round-requires-clause-sound : goal.round-requires-clause-sound
round-requires-clause-sound c =
    let net = c.args.net.now in
    let hops = c.loop-hops.hops in
    let before = c.loop-hops.labels.items in
    let is : c.deref-in-loop-hops-2.result.now ≡ map (way_of hops) before = c.deref-in-loop-hops-2.ensures.value ∙ (c.in_ok-ways.ensures ∙ ap (map (way_of hops)) c.deref.ensures.value) in
    let it : AreSound net.links c.deref-in-loop-hops-2.result.now = are_sound_ways net c.requires hops before c.deref-in-loop-hops-2.result.now (omega (arith, c.loop-hops-test.true)) c.loop-hops.invariant.found is in
    subst (λ (links : List (List Edge)). AreSound links c.deref-in-loop-hops-2.result.now) (sym c.loop-hops.invariant.links) it

pub round-requires-clause-size : goal.round-requires-clause-size
round-requires-clause-size c =
    let hops = c.loop-hops.hops in
    let before = c.loop-hops.labels.items in
    let is : c.deref-in-loop-hops-2.result.now ≡ map (way_of hops) before = c.deref-in-loop-hops-2.ensures.value ∙ (c.in_ok-ways.ensures ∙ ap (map (way_of hops)) c.deref.ensures.value) in
    sym (ap length is ∙ length-map before (way_of hops))

pub join-requires-clause-sound : goal.join-requires-clause-sound
join-requires-clause-sound c =
    let net = c.args.net.now in
    let hops = c.loop-hops.hops in
    let before = c.loop-hops.labels.items in
    let is : c.deref-in-loop-hops-3.result.now ≡ map (way_of hops) before = c.deref-in-loop-hops-3.ensures.value ∙ (c.in_ok-ways.ensures ∙ ap (map (way_of hops)) c.deref.ensures.value) in
    let it : AreSoundNetworks net.networks c.deref-in-loop-hops-3.result.now = are_sound_networks net c.requires hops before c.deref-in-loop-hops-3.result.now (omega (arith, c.loop-hops-test.true)) c.loop-hops.invariant.found is in
    subst (λ (networks : List (List Edge)). AreSoundNetworks networks c.deref-in-loop-hops-3.result.now) (sym c.as_slice-in-loop-hops.ensures) it

pub join-requires-clause-size : goal.join-requires-clause-size
join-requires-clause-size c =
    let hops = c.loop-hops.hops in
    let before = c.loop-hops.labels.items in
    let is : c.deref-in-loop-hops-3.result.now ≡ map (way_of hops) before = c.deref-in-loop-hops-3.ensures.value ∙ (c.in_ok-ways.ensures ∙ ap (map (way_of hops)) c.deref.ensures.value) in
    ap length c.in_ok-round.ensures ∙ (rounded_size c.as_slice-links.result.now c.deref-in-loop-hops-2.result.now before ∙ sym (ap length is ∙ length-map before (way_of hops)))

pub loop-hops-preserved : goal.loop-hops-preserved
loop-hops-preserved c = record {
  found =
      let net = c.args.net.now in
      let hops = c.loop-hops.hops in
      let before = c.loop-hops.labels.items in
      let ways = map (way_of hops) before in
      let first : c.deref-in-loop-hops-2.result.now ≡ ways = c.deref-in-loop-hops-2.ensures.value ∙ (c.in_ok-ways.ensures ∙ ap (map (way_of hops)) c.deref.ensures.value) in
      let second : c.deref-in-loop-hops-3.result.now ≡ ways = c.deref-in-loop-hops-3.ensures.value ∙ (c.in_ok-ways.ensures ∙ ap (map (way_of hops)) c.deref.ensures.value) in
      let mid : c.round.new.labels.items ≡ rounded net.links ways before = c.in_ok-round.ensures ∙ (ap (λ links. rounded links c.deref-in-loop-hops-2.result.now before) c.loop-hops.invariant.links ∙ ap (λ ws. rounded net.links ws before) first) in
      let new : c.join.new.labels.items ≡ joined net.networks ways (rounded net.links ways before) =
      c.in_ok-join.ensures ∙ (ap (λ networks. joined networks c.deref-in-loop-hops-3.result.now c.round.new.labels.items) c.as_slice-in-loop-hops.ensures
      ∙ (ap (λ ws. joined net.networks ws c.round.new.labels.items) second ∙ ap (joined net.networks ways) mid)) in
      let more : AreFound net (suc hops) c.join.new.labels.items = next_found net c.requires hops before c.join.new.labels.items (omega (arith, c.loop-hops.auto.hops)) c.loop-hops.invariant.found new in
      subst (λ n. AreFound net n c.join.new.labels.items) (let e : suc hops ≡ hops + 1 = omega arith in e) more;
  links = c.loop-hops.invariant.links;
}
