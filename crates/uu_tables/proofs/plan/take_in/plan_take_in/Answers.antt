use Rattle.std.proofs.Common.{◌≡◌, ◌<◌, ◌≤◌, ◌+◌, ◌∷◌, [], ◌∙◌, List, map, length, get_or, ap, refl, arith}
use Rattle.std.proofs.lemmas.List.{length-append}
use Rattle.std.proofs.lemmas.List.Elements.{All-head}
use Rattle.uu_core.specs.declared.command.Command.TheVariants.{Forget}
use Rattle.uu_core.specs.declared.take_in.Offered.{Offered}
use Rattle.uu_core.specs.TakeIns.{offering}
use Rattle.uu_core.specs.WellFormed.{IsCommand}
use Rattle.uu_tables.specs.declared.facts.OfferedFacts.{OfferedFacts}
use Rattle.uu_tables.proofs.TakeInLemmas.{so_far, up_to_none, up_to_more, up_to_all, fact_is, sound_at}
use Rattle.uu_tables.proofs.plan.take_in.plan_take_in.Goals as goal

pub loop-i-init : goal.loop-i-init
loop-i-init c = (
  λ s good facts.
      let it = c.args.it.now in
      let command = Forget it.from it.below in
      up_to_none s it c.in_ok-first.first c.begin-taking.result c.in_ok-replies.replies.items
      (c.states_stay_well_formed.ensures.step s command (All-head IsCommand command (map (offering it.from) it.jobs) c.take_ins_are_sound.ensures) good)
      (c.in_ok-first.ensures s good facts.known facts.before) (c.begin-taking.ensures s it.from facts.known facts.next facts.before) c.in_ok-replies.ensures.items,
  ap length c.in_ok-replies.ensures.items,
)

pub loop-i-preserved : goal.loop-i-preserved
loop-i-preserved c = (
  λ s good facts.
      let it = c.args.it.now in
      let i = c.loop-i.i in
      let offered = c.offered-item.result in
      let items = c.as_slice-offered-items.ensures in
      let within : i < length it.jobs = omega (arith, ap length items, c.loop-i-test.true) in
      let here : offered ≡ get_or it.jobs i offered = c.offered-item.is ∙ ap (λ (l : List Offered). get_or l i offered) items in
      let before = c.loop-i.invariant.0 s good facts in
      let fact = fact_is s it c.args.facts.now.jobs.items i offered c.index.result.now facts.jobs within here c.index.ensures in
      let planned = c.in_ok-plan.ensures s (so_far s it i) before.formed before.is_taking (ap (λ (f : OfferedFacts). f.known) fact) (ap (λ (f : OfferedFacts). f.taken) fact) in
      up_to_more s it i offered c.loop-i.taking c.plan_offered.new.taking c.loop-i.replies.items c.push.new.self.items c.loop-i.changes.items c.append.new.self.items c.in_ok-plan.plan
      within here before planned.0 planned.1
      (c.states_stay_well_formed.ensures.step (so_far s it i) (offering it.from offered) (sound_at it i offered c.take_ins_are_sound.ensures within here) before.formed)
      c.in_ok-push.ensures.items c.in_ok-append.ensures.items,
  ap length c.in_ok-push.ensures.items ∙ length-append c.loop-i.replies.items (c.in_ok-plan.plan.reply ∷ []) ∙ ap (λ n. n + 1) c.loop-i.invariant.1,
)

pub returns-clause-plan : goal.returns-clause-plan
returns-clause-plan c = λ s good facts.
    let it = c.args.it.now in
    let past : length it.jobs ≤ c.loop-i.i = omega (arith, ap length c.as_slice-offered-items.ensures, c.loop-i-test.false) in
    up_to_all s it c.loop-i.i c.loop-i.taking c.loop-i.replies.items c.loop-i.changes.items past (c.loop-i.invariant.0 s good facts) (record { replies = c.loop-i.replies; changes = c.loop-i.changes }) refl refl
