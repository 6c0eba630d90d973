use Rattle.std.proofs.Common.{rules, arith, ◌∙◌, ◌++◌, ◌∷◌, [], ◌<◌, ◌≤◌, ap, cond, filter, length}
use Rattle.std.proofs.lemmas.List.{take_all}
use Rattle.std.specs.List.{list_any}
use Rattle.uu_core.specs.declared.custody.Taken.{Taken}
use Rattle.uuspool.specs.Bundles.{hands_in}
use Rattle.uuspool.proofs.KeyLemmas.{handed_in}
use Rattle.uuspool.proofs.Places.{kept_more}
use Rattle.uuspool.proofs.asking.taken_among.Goals as goal

pub loop-one-preserved : goal.loop-one-preserved
loop-one-preserved c =
    let commands = c.args.commands.now in
    let taken = c.args.taken.now in
    let i = c.loop-one.one-index in
    let one = c.one-item.result in
    let inside : i < length taken = search rules in
    c.in_ok-keep_if_asked.ensures
    ∙ ap (λ b. c.loop-one.asked.items ++ cond b (one ∷ []) []) (c.in_ok-keys.ensures one.number one.mark ∙ handed_in one commands)
    ∙ ap (λ so_far. so_far ++ cond (list_any (hands_in one) commands) (one ∷ []) []) c.loop-one.invariant
    ∙ kept_more (λ (t : Taken). list_any (hands_in t) commands) taken i one inside c.one-item.is

pub returns : goal.returns
returns c =
    let commands = c.args.commands.now in
    let taken = c.args.taken.now in
    let past : length taken ≤ c.loop-one.one-index = omega (arith, c.loop-one-test.false) in
    c.loop-one.invariant ∙ ap (filter (λ (t : Taken). list_any (hands_in t) commands)) (take_all c.loop-one.one-index taken past)
