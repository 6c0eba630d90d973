use Rattle.std.proofs.Common.{rules, arith, ◌∙◌, ◌++◌, ◌∷◌, [], ◌<◌, ◌≤◌, ap, cond, filter, length, map, sym}
use Rattle.std.proofs.lemmas.List.{take_all}
use Rattle.uu_core.specs.declared.job.JobHead.{JobHead}
use Rattle.uuspool.specs.Internal.Choice.{is_to_go, named_head}
use Rattle.uuspool.proofs.Places.{mapped_more}
use Rattle.uuspool.proofs.choosing.numbers_of.Goals as goal

pub loop-head-preserved : goal.loop-head-preserved
loop-head-preserved c =
    let it = c.args.packing.now in
    let heads = c.args.heads.now in
    let i = c.loop-head.head-index in
    let head = c.head-item.result in
    let inside : i < length heads = search rules in
    c.in_ok-add_if_to_go.ensures
    ∙ ap (λ first. c.loop-head.numbers.items ++ cond (is_to_go c.args.lowest first head) (head.number ∷ []) []) c.named_head-first.ensures
    ∙ ap (λ so_far. so_far ++ cond (is_to_go c.args.lowest (named_head it.after heads) head) (head.number ∷ []) []) c.loop-head.invariant
    ∙ mapped_more (λ (h : JobHead). h.number) (is_to_go c.args.lowest (named_head it.after heads)) heads i head inside c.head-item.is

pub returns : goal.returns
returns c =
    let it = c.args.packing.now in
    let heads = c.args.heads.now in
    let past : length heads ≤ c.loop-head.head-index = omega (arith, c.loop-head-test.false) in
    c.loop-head.invariant
    ∙ ap (λ l. map (λ (h : JobHead). h.number) (filter (is_to_go c.args.lowest (named_head it.after heads)) l)) (take_all c.loop-head.head-index heads past)
    ∙ ap (λ b. map (λ (h : JobHead). h.number) (cond b [] (filter (is_to_go c.args.lowest (named_head it.after heads)) heads))) (sym c.if-packing.false)
