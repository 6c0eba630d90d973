use Rattle.std.proofs.Common.{◌∙◌, ◌≤◌, length, take, drop, ap, arith}
use Rattle.std.proofs.lemmas.Grind.{common_steps}
use Rattle.uu_seal.proofs.Opened.{one_sealed}
use Rattle.uu_seal.proofs.sealing.seal.Goals as goal

pub loop-rest-preserved : goal.loop-rest-preserved
loop-rest-preserved c =
    let some : 1 ≤ length c.loop-rest.rest.now = grind (arith, common_steps, c.is_empty.ensures, c.loop-rest-test.true) in
    one_sealed c.args.key.now c.loop-rest.before c.tag_of-before.result c.loop-rest.rest.now c.split_at.result.0.now c.split_at.result.1.now c.loop-rest.whole.items c.append_piece.new.text.items
    c.tag_of-before.ensures some (c.split_at.ensures.front ∙ ap (λ n. take n c.loop-rest.rest.now) c.min.ensures) (c.split_at.ensures.back ∙ ap (λ n. drop n c.loop-rest.rest.now) c.min.ensures)
    c.in_ok-append_piece.ensures
    ∙ c.loop-rest.invariant
