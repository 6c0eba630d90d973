use Rattle.std.proofs.Common.{◌∙◌, arith}
use Rattle.std.proofs.lemmas.List.{length-set}
use Rattle.uu_seal.proofs.Blocks.{all_xored, one_more}
use Rattle.uu_seal.proofs.hashing.xored.Goals as goal

pub loop-i-preserved : goal.loop-i-preserved
loop-i-preserved c =
    let long = c.loop-i.invariant.0 in
    (length-set c.loop-i.changed c.loop-i.i _ ∙ long, one_more c.args.byte c.loop-i.i c.args.block.now c.loop-i.changed (omega arith) c.loop-i.invariant.1)

pub returns : goal.returns
returns c =
    let long = c.loop-i.invariant.0 in
    let known = c.told-block in
    all_xored c.args.byte c.loop-i.i c.args.block.now c.loop-i.changed (omega arith) (omega arith) c.loop-i.invariant.1
