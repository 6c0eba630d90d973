use Rattle.std.proofs.Common.{ap, slice_index, arith}
use Rattle.std.proofs.lemmas.Bool.Decides.{Decides-eqb}
use Rattle.uu_seal.proofs.Comparing.{differs, one_more_same, same_all}
use Rattle.uu_seal.proofs.opening.same_bytes.Goals as goal

pub loop-i-preserved : goal.loop-i-preserved
loop-i-preserved c =
    one_more_same c.args.one.now c.args.other.now c.loop-i.i c.loop-i.differ c.from-differ.result (differs (slice_index c.args.one.now c.loop-i.i) (slice_index c.args.other.now c.loop-i.i) c.from-differ.result c.from-differ.ensures)
    c.loop-i.invariant

pub returns : goal.returns
returns c = (
  λ none. same_all c.args.one.now c.args.other.now c.loop-i.i c.if-one-other.false (omega arith) (c.loop-i.invariant.0 ((Decides-eqb c.loop-i.differ 0).0 none)),
  λ same. (Decides-eqb c.loop-i.differ 0).1 (c.loop-i.invariant.1 (λ k below. ap (λ l. slice_index l k) same)),
)
