use Rattle.std.proofs.Common.{◌∙◌, None, Some, arith}
use Rattle.std.proofs.lemmas.Bool.Decides.{Decides-eqb}
use Rattle.std.proofs.lemmas.Slice.Eq.{strip_prefix_is}
use Rattle.uu_seal.proofs.Opened.{none_of_all, not_this, with_this}
use Rattle.uu_seal.proofs.opening.open.Goals as goal

pub returns-in-Some : goal.returns-in-Some
returns-in-Some c =
    let text = strip_prefix_is Decides-eqb c.args.text.now c.as_slice-in-loop-key.result.now (Some c.in-Some.behind) c.in-Some.ensures.cases in
    with_this c.args.keys.now c.key-item.result c.loop-key.key-index c.args.text.now c.as_slice-in-loop-key.result.now c.in-Some.behind.now c.in_ok-open_pieces.field-0.items c.loop-key-test.true c.key-item.is
    (c.as_slice-in-loop-key.ensures.value ∙ c.in_ok-line.ensures) text c.loop-key.invariant c.in_ok-open_pieces.ensures

pub loop-key-preserved : goal.loop-key-preserved
loop-key-preserved c =
    let none = strip_prefix_is Decides-eqb c.args.text.now c.as_slice-in-loop-key.result.now None c.in_default.ensures.cases in
    not_this c.args.keys.now c.key-item.result c.loop-key.key-index c.args.text.now c.as_slice-in-loop-key.result.now c.loop-key-test.true c.key-item.is (c.as_slice-in-loop-key.ensures.value ∙ c.in_ok-line.ensures) none c.loop-key.invariant

pub returns : goal.returns
returns c = none_of_all c.args.keys.now c.loop-key.key-index c.args.text.now (omega arith) c.loop-key.invariant
