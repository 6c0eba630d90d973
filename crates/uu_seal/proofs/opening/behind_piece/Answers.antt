use Rattle.std.proofs.Common.{◌≡◌, ◌∙◌, ◌++◌, ap, drop, sym, take}
use Rattle.uu_seal.specs.Texts.{piece_text}
use Rattle.uu_seal.proofs.Comparing.{same_front}
use Rattle.uu_seal.proofs.opening.behind_piece.Goals as goal

pub returns : goal.returns
returns c =
    let whole : c.as_slice.result.now ≡ piece_text c.args.tag.now c.args.piece.now = c.as_slice.ensures.value ∙ c.in_ok-append_piece.ensures ∙ ap (λ t. t ++ piece_text c.args.tag.now c.args.piece.now) c.new-whole.ensures.items in
    let long = c.len.ensures ∙ sym c.as_slice.ensures.len in
    same_front c.args.text.now c.in-Some.front.now c.in-Some.rest.now c.as_slice.result.now (piece_text c.args.tag.now c.args.piece.now) whole
    (c.in-Some.ensures.cases.1 ∙ ap (λ n. take n c.args.text.now) long) (c.in-Some.ensures.cases.2 ∙ ap (λ n. drop n c.args.text.now) long)
    (c.same_bytes.ensures.0 c.if-not-same_bytes.false)
