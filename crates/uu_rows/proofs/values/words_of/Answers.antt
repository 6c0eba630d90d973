use Rattle.std.proofs.Common.{◌≡◌, ◌+◌, ◌++◌, ◌∷◌, [], get_or, map, take, IsTrue, All, Err, ◌≤◌, ◌<◌, length, sym, ap, subst, ◌∙◌, arith}
use Rattle.std.specs.List.{join_with_byte}
use Rattle.std.proofs.lemmas.List.{take_more, take_all, map-append, length-map, get_or-map}
use Rattle.uu_rows.specs.declared.fault.RowFault.TheVariants.{Bad}
use Rattle.uu_rows.proofs.Words.{parts_are, not_none}
use Rattle.uu_rows.proofs.Refused.{was_bad}
use Rattle.std.proofs.lemmas.List.Elements.{All-push, All-get_or}
use Rattle.std.proofs.lemmas.List.Splits.{join_with_byte-slice_split}
use Rattle.uu_names.specs.Name.{is_word}
use Rattle.uu_rows.proofs.values.words_of.Goals as goal

pub loop-part-preserved : goal.loop-part-preserved
loop-part-preserved c =
    let parts = c.as_slice-part-items.result.now in
    let i = c.loop-part.part-index in
    let part = get_or parts i (record { ref_ptr = (0, 0); now = [] }) in
    let word = c.in_ok-word_of.field-0 in
    let before = map (λ p. p.now) (take i parts) in
    let longer : take (i + 1) parts ≡ take i parts ++ part ∷ [] = take_more parts i (record { ref_ptr = (0, 0); now = [] }) (omega arith) in
    let texts : map (λ p. p.now) (take (i + 1) parts) ≡ before ++ part.now ∷ [] = ap (map (λ p. p.now)) longer ∙ map-append (λ p. p.now) (take i parts) (part ∷ []) in
    let words : c.loop-part.words.items ++ word ∷ [] ≡ before ++ part.now ∷ [] = ap (λ ws. ws ++ word ∷ []) c.loop-part.invariant.0 ∙ ap (λ w. before ++ w ∷ []) c.in_ok-word_of.ensures.text in (
      c.in_ok-push.ensures.items ∙ words ∙ sym texts,
      subst (All (λ w. IsTrue (is_word w))) (sym c.in_ok-push.ensures.items) (All-push (λ w. IsTrue (is_word w)) c.loop-part.words.items word c.loop-part.invariant.1 c.in_ok-word_of.ensures.word),
    )

pub returns-clause-text : goal.returns-clause-text
returns-clause-text c =
    let parts = c.as_slice-part-items.result.now in
    let whole : take c.loop-part.part-index parts ≡ parts = take_all c.loop-part.part-index parts (omega arith) in
    let words = c.loop-part.invariant.0 ∙ ap (map (λ p. p.now)) (whole ∙ c.as_slice-part-items.ensures.value) ∙ c.in_ok-parts.ensures in
    ap (join_with_byte 32) words ∙ join_with_byte-slice_split 32 c.args.text.now

pub returns-in_err-word_of-clause-bad : goal.returns-in_err-word_of-clause-bad
returns-in_err-word_of-clause-bad c ws all is text =
    let parts = c.as_slice-part-items.result.now in
    let i = c.loop-part.part-index in
    let some : 1 ≤ length c.args.text.now = not_none c.args.text.now (sym c.is_empty.ensures ∙ c.if-is_empty.false) in
    let bad : c.word_of.result ≡ Err Bad = was_bad c.from_residual-in_err-word_of.result c.word_of.result _ c.from_residual-in_err-word_of.ensures.1 is c.in_err-word_of.was in
    let words : map (λ p. p.now) parts ≡ ws = ap (map (λ p. p.now)) c.as_slice-part-items.ensures.value ∙ c.in_ok-parts.ensures ∙ parts_are c.args.text.now ws all text some in
    let there : i < length ws = subst (λ l. i < length l) words (omega (arith, length-map parts (λ p. p.now))) in
    let word : (get_or parts i (record { ref_ptr = (0, 0); now = [] })).now ≡ get_or ws i [] = sym (get_or-map (λ p. p.now) parts i (record { ref_ptr = (0, 0); now = [] }) [] (omega arith)) ∙ ap (λ l. get_or l i []) words in
    c.word_of.ensures.bad bad (subst (λ w. IsTrue (is_word w)) (sym word) (All-get_or (λ w. IsTrue (is_word w)) ws i [] there all))
