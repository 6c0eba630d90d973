use Rattle.std.proofs.Common.{◌≡◌, ◌+◌, ◌++◌, ◌∷◌, [], get_or, string_bytes, take, sym, ap, ◌∙◌, arith, rules}
use Rattle.std.specs.List.{join_with_byte}
use Rattle.std.proofs.lemmas.List.{take_more}
use Rattle.uu_statements.proofs.Joined.{joined_first, joined_more}
use Rattle.uu_statements.proofs.words.joined.Goals.{then-at-gt0+in_ok-push, else-at-gt0}
use Rattle.uu_statements.proofs.words.joined.Goals as goal

pub loop-at-preserved : goal.loop-at-preserved
unfolding lib.Utf8.encode
loop-at-preserved c =
    let words = c.args.words.now in
    let i = c.loop-at.at in
    let word = c.as_str.result.now in
    let before = take i words in
    let here : get_or words i word ≡ word = search rules in
    let longer : take (i + 1) words ≡ before ++ word ∷ [] = take_more words i word (omega arith) ∙ ap (λ x. before ++ x ∷ []) here in
    let bytes : string_bytes c.push_str.new.self ≡ join_with_byte 32 (before ++ word ∷ []) =
    elim c.if-at-gt0.branch [
      | then-at-gt0+in_ok-push w ↦ c.in_ok-push_str.ensures.bytes ∙ ap (λ t. string_bytes t ++ word) w.text-is ∙ ap (λ bs. bs ++ word) (w.in_ok-push.ensures.bytes ∙ ap (λ bs. bs ++ 32 ∷ []) c.loop-at.invariant) ∙ sym (joined_more words word i (omega arith) (omega arith))
      | else-at-gt0 w ↦ c.in_ok-push_str.ensures.bytes ∙ ap (λ t. string_bytes t ++ word) w.text-is ∙ ap (λ bs. bs ++ word) c.loop-at.invariant ∙ sym (joined_first words word i (omega arith))
    ] in
    bytes ∙ ap (join_with_byte 32) (sym longer)
