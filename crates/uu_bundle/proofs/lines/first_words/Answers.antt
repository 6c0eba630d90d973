use Rattle.std.proofs.Common.{◌≡◌, ◌∙◌, ap, map, subst, sym, Some, List, ℕ, Bor}
use Rattle.std.specs.List.{slice_split}
use Rattle.uu_bundle.specs.Internal.Forms.{HasFirstWords}
use Rattle.uu_bundle.proofs.Cuts.{is_space, no_end_no_words, no_text_no_words, words_found}
use Rattle.uu_bundle.proofs.lines.first_words.Goals as goal

pub returns-in_default : goal.returns-in_default
returns-in_default c = no_end_no_words c.args.text.now c.in_default.ensures

pub returns-in_default-from_utf8 : goal.returns-in_default-from_utf8
returns-in_default-from_utf8 c =
    no_text_no_words c.args.text.now c.in-Some.line.now c.in-Some.rest.now c.in-Some.ensures c.in_default-from_utf8.ensures.cases.0

pub returns : goal.returns
returns c =
    let parts : map (λ (word : Bor (List ℕ)). word.now) c.in_ok-words.words.items ≡ slice_split is_space c.in-Some.line.now =
    c.in_ok-words.ensures ∙ ap (slice_split is_space) c.in-Ok.ensures.cases.0 in
    subst (λ words. HasFirstWords c.args.text.now (Some (words, c.in-Some.rest.now))) (sym parts)
    (words_found c.args.text.now c.in-Some.line.now c.in-Some.rest.now c.in-Some.ensures)
