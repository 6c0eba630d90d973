use Rattle.std.proofs.Common.{◌<◌, ℕ, length, take, get_or, ap, sym, arith, ◌∙◌, ◌∷◌}
use Rattle.std.proofs.lemmas.List.Sums.{prefix_len_passes, prefix_len_stops, fails_before_first, passes_at_first}
use Rattle.uu_names.specs.Text.{is_blank}
use Rattle.uu_times.specs.Lines.{words_of}
use Rattle.uu_times.proofs.WordLemmas.{words_none, words_next}
use Rattle.uu_times.proofs.lines.next_word.Goals as goal

pub returns-then-start-text : goal.returns-then-start-text
returns-then-start-text c =
    words_none c.args.text.now (λ k below. prefix_len_passes is_blank c.args.text.now k 0 (omega (arith, c.blanks_len-start.ensures.value)))

pub returns : goal.returns
returns c =
    let text = c.args.text.now in
    let word = c.split_at.result.1.now in
    let within : c.blanks_len-start.result < length text = omega arith in
    words_next text word c.blanks_len-start.result c.letters_len.result c.split_at.ensures.back within
    (λ k below. prefix_len_passes is_blank text k 0 (omega (arith, c.blanks_len-start.ensures.value)))
    (ap (λ (n : ℕ). is_blank (get_or text n 0)) c.blanks_len-start.ensures.value ∙ prefix_len_stops is_blank text 0 (omega (arith, c.blanks_len-start.ensures.value)))
    (λ k below. fails_before_first is_blank word k 0 (omega (arith, c.letters_len.ensures.value)))
    c.letters_len.ensures.bound
    (λ more. ap (λ (n : ℕ). is_blank (get_or word n 0)) c.letters_len.ensures.value ∙ passes_at_first is_blank word 0 (omega (arith, c.letters_len.ensures.value)))
    ∙ ap (λ rest. take c.letters_len.result word ∷ words_of rest) (sym c.split_at-2.ensures.back)
    ∙ ap (λ word. word ∷ words_of c.split_at-2.result.1.now) (sym c.split_at-2.ensures.front)
