use Rattle.std.proofs.Common.{ap, sym, ◌∙◌, ◌∷◌, take, drop}
use Rattle.std.specs.Str.Lines.{lines}
use Rattle.std.proofs.lemmas.List.{take_rest}
use Rattle.uu_names.proofs.Lines.{lines_first, lines_last, rest_after_feed, rest_after_last}
use Rattle.uu_names.proofs.text.first_line.Goals as goal

pub returns-in-empty-clause-lines : goal.returns-in-empty-clause-lines
returns-in-empty-clause-lines c =
    lines_last c.args.text.now c.split_at.result.0.now c.split_at.result.1.now c.requires (c.split_at.ensures.front ∙ ap (λ n. take n c.args.text.now) c.len_before.ensures.value) (c.split_at.ensures.back ∙ ap (λ n. drop n c.args.text.now) c.len_before.ensures.value) c.in-empty.len_below

pub returns-in-len1-up-clause-lines : goal.returns-in-len1-up-clause-lines
returns-in-len1-up-clause-lines c =
    lines_first c.args.text.now c.split_at.result.0.now c.split_at.result.1.now (c.split_at.ensures.front ∙ ap (λ n. take n c.args.text.now) c.len_before.ensures.value) (c.split_at.ensures.back ∙ ap (λ n. drop n c.args.text.now) c.len_before.ensures.value) c.in-len1-up.len_at_least
    ∙ (ap (λ l. l ∷ lines (drop 1 c.split_at.result.1.now)) (sym c.strip_carriage_return.ensures.value) ∙ ap (λ r. c.strip_carriage_return.result.now ∷ lines r) (sym (take_rest c.split_at.result.1.now 1)))

pub returns-in-empty-clause-rest : goal.returns-in-empty-clause-rest
returns-in-empty-clause-rest c =
    rest_after_last c.args.text.now c.split_at.result.1.now (c.split_at.ensures.back ∙ ap (λ n. drop n c.args.text.now) c.len_before.ensures.value) c.in-empty.len_below

pub returns-in-len1-up-clause-rest : goal.returns-in-len1-up-clause-rest
returns-in-len1-up-clause-rest c =
    take_rest c.split_at.result.1.now 1 ∙ rest_after_feed c.args.text.now c.split_at.result.1.now (c.split_at.ensures.back ∙ ap (λ n. drop n c.args.text.now) c.len_before.ensures.value)
