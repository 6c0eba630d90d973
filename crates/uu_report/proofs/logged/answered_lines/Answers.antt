use Rattle.std.proofs.Common.{◌==◌, ◌∙◌, ap, length, map, sym}
use Rattle.std.specs.List.{flat_map}
use Rattle.uu_report.proofs.LogLemmas.{if_ok, of_first, of_parts}
use Rattle.uu_report.specs.Logs.{first_line, part_lines, words_of}
use Rattle.uu_report.proofs.logged.answered_lines.Goals as goal

pub returns-then-not-is_empty : goal.returns-then-not-is_empty
returns-then-not-is_empty c =
    of_parts c.args.moment.now c.args.change.now c.args.output.now (map (λ line. line.now) c.in_ok-lines.lines.items) c.in_ok-parts.parts.items
    c.in_ok-lines.ensures
    (c.in_ok-parts.ensures ∙ ap (λ lines. flat_map (part_lines c.args.moment.now c.args.change.now c.args.change.now.form) (map (λ line. line.now) lines)) c.deref.ensures.value)
    (ap (λ parts. length parts == 0) (sym c.as_slice.ensures.value) ∙ sym c.is_empty.ensures ∙ c.if-not-is_empty.true)

pub returns : goal.returns
returns c =
    if_ok _ _ c.one_lines.result
    (λ text one.
    of_first c.args.moment.now c.args.change.now c.args.output.now (map (λ line. line.now) c.in_ok-lines.lines.items) c.in_ok-parts.parts.items
    c.in_ok-lines.ensures
    (c.in_ok-parts.ensures ∙ ap (λ lines. flat_map (part_lines c.args.moment.now c.args.change.now c.args.change.now.form) (map (λ line. line.now) lines)) c.deref.ensures.value)
    (ap (λ parts. length parts == 0) (sym c.as_slice.ensures.value) ∙ sym c.is_empty.ensures ∙ c.if-not-is_empty.false)
    (map (λ word. word.now) c.deref-3.result.now) text.items
    (ap (map (λ word. word.now)) c.deref-3.ensures.value ∙ c.in_ok-words.ensures
    ∙ ap words_of (c.first_line.ensures ∙ ap (λ lines. first_line c.args.change.now.form (map (λ line. line.now) lines)) c.deref-2.ensures.value))
    one)
    c.one_lines.ensures
