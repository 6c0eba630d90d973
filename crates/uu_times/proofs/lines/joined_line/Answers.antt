use Rattle.std.proofs.Common.{◌≡◌, ◌+◌, ◌++◌, ◌∷◌, ℕ, List, true, length, nat_lt, ap, sym, ◌∙◌, arith}
use Rattle.std.proofs.lemmas.Bool.{and_parts}
use Rattle.std.specs.Str.Lines.{lines}
use Rattle.uu_times.specs.Lines.{Numbered, is_continued, kept_part, joined_onto, joined}
use Rattle.uu_times.proofs.LineLemmas.{joined_start, joined-more, joined_last, free_last}
use Rattle.uu_times.proofs.lines.joined_line.Goals as goal

pub loop-line-init : goal.loop-line-init
loop-line-init c =
    let next = c.first_line.result.0.now in
    let rest = lines c.first_line.result.1.now in (
      λ number.
          ap (λ (front : List ℕ). joined_onto number front (joined (number + 0) (next ∷ rest))) c.new-line.ensures.items
          ∙ joined_start number next rest
          ∙ ap (joined number) (sym c.first_line.ensures.lines),
      omega arith,
    )

pub loop-line-preserved : goal.loop-line-preserved
loop-line-preserved c =
    let front = c.loop-line.line.items in
    let before = c.loop-line.before in
    let next = c.loop-line.next.now in
    let following = c.first_line-in-loop-line.result.0.now in
    let behind = lines c.first_line-in-loop-line.result.1.now in
    let on : is_continued next ≡ true = (and_parts (is_continued next) (nat_lt 0 (length c.loop-line.rest.now)) (sym c.is_joined.ensures ∙ c.loop-line-test.true)).0 in (
      λ number.
          ap (λ (items : List ℕ). joined_onto number items (joined (number + (before + 1)) (following ∷ behind)))
          (c.in_ok-extend_from_slice.ensures.items ∙ ap (λ kept. front ++ kept) c.kept_part.ensures)
          ∙ ap (λ (rest : List (List ℕ)). joined_onto number (front ++ kept_part next) (joined (number + (before + 1)) rest)) (sym c.first_line-in-loop-line.ensures.lines)
          ∙ joined-more number before front next (lines c.loop-line.rest.now) on
          ∙ c.loop-line.invariant.0 number,
      omega arith,
    )

pub returns-clause-line : goal.returns-clause-line
returns-clause-line c = λ number.
    let front = c.loop-line.line.items in
    let before = c.loop-line.before in
    let next = c.loop-line.next.now in
    let rest = c.loop-line.rest.now in
    sym (c.loop-line.invariant.0 number)
    ∙ joined_last number before front next (lines rest) (free_last next rest (sym c.is_joined.ensures ∙ c.loop-line-test.false))
    ∙ ap (λ (items : List ℕ). let first : Numbered = record { number = number; line = items } in first ∷ joined (number + (before + 1)) (lines rest))
    (sym (c.in_ok-extend_from_slice-2.ensures.items ∙ ap (λ kept. front ++ kept) c.kept_part-2.ensures))
