use Rattle.std.proofs.Common.{◌≡◌, ◌-◌, inl, inr, sym, ap, take, length, ◌∙◌, arith}
use Rattle.std.specs.Str.{bytes_eq}
use Rattle.uu_times.specs.Grammar.{lower}
use Rattle.uu_times.proofs.DayWords.{front_lower, short_lower}
use Rattle.uu_times.proofs.timetable.begins_in_any_case.Goals as goal

pub returns-in-Some : goal.returns-in-Some
returns-in-Some c =
    let whole : length c.args.word.now - 0 ≡ length c.args.word.now = omega arith in
    let front : c.in-Some.front.now ≡ take (length c.args.word.now) c.args.text.now = c.in-Some.ensures.lookup.0.2 ∙ ap (λ len. take len c.args.text.now) whole in
    c.equals_in_any_case.ensures ∙ (ap (λ text. bytes_eq (lower c.args.word.now) (lower text)) front ∙ front_lower c.args.text.now c.args.word.now)

pub returns-in-None : goal.returns-in-None
returns-in-None c = sym (short_lower c.args.text.now c.args.word.now (elim c.in-None.ensures.lookup.0 [ inl never ↦ absurd (omega (arith, never)) | inr short ↦ short ]))
