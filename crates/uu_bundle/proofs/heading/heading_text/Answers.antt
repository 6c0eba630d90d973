use Rattle.std.proofs.Common.{◌≡◌, ◌∙◌, ◌++◌, ◌∷◌, [], ap}
use Rattle.std.specs.Fmt.{decimal}
use Rattle.uu_bundle.specs.Marks.{mark_of}
use Rattle.uu_bundle.specs.Texts.{grade_text, summed_text}
use Rattle.uu_bundle.specs.declared.bundle.Heading.{Heading}
use Rattle.uu_bundle.proofs.Pieces.{heading_front}
use Rattle.uu_bundle.proofs.heading.heading_text.Goals as goal

pub returns : goal.returns
returns c =
    let heading : Heading = record { from = c.args.from.now; to = c.args.to.now; spool = c.args.spool.now; below = c.args.below; grade = c.args.grade } in
    let sum : c.as_bytes.result.now ≡ decimal (mark_of (summed_text heading)) =
    c.as_bytes.ensures.value ∙ c.in_ok-sum.ensures ∙ ap decimal (c.number.ensures.value ∙ c.mark_of.ensures ∙ ap mark_of (c.deref.ensures.value ∙ c.in_ok-text.ensures)) in
    let added : c.append_word.new.text.items ≡ summed_text heading ++ 32 ∷ decimal (mark_of (summed_text heading)) =
    c.in_ok-append_word.ensures ∙ ap (λ t. t ++ 32 ∷ c.as_bytes.result.now) c.in_ok-text.ensures ∙ ap (λ w. summed_text heading ++ 32 ∷ w) sum in
    c.in_ok-push.ensures.items ∙ ap (λ t. t ++ 10 ∷ []) added ∙ heading_front c.args.from.now c.args.to.now c.args.spool.now (decimal c.args.below) (grade_text c.args.grade) (decimal (mark_of (summed_text heading)))
