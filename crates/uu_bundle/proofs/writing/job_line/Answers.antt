use Rattle.std.proofs.Common.{◌∙◌, ◌++◌, [], ◌∷◌, ap, codes, length, sym}
use Rattle.std.specs.Fmt.{decimal}
use Rattle.std.specs.Option.{option_to_list}
use Rattle.uu_bundle.specs.Texts.{grade_text, kind_words, spaced_words}
use Rattle.uu_bundle.proofs.Pieces.{job_made}
use Rattle.uu_bundle.proofs.writing.job_line.Goals as goal

pub returns : goal.returns
returns c = λ bytes size.
    let head = c.args.head.now in
    let a = c.as_bytes.result.now in
    let b = c.as_bytes-2.result.now in
    let g = c.as_byte.result ∷ [] in
    let u = c.as_bytes-3.result.now in
    let s = c.as_bytes-4.result.now in
    job_made (decimal head.number) (decimal c.args.mark.now) (grade_text head.grade) head.user (decimal (length bytes)) a b g u s (kind_words head.kind)
    c.append_words.new.text.items c.append_kind.new.text.items c.push.new.self.items
    (c.in_ok-append_words.ensures ∙ ap (λ t. t ++ spaced_words (a ∷ b ∷ g ∷ u ∷ s ∷ [])) (c.in_ok-extend_from_slice.ensures.items ∙ ap (λ t. t ++ codes "job") c.new-line.ensures.items))
    c.in_ok-append_kind.ensures c.in_ok-push.ensures.items (c.as_bytes.ensures.value ∙ c.in_ok-number.ensures) (c.as_bytes-2.ensures.value ∙ c.in_ok-mark.ensures ∙ ap decimal c.number.ensures.value)
    (sym (ap option_to_list c.as_byte.ensures.letter)) (c.as_bytes-3.ensures.value ∙ c.as_str.ensures.text) (c.as_bytes-4.ensures.value ∙ c.in_ok-size.ensures ∙ ap decimal (sym size))
