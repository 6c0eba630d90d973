use Rattle.std.proofs.Common.{◌≡◌, ◌∙◌, ◌++◌, ◌∷◌, [], ap, codes}
use Rattle.std.specs.Fmt.{decimal}
use Rattle.uu_bundle.specs.Marks.{mark_of}
use Rattle.uu_bundle.specs.Texts.{kind_words, spaced_words}
use Rattle.uu_bundle.proofs.Pieces.{marked_front}
use Rattle.uu_bundle.proofs.marks.parcel_mark.Goals as goal

pub returns : goal.returns
returns c =
    let a : c.extend_from_slice.new.self.items ≡ c.args.spool.now = c.in_ok-extend_from_slice.ensures.items ∙ ap (λ t. t ++ c.as_bytes.result.now) c.new-front.ensures.items ∙ c.as_bytes.ensures.value ∙ c.as_str.ensures.text in
    let b : c.extend_from_slice-2.new.self.items ≡ c.args.spool.now ++ codes "\njob" = c.in_ok-extend_from_slice-2.ensures.items ∙ ap (λ t. t ++ codes "\njob") a in
    let d : c.append_word.new.text.items ≡ (c.args.spool.now ++ codes "\njob") ++ 32 ∷ c.args.from.now = c.in_ok-append_word.ensures ∙ cc in
    let e : c.append_word-2.new.text.items ≡ ((c.args.spool.now ++ codes "\njob") ++ 32 ∷ c.args.from.now) ++ 32 ∷ c.args.to.now = c.in_ok-append_word-2.ensures ∙ cc in
    let f : c.append_word-3.new.text.items ≡ (((c.args.spool.now ++ codes "\njob") ++ 32 ∷ c.args.from.now) ++ 32 ∷ c.args.to.now) ++ 32 ∷ c.args.user.now = c.in_ok-append_word-3.ensures ∙ cc in
    let g : c.append_word-4.new.text.items ≡ ((((c.args.spool.now ++ codes "\njob") ++ 32 ∷ c.args.from.now) ++ 32 ∷ c.args.to.now) ++ 32 ∷ c.args.user.now) ++ 32 ∷ decimal c.args.number =
    c.in_ok-append_word-4.ensures ∙ ap (λ w. c.append_word-3.new.text.items ++ 32 ∷ w) (c.as_bytes-5.ensures.value ∙ c.in_ok-numeral.ensures) ∙ ap (λ t. t ++ 32 ∷ decimal c.args.number) f in
    let kinds : c.append_kind.new.text.items ≡ c.append_word-4.new.text.items ++ spaced_words (kind_words c.args.kind.now) = c.in_ok-append_kind.ensures in
    let last : c.push.new.self.items ≡ c.append_kind.new.text.items ++ 10 ∷ [] = c.in_ok-push.ensures.items in
    c.of_two.ensures ∙ ap mark_of (ap (λ t. t ++ c.args.bytes.now) (c.deref.ensures.value ∙ last ∙ ap (λ t. t ++ 10 ∷ []) (kinds ∙ ap (λ t. t ++ spaced_words (kind_words c.args.kind.now)) g))
    ∙ marked_front c.args.spool.now c.args.from.now c.args.to.now c.args.user.now (decimal c.args.number) c.args.bytes.now (kind_words c.args.kind.now))
