use Rattle.std.proofs.Common.{◌∙◌, Bor, List, None, map, option_map, subst, sym, ℕ}
use Rattle.uu_bundle.specs.Internal.Forms.{HasFirstWords, IsReadAs}
use Rattle.uu_bundle.specs.Texts.{IsHeading, heading_words}
use Rattle.uu_bundle.proofs.Records.{heading_at_front, named_words, no_name_no_heading, no_words_no_heading, words_cut}
use Rattle.uu_bundle.proofs.heading.read_heading.Goals as goal

abbrev texts : List (Bor (List ℕ)) → List (List ℕ)
texts words = map (λ word. word.now) words

pub returns-in_default : goal.returns-in_default
returns-in_default c = no_words_no_heading c.args.text.now (subst (λ cut. HasFirstWords c.args.text.now (option_map words_cut cut)) c.in_default.is c.in_ok-words.ensures)

pub returns-in-bundle : goal.returns-in-bundle
returns-in-bundle c =
    let first = subst (λ cut. HasFirstWords c.args.text.now (option_map words_cut cut)) c.in-Some.is c.in_ok-words.ensures in
    let has = named_words c.args.text.now c.in-Some.words.items c.in-Some-split_first.words.now c.in-Some-split_first.name.now c.in-Some.rest first (sym c.deref.ensures.value ∙ c.in-Some-split_first.ensures.cases.0) in
    heading_at_front c.args.text.now c.in-Some-split_first.name.now.now c.in-Some.rest.now (texts c.in-Some-split_first.words.now) None has c.in-bundle.is
    (subst (IsReadAs IsHeading heading_words (texts c.in-Some-split_first.words.now)) c.in-None.is c.in_ok-heading-in-bundle.ensures)

pub returns : goal.returns
returns c =
    let first = subst (λ cut. HasFirstWords c.args.text.now (option_map words_cut cut)) c.in-Some.is c.in_ok-words.ensures in
    let has = named_words c.args.text.now c.in-Some.words.items c.in-Some-split_first.words.now c.in-Some-split_first.name.now c.in-Some.rest first (sym c.deref.ensures.value ∙ c.in-Some-split_first.ensures.cases.0) in
    no_name_no_heading c.args.text.now c.in-Some-split_first.name.now.now c.in-Some.rest.now (texts c.in-Some-split_first.words.now) has c.in_default-name.not-bundle
