use Rattle.std.proofs.Common.{◌∙◌, Bor, List, None, Option, map, option_map, subst, sym, ℕ}
use Rattle.uu_bundle.specs.Internal.Forms.{HasFirstWords, IsJobAt, IsReadAs}
use Rattle.uu_bundle.specs.Texts.{IsRefused, IsTold, refused_words, told_words}
use Rattle.uu_bundle.specs.declared.bundle.Parcel.{Parcel}
use Rattle.uu_bundle.proofs.Records.{job_at_front, named_words, no_name_no_record, no_words_no_record, refused_at_front, told_at_front, words_cut}
use Rattle.uu_bundle.proofs.record.read_record.Goals as goal

abbrev texts : List (Bor (List ℕ)) → List (List ℕ)
texts words = map (λ word. word.now) words

pub returns-in_default : goal.returns-in_default
returns-in_default c =
    no_words_no_record c.args.heading.now c.args.text.now (subst (λ cut. HasFirstWords c.args.text.now (option_map words_cut cut)) c.in_default.is c.in_ok-words.ensures)

pub returns-in-has : goal.returns-in-has
returns-in-has c =
    let first = subst (λ cut. HasFirstWords c.args.text.now (option_map words_cut cut)) c.in-Some.is c.in_ok-words.ensures in
    let has = named_words c.args.text.now c.in-Some.words.items c.in-Some-split_first.words.now c.in-Some-split_first.name.now c.in-Some.rest first (sym c.deref.ensures.value ∙ c.in-Some-split_first.ensures.cases.0) in
    told_at_front c.args.heading.now c.args.text.now c.in-Some-split_first.name.now.now c.in-Some.rest.now (texts c.in-Some-split_first.words.now) None has c.in-has.is
    (subst (IsReadAs IsTold told_words (texts c.in-Some-split_first.words.now)) c.in-None.is c.in_ok-told-in-has.ensures)

pub returns-in-no : goal.returns-in-no
returns-in-no c =
    let first = subst (λ cut. HasFirstWords c.args.text.now (option_map words_cut cut)) c.in-Some.is c.in_ok-words.ensures in
    let has = named_words c.args.text.now c.in-Some.words.items c.in-Some-split_first.words.now c.in-Some-split_first.name.now c.in-Some.rest first (sym c.deref.ensures.value ∙ c.in-Some-split_first.ensures.cases.0) in
    refused_at_front c.args.heading.now c.args.text.now c.in-Some-split_first.name.now.now c.in-Some.rest.now (texts c.in-Some-split_first.words.now) None has c.in-no.is
    (subst (IsReadAs IsRefused refused_words (texts c.in-Some-split_first.words.now)) c.in-None-2.is c.in_ok-refused-in-no.ensures)

pub returns-in-job : goal.returns-in-job
returns-in-job c =
    let first = subst (λ cut. HasFirstWords c.args.text.now (option_map words_cut cut)) c.in-Some.is c.in_ok-words.ensures in
    let has = named_words c.args.text.now c.in-Some.words.items c.in-Some-split_first.words.now c.in-Some-split_first.name.now c.in-Some.rest first (sym c.deref.ensures.value ∙ c.in-Some-split_first.ensures.cases.0) in
    job_at_front c.args.heading.now c.args.text.now c.in-Some-split_first.name.now.now c.in-Some.rest.now (texts c.in-Some-split_first.words.now) None has c.in-job.is
    (subst (λ (read : Option (Parcel × Bor (List ℕ))). IsJobAt c.args.heading.now (texts c.in-Some-split_first.words.now) c.in-Some.rest.now (option_map (λ cut. (cut.0, cut.1.now)) read)) c.in-None-3.is c.in_ok-job-in-job.ensures)

pub returns : goal.returns
returns c =
    let first = subst (λ cut. HasFirstWords c.args.text.now (option_map words_cut cut)) c.in-Some.is c.in_ok-words.ensures in
    let has = named_words c.args.text.now c.in-Some.words.items c.in-Some-split_first.words.now c.in-Some-split_first.name.now c.in-Some.rest first (sym c.deref.ensures.value ∙ c.in-Some-split_first.ensures.cases.0) in
    no_name_no_record c.args.heading.now c.args.text.now c.in-Some-split_first.name.now.now c.in-Some.rest.now (texts c.in-Some-split_first.words.now) has c.in_default-name.not-has c.in_default-name.not-no c.in_default-name.not-job
