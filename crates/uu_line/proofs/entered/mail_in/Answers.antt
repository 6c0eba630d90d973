use Rattle.std.proofs.Common.{◌≡◌, ◌∙◌, ap, inl, inr, refl, subst, sym, ◌∷◌, Err, codes, option_map}
use Rattle.std.specs.Prelude.{IsSome, slice_get}
use Rattle.std.specs.List.{All}
use Rattle.clap.specs.Words.{found_of, rows_of}
use Rattle.clap.proofs.WalkLemmas.{first_value-rows}
use Rattle.uu_names.specs.Path.{IsPathText}
use Rattle.uu_line.specs.Lines.{texts_at}
use Rattle.uu_line.specs.Lines.{AnswersUnlessMemory, IsBadAddress, MeansMailOn, MeansMailing, terms_of, mail_by}
use Rattle.uu_line.specs.declared.fault.LineFault.TheVariants as fault
use Rattle.uu_line.proofs.LineLemmas.{address_fault, err_weaker, meaning, texts_given}
use Rattle.uu_line.proofs.entered.mail_in.Goals as goal

pub mail_task-requires : goal.mail_task-requires
mail_task-requires c =
    let given = texts_given (codes "address") (rows_of (found_of c.args.given.now)) c.requires.1.0 in
    subst (λ paths. IsSome (slice_get paths 0)) (sym (c.deref.ensures.value ∙ c.in-Ok-paths_in.ensures.paths.0 ∙ given.3)) refl

pub returns-in-Ok-paths_in : goal.returns-in-Ok-paths_in
returns-in-Ok-paths_in c =
    let rows = rows_of (found_of c.args.given.now) in
    let known = ap (terms_of c.text_in.result.now) (c.get_str.ensures ∙ first_value-rows (found_of c.args.given.now) (codes "once")) in
    let given = texts_given (codes "address") rows c.requires.1.0 in
    let paths = c.deref.result.now in
    let same = c.deref.ensures.value ∙ c.in-Ok-paths_in.ensures.paths.0 ∙ given.3 in
    let answers = c.mail_task.ensures given.0 (ap (λ texts. slice_get texts 0) (sym same)) in
    let expected = mail_by c.in-Ok.terms given.0 (given.0 ∷ given.1) in
    meaning (MeansMailing rows) c.mail_task.result expected (
      c.text_in.result.now,
      c.text_in.ensures,
      (
        given.0,
        given.1,
        given.2,
        subst (λ terms. MeansMailOn terms given.0 (given.0 ∷ given.1) expected) (c.in-Ok.ensures ∙ known)
            (inl (subst (All IsPathText) given.3 c.in-Ok-paths_in.ensures.paths.1, refl)),
      ),
    )
    (subst (λ texts. AnswersUnlessMemory c.mail_task.result (mail_by c.in-Ok.terms given.0 texts)) same answers)

pub returns-in-Err-paths_in : goal.returns-in-Err-paths_in
returns-in-Err-paths_in c =
    let rows = rows_of (found_of c.args.given.now) in
    let known = ap (terms_of c.text_in.result.now) (c.get_str.ensures ∙ first_value-rows (found_of c.args.given.now) (codes "once")) in
    let given = texts_given (codes "address") rows c.requires.1.0 in
    address_fault (MeansMailing rows) (texts_at (codes "address") rows) c.in-Err-paths_in.fault c.in-Err-paths_in.ensures.fault
    (λ why bad. (
      c.text_in.result.now,
      c.text_in.ensures,
      (
        given.0,
        given.1,
        given.2,
        subst (λ terms. MeansMailOn terms given.0 (given.0 ∷ given.1) (Err (fault.Name why))) (c.in-Ok.ensures ∙ known)
            (inr (why, subst (λ texts. IsBadAddress texts why) given.3 bad, refl)),
      ),
    ))

pub returns-in-Err : goal.returns-in-Err
returns-in-Err c =
    let rows = rows_of (found_of c.args.given.now) in
    let known = ap (terms_of c.text_in.result.now) (c.get_str.ensures ∙ first_value-rows (found_of c.args.given.now) (codes "once")) in
    let given = texts_given (codes "address") rows c.requires.1.0 in
    let text = c.text_in.result.now in
    err_weaker (λ a. a ≡ terms_of text (option_map (λ text. text.now) c.get_str.result)) (MeansMailing rows) c.in-Err.fault
    (λ is. (text, c.text_in.ensures, (given.0, given.1, given.2, subst (λ terms. MeansMailOn terms given.0 (given.0 ∷ given.1) (Err c.in-Err.fault)) (is ∙ known) refl)))
    c.in-Err.ensures
