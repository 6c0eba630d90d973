use Rattle.std.proofs.Common.{◌≡◌, ◌∙◌, ap, subst, ℕ, List, [], Result, Ok, map, unwrap_or}
use Rattle.clap.specs.Words.{found_of, rows_of}
use Rattle.clap.proofs.WalkLemmas.{raw_values-rows}
use Rattle.uu_line.specs.Lines.{texts_at}
use Rattle.uu_line.specs.Lines.{AnswersUnlessMemory, words_of}
use Rattle.uu_line.specs.declared.fault.LineFault.{LineFault}
use Rattle.uu_line.proofs.values.words_in.Goals as goal

pub returns-in-Some : goal.returns-in-Some
returns-in-Some c =
    let same : map (λ s. s.now) c.in-Some.texts.now ≡ texts_at c.args.id.now (rows_of (found_of c.args.given.now)) =
    ap (λ o. unwrap_or o []) (c.in-Some.ensures ∙ raw_values-rows (found_of c.args.given.now) c.args.id.now) in
    subst (λ ts. AnswersUnlessMemory c.words_of.result (words_of ts)) same c.words_of.ensures

pub returns-in-None : goal.returns-in-None
returns-in-None c =
    let same : [] ≡ texts_at c.args.id.now (rows_of (found_of c.args.given.now)) =
    ap (λ o. unwrap_or o []) (c.in-None.ensures ∙ raw_values-rows (found_of c.args.given.now) c.args.id.now) in
    let ok : List (List ℕ) → Result (List (List ℕ)) LineFault = λ words. Ok words in
    ap ok (c.from_vec.ensures ∙ c.new.ensures.items) ∙ ap words_of same
