use Rattle.std.proofs.Common.{◌≡◌, List, ℕ, Ok, Vec, ap, option_map, refl, subst}
use Rattle.std.specs.declared.alloc.AllocError.{AllocError}
use Rattle.std.specs.declared.alloc.Global.{Global}
use Rattle.std.specs.declared.result.Result.{Result}
use Rattle.std.specs.Io.KnownBytes.{Appends}
use Rattle.uu_core.specs.State.{State, has_system}
use Rattle.uu_request.specs.declared.request.Question.TheVariants as question
use Rattle.uuspool.specs.Bundles.{IsAnswerText, no_system}
use Rattle.uuspool.specs.Internal.Asked.{IsBundleFor}
use Rattle.uuspool.proofs.AskedLemmas.{marks_are_of_call}
use Rattle.uuspool.proofs.BundleLemmas.{packed_known, packed_unknown}
use Rattle.uuspool.proofs.ServedLemmas.{Answers, Appends_nothing, printed, question_served, question_unanswered}
use Rattle.uuspool.proofs.bundles.answer.Goals as goal

pub returns-in-Ok-Some : goal.returns-in-Ok-Some
returns-in-Ok-Some g c =
    let written : List ℕ → Type 0 = λ output. Appends (g.W.Write.contents c.args.out.now) (g.W.Write.contents c.print.new.out) output in
    let asked = question.Answer c.args.answering.now in
    let IsText : State → List ℕ → Type 0 = IsAnswerText c.args.settings.now.name c.args.answering.now in
    let was = c.in-Ok-Some.ensures in
    let made : Result (Vec ℕ Global) AllocError = Ok c.in-Ok-Some.text in
    question_served c.args.settings.now asked c.args.spool.now c.answered.new.spool written c.print.result was.ran was.marked
    (λ clean s shown. (was.answer clean s shown tt).1)
    (printed c.print.result made 0 written (λ output. output ≡ c.in-Ok-Some.text.items) (Answers c.args.settings.now asked c.args.spool.now c.answered.new.spool)
    (λ output is clean s shown. packed_known (has_system s c.args.answering.now.packing.system) (IsText s) c.in-Ok-Some.text.items output
    (subst (IsBundleFor (has_system s c.args.answering.now.packing.system) (IsText s)) (ap (option_map (λ (text : Vec ℕ Global). text.items)) c.in-Ok-Some.field-0-is) (was.answer clean s shown tt).0) is)
    c.print.ensures.printed c.print.ensures.status c.print.ensures.fault c.print.ensures.cut c.print.ensures.nothing refl)

pub returns-in-Ok-None : goal.returns-in-Ok-None
returns-in-Ok-None g c =
    let written : List ℕ → Type 0 = λ output. Appends (g.W.Write.contents c.args.out.now) (g.W.Write.contents c.print-in-Ok-None.new.out) output in
    let asked = question.Answer c.args.answering.now in
    let IsText : State → List ℕ → Type 0 = IsAnswerText c.args.settings.now.name c.args.answering.now in
    let was = c.in-Ok-None.ensures in
    let print = c.print-in-Ok-None.ensures in
    question_served c.args.settings.now asked c.args.spool.now c.answered.new.spool written c.print-in-Ok-None.result was.ran was.marked
    (λ clean s shown. (was.answer clean s shown tt).1)
    (printed c.print-in-Ok-None.result c.from_slice.result 1 written (λ output. output ≡ no_system) (Answers c.args.settings.now asked c.args.spool.now c.answered.new.spool)
    (λ output is clean s shown. packed_unknown (has_system s c.args.answering.now.packing.system) (IsText s) output
    (subst (IsBundleFor (has_system s c.args.answering.now.packing.system) (IsText s)) (ap (option_map (λ (text : Vec ℕ Global). text.items)) c.in-Ok-None.field-0-is) (was.answer clean s shown tt).0) is)
    print.printed print.status print.fault print.cut print.nothing c.from_slice.ensures.items)

pub returns-in-Err : goal.returns-in-Err
returns-in-Err g c =
    let was = c.in-Err.ensures in
    question_unanswered c.args.settings.now (question.Answer c.args.answering.now) c.args.spool.now c.answered.new.spool
    (λ output. Appends (g.W.Write.contents c.args.out.now) (g.W.Write.contents c.args.out.now) output) c.in-Err.fault
    was.ran was.marked (λ clean s shown kind same. was.noted clean s shown tt kind same) was.failed (marks_are_of_call _ _ c.in-Err.fault was.marked) (Appends_nothing (g.W.Write.contents c.args.out.now))
