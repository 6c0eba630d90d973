use Rattle.std.proofs.Common.{◌∙◌, List, [], ℕ, Ok, Err, subst}
use Rattle.std.specs.declared.alloc.AllocError.{AllocError}
use Rattle.std.specs.List.{AllZip}
use Rattle.std.specs.Io.KnownBytes.{Appends}
use Rattle.uu_map.specs.Entry.{IsEntry}
use Rattle.uu_map.specs.declared.entry.Entry.{Entry}
use Rattle.uu_schema.specs.declared.fault.StoreFault.TheVariants as store
use Rattle.uu_schema.specs.declared.fault.StoreKind.TheVariants.{Database}
use Rattle.uu_request.specs.declared.request.Question.TheVariants as question
use Rattle.uuspool.specs.Answers.{IsEntryShown, entry_for}
use Rattle.uuspool.specs.declared.fault.Fault.TheVariants as fault
use Rattle.uuspool.proofs.AnswerLemmas.{as_broken_off}
use Rattle.uuspool.proofs.RoutingLemmas.{texts_are_readable}
use Rattle.uuspool.proofs.ServedLemmas.{Answers, Appends_nothing, fault_goes_on, never_failed, printed, question_served, question_unanswered}
use Rattle.uuspool.proofs.routing.neighbours.Goals as goal

pub returns-in-Ok : goal.returns-in-Ok
returns-in-Ok g c =
    let written : List ℕ → Type 0 = λ output. Appends (g.W.Write.contents c.args.out.now) (g.W.Write.contents c.print.new.out) output in
    let asked = question.Entry c.args.name.now in
    let asks = c.in_ok-texts.ensures.question in
    let Is = λ (texts : List (List ℕ)) (output : List ℕ). (entries : List Entry) × AllZip IsEntry texts entries × IsEntryShown (entry_for entries c.args.name.now) output c.in-Ok.status in
    question_served c.args.settings.now asked c.args.spool.now c.entries.new.self written c.print.result asks.ran asks.marked
    (λ clean s shown. (asks.answer clean s shown).1)
    (printed {E = AllocError} c.print.result (Ok c.in-Ok.text) c.in-Ok.status written (λ output. Is c.deref.result.now output)
    (Answers c.args.settings.now asked c.args.spool.now c.entries.new.self)
    (λ output is clean s shown. subst (λ (texts : List (List ℕ)). Is texts output) (c.deref.ensures.value ∙ (asks.answer clean s shown).0) is)
    c.print.ensures.printed c.print.ensures.status c.print.ensures.fault c.print.ensures.cut c.print.ensures.nothing c.in-Ok.ensures.text)

pub returns-in-Memory : goal.returns-in-Memory
returns-in-Memory g c =
    let asks = c.in_ok-texts.ensures.question in
    question_served c.args.settings.now (question.Entry c.args.name.now) c.args.spool.now c.entries.new.self
    (λ output. Appends (g.W.Write.contents c.args.out.now) (g.W.Write.contents c.args.out.now) output) (Err fault.Memory) asks.ran asks.marked
    (λ clean s shown. (asks.answer clean s shown).1) (Appends_nothing (g.W.Write.contents c.args.out.now))

pub returns : goal.returns
returns g c =
    let asks = c.in_ok-texts.ensures.question in
    question_unanswered c.args.settings.now (question.Entry c.args.name.now) c.args.spool.now c.entries.new.self
    (λ output. Appends (g.W.Write.contents c.args.out.now) (g.W.Write.contents c.args.out.now) output) (store.Store Database)
    (as_broken_off [] c.args.spool.now c.entries.new.self [] Database asks.ran) asks.marked.0
    (λ clean s shown kind same.
    let (text, among, unreadable) = c.in-Err.ensures.fault c.in_default.not-Memory in
    absurd (texts_are_readable s.entries text _ shown.encodes.holds.good.hosts (c.deref.ensures.value ∙ (asks.answer clean s shown).0) among unreadable))
    (never_failed _ asks.marked.0) tt (Appends_nothing (g.W.Write.contents c.args.out.now))

pub returns-in_err-texts : goal.returns-in_err-texts
returns-in_err-texts g c =
    let asked = c.in_err-texts.ensures.question in
    fault_goes_on c.args.settings.now (question.Entry c.args.name.now) c.args.spool.now c.entries.new.self
    (λ output. Appends (g.W.Write.contents c.args.out.now) (g.W.Write.contents c.args.out.now) output) c.from_residual.result c.in_err-texts.field-0.0 c.from_residual.ensures.1
    asked.ran asked.marked (λ had. (asked.failed had).1) (Appends_nothing (g.W.Write.contents c.args.out.now))
