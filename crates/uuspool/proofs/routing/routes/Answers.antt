use Rattle.std.proofs.Common.{◌∙◌, List, [], ℕ, Ok, Err, map, option_copied, subst}
use Rattle.std.specs.declared.alloc.AllocError.{AllocError}
use Rattle.std.specs.List.{AllZip}
use Rattle.std.specs.Io.KnownBytes.{Appends}
use Rattle.uu_core.specs.declared.system.SystemRow.{SystemRow}
use Rattle.uu_map.specs.Entry.{IsEntry}
use Rattle.uu_map.specs.declared.entry.Entry.{Entry}
use Rattle.uu_schema.specs.declared.fault.StoreFault.TheVariants as store
use Rattle.uu_schema.specs.declared.fault.StoreKind.TheVariants.{Database}
use Rattle.uu_request.specs.declared.request.Question.TheVariants as question
use Rattle.uuspool.specs.Routes.{IsRouted}
use Rattle.uuspool.specs.declared.fault.Fault.TheVariants as fault
use Rattle.uuspool.proofs.AnswerLemmas.{as_broken_off}
use Rattle.uuspool.proofs.RoutingLemmas.{texts_are_readable}
use Rattle.uuspool.proofs.ServedLemmas.{Answers, Appends_nothing, fault_goes_on, never_failed, printed, question_served, question_unanswered}
use Rattle.uuspool.proofs.routing.routes.Goals as goal

pub returns-in-Ok : goal.returns-in-Ok
returns-in-Ok g c =
    let written : List ℕ → Type 0 = λ output. Appends (g.W.Write.contents c.args.out.now) (g.W.Write.contents c.print.new.out) output in
    let name = option_copied c.args.name in
    let asked = question.Routes name c.args.costs in
    let Is = λ (texts : List (List ℕ)) (rows : List SystemRow) (output : List ℕ). (entries : List Entry) × AllZip IsEntry texts entries × IsRouted entries c.args.settings.now.name (map (λ (row : SystemRow). row.def.name) rows) name c.args.costs output c.in-Ok.status in
    question_served c.args.settings.now asked c.args.spool.now c.systems_and_entries.new.spool written c.print.result c.in_ok-systems.ensures.ran c.in_ok-systems.ensures.marked
    (λ clean s shown. (c.in_ok-systems.ensures.answer clean s shown).2)
    (printed {E = AllocError} c.print.result (Ok c.in-Ok.text) c.in-Ok.status written (λ output. Is c.deref-2.result.now c.deref.result.now output)
    (Answers c.args.settings.now asked c.args.spool.now c.systems_and_entries.new.spool)
    (λ output is clean s shown.
    let found = c.in_ok-systems.ensures.answer clean s shown in
    subst (λ (texts : List (List ℕ)). Is texts s.systems output) (c.deref-2.ensures.value ∙ found.1)
    (subst (λ (rows : List SystemRow). Is c.deref-2.result.now rows output) (c.deref.ensures.value ∙ found.0) is))
    c.print.ensures.printed c.print.ensures.status c.print.ensures.fault c.print.ensures.cut c.print.ensures.nothing c.in-Ok.ensures.text)

pub returns-in-Memory : goal.returns-in-Memory
returns-in-Memory g c =
    question_served c.args.settings.now (question.Routes (option_copied c.args.name) c.args.costs) c.args.spool.now c.systems_and_entries.new.spool
    (λ output. Appends (g.W.Write.contents c.args.out.now) (g.W.Write.contents c.args.out.now) output) (Err fault.Memory) c.in_ok-systems.ensures.ran c.in_ok-systems.ensures.marked
    (λ clean s shown. (c.in_ok-systems.ensures.answer clean s shown).2) (Appends_nothing (g.W.Write.contents c.args.out.now))

pub returns : goal.returns
returns g c =
    question_unanswered c.args.settings.now (question.Routes (option_copied c.args.name) c.args.costs) c.args.spool.now c.systems_and_entries.new.spool
    (λ output. Appends (g.W.Write.contents c.args.out.now) (g.W.Write.contents c.args.out.now) output) (store.Store Database)
    (as_broken_off [] c.args.spool.now c.systems_and_entries.new.spool [] Database c.in_ok-systems.ensures.ran) c.in_ok-systems.ensures.marked.0
    (λ clean s shown kind same.
    let (text, among, unreadable) = c.in-Err.ensures.fault c.in_default.not-Memory in
    absurd (texts_are_readable s.entries text _ shown.encodes.holds.good.hosts (c.deref-2.ensures.value ∙ (c.in_ok-systems.ensures.answer clean s shown).1) among unreadable))
    (never_failed _ c.in_ok-systems.ensures.marked.0) tt (Appends_nothing (g.W.Write.contents c.args.out.now))

pub returns-in_err-systems : goal.returns-in_err-systems
returns-in_err-systems g c =
    let asked = c.in_err-systems.ensures in
    fault_goes_on c.args.settings.now (question.Routes (option_copied c.args.name) c.args.costs) c.args.spool.now c.systems_and_entries.new.spool
    (λ output. Appends (g.W.Write.contents c.args.out.now) (g.W.Write.contents c.args.out.now) output) c.from_residual.result c.in_err-systems.field-0.0 c.from_residual.ensures.1
    asked.ran asked.marked asked.failed (Appends_nothing (g.W.Write.contents c.args.out.now))
