use Rattle.std.proofs.Common.{◌≡◌, List, ℕ, MatchOption, Ok, Option, Result, Vec, false, refl, subst}
use Rattle.std.specs.Prelude.{⊤}
use Rattle.std.specs.Io.KnownBytes.{Appends}
use Rattle.std.specs.declared.alloc.AllocError.{AllocError}
use Rattle.std.specs.declared.alloc.Global.{Global}
use Rattle.uu_schema.specs.declared.fault.StoreFault.{StoreFault}
use Rattle.uu_store.specs.Runs.{Ran}
use Rattle.uu_store.specs.Spool.{IsFaultBetween, has_failed}
use Rattle.uuspool.proofs.AskedLemmas.{asked_as, marks_are_of_call}
use Rattle.uuspool.proofs.ServedLemmas.{Appends_nothing, marked_is_of_call, printed}
use Rattle.uuspool.proofs.SettlingLemmas.{IsFound, settling_broken, settling_served, settling_unasked}
use Rattle.uuspool.specs.declared.settling.Found.{Found}
use Rattle.uuspool.proofs.settling.settle.Goals as goal

pub returns-in-None : goal.returns-in-None
returns-in-None g c =
    let written : List ℕ → Type 0 = λ output. Appends (g.W.Write.contents c.args.out.now) (g.W.Write.contents c.print.new.out) output in
    let settings = c.args.settings.now in
    let it = c.args.settling.now in
    let found = c.in-Ok.found in
    let commands = found.commands.items in
    let report = found.report.items in
    let mid = c.found_by.new.spool in
    let new = c.run-end.new.self in
    let end = c.run-end.result in
    let made : Result (Vec ℕ Global) AllocError = Ok found.report in
    settling_served settings it c.args.spool.now found commands report mid new written end.replies.items
    (asked_as (λ s. ⊤) (λ s (one : Found). IsFound settings it s one.commands.items one.report.items) c.args.spool.now mid (λ s (one : Found). IsFound settings it s commands report) found found (λ s shown known was. was) c.in-Ok.ensures.asked)
    c.in-Ok.ensures.told c.runs_are_one_run.ensures.joined c.print.result
    (subst (λ (stopped : Option StoreFault). Ran 1 commands mid new end.replies.items stopped) c.in-None.is c.run-end.ensures.ran)
    (c.run-end.ensures.every.0 c.in-None.is).1
    (subst (λ (stopped : Option StoreFault). MatchOption stopped ((has_failed mid ≡ false) × (has_failed new ≡ false)) (IsFaultBetween (has_failed mid) (has_failed new))) c.in-None.is c.run-end.ensures.marked).1
    (printed c.print.result made 0 written (λ output. output ≡ report) (λ output status. (output ≡ report) × (status ≡ 0)) (λ output is. (is, refl))
    c.print.ensures.printed c.print.ensures.status c.print.ensures.fault c.print.ensures.cut c.print.ensures.nothing refl)

pub returns-in-Some : goal.returns-in-Some
returns-in-Some g c =
    let settings = c.args.settings.now in
    let it = c.args.settling.now in
    let found = c.in-Ok.found in
    let commands = found.commands.items in
    let report = found.report.items in
    let mid = c.found_by.new.spool in
    let new = c.run-end.new.self in
    let end = c.run-end.result in
    let why = c.in-Some.fault in
    let between = subst (λ (stopped : Option StoreFault). MatchOption stopped ((has_failed mid ≡ false) × (has_failed new ≡ false)) (IsFaultBetween (has_failed mid) (has_failed new))) c.in-Some.is c.run-end.ensures.marked in
    settling_broken settings it c.args.spool.now found commands report mid new (λ output. Appends (g.W.Write.contents c.args.out.now) (g.W.Write.contents c.args.out.now) output) end.replies.items
    (asked_as (λ s. ⊤) (λ s (one : Found). IsFound settings it s one.commands.items one.report.items) c.args.spool.now mid (λ s (one : Found). IsFound settings it s commands report) found found (λ s shown known was. was) c.in-Ok.ensures.asked)
    c.in-Ok.ensures.told c.runs_are_one_run.ensures.joined why
    (subst (λ (stopped : Option StoreFault). Ran 1 commands mid new end.replies.items stopped) c.in-Some.is c.run-end.ensures.ran)
    between (marked_is_of_call (has_failed mid) (has_failed new) why between) (Appends_nothing (g.W.Write.contents c.args.out.now))

pub returns-in-Err : goal.returns-in-Err
returns-in-Err g c =
    let was = c.in-Err.ensures.asked in
    settling_unasked c.args.settings.now c.args.settling.now c.args.spool.now c.found_by.new.spool
    (λ output. Appends (g.W.Write.contents c.args.out.now) (g.W.Write.contents c.args.out.now) output) c.in-Err.fault
    was.ran was.marked (λ clean s shown kind same. was.noted clean s shown tt kind same) was.failed (marks_are_of_call _ _ c.in-Err.fault was.marked) (Appends_nothing (g.W.Write.contents c.args.out.now))
