use Rattle.std.proofs.Common.{◌≡◌, ◌∙◌, ℕ, Vec, Err, Ok, ap, subst}
use Rattle.std.specs.Prelude.{⊤}
use Rattle.std.specs.declared.alloc.Global.{Global}
use Rattle.uu_core.specs.State.{State}
use Rattle.uu_bundle.specs.declared.bundle.Refused.{Refused}
use Rattle.uu_report.specs.Reports.{IsSettleReport}
use Rattle.uuspool.specs.Bundles.{IsSettleOutput, refused_still, release_of, settled_by}
use Rattle.uuspool.specs.declared.settling.Found.{Found}
use Rattle.uuspool.proofs.AskedLemmas.{asked_as, asked_goes_on, asked_refused_as, asked_then}
use Rattle.uuspool.proofs.settling.found_by.Goals as goal

pub returns-in_err-numbers-clause-asked : goal.returns-in_err-numbers-clause-asked
returns-in_err-numbers-clause-asked g c =
    let own = c.args.own.now in
    let it = c.args.settling.now in
    asked_goes_on (λ s. ⊤) (λ s (numbers : Vec ℕ Global). numbers.items ≡ settled_by own it s)
    (λ s (found : Found). (found.commands.items ≡ release_of it.system (settled_by own it s)) × IsSettleOutput own it s found.report.items) c.args.spool.now c.settled_numbers.new.spool
    c.from_residual.result c.in_err-numbers.field-0.0 c.from_residual.ensures.1 c.in_err-numbers.ensures.asked

pub returns-in_err-refused-clause-asked : goal.returns-in_err-refused-clause-asked
returns-in_err-refused-clause-asked g c =
    let own = c.args.own.now in
    let it = c.args.settling.now in
    let numbers = c.in_ok-numbers.numbers in
    let Settles : State → Vec ℕ Global → Type 0 = λ s numbers. numbers.items ≡ settled_by own it s in
    let Refuses : State → Vec Refused Global → Type 0 = λ s refused. refused.items ≡ refused_still own it.system it.spool it.refused s in
    asked_goes_on (λ s. ⊤) (λ s (refused : Vec Refused Global). Settles s numbers × Refuses s refused)
    (λ s (found : Found). (found.commands.items ≡ release_of it.system (settled_by own it s)) × IsSettleOutput own it s found.report.items) c.args.spool.now c.refused_jobs.new.spool
    c.from_residual-in_err-refused.result c.in_err-refused.field-0.0 c.from_residual-in_err-refused.ensures.1
    (asked_then (λ s. ⊤) Settles c.args.spool.now c.settled_numbers.new.spool c.refused_jobs.new.spool numbers c.in_ok-numbers.ensures.asked (λ s. ⊤) Refuses (Err c.in_err-refused.field-0.0) (λ s shown known is. tt) c.in_err-refused.ensures)

pub returns-in_err-report-clause-asked : goal.returns-in_err-report-clause-asked
returns-in_err-report-clause-asked g c =
    let own = c.args.own.now in
    let it = c.args.settling.now in
    let numbers = c.in_ok-numbers.numbers in
    let refused = c.in_ok-refused.refused in
    let Settles : State → Vec ℕ Global → Type 0 = λ s numbers. numbers.items ≡ settled_by own it s in
    let Refuses : State → Vec Refused Global → Type 0 = λ s refused. refused.items ≡ refused_still own it.system it.spool it.refused s in
    asked_refused_as (λ s. ⊤) (λ s (refused : Vec Refused Global). Settles s numbers × Refuses s refused)
    (λ s (found : Found). (found.commands.items ≡ release_of it.system (settled_by own it s)) × IsSettleOutput own it s found.report.items) c.args.spool.now c.refused_jobs.new.spool
    c.from_residual-in_err-report.result refused c.from_residual-in_err-report.ensures.1
    (asked_then (λ s. ⊤) Settles c.args.spool.now c.settled_numbers.new.spool c.refused_jobs.new.spool numbers c.in_ok-numbers.ensures.asked (λ s. ⊤) Refuses (Ok refused) (λ s shown known is. tt) c.in_ok-refused.ensures)

pub returns-in_err-commands-clause-asked : goal.returns-in_err-commands-clause-asked
returns-in_err-commands-clause-asked g c =
    let own = c.args.own.now in
    let it = c.args.settling.now in
    let numbers = c.in_ok-numbers.numbers in
    let refused = c.in_ok-refused.refused in
    let Settles : State → Vec ℕ Global → Type 0 = λ s numbers. numbers.items ≡ settled_by own it s in
    let Refuses : State → Vec Refused Global → Type 0 = λ s refused. refused.items ≡ refused_still own it.system it.spool it.refused s in
    asked_refused_as (λ s. ⊤) (λ s (refused : Vec Refused Global). Settles s numbers × Refuses s refused)
    (λ s (found : Found). (found.commands.items ≡ release_of it.system (settled_by own it s)) × IsSettleOutput own it s found.report.items) c.args.spool.now c.refused_jobs.new.spool
    c.from_residual-in_err-commands.result refused c.from_residual-in_err-commands.ensures.1
    (asked_then (λ s. ⊤) Settles c.args.spool.now c.settled_numbers.new.spool c.refused_jobs.new.spool numbers c.in_ok-numbers.ensures.asked (λ s. ⊤) Refuses (Ok refused) (λ s shown known is. tt) c.in_ok-refused.ensures)

pub returns-clause-asked : goal.returns-clause-asked
returns-clause-asked g c =
    let own = c.args.own.now in
    let it = c.args.settling.now in
    let numbers = c.in_ok-numbers.numbers in
    let refused = c.in_ok-refused.refused in
    let Settles : State → Vec ℕ Global → Type 0 = λ s numbers. numbers.items ≡ settled_by own it s in
    let Refuses : State → Vec Refused Global → Type 0 = λ s refused. refused.items ≡ refused_still own it.system it.spool it.refused s in
    asked_as (λ s. ⊤) (λ s (refused : Vec Refused Global). Settles s numbers × Refuses s refused) c.args.spool.now c.refused_jobs.new.spool
    (λ s (found : Found). (found.commands.items ≡ release_of it.system (settled_by own it s)) × IsSettleOutput own it s found.report.items) refused _
    (λ s shown known was. (
      c.in_ok-commands.ensures ∙ ap (release_of it.system) was.0,
      subst (λ ns. IsSettleReport it.system ns (refused_still own it.system it.spool it.refused s) c.in_ok-report.report.items) (c.deref.ensures.value ∙ was.0)
          (subst (λ rs. IsSettleReport it.system c.deref.result.now rs c.in_ok-report.report.items) (c.deref-2.ensures.value ∙ was.1) c.in_ok-report.ensures),
    ))
    (asked_then (λ s. ⊤) Settles c.args.spool.now c.settled_numbers.new.spool c.refused_jobs.new.spool numbers c.in_ok-numbers.ensures.asked (λ s. ⊤) Refuses (Ok refused) (λ s shown known is. tt) c.in_ok-refused.ensures)

pub returns-clause-told : goal.returns-clause-told
returns-clause-told g c = (c.in_ok-numbers.numbers.items, c.in_ok-commands.ensures, c.in_ok-numbers.ensures.told)
