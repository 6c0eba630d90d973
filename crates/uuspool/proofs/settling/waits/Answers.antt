use Rattle.std.proofs.Common.{◌≡◌, ◌∙◌, Bool, false, Some, ap, option_map, sym}
use Rattle.std.specs.Prelude.{⊤}
use Rattle.uu_handover.specs.Bundles.{Told, is_settled}
use Rattle.uu_core.specs.State.{job_at}
use Rattle.uu_store.specs.HandedOut.{job_shown, job_with}
use Rattle.uuspool.specs.Bundles.{mark_for}
use Rattle.uuspool.specs.Internal.Asked.{is_job_told}
use Rattle.uuspool.proofs.AskedLemmas.{asked_as, asked_one}
use Rattle.uuspool.proofs.WaitingLemmas.{settled_by_number}
use Rattle.uuspool.proofs.settling.waits.Goals as goal

pub returns-in-Ok : goal.returns-in-Ok
returns-in-Ok g c =
    let from = c.args.own.now in
    let to = c.args.settling.now.system in
    let word = c.args.settling.now.spool in
    let one : Told = record { number = c.args.number; mark = c.args.mark } in
    asked_as (λ s. ⊤) (λ s found. option_map job_shown found ≡ job_at s one.number) c.args.spool.now c.job.new.self
    (λ s (settled : Bool). settled ≡ is_settled to (mark_for from to word) s one) _ c.in-Ok.told
    (λ s shown known was.
    c.in-Ok.ensures ∙ ap (λ bytes. is_job_told from to word one.mark (Some (job_with c.in-Ok-Some.head bytes))) c.deref.ensures.value
    ∙ ap (is_job_told from to word one.mark) (sym (ap (option_map job_shown) c.in-Ok-Some.field-0-is) ∙ was)
    ∙ sym (settled_by_number from to word one s.jobs shown.encodes.holds.good.rising))
    (asked_one (λ s found. option_map job_shown found ≡ job_at s one.number) c.args.spool.now c.job.new.self _ c.in-Ok-Some.ensures.question)

pub returns-in-Ok-None : goal.returns-in-Ok-None
returns-in-Ok-None g c =
    let from = c.args.own.now in
    let to = c.args.settling.now.system in
    let word = c.args.settling.now.spool in
    let one : Told = record { number = c.args.number; mark = c.args.mark } in
    asked_as (λ s. ⊤) (λ s found. option_map job_shown found ≡ job_at s one.number) c.args.spool.now c.job.new.self
    (λ s (settled : Bool). settled ≡ is_settled to (mark_for from to word) s one) _ false
    (λ s shown known was.
    ap (is_job_told from to word one.mark) (sym (ap (option_map job_shown) c.in-Ok-None.field-0-is) ∙ was)
    ∙ sym (settled_by_number from to word one s.jobs shown.encodes.holds.good.rising))
    (asked_one (λ s found. option_map job_shown found ≡ job_at s one.number) c.args.spool.now c.job.new.self _ c.in-Ok-None.ensures.question)
