use Rattle.std.proofs.Common.{◌≡◌, ◌∙◌, List, [], ℕ, Bool, Ok, Err, Option, ap, refl, subst}
use Rattle.std.specs.Prelude.{⊤}
use Rattle.uu_core.specs.State.{State}
use Rattle.uu_core.specs.Verdict.{verdict}
use Rattle.uu_core.specs.declared.command.Command.TheVariants.{Queue}
use Rattle.uu_core.specs.declared.job.NewJob.{NewJob}
use Rattle.uu_core.specs.declared.refusal.Refusal.{Refusal}
use Rattle.uuspool.specs.Internal.Asked.{IsAsked}
use Rattle.uuspool.specs.Mail.{IsWay, IsWayByMap, IsWayIf, is_for_no_system, mail_by}
use Rattle.uuspool.proofs.AskedLemmas.{asked_as, asked_goes_on, asked_one, asked_then}
use Rattle.uuspool.proofs.MailLemmas.{asked_into}
use Rattle.uuspool.proofs.mailing.sent_mail.Goals as goal

abbrev IsVerdict : NewJob → State → Option Refusal → Type 0
IsVerdict mail s refusal = refusal ≡ verdict s (Queue mail)

abbrev IsSentByMap : List ℕ → NewJob → State → NewJob → Type 0
IsSentByMap own mail s sent = (way : List (List ℕ)) × IsWayByMap own s mail way × (sent ≡ mail_by way mail)

abbrev IsSent : List ℕ → NewJob → State → NewJob → Type 0
IsSent own mail s sent = (way : List (List ℕ)) × IsWay own s mail way × (sent ≡ mail_by way mail)

pub returns-in_err-refusal-clause-asked : goal.returns-in_err-refusal-clause-asked
returns-in_err-refusal-clause-asked g c =
    let why = c.in_err-refusal.field-0.0 in
    asked_goes_on (λ s. ⊤) (IsVerdict c.args.mail) (IsSent c.args.own.now c.args.mail) c.args.spool.now c.refusal.new.self c.from_residual.result why c.from_residual.ensures.1
    (asked_one (IsVerdict c.args.mail) c.args.spool.now c.refusal.new.self (Err why) c.in_err-refusal.ensures.question)

pub returns-in-Queue-true-clause-asked : goal.returns-in-Queue-true-clause-asked
returns-in-Queue-true-clause-asked g c =
    let own = c.args.own.now in
    let mail = c.args.mail in
    let old = c.args.spool.now in
    let mid = c.refusal.new.self in
    let new = c.mail_by_map.new.spool in
    let refusal = c.in_ok-refusal.refusal in
    let same : c.in-Queue-true.mail ≡ mail = cc in
    asked_into (λ s (sent : NewJob). IsVerdict mail s refusal × IsSentByMap own mail s sent) (IsSent own mail) old new c.mail_by_map.result
    (λ s sent was. (was.1.0, subst (λ (b : Bool). IsWayIf b (IsWayByMap own s mail) was.1.0) (c.in-Queue-true.ensures ∙ ap is_for_no_system was.0) was.1.1, was.1.2))
    (asked_then (λ s. ⊤) (IsVerdict mail) old mid new refusal (asked_one (IsVerdict mail) old mid (Ok refusal) c.in_ok-refusal.ensures.question) (λ s. ⊤) (IsSentByMap own mail) c.mail_by_map.result
    (λ s shown known is. tt) (subst (λ (m : NewJob). IsAsked (λ s. ⊤) (IsSentByMap own m) mid new c.mail_by_map.result) same c.mail_by_map.ensures.asked))

pub returns-in-Queue-false-clause-asked : goal.returns-in-Queue-false-clause-asked
returns-in-Queue-false-clause-asked g c =
    let own = c.args.own.now in
    let mail = c.args.mail in
    let old = c.args.spool.now in
    let mid = c.refusal.new.self in
    let refusal = c.in_ok-refusal.refusal in
    let same : c.in-Queue-false.mail ≡ mail = cc in
    let nothing : List (List ℕ) = [] in
    asked_as (λ s. ⊤) (IsVerdict mail) old mid (IsSent own mail) refusal c.in-Queue-false.mail
    (λ s shown known was. (nothing, subst (λ (b : Bool). IsWayIf b (IsWayByMap own s mail) nothing) (c.in-Queue-false.ensures ∙ ap is_for_no_system was) refl, same))
    (asked_one (IsVerdict mail) old mid (Ok refusal) c.in_ok-refusal.ensures.question)
