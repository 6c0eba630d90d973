use Rattle.std.proofs.Common.{◌≡◌, ◌∙◌, ◌++◌, ◌∷◌, List, [], ℕ, Vec, ap}
use Rattle.std.specs.Prelude.{⊤}
use Rattle.std.specs.declared.alloc.Global.{Global}
use Rattle.uu_core.specs.State.{State}
use Rattle.uu_core.specs.declared.command.Command.{Command}
use Rattle.uu_core.specs.declared.command.Command.TheVariants.{Queue}
use Rattle.uu_core.specs.declared.job.NewJob.{NewJob}
use Rattle.uu_request.specs.declared.request.Request.TheVariants as request
use Rattle.uuspool.specs.Mail.{IsWay, mail_by}
use Rattle.uuspool.specs.Served.{AreCommandsIn}
use Rattle.uuspool.proofs.AskedLemmas.{asked_as, asked_goes_on}
use Rattle.uuspool.proofs.mailing.commands_for.Goals as goal

abbrev IsSent : List ℕ → NewJob → State → NewJob → Type 0
IsSent own mail s sent = (way : List (List ℕ)) × IsWay own s mail way × (sent ≡ mail_by way mail)

pub returns-in_err-sent-clause-asked : goal.returns-in_err-sent-clause-asked
returns-in_err-sent-clause-asked g c =
    asked_goes_on (λ s. ⊤) (IsSent c.args.settings.now.name c.args.mail) (λ s (commands : Vec Command Global). AreCommandsIn c.args.settings.now s (request.Mailing c.args.mail) commands.items)
    c.args.spool.now c.sent_mail.new.spool c.from_residual.result c.in_err-sent.field-0.0 c.from_residual.ensures.1 c.in_err-sent.ensures.asked

pub returns-clause-asked : goal.returns-clause-asked
returns-clause-asked g c =
    asked_as (λ s. ⊤) (IsSent c.args.settings.now.name c.args.mail) c.args.spool.now c.sent_mail.new.spool
    (λ s (commands : Vec Command Global). AreCommandsIn c.args.settings.now s (request.Mailing c.args.mail) commands.items) c.in_ok-sent.sent _
    (λ s shown known was. (was.0, was.1, c.in_ok-push.ensures.items ∙ ap (λ (items : List Command). items ++ Queue c.in_ok-sent.sent ∷ []) c.new-commands.ensures.items ∙ ap (λ (sent : NewJob). Queue sent ∷ []) was.2)) c.in_ok-sent.ensures.asked
