use Rattle.std.proofs.Common.{◌≡◌, ◌∙◌, Option, Ok, ap}
use Rattle.std.specs.Prelude.{⊤}
use Rattle.uu_bundle.specs.Bundles.{text_with_refused}
use Rattle.uu_core.specs.Verdict.{verdict}
use Rattle.uu_core.specs.declared.refusal.Refusal.{Refusal}
use Rattle.uuspool.specs.Bundles.{refused_for}
use Rattle.uuspool.proofs.AskedLemmas.{asked_as, asked_one}
use Rattle.uuspool.proofs.asking.add_if_refused.Goals as goal

pub returns : goal.returns
returns g c =
    let command = c.args.command.now in
    let text = c.args.text.now.items in
    asked_as (λ s. ⊤) (λ s (reason : Option Refusal). reason ≡ verdict s command) c.args.spool.now c.refusal.new.self
    (λ s done. c.add_reason.new.text.items ≡ text_with_refused text (refused_for command (verdict s command))) c.in_ok-reason.reason tt
    (λ s shown known was. c.in_ok-add_reason.ensures ∙ ap (λ reason. text_with_refused text (refused_for command reason)) was)
    (asked_one (λ s (reason : Option Refusal). reason ≡ verdict s command) c.args.spool.now c.refusal.new.self (Ok c.in_ok-reason.reason) c.in_ok-reason.ensures.question)
