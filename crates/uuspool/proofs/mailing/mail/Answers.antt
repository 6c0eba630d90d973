use Rattle.std.proofs.Common.{List, ℕ}
use Rattle.std.specs.Io.KnownBytes.{Appends}
use Rattle.uuspool.proofs.AskedLemmas.{marks_are_of_call}
use Rattle.uuspool.proofs.MailLemmas.{mailing_served, mailing_unasked}
use Rattle.uuspool.proofs.ServedLemmas.{Appends_nothing}
use Rattle.uuspool.proofs.mailing.mail.Goals as goal

pub returns-in-Ok : goal.returns-in-Ok
returns-in-Ok g c =
    let written : List ℕ → Type 0 = λ output. Appends (g.W.Write.contents c.args.out.now) (g.W.Write.contents c.print_end.new.out) output in
    mailing_served c.args.settings.now c.args.mail c.args.spool.now c.in-Ok.commands c.commands_for.new.spool c.run-end.new.self written c.run-end.result c.print_end.result
    c.in-Ok.ensures.asked c.in-Ok.ensures.told c.runs_are_one_run.ensures.joined c.run-end.ensures.ran c.run-end.ensures.every c.run-end.ensures.marked c.print_end.ensures

pub returns-in-Err : goal.returns-in-Err
returns-in-Err g c =
    let was = c.in-Err.ensures.asked in
    mailing_unasked c.args.settings.now c.args.mail c.args.spool.now c.commands_for.new.spool
    (λ output. Appends (g.W.Write.contents c.args.out.now) (g.W.Write.contents c.args.out.now) output) c.in-Err.fault
    was.ran was.marked (λ clean s shown kind same. was.noted clean s shown tt kind same) was.failed (marks_are_of_call _ _ c.in-Err.fault was.marked) (Appends_nothing (g.W.Write.contents c.args.out.now))
