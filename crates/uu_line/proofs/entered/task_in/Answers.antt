use Rattle.std.proofs.Common.{inl, inr, refl, subst}
use Rattle.clap.specs.Words.{found_of, rows_of}
use Rattle.uu_line.specs.Internal.Entries.{HaveTexts, subcommands, texts_of}
use Rattle.uu_line.specs.Lines.{MeansDrop, MeansExec, MeansFile, MeansMailing, MeansTask}
use Rattle.uu_line.specs.declared.task.Task.TheVariants as task
use Rattle.uu_line.proofs.LineLemmas.{found_later, task_meant}
use Rattle.uu_line.proofs.entered.task_in.Goals as goal

pub returns-in-load : goal.returns-in-load
returns-in-load c = inl (c.in-load.is, refl)

pub drop_in-requires : goal.drop_in-requires
drop_in-requires c = subst (λ name. HaveTexts (texts_of name) (rows_of (found_of c.args.given.now))) c.in-drop.is c.requires.texts

pub returns-in-drop : goal.returns-in-drop
returns-in-drop c =
    let rows = rows_of (found_of c.args.given.now) in
    task_meant (MeansDrop rows) (MeansTask c.args.name.now rows) c.drop_in.result (λ meant means. inr (inl (c.in-drop.is, means))) c.drop_in.ensures

pub send_in-requires : goal.send_in-requires
send_in-requires c = subst (λ name. HaveTexts (texts_of name) (rows_of (found_of c.args.given.now))) c.in-send.is c.requires.texts

pub returns-in-send : goal.returns-in-send
returns-in-send c =
    let rows = rows_of (found_of c.args.given.now) in
    task_meant (MeansFile task.Send rows) (MeansTask c.args.name.now rows) c.send_in.result (λ meant means. inr (inr (inl (c.in-send.is, means)))) c.send_in.ensures

pub request_in-requires : goal.request_in-requires
request_in-requires c = subst (λ name. HaveTexts (texts_of name) (rows_of (found_of c.args.given.now))) c.in-request.is c.requires.texts

pub returns-in-request : goal.returns-in-request
returns-in-request c =
    let rows = rows_of (found_of c.args.given.now) in
    task_meant (MeansFile task.Request rows) (MeansTask c.args.name.now rows) c.request_in.result (λ meant means. inr (inr (inr (inl (c.in-request.is, means))))) c.request_in.ensures

pub execute_in-requires : goal.execute_in-requires
execute_in-requires c = subst (λ name. HaveTexts (texts_of name) (rows_of (found_of c.args.given.now))) c.in-exec.is c.requires.texts

pub returns-in-exec : goal.returns-in-exec
returns-in-exec c =
    let rows = rows_of (found_of c.args.given.now) in
    task_meant (MeansExec rows) (MeansTask c.args.name.now rows) c.execute_in.result (λ meant means. inr (inr (inr (inr (inl (c.in-exec.is, means)))))) c.execute_in.ensures

pub mail_in-requires : goal.mail_in-requires
mail_in-requires c = subst (λ name. HaveTexts (texts_of name) (rows_of (found_of c.args.given.now))) c.in-mail.is c.requires.texts

pub returns-in-mail : goal.returns-in-mail
returns-in-mail c =
    let rows = rows_of (found_of c.args.given.now) in
    task_meant (MeansMailing rows) (MeansTask c.args.name.now rows) c.mail_in.result (λ meant means. inr (inr (inr (inr (inr (inl (c.in-mail.is, means))))))) c.mail_in.ensures

pub job_task_in-requires : goal.job_task_in-requires
job_task_in-requires c = record {
  entered = c.requires;
  later = found_later c.args.name.now 6 subcommands (c.in_default.not-load, (c.in_default.not-drop, (c.in_default.not-send, (c.in_default.not-request, (c.in_default.not-exec, (c.in_default.not-mail, tt)))))) c.requires.known;
}
