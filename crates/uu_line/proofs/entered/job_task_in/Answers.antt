use Rattle.std.proofs.Common.{◌≡◌, drop, inl, inr, subst, codes}
use Rattle.clap.specs.Words.{first_of, found_of, rows_of}
use Rattle.uu_line.specs.Internal.Entries.{HaveTexts, subcommands, texts_of}
use Rattle.uu_line.specs.Lines.{MeansRegrade, MeansTask, list_task}
use Rattle.uu_line.proofs.LineLemmas.{found_later, task_meant}
use Rattle.uu_line.proofs.entered.job_task_in.Goals as goal

pub returns-in-list : goal.returns-in-list
returns-in-list c =
    let rows = rows_of (found_of c.args.given.now) in
    task_meant (λ a. a ≡ list_task (first_of (codes "system") rows) (first_of (codes "user") rows)) (MeansTask c.args.name.now rows) c.list_in.result (λ meant means. inr (inr (inr (inr (inr (inr (inl (c.in-list.is, means)))))))) c.list_in.ensures

pub show_in-requires : goal.show_in-requires
show_in-requires c = record { texts = subst (λ name. HaveTexts (texts_of name) (rows_of (found_of c.args.given.now))) c.in-show.is c.requires.entered.texts; number = c.requires.entered.jobs }

pub returns-in-show : goal.returns-in-show
returns-in-show c = inr (inr (inr (inr (inr (inr (inr (inl (c.in-show.is, c.show_in.ensures))))))))

pub kill_in-requires : goal.kill_in-requires
kill_in-requires c = record { texts = subst (λ name. HaveTexts (texts_of name) (rows_of (found_of c.args.given.now))) c.in-kill.is c.requires.entered.texts; number = c.requires.entered.jobs }

pub returns-in-kill : goal.returns-in-kill
returns-in-kill c = inr (inr (inr (inr (inr (inr (inr (inr (inl (c.in-kill.is, c.kill_in.ensures)))))))))

pub regrade_in-requires : goal.regrade_in-requires
regrade_in-requires c = record { texts = subst (λ name. HaveTexts (texts_of name) (rows_of (found_of c.args.given.now))) c.in-regrade.is c.requires.entered.texts; number = c.requires.entered.jobs }

pub returns-in-regrade : goal.returns-in-regrade
returns-in-regrade c =
    let rows = rows_of (found_of c.args.given.now) in
    task_meant (MeansRegrade rows) (MeansTask c.args.name.now rows) c.regrade_in.result (λ meant means. inr (inr (inr (inr (inr (inr (inr (inr (inr (inl (c.in-regrade.is, means))))))))))) c.regrade_in.ensures

pub rejuvenate_in-requires : goal.rejuvenate_in-requires
rejuvenate_in-requires c = record { texts = subst (λ name. HaveTexts (texts_of name) (rows_of (found_of c.args.given.now))) c.in-rejuvenate.is c.requires.entered.texts; number = c.requires.entered.jobs }

pub returns-in-rejuvenate : goal.returns-in-rejuvenate
returns-in-rejuvenate c = inr (inr (inr (inr (inr (inr (inr (inr (inr (inr (inl (c.in-rejuvenate.is, c.rejuvenate_in.ensures)))))))))))

pub report_task_in-requires : goal.report_task_in-requires
report_task_in-requires c = record {
  entered = c.requires.entered;
  later = found_later c.args.name.now 5 (drop 6 subcommands) (c.in_default.not-list, (c.in_default.not-show, (c.in_default.not-kill, (c.in_default.not-regrade, (c.in_default.not-rejuvenate, tt))))) c.requires.later;
}
