use Rattle.std.proofs.Common.{◌≡◌, drop, inl, inr, refl}
use Rattle.clap.specs.Words.{first_of, found_of, rows_of}
use Rattle.std.specs.Prelude.{codes}
use Rattle.uu_line.specs.Internal.Entries.{subcommands}
use Rattle.uu_line.specs.Lines.{MeansTask, due_task, has_flag, queues_task, systems_task, when_task}
use Rattle.uu_line.proofs.LineLemmas.{found_later, task_meant}
use Rattle.uu_line.proofs.entered.report_task_in.Goals as goal

pub returns-in-due : goal.returns-in-due
returns-in-due c =
    let rows = rows_of (found_of c.args.given.now) in
    task_meant (λ meant. meant ≡ due_task (first_of (codes "system") rows)) (MeansTask c.args.name.now rows) c.due_in.result (λ meant means. inr (inr (inr (inr (inr (inr (inr (inr (inr (inr (inr (inl (c.in-due.is, means))))))))))))) c.due_in.ensures

pub returns-in-when : goal.returns-in-when
returns-in-when c =
    let rows = rows_of (found_of c.args.given.now) in
    task_meant (λ meant. meant ≡ when_task (has_flag (codes "all") rows) (first_of (codes "system") rows)) (MeansTask c.args.name.now rows) c.when_in.result (λ meant means. inr (inr (inr (inr (inr (inr (inr (inr (inr (inr (inr (inr (inl (c.in-when.is, means)))))))))))))) c.when_in.ensures

pub returns-in-queues : goal.returns-in-queues
returns-in-queues c =
    let rows = rows_of (found_of c.args.given.now) in
    task_meant (λ meant. meant ≡ queues_task (first_of (codes "system") rows)) (MeansTask c.args.name.now rows) c.queues_in.result (λ meant means. inr (inr (inr (inr (inr (inr (inr (inr (inr (inr (inr (inr (inr (inl (c.in-queues.is, means))))))))))))))) c.queues_in.ensures

pub returns-in-status : goal.returns-in-status
returns-in-status c = inr (inr (inr (inr (inr (inr (inr (inr (inr (inr (inr (inr (inr (inr (inl (c.in-status.is, refl)))))))))))))))

pub returns-in-systems : goal.returns-in-systems
returns-in-systems c =
    let rows = rows_of (found_of c.args.given.now) in
    task_meant (λ meant. meant ≡ systems_task (first_of (codes "system") rows)) (MeansTask c.args.name.now rows) c.systems_in.result (λ meant means. inr (inr (inr (inr (inr (inr (inr (inr (inr (inr (inr (inr (inr (inr (inr (inl (c.in-systems.is, means))))))))))))))))) c.systems_in.ensures

pub call_task_in-requires : goal.call_task_in-requires
call_task_in-requires c = record {
  entered = c.requires.entered;
  later = found_later c.args.name.now 5 (drop 11 subcommands) (c.in_default.not-due, (c.in_default.not-when, (c.in_default.not-queues, (c.in_default.not-status, (c.in_default.not-systems, tt))))) c.requires.later;
}
