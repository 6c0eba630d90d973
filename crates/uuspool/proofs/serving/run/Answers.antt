use Rattle.std.proofs.Common.{◌≡◌, List, ℕ, None, false, length, subst}
use Rattle.std.specs.Prelude.{◌↔◌}
use Rattle.uu_store.specs.Spool.{has_failed}
use Rattle.std.specs.Io.KnownBytes.{Appends}
use Rattle.uu_core.specs.declared.command.Command.{Command}
use Rattle.uu_core.specs.declared.subject.Subject.{Subject}
use Rattle.uu_store.specs.Runs.{Ran}
use Rattle.uuspool.proofs.EndLemmas.{run_served, marked_stop}
use Rattle.uuspool.proofs.ServedLemmas.{marks_of_run, noted_of_run}
use Rattle.uuspool.specs.Served.{IsPrintedEnd}
use Rattle.uuspool.proofs.serving.run.Goals as goal

pub returns : goal.returns
returns g c =
    let written : List ℕ → Type 0 = λ output. Appends (g.W.Write.contents c.args.out.now) (g.W.Write.contents c.print_end.new.out) output in
    run_served c.args.settings.now c.args.list c.args.spool.now c.run-end.new.self written c.run-end.result c.print_end.result
    (subst (λ (commands : List Command). Ran 1 commands c.args.spool.now c.run-end.new.self c.run-end.result.replies.items c.run-end.result.stopped) c.into_vec.ensures c.run-end.ensures.ran)
    (subst (λ (commands : List Command). (c.run-end.result.stopped ≡ None) ↔ ((has_failed c.args.spool.now ≡ false) × (length c.run-end.result.replies.items ≡ length commands))) c.into_vec.ensures c.run-end.ensures.every)
    (marks_of_run _ _ c.run-end.result.stopped c.run-end.ensures.marked) (noted_of_run c.args.spool.now c.run-end.new.self c.run-end.result.stopped c.run-end.ensures.marked) c.run-end.ensures.failed
    (marked_stop c.run-end.result.stopped _ _ _ c.run-end.ensures.marked)
    (subst (λ (subjects : List Subject). IsPrintedEnd subjects c.args.list.skipped c.run-end.result written c.print_end.result) c.as_slice.ensures
    (subst (λ (skipped : List ℕ). IsPrintedEnd c.as_slice.result.now skipped c.run-end.result written c.print_end.result) c.as_slice-2.ensures c.print_end.ensures))
