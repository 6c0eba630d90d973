use Rattle.std.proofs.Common.{◌∙◌, Result, Ok, ap, arith, not, refl, subst}
use Rattle.std.proofs.lemmas.Bool.{not-true, not-false}
use Rattle.uuspool.proofs.BatchLemmas.{batch_broken, batch_ended, batch_full, none_so_far, one_more_so_far}
use Rattle.uuspool.specs.Internal.BatchSteps.{IsBatchStep}
use Rattle.uuspool.specs.declared.batching.Step.{Step}
use Rattle.uuspool.specs.declared.fault.Fault.{Fault}
use Rattle.uuspool.proofs.batching.batch.Goals as goal

pub loop-count-init : goal.loop-count-init
loop-count-init g c =
    none_so_far c.args.settings.now g.C.Clock.tells c.args.clock.now c.args.spool.now (g.R.Read.remaining c.args.reader.now) (g.W.Write.contents c.args.out.now)

pub returns-in-Ok-Ended : goal.returns-in-Ok-Ended
returns-in-Ok-Ended g c =
    batch_ended c.args.settings.now g.C.Clock.tells c.loop-count.failed c.loop-count._count c.args.clock.now c.loop-count.clock c.answer_next.new.clock
    c.args.spool.now c.loop-count.spool c.answer_next.new.spool
    (g.R.Read.remaining c.args.reader.now) (g.R.Read.remaining c.loop-count.reader) (g.R.Read.remaining c.answer_next.new.reader)
    (g.W.Write.contents c.args.out.now) (g.W.Write.contents c.loop-count.out) (g.W.Write.contents c.answer_next.new.out) c.loop-count.invariant
    (c.lines_are_one_run.ensures.lines c.args.settings.now) c.in-Ok-Ended.status
    (subst (λ (r : Result Step Fault).
    IsBatchStep c.args.settings.now g.C.Clock.tells c.loop-count.failed c.loop-count.clock c.answer_next.new.clock c.loop-count.spool c.answer_next.new.spool
    (g.R.Read.remaining c.loop-count.reader) (g.R.Read.remaining c.answer_next.new.reader) (g.W.Write.contents c.loop-count.out) (g.W.Write.contents c.answer_next.new.out) r)
    (c.in-Ok-Ended.is ∙ ap Ok c.in-Ok-Ended.field-0-is) c.answer_next.ensures)

pub returns : goal.returns
returns g c =
    batch_full c.args.settings.now g.C.Clock.tells c.loop-count.failed c.loop-count._count c.args.clock.now c.loop-count.clock c.loop-count.clock
    c.args.spool.now c.loop-count.spool c.loop-count.spool
    (g.R.Read.remaining c.args.reader.now) (g.R.Read.remaining c.loop-count.reader) (g.R.Read.remaining c.loop-count.reader)
    (g.W.Write.contents c.args.out.now) (g.W.Write.contents c.loop-count.out) (g.W.Write.contents c.loop-count.out) c.loop-count.invariant
    (c.lines_are_one_run.ensures.lines c.args.settings.now) refl refl (omega arith)

pub returns-in-Err : goal.returns-in-Err
returns-in-Err g c =
    batch_broken c.args.settings.now g.C.Clock.tells c.loop-count.failed c.loop-count._count c.args.clock.now c.loop-count.clock c.answer_next.new.clock
    c.args.spool.now c.loop-count.spool c.answer_next.new.spool
    (g.R.Read.remaining c.args.reader.now) (g.R.Read.remaining c.loop-count.reader) (g.R.Read.remaining c.answer_next.new.reader)
    (g.W.Write.contents c.args.out.now) (g.W.Write.contents c.loop-count.out) (g.W.Write.contents c.answer_next.new.out) c.loop-count.invariant
    (c.lines_are_one_run.ensures.lines c.args.settings.now) c.in-Err.fault
    (subst (λ (r : Result Step Fault).
    IsBatchStep c.args.settings.now g.C.Clock.tells c.loop-count.failed c.loop-count.clock c.answer_next.new.clock c.loop-count.spool c.answer_next.new.spool
    (g.R.Read.remaining c.loop-count.reader) (g.R.Read.remaining c.answer_next.new.reader) (g.W.Write.contents c.loop-count.out) (g.W.Write.contents c.answer_next.new.out) r)
    (c.in-Err.is) c.answer_next.ensures)

pub loop-count-preserved : goal.loop-count-preserved
loop-count-preserved g c =
    one_more_so_far c.args.settings.now g.C.Clock.tells c.loop-count.failed c.loop-count._count c.args.clock.now c.loop-count.clock c.answer_next.new.clock
    c.args.spool.now c.loop-count.spool c.answer_next.new.spool
    (g.R.Read.remaining c.args.reader.now) (g.R.Read.remaining c.loop-count.reader) (g.R.Read.remaining c.answer_next.new.reader)
    (g.W.Write.contents c.args.out.now) (g.W.Write.contents c.loop-count.out) (g.W.Write.contents c.answer_next.new.out) c.loop-count.invariant
    c.in-Ok-Answered.goes_on (not c.in-Ok-Answered.goes_on) (not-true c.in-Ok-Answered.goes_on) (not-false c.in-Ok-Answered.goes_on)
    (subst (λ (r : Result Step Fault).
    IsBatchStep c.args.settings.now g.C.Clock.tells c.loop-count.failed c.loop-count.clock c.answer_next.new.clock c.loop-count.spool c.answer_next.new.spool
    (g.R.Read.remaining c.loop-count.reader) (g.R.Read.remaining c.answer_next.new.reader) (g.W.Write.contents c.loop-count.out) (g.W.Write.contents c.answer_next.new.out) r)
    (c.in-Ok-Answered.is ∙ ap Ok c.in-Ok-Answered.field-0-is) c.answer_next.ensures)
