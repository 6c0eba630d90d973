use Rattle.std.proofs.Common.{◌∙◌}
use Rattle.std.proofs.lemmas.Result.{err_from_is_err_and}
use Rattle.uuspool.proofs.RoutingLemmas.{read_more, unreadable}
use Rattle.uuspool.proofs.routing.read_entries.Goals as goal

pub returns-in_err-entry-clause-fault : goal.returns-in_err-entry-clause-fault
returns-in_err-entry-clause-fault c =
    let (f, is, same) = err_from_is_err_and c.from_residual.result c.from_residual.ensures.1 in
    rw (is, same) (unreadable c.args.texts.now c.loop-text.text-index c.as_slice.result.now c.text-item.result c.in_err-entry.field-0.0 c.loop-text-test.true (c.as_slice.ensures ∙ c.text-item.is) c.in_err-entry.ensures.answer)

pub loop-text-preserved : goal.loop-text-preserved
loop-text-preserved c =
    rw (c.in_ok-push.ensures.items) (read_more c.args.texts.now c.loop-text.entries.items c.loop-text.text-index c.as_slice.result.now c.text-item.result c.in_ok-entry.entry c.loop-text-test.true (c.as_slice.ensures ∙ c.text-item.is) c.loop-text.invariant c.in_ok-entry.ensures.answer)
