use Rattle.std.proofs.Common.{◌+◌, ◌∙◌, List, length, ap}
use Rattle.std.proofs.lemmas.Iterator.Adapters.{YieldsList-from_vec}
use Rattle.std.proofs.lemmas.Iterator.Consumers.{YieldsList-so_far, YieldsList-turn}
use Rattle.uu_core.specs.declared.command.Reply.{Reply}
use Rattle.uu_core.specs.Run.{state_after}
use Rattle.uu_plain.proofs.PlainLemmas.{err_holds, state_more, replies_more, seen_first, seen_more}
use Rattle.uu_plain.proofs.machine.Machine.run.Goals as goal

pub returns-in_err-reply-clause-failed : goal.returns-in_err-reply-clause-failed
returns-in_err-reply-clause-failed c =
    let all = c.args.commands.items in
    let seen = c.loop-command.yielded in
    let gives = c.into_iter-command-iterator.ensures.into_iter_gives in
    let so_far = YieldsList-so_far (YieldsList-from_vec {s = c.into_iter-command-iterator.result} all gives.0 (gives.1 ∙ c.args.commands.ok.0)) seen _ c.loop-command.yielded_by in
    err_holds c.from_residual.result (length seen, c.in_err-reply.ensures ∙ c.loop-command.invariant.state ∙ ap (state_after c.args.self.now) (seen_first seen all so_far))

pub loop-command-preserved : goal.loop-command-preserved
loop-command-preserved c =
    let first = c.args.self.now in
    let seen = c.loop-command.yielded in
    let before = c.loop-command.invariant in
    record {
      state = state_more first seen c.in-Some.command c.loop-command.self c.step.new.self c.in_ok-reply.reply before.state c.in_ok-reply.ensures;
      replies = ◌∙◌ {A = List Reply} c.in_ok-push.ensures.items (replies_more first seen c.in-Some.command c.loop-command.self c.step.new.self c.in_ok-reply.reply c.loop-command.replies.items before.state c.in_ok-reply.ensures before.replies);
    }

pub returns-in_err-push-clause-failed : goal.returns-in_err-push-clause-failed
returns-in_err-push-clause-failed c =
    let all = c.args.commands.items in
    let first = c.args.self.now in
    let seen = c.loop-command.yielded in
    let gives = c.into_iter-command-iterator.ensures.into_iter_gives in
    let yields = YieldsList-from_vec {s = c.into_iter-command-iterator.result} all gives.0 (gives.1 ∙ c.args.commands.ok.0) in
    let so_far = YieldsList-so_far yields seen c.loop-command.command-iterator c.loop-command.yielded_by in
    let turn = YieldsList-turn yields seen c.loop-command.command-iterator c.loop-command.yielded_by c.next.result c.next.new.self c.in-Some.command c.in-Some.is c.next.ensures.steps in
    err_holds c.from_residual-in_err-push.result (
      length seen + 1,
      state_more first seen c.in-Some.command c.loop-command.self c.step.new.self c.in_ok-reply.reply c.loop-command.invariant.state c.in_ok-reply.ensures
          ∙ ap (state_after first) (seen_more seen all c.in-Some.command (seen_first seen all so_far) turn.0 turn.1),
    )
