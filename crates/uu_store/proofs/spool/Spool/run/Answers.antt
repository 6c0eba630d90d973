use Rattle.std.proofs.Common.{List, ◌≡◌, ◌∷◌, [], ◌++◌, length, sym, ap, subst, ◌∙◌, append_assoc, append-nil, arith}
use Rattle.std.proofs.lemmas.List.{length-append, nil_from_length}
use Rattle.std.specs.Vec.Iter.{into_iter_items}
use Rattle.uu_core.specs.declared.command.Reply.{Reply}
use Rattle.uu_store.specs.Spool.{connection_of}
use Rattle.uu_store.proofs.Running.{Running, running_more, ran_every, ran_stopped}
use Rattle.uu_store.proofs.spool.Spool.run.Goals as goal

pub loop-command-preserved : goal.loop-command-preserved
loop-command-preserved g c =
    let at = c.loop-command in
    let x = c.in-Some.command in
    let steps : into_iter_items at.command-iterator ≡ x ∷ into_iter_items c.next.new.self = c.in-Some.ensures.steps.0 in (
      append_assoc at.yielded (x ∷ []) _ ∙ rw (← steps) at.invariant.0,
      let was = at.invariant.1 in
          let gone = c.in-Some.ensures.steps.1 in
          let short = ap length steps in omega arith,
      subst (Running c.args.self.now c.command.new.self (at.yielded ++ x ∷ [])) (sym {A = List Reply} c.keep.ensures.items)
          (running_more c.args.self.now c.runs_follow_one_another.ensures.states c.runs_follow_one_another.ensures.replies at.self c.command.new.self at.yielded x at.replies.items c.in-Ok-command.reply at.invariant.2 c.in-Ok-command.ensures.marked.1 c.in-Ok-command.ensures.step c.command.ensures.clean),
      let n = at.invariant.3 in
          let more = length-append at.yielded (x ∷ []) in omega (arith, c.keep.ensures.len, n, more),
      let room = at.invariant.4 in omega (arith, c.keep.ensures.capacity, room),
    )

pub returns-in-Err-clause-ran : goal.returns-in-Err-clause-ran
returns-in-Err-clause-ran g c =
    let at = c.loop-command in
    let x = c.in-Some.command in
    let steps : into_iter_items at.command-iterator ≡ x ∷ into_iter_items c.next.new.self = c.in-Some.ensures.steps.0 in
    let all : c.args.commands.items ≡ at.yielded ++ x ∷ into_iter_items c.next.new.self = sym c.into_iter-command-iterator.ensures.into_iter_gives.0 ∙ sym at.invariant.0 ∙ ap (λ l. at.yielded ++ l) steps in
    ran_stopped c.args.self.now c.args.commands.items c.runs_follow_one_another.ensures.states at.self c.command.new.self at.yielded x (into_iter_items c.next.new.self) at.replies.items c.command.result c.in-Err.fault all at.invariant.2 c.in-Err.is
    c.command.ensures.memory c.command.ensures.stop_memory c.command.ensures.stop_store c.command.ensures.clean

pub returns-clause-ran : goal.returns-clause-ran
returns-clause-ran g c =
    let at = c.loop-command in
    let none : into_iter_items at.command-iterator ≡ [] = nil_from_length (into_iter_items at.command-iterator) (sym at.invariant.1 ∙ c.in-None.ensures.steps.0) in
    let all : at.yielded ≡ c.args.commands.items = sym (append-nil at.yielded) ∙ ap (λ l. at.yielded ++ l) (sym none) ∙ at.invariant.0 ∙ c.into_iter-command-iterator.ensures.into_iter_gives.0 in
    ran_every c.args.self.now c.args.commands.items at.self at.yielded at.replies.items (g.met.S.Store.settled (connection_of at.self).store) all at.invariant.2
