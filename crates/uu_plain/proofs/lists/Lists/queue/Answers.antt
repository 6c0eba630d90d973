use Rattle.std.proofs.Common.{◌≡◌, ◌∙◌, ap, arith}
use Rattle.std.specs.List.{list_any}
use Rattle.uu_core.specs.State.{is_system}
use Rattle.uu_plain.specs.Lists.{state_of}
use Rattle.uu_plain.proofs.PlainLemmas.{queue_accepted, queue_refused}
use Rattle.uu_core.proofs.DecisionLemmas.{not_last}
use Rattle.uu_plain.proofs.lists.Lists.queue.Goals as goal

pub overflow_add-self : goal.overflow_add-self
overflow_add-self c =
    let h = queue_accepted c.has_system-known.result c.args.self.now.next c.args.job c.in-Ok.number c.in-Ok.ensures in
    let different : c.in-Ok.number ≡ 4294967295 → ⊥ = not_last c.args.self.now.next c.in-Ok.number h.1 h.2 in
    omega arith

pub returns-in-Err : goal.returns-in-Err
returns-in-Err c =
    queue_refused (state_of c.args.self.now) c.args.job c.has_system-known.result c.in-Err.refusal
    (c.has_system-known.ensures ∙ ap (list_any (is_system c.args.job.system)) c.as_slice.ensures.value) c.in-Err.ensures
