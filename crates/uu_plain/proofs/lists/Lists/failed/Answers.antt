use Rattle.std.proofs.Common.{arith, ◌∙◌, ap, find}
use Rattle.std.specs.Option.{option_copied}
use Rattle.uu_core.specs.State.{is_system}
use Rattle.std.specs.Vec.{with_items}
use Rattle.std.proofs.lemmas.List.{with_items_is}
use Rattle.uu_core.specs.After.{change_call}
use Rattle.uu_plain.specs.Lists.{state_of}
use Rattle.uu_plain.proofs.PlainLemmas.{failed_accepted, failed_refused}
use Rattle.uu_plain.proofs.lists.Lists.failed.Goals as goal

pub returns-in-Ok : goal.returns-in-Ok
returns-in-Ok c =
    let name = c.args.system.now in
    failed_accepted (state_of c.args.self.now) name c.args.at.now c.args.why (option_copied c.system_at.result) c.in-Ok.call (with_items c.args.self.now.systems c.set_call.new.rows).items
    c.requires
    (c.system_at.ensures ∙ ap (find (is_system name)) c.as_slice.ensures.value)
    c.in-Ok.ensures
    (with_items_is c.args.self.now.systems c.set_call.new.rows (omega (arith, c.set_call.auto.rows, c.as_mut_slice.ensures.len)) ∙ c.set_call.ensures ∙ ap (change_call name (λ _. c.in-Ok.call)) c.as_mut_slice.ensures.value)

pub returns-in-Err : goal.returns-in-Err
returns-in-Err c =
    let name = c.args.system.now in
    failed_refused (state_of c.args.self.now) name c.args.at.now c.args.why (option_copied c.system_at.result) c.in-Err.refusal
    (c.system_at.ensures ∙ ap (find (is_system name)) c.as_slice.ensures.value)
    c.in-Err.ensures
