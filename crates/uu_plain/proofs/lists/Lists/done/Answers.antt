use Rattle.std.proofs.Common.{arith, ◌∙◌, ap, map, find, is_some}
use Rattle.std.specs.Option.{option_copied}
use Rattle.uu_core.specs.Refusal.{decided}
use Rattle.uu_core.specs.State.{is_system, head_of}
use Rattle.uu_core.specs.Verdict.{done_reasons}
use Rattle.uu_core.specs.After.{change_call, done_call_of}
use Rattle.std.specs.Vec.{with_items}
use Rattle.std.proofs.lemmas.List.{with_items_is}
use Rattle.uu_plain.specs.Lists.{state_of}
use Rattle.uu_plain.proofs.PlainLemmas.{done_accepted, done_refused}
use Rattle.uu_plain.proofs.lists.Lists.done.Goals as goal

pub returns-in-Ok : goal.returns-in-Ok
returns-in-Ok c =
    let name = c.args.system.now in
    let numbers = c.args.jobs.now in
    let found = option_copied c.system_at-row.result in
    done_accepted (state_of c.args.self.now) name c.args.at.now numbers found c.in_ok-heads.heads.items c.in-Ok.call c.remove_jobs.new.jobs.items (with_items c.args.self.now.systems c.set_call.new.rows).items
    c.requires
    (c.system_at-row.ensures ∙ ap (find (is_system name)) c.as_slice-2.ensures.value)
    (c.in_ok-heads.ensures ∙ ap (map head_of) c.as_slice.ensures.value)
    (c.in-Ok.ensures ∙ ap (λ heads. decided (done_reasons (is_some found) name numbers heads) (done_call_of found c.args.at.now)) c.as_slice-3.ensures.value)
    c.remove_jobs.ensures
    (with_items_is c.args.self.now.systems c.set_call.new.rows (omega (arith, c.set_call.auto.rows, c.as_mut_slice.ensures.len)) ∙ c.set_call.ensures ∙ ap (change_call name (λ _. c.in-Ok.call)) c.as_mut_slice.ensures.value)

pub returns : goal.returns
returns c =
    let name = c.args.system.now in
    let numbers = c.args.jobs.now in
    let found = option_copied c.system_at-row.result in
    done_refused (state_of c.args.self.now) name c.args.at.now numbers found c.in_ok-heads.heads.items c.in-Err.refusal
    (c.system_at-row.ensures ∙ ap (find (is_system name)) c.as_slice-2.ensures.value)
    (c.in_ok-heads.ensures ∙ ap (map head_of) c.as_slice.ensures.value)
    (c.in-Err.ensures ∙ ap (λ heads. decided (done_reasons (is_some found) name numbers heads) (done_call_of found c.args.at.now)) c.as_slice-3.ensures.value)
