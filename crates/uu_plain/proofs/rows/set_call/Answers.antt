use Rattle.std.proofs.Common.{◌≡◌, ◌<◌, ◌≤◌, ◌∙◌, false, true, length, get_or, ap, sym, refl, arith}
use Rattle.std.proofs.lemmas.List.{get_or_default}
use Rattle.uu_names.proofs.Basics.{all_from_take}
use Rattle.uu_core.specs.declared.system.SystemRow.{SystemRow}
use Rattle.uu_core.specs.State.{is_system, same_text}
use Rattle.uu_plain.proofs.PlainLemmas.{call_set, no_call_set}
use Rattle.uu_plain.proofs.rows.set_call.Goals as goal

pub returns-then-eq : goal.returns-then-eq
returns-then-eq c =
    let all = c.args.rows.now in
    let rows = c.loop-i.rows in
    let i = c.loop-i.i in
    let name = c.args.name.now in
    let read = get_or rows i c.index-rows-i.result in
    let row = get_or rows i c.index-rows-i-then-eq.result in
    let within : i < length all = omega arith in
    let inside : i < length rows = omega (arith, ap length c.loop-i.invariant.same) in
    let here : row ≡ get_or all i row = ap (λ l. get_or l i c.index-rows-i-then-eq.result) c.loop-i.invariant.same ∙ get_or_default all i c.index-rows-i-then-eq.result row within in
    let same_row : row ≡ read = get_or_default rows i c.index-rows-i-then-eq.result c.index-rows-i.result inside in
    let named : c.name.result.now ≡ read.def.name = c.name.ensures in
    let asked : c.eq.result ≡ same_text c.name.result.now name = c.eq.ensures in
    let own : is_system name row ≡ true = ap (λ (r : SystemRow). same_text r.def.name name) same_row ∙ ap (λ n. same_text n name) (sym named) ∙ sym asked ∙ c.if-eq.true in
    call_set name c.args.call rows all i row _ c.requires c.loop-i.invariant.passed c.loop-i.invariant.same refl within here own

pub returns : goal.returns
returns c =
    let all = c.args.rows.now in
    let past : length all ≤ c.loop-i.i = omega (arith, c.loop-i.auto.rows, c.loop-i-test.false) in
    c.loop-i.invariant.same ∙ no_call_set c.args.name.now c.args.call all (all_from_take (λ (row : SystemRow). is_system c.args.name.now row ≡ false) all c.loop-i.i past c.loop-i.invariant.passed)
