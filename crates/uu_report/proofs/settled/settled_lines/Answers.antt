use Rattle.std.proofs.Common.{rules, arith, ◌<◌, ◌≤◌, ◌∙◌, ap, length, subst, sym, take}
use Rattle.std.proofs.lemmas.List.{take_all, take_more}
use Rattle.std.specs.String.{string_bytes}
use Rattle.uu_report.specs.Internal.SettledLines.{AreBegun}
use Rattle.uu_report.proofs.SettledLemmas.{all_settled, none_begun}
use Rattle.uu_report.proofs.settled.settled_lines.Goals as goal

pub loop-number-init : goal.loop-number-init
loop-number-init c = none_begun c.args.system.now (string_bytes c.in_ok-text.text) (c.in_ok-text.ensures.ok ∙ c.as_str.ensures.text)

pub append_number-requires : goal.append_number-requires
append_number-requires c = c.loop-number.invariant.within

pub loop-number-preserved : goal.loop-number-preserved
loop-number-preserved c =
    let i = c.loop-number.number-index in
    let numbers = c.args.numbers.now in
    let inside : i < length numbers = search rules in
    subst (λ so_far. AreBegun c.args.system.now so_far c.in_ok-count.count (string_bytes c.append_number.new.text)) (sym (take_more numbers i 0 inside))
    (c.in_ok-count.ensures (take i numbers) c.loop-number.invariant)

pub returns : goal.returns
returns c =
    let numbers = c.args.numbers.now in
    let past : length numbers ≤ c.loop-number.number-index = omega (arith, c.loop-number-test.false) in
    all_settled c.args.system.now numbers c.loop-number.count (string_bytes c.loop-number.text) c.into_bytes.result.items
    (subst (λ so_far. AreBegun c.args.system.now so_far c.loop-number.count (string_bytes c.loop-number.text)) (take_all c.loop-number.number-index numbers past) c.loop-number.invariant)
    (ap (λ t. t.items) c.into_bytes.ensures.value ∙ c.in_ok-push_str.ensures.bytes)
