use Rattle.std.proofs.Common.{◌≡◌, ◌<◌, ◌+◌, ◌-◌, ◌*◌, ◌&&◌, Some, None, sym, ap, arith, drop, suc, get_or, length, nat_le, drop-cons, ◌∙◌}
use Rattle.std.proofs.lemmas.Bool.{cond-false, and_right, lt-leb}
use Rattle.std.specs.Char.{is_ascii_digit}
use Rattle.std.specs.List.{list_all}
use Rattle.std.specs.Str.{byte}
use Rattle.uu_times.specs.Directives.{value_behind}
use Rattle.uu_times.proofs.NumberLemmas.{value_grows}
use Rattle.uu_times.proofs.directive.number_of.Goals as goal

pub returns-then-value-limit-clause-value : goal.returns-then-value-limit-clause-value
returns-then-value-limit-clause-value c =
    let text = c.args.text.now in
    let i = c.loop-digit.digit-index in
    let value = c.loop-digit.value * 10 + (get_or text i 0 - byte "0") in
    let whole : value_behind value (drop (suc i) text) ≡ value_behind 0 text =
    ap (value_behind c.loop-digit.value) (sym (drop-cons text i 0 c.loop-digit-test.true)) ∙ c.loop-digit.invariant.0 in
    let over : c.args.limit < value_behind 0 text = omega (arith, value_grows value (drop (suc i) text), c.if-value-limit.true) in
    sym (cond-false (nat_le 1 (length text) && nat_le (length text) 9 && list_all is_ascii_digit text && nat_le (value_behind 0 text) c.args.limit) (Some (value_behind 0 text)) None
    (and_right (nat_le 1 (length text) && nat_le (length text) 9 && list_all is_ascii_digit text) (nat_le (value_behind 0 text) c.args.limit) (lt-leb (value_behind 0 text) c.args.limit over)))
