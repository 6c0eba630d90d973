use Rattle.std.proofs.Common.{arith, ◌≡◌, ◌∙◌, ◌∷◌, ◌++◌, ap}
use Rattle.std.specs.Fmt.{decimal}
use Rattle.std.specs.String.{string_bytes}
use Rattle.uu_core.specs.State.{most_done}
use Rattle.uu_report.proofs.SettledLemmas.{line_begun, number_begun}
use Rattle.uu_report.proofs.settled.append_number.Goals as goal

pub returns-in_ok-write : goal.returns-in_ok-write
returns-in_ok-write c = λ numbers begun.
    number_begun c.args.system.now numbers c.args.count c.args.number (string_bytes c.args.text.now) (string_bytes c.write.new.self)
    (omega (arith, c.if-count-lt-MAX_DONE.true)) begun c.in_ok-write.ensures.bytes

pub returns-in_ok-write-2 : goal.returns-in_ok-write-2
returns-in_ok-write-2 c = λ numbers begun.
    let full : c.args.count ≡ most_done = omega (arith, c.if-count-lt-MAX_DONE.false, c.requires) in
    line_begun c.args.system.now numbers c.args.count c.args.number (string_bytes c.args.text.now) (string_bytes c.write-else-count-lt-MAX_DONE.new.self)
    full begun (c.in_ok-write-2.ensures.bytes ∙ ap (λ name. string_bytes c.args.text.now ++ 10 ∷ (name ++ 32 ∷ decimal c.args.number)) c.as_str-system.ensures.text)
