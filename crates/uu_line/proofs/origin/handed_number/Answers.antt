use Rattle.std.proofs.Common.{◌≡◌, ◌∙◌, ◌==◌, sym, false, arith}
use Rattle.std.specs.Prelude.{slice_index}
use Rattle.uu_line.proofs.OriginLemmas.{handed_is, handed_not}
use Rattle.uu_line.proofs.origin.handed_number.Goals as goal

pub returns-in-Ok : goal.returns-in-Ok
returns-in-Ok c =
    let none : (slice_index c.args.text.now 0 == 43) ≡ false = sym (c.starts_with.ensures.byte (omega arith) (omega arith) (λ w o is. is)) ∙ c.if-starts_with.false in
    handed_is c.args.text.now c.in-Ok.number none c.in-Ok.ensures.value.0 (omega arith) (omega arith)

pub returns-in_default-3 : goal.returns-in_default-3
returns-in_default-3 c =
    let none : (slice_index c.args.text.now 0 == 43) ≡ false = sym (c.starts_with.ensures.byte (omega arith) (omega arith) (λ w o is. is)) ∙ c.if-starts_with.false in
    handed_not c.args.text.now none c.in_default.ensures.value.0
