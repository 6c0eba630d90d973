use Rattle.std.proofs.Common.{◌<◌, ◌^◌, arith, subst}
use Rattle.std.specs.Fmt.{decimal}
use Rattle.uu_core.specs.Marks.{marks_end}
use Rattle.uu_bundle.specs.Internal.Forms.{IsReadAs}
use Rattle.uu_bundle.proofs.Numbers.{narrowed}
use Rattle.uu_bundle.proofs.words.mark_in.Goals as goal

pub returns-in-Some : goal.returns-in-Some
returns-in-Some c =
    narrowed marks_end c.in-Some.number c.args.numeral.now c.of_number.result (omega arith)
    (subst (IsReadAs (λ n. n < 2 ^ 64) decimal c.args.numeral.now) c.in-Some.is c.in_ok-number.ensures) c.of_number.ensures
