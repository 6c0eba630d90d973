use Rattle.std.proofs.Common.{◌<◌, ◌^◌, subst}
use Rattle.std.specs.Fmt.{decimal}
use Rattle.uu_bundle.specs.Internal.Forms.{IsReadAs}
use Rattle.uu_bundle.proofs.Numbers.{counted}
use Rattle.uu_bundle.proofs.words.count_in.Goals as goal

pub returns-in-Some : goal.returns-in-Some
returns-in-Some c =
    counted c.in-Some.number c.args.numeral.now c.try_from.result c.ok.result
    (subst (IsReadAs (λ n. n < 2 ^ 64) decimal c.args.numeral.now) c.in-Some.is c.in_ok-number.ensures) c.try_from.ensures c.ok.ensures.value
