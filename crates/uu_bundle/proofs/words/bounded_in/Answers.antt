use Rattle.std.proofs.Common.{arith, inl, inr, subst, ◌<◌, ◌^◌}
use Rattle.std.specs.Fmt.{decimal}
use Rattle.uu_bundle.specs.Internal.Forms.{IsReadAs}
use Rattle.uu_bundle.proofs.Numbers.{out_of_bounds}
use Rattle.uu_bundle.proofs.words.bounded_in.Goals as goal

pub returns-then-number-least : goal.returns-then-number-least
returns-then-number-least c =
    let is = subst (IsReadAs (λ n. n < 2 ^ 32) decimal c.args.numeral.now) c.in-Some.is c.in_ok-number.ensures in
    out_of_bounds c.args.numeral.now c.in-Some.number c.args.least c.args.most is (elim c.then-number-least.either [ inl below ↦ inl below | inr above ↦ inr above.1 ]) (omega (arith, c.ranges.most))
