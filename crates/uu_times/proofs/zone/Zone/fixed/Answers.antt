use Rattle.std.proofs.Common.{◌≡◌, ◌∙◌, refl, arith, pos, ◌*ℤ◌}
use Rattle.std.proofs.lemmas.Int.{ints}
use Rattle.uu_times.proofs.ZoneLemmas.{offset_fixed}
use Rattle.uu_times.proofs.zone.Zone.fixed.Goals as goal

pub returns-clause-value : goal.returns-clause-value
returns-clause-value c =
    let o = rw c.unwrap-offset.ensures at c.from_seconds.ensures.value in
    let seconds : c.unwrap-offset.result.seconds ≡ pos 60 *ℤ c.args.minutes = omega (arith, ints, o) in
    rw (← seconds, c.from_offset.ensures) refl

pub returns-clause-offset : goal.returns-clause-offset
returns-clause-offset c =
    let o = rw c.unwrap-offset.ensures at c.from_seconds.ensures.value in
    λ second. offset_fixed _ second refl ∙ omega (arith, ints, o)
