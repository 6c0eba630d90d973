use Rattle.std.proofs.Common.{arith}
use Rattle.std.proofs.lemmas.Int.{ints}
use Rattle.uu_times.proofs.zone.instant.Goals as goal

pub returns : goal.returns
returns c =
    let t = rw c.unwrap.ensures at c.from_nanosecond.ensures.value in
    omega (arith, ints, t, c.requires)
