use Rattle.std.proofs.Common.{FitsSigned, arith, w32}
use Rattle.std.proofs.Math.Facts.{to_z-of_z}
use Rattle.jiff_core.proofs.SignedLemmas.{signed_arith}
use Rattle.uu_times.proofs.zone.Zone.offset_at.Goals as goal

pub returns-clause-value : goal.returns-clause-value
returns-clause-value c =
    let fits : FitsSigned w32 c.offset.result.seconds = omega (arith, signed_arith, c.offset.result.in_range) in
    simp to_z-of_z c.offset.ensures
