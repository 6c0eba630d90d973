use Rattle.std.proofs.Common.{◌≡◌, ◌∙◌, ap, arith, length}
use Rattle.std.specs.Vec.{vec_len}
use Rattle.uu_rows.proofs.definition.last_system.Goals as goal

pub returns : goal.returns
returns c def is =
    let items = c.into_vec-systems.ensures ∙ is in
    let one : vec_len c.into_vec-systems.result ≡ 1 = omega (arith, ap length items) in
    rw (items, one) at (c.pop.ensures.value def (omega (arith, ap length items)))
