use Rattle.std.proofs.Common.{◌≡◌, false, All, take}
use Rattle.uu_core.specs.State.{is_system}
use Rattle.uu_plain.proofs.rows.set_call.Given as goal

abbrev pub invariant-loop-i : goal.invariant-loop-i
invariant-loop-i l = record {
  same : l.rows ≡ l.initial.rows;
  passed : All (λ row. is_system l.name row ≡ false) (take l.i l.initial.rows);
}
