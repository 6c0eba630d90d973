use Rattle.std.proofs.Common.{take, ◌≤◌}
use Rattle.uu_names.proofs.PathScan.{IsScanned}
use Rattle.uu_names.proofs.path.check.Given as goal

abbrev pub invariant-loop-at : goal.invariant-loop-at
invariant-loop-at l = record {
  scanned : IsScanned (take l.at l.bytes) l.first_bang l.part_len l.part_is_site l.long_site;
  short : l.part_len ≤ l.at;
}
