use Rattle.std.proofs.Common.{◌≡◌}
use Rattle.uu_map.specs.Split.{begins_line, line_of}
use Rattle.uu_map.proofs.Splits.{FoundUpTo}
use Rattle.uu_map.proofs.splitter.entries_of.Given as goal

abbrev pub invariant-loop-at : goal.invariant-loop-at
invariant-loop-at l = record {
  found : FoundUpTo l.text l.entries.items l.start l.at;
  line : l.line ≡ line_of l.text l.at;
  begins : l.begins_line ≡ begins_line l.text l.at;
}
