use Rattle.std.proofs.Common.{◌≡◌, length, find}
use Rattle.std.specs.Str.Lines.{lines}
use Rattle.uu_map.specs.Text.{is_name_line}
use Rattle.uu_map.proofs.reader.name_line.Given as goal

abbrev pub invariant-loop-rest : goal.invariant-loop-rest
invariant-loop-rest l = find is_name_line (lines l.rest) ≡ find is_name_line (lines l.text)

abbrev pub decreases-loop-rest : goal.decreases-loop-rest
decreases-loop-rest l = length l.rest
