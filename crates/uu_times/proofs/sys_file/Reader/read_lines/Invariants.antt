use Rattle.std.proofs.Common.{◌≡◌, ◌+◌, ◌≤◌, length}
use Rattle.std.specs.Str.Lines.{lines}
use Rattle.uu_times.specs.Lines.{joined}
use Rattle.uu_times.specs.Internal.Reading.{lines_read}
use Rattle.uu_times.proofs.sys_file.Reader.read_lines.Given as goal

-- what was read and the rest give what the whole text gives
abbrev pub invariant-loop-rest : goal.invariant-loop-rest
invariant-loop-rest l =
    (lines_read l.self (joined l.number (lines l.rest)) ≡ lines_read l.fn.self (joined 1 (lines l.text)))
    × (l.number + length l.rest ≤ 4194305)
    × (1 ≤ l.number)

abbrev pub decreases-loop-rest : goal.decreases-loop-rest
decreases-loop-rest l = length l.rest
