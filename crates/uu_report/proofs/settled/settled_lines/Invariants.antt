use Rattle.std.proofs.Common.{take}
use Rattle.std.specs.String.{string_bytes}
use Rattle.uu_report.specs.Internal.SettledLines.{AreBegun}
use Rattle.uu_report.proofs.settled.settled_lines.Given as goal

-- written so far are the numbers before this one
abbrev pub invariant-loop-number : goal.invariant-loop-number
invariant-loop-number l = AreBegun l.system (take l.number-index l.numbers) l.count (string_bytes l.text)
