use Rattle.std.proofs.Common.{◌≡◌, ◌++◌, map, take}
use Rattle.uu_report.specs.Logs.{shown}
use Rattle.uu_report.proofs.logged.push_shown.Given as goal

-- the bytes before this one were added
abbrev pub invariant-loop-byte : goal.invariant-loop-byte
invariant-loop-byte l = l.line.items ≡ l.fn.line.items ++ map shown (take l.byte-index l.bytes)
