use Rattle.std.proofs.Common.{◌≡◌, ◌++◌, ◌∷◌, map, take}
use Rattle.uu_report.specs.Logs.{shown_in_field}
use Rattle.uu_report.proofs.logged.push_field.Given as goal

-- the bytes before this one were added
abbrev pub invariant-loop-byte : goal.invariant-loop-byte
invariant-loop-byte l = l.line.items ≡ l.fn.line.items ++ 32 ∷ map shown_in_field (take l.byte-index l.bytes)
