use Rattle.std.proofs.Common.{◌≡◌, ◌≤◌, suc, length, ◌==◌, take}
use Rattle.std.specs.List.{filter}
use Rattle.uu_settings.proofs.read.line_at.Given as goal

-- the line so far is one more than the line feeds before this byte
abbrev pub invariant-loop-byte : goal.invariant-loop-byte
invariant-loop-byte l =
    (l.line ≡ suc (length (filter (λ byte. byte == 10) (take l.byte-index l.byte-items)))) × (l.line ≤ suc l.byte-index)
