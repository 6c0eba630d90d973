use Rattle.std.proofs.Common.{◌≡◌, drop}
use Rattle.uu_times.specs.Internal.Scan.{after, scan, list_of}
use Rattle.uu_times.specs.Grammar.{lower}
use Rattle.uu_times.proofs.scan.list_of.Given as goal

-- the simple strings so far, and those of the rest, are those of the whole text
abbrev pub invariant-loop-at : goal.invariant-loop-at
invariant-loop-at l = after l.simples.items l.at (scan l.place (lower (drop l.at l.text))) ≡ list_of l.text
