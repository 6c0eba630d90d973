use Rattle.std.proofs.Common.{◌≡◌, filter, take}
use Rattle.std.specs.List.{list_any}
use Rattle.uuspool.specs.Bundles.{hands_in}
use Rattle.uuspool.proofs.asking.taken_among.Given as goal

-- kept are those of the rows before this one
abbrev pub invariant-loop-one : goal.invariant-loop-one
invariant-loop-one l = l.asked.items ≡ filter (λ one. list_any (hands_in one) l.commands) (take l.one-index l.taken)
