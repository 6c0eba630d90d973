use Rattle.std.proofs.Common.{◌≡◌, ◌++◌, drop}
use Rattle.uuspool.specs.Bundles.{rising}
use Rattle.uuspool.proofs.settling.rising.Given as goal

-- kept so far, with what is kept of the others, is all that is kept
abbrev pub invariant-loop-one : goal.invariant-loop-one
invariant-loop-one l = l.kept.items ++ rising l.last (drop l.one-index l.told) ≡ rising 0 l.told
