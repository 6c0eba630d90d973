use Rattle.std.proofs.Common.{◌≡◌, take}
use Rattle.uu_core.specs.Waiting.{limit_at}
use Rattle.uu_core.proofs.waiting.limit.Given as goal

abbrev pub invariant-loop-line : goal.invariant-loop-line
invariant-loop-line l = l.limit ≡ limit_at (take l.line-index l.lines) l.week
