use Rattle.std.proofs.Common.{◌≡◌, drop}
use Rattle.uu_check.specs.Walk.{rises_from, rises}
use Rattle.uu_check.proofs.walk.rise.Given as goal

abbrev pub invariant-loop-row : goal.invariant-loop-row
invariant-loop-row g l = rises g.P.Ranked.before l.fn.rows ≡ rises_from g.P.Ranked.before l.last (drop l.row-index l.rest)
