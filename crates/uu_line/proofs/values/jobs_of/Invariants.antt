use Rattle.std.proofs.Common.{take, map}
use Rattle.uu_line.specs.Lines.{AreNumbers}
use Rattle.uu_line.proofs.values.jobs_of.Given as goal

-- the jobs so far are the numbers of the texts before this one
abbrev pub invariant-loop-text : goal.invariant-loop-text
invariant-loop-text l = AreNumbers 32 (take l.text-index (map (λ text. text.now) l.texts)) l.jobs.items
