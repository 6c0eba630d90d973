use Rattle.std.proofs.Common.{◌≡◌, map, min, take}
use Rattle.std.specs.List.{fold}
use Rattle.uu_core.specs.declared.job.JobHead.{JobHead}
use Rattle.uuspool.proofs.choosing.least_number.Given as goal

-- it is the least of the jobs before this one
abbrev pub invariant-loop-head : goal.invariant-loop-head
invariant-loop-head l = l.least ≡ fold min l.next (map (λ (head : JobHead). head.number) (take l.head-index l.heads))
