use Rattle.std.proofs.Common.{◌≡◌, filter, map, take}
use Rattle.uu_core.specs.declared.job.JobHead.{JobHead}
use Rattle.uuspool.specs.Internal.Choice.{is_to_go, named_head}
use Rattle.uuspool.proofs.choosing.numbers_of.Given as goal

-- added are those of the jobs before this one
abbrev pub invariant-loop-head : goal.invariant-loop-head
invariant-loop-head l = l.numbers.items ≡ map (λ (head : JobHead). head.number) (filter (is_to_go l.lowest (named_head l.packing.after l.heads)) (take l.head-index l.heads))
