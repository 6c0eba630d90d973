-- Which jobs go into a bundle, from a list of a system's jobs by grade and number.
use Rattle.std.specs.Prelude.{◌==◌, ◌&&◌, ℕ, Bool, true, nat_le, List, [], filter, find, Option, Some, None, if◌then◌else◌}
use Rattle.uu_core.specs.Due.{goes_before}
use Rattle.uu_core.specs.declared.job.JobHead.{JobHead}
use Rattle.uu_request.specs.declared.request.Packing.{Packing}

-- the named job, if one is named and it is there
abbrev pub named_head : Option ℕ → List JobHead → Option JobHead
named_head None heads = None
named_head (Some number) heads = find (λ head. head.number == number) heads

-- the job comes after that one, if there is one
abbrev pub is_head_behind : Option JobHead → JobHead → Bool
is_head_behind None head = true
is_head_behind (Some first) head = goes_before first head

abbrev pub is_to_go : ℕ → Option JobHead → JobHead → Bool
is_to_go lowest first head = nat_le head.grade lowest && is_head_behind first head

-- the jobs that go into the bundle, if there is room
abbrev pub heads_to_go : Packing → ℕ → List JobHead → List JobHead
heads_to_go it lowest heads = if it.no_jobs then [] else filter (is_to_go lowest (named_head it.after heads)) heads
