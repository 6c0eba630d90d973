-- The heads of a state's jobs can be read as rows.
use Rattle.std.proofs.Common.{◌<◌, List, [], ◌∷◌, map, arith}
use Rattle.std.proofs.lemmas.List.Elements.{recursion_from_All}
use Rattle.std.specs.List.{AllByRecursion}
use Rattle.uu_core.specs.declared.job.Kind.{Kind}
use Rattle.uu_core.specs.declared.job.Kind.TheVariants.{Send, Request, Execute}
use Rattle.uu_core.specs.State.{State, Job, IsJob, IsKind, IsWellFormed, head_of}
use Rattle.uu_core.specs.WellFormed.{HasWords}
use Rattle.uu_rows.specs.Readable.{IsTypedHead}

kind_words : (kind : Kind) → IsKind kind → HasWords kind
kind_words (Send source target) good = good
kind_words (Request source target) good = good
kind_words (Execute command arguments) good = (good.0, good.1)

head_good : (s : State) (j : Job) → IsWellFormed s → IsJob j → j.number < s.next → IsTypedHead (head_of j)
head_good s j good job below = record {
  number = (let most = good.next in omega (arith, below, most));
  system = job.system;
  grade = job.grade;
  user = job.user;
  kind = kind_words j.kind job.kind;
  size = (let few = job.bytes in omega (arith, few));
}

heads_of : (s : State) → IsWellFormed s → (jobs : List Job) → AllByRecursion IsJob jobs → AllByRecursion (λ (j : Job). j.number < s.next) jobs → AllByRecursion IsTypedHead (map head_of jobs)
heads_of s good [] each below = tt
heads_of s good (j ∷ jobs) each below = (head_good s j good each.0 below.0, heads_of s good jobs each.1 below.1)

pub heads_good : (s : State) → IsWellFormed s → AllByRecursion IsTypedHead (map head_of s.jobs)
heads_good s good = heads_of s good s.jobs (recursion_from_All IsJob s.jobs good.jobs) (recursion_from_All (λ (j : Job). j.number < s.next) s.jobs good.below_next)
