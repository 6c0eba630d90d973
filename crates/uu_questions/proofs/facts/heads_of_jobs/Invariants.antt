use Rattle.std.proofs.Common.{◌≡◌, map, take, Ok}
use Rattle.std.specs.Prelude.{ℕ}
use Rattle.uu_core.specs.State.{head_of}
use Rattle.uu_questions.specs.Answers.{Asks}
use Rattle.uu_questions.proofs.FoundJobs.{found_in}
use Rattle.uu_questions.proofs.facts.heads_of_jobs.Given as goal

abbrev pub invariant-loop-number : goal.invariant-loop-number
invariant-loop-number g l = Asks {T = ℕ} g.S.Store (λ s _. l.found.items ≡ found_in (map head_of s.jobs) (take l.number-index l.numbers)) l.fn.conn l.conn (Ok 0)
