-- The first of the jobs is the old one, or the additional one if that goes before.
use Rattle.std.proofs.Common.{◌≡◌, ◌∙◌, ◌+◌, ◌||◌, ◌&&◌, ◌==◌, true, false, ltb, ap, sym, refl, arith}
use Rattle.std.proofs.lemmas.Bool.Decides.{nat_tests}
use Rattle.uu_core.proofs.QueueLemmas.{one_more_job}
use Rattle.uu_core.proofs.queue.sums_with.Goals as goal
use Rattle.uu_core.proofs.queue.sums_with.Goals.{then-lt, else-lt}

pub returns-clause-sums : goal.returns-clause-sums
returns-clause-sums c jobs h =
    let job = c.args.job.now in
    let old = c.args.sums in
    let is : c.lt.result ≡ (ltb job.grade old.grade || (job.grade == old.grade && ltb job.number old.number)) = grind (arith, nat_tests) in
    elim c.if-lt.branch [
      | then-lt w ↦ one_more_job jobs job old _ true h (sym w.if-lt.true ∙ is) refl (ap (λ n. old.bytes + n) c.size_of.ensures.value) (ap (λ p. p.0) w.number-is) (ap (λ p. p.1) w.number-is) c.min.ensures
      | else-lt w ↦ one_more_job jobs job old _ false h (sym w.if-lt.false ∙ is) refl (ap (λ n. old.bytes + n) c.size_of.ensures.value) (ap (λ p. p.0) w.number-is) (ap (λ p. p.1) w.number-is) c.min.ensures
    ]
