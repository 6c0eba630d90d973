-- One more job adds to what its system's jobs come to, and to nothing else.
use Rattle.std.proofs.Common.{◌≡◌, ◌∙◌, ◌+◌, ◌*◌, ◌≤◌, ℕ, List, ◌++◌, ◌∷◌, [], take, cond, Option, Some, None, IfSome, nat_cmp, ap, sym, subst, arith}
use Rattle.std.specs.BTreeMap.{get, is_at}
use Rattle.std.specs.Cmp.Lexicographic.{slice_cmp, texts_ties}
use Rattle.std.proofs.lemmas.List.{length-take}
use Rattle.uu_core.specs.declared.job.JobHead.{JobHead}
use Rattle.uu_core.specs.declared.queue.Sums.{Sums}
use Rattle.uu_core.specs.Queues.{AreSums, AreSumsOf, jobs_for}
use Rattle.uu_core.proofs.QueueLemmas.{jobs_within, sums_step, small_step}
use Rattle.uu_core.proofs.queue.sums_by_system.Goals as goal
use Rattle.uu_core.proofs.queue.sums_by_system.Goals.{in-Some, in-None}

pub sums_with-sums-requires-clause-jobs : goal.sums_with-sums-requires-clause-jobs
sums_with-sums-requires-clause-jobs c =
    let name = c.job-item.result.system in
    let found : get (slice_cmp nat_cmp) c.loop-job.by_system name ≡ Some c.in-Some.sums = sym (c.copied.ensures ∙ c.get.ensures.value) ∙ c.in-Some.is in
    let sums = subst (AreSumsOf (jobs_for name (take c.loop-job.job-index c.args.jobs.now))) found (c.loop-job.invariant.sums name) in
    omega (arith, sums.count, jobs_within name (take c.loop-job.job-index c.args.jobs.now), length-take c.loop-job.job-index c.args.jobs.now)

pub sums_with-sums-requires-clause-bytes : goal.sums_with-sums-requires-clause-bytes
sums_with-sums-requires-clause-bytes c =
    let name = c.job-item.result.system in
    let found : get (slice_cmp nat_cmp) c.loop-job.by_system name ≡ Some c.in-Some.sums = sym (c.copied.ensures ∙ c.get.ensures.value) ∙ c.in-Some.is in
    let small = subst (λ (o : Option Sums). IfSome o (λ s. s.bytes ≤ c.loop-job.job-index * 4294967296)) found (c.loop-job.invariant.small name) in
    omega (arith, small)

pub loop-job-preserved : goal.loop-job-preserved
loop-job-preserved c =
    let jobs = c.args.jobs.now in
    let i = c.loop-job.job-index in
    let job = c.job-item.result in
    let map = c.loop-job.by_system in
    let copy : c.in_ok-clone.field-0 ≡ job.system = c.in_ok-clone.ensures.cases in
    let found : c.copied.result ≡ get (slice_cmp nat_cmp) map job.system = c.copied.ensures ∙ c.get.ensures.value in
    let new = λ (name : List ℕ). c.in_ok-insert.ensures.updates.0 name
    ∙ ap (λ t. cond t (Some c.match-copied.sums) (get (slice_cmp nat_cmp) map name)) (ap (λ (k : List ℕ). is_at (slice_cmp nat_cmp k) name) copy ∙ sym (texts_ties job.system name)) in
    elim c.match-copied.branch [
      | in-Some w ↦
          let old : get (slice_cmp nat_cmp) map job.system ≡ Some w.in-Some.sums = sym found ∙ w.in-Some.is in
          let own = subst (AreSumsOf (jobs_for job.system (take i jobs))) old (c.loop-job.invariant.sums job.system) in
          let more : AreSums (jobs_for job.system (take i jobs) ++ job ∷ []) c.match-copied.sums =
          subst (AreSums (jobs_for job.system (take i jobs) ++ job ∷ [])) (sym w.sums-is) (w.sums_with-sums.ensures.sums (jobs_for job.system (take i jobs)) own) in
          let small = subst (λ (o : Option Sums). IfSome o (λ s. s.bytes ≤ i * 4294967296)) old (c.loop-job.invariant.small job.system) in
          let bytes = ap (λ (s : Sums). s.bytes) w.sums-is in
          record {
            sums = λ name. sums_step jobs i job name (get (slice_cmp nat_cmp) map name) _ c.match-copied.sums (omega arith) c.job-item.is (c.loop-job.invariant.sums name)
                (λ same. subst (λ (n : List ℕ). AreSums (jobs_for n (take i jobs) ++ job ∷ []) c.match-copied.sums) (sym same) more) (new name);
            small = λ name.
                let most : (i + 1) * 4294967296 ≡ i * 4294967296 + 4294967296 = omega arith in
                rw most (small_step job name (get (slice_cmp nat_cmp) map name) _ c.match-copied.sums (i * 4294967296) (c.loop-job.invariant.small name)
                (omega (arith, bytes, w.sums_with-sums.ensures.small, small)) (new name));
          }
      | in-None w ↦
          let old : get (slice_cmp nat_cmp) map job.system ≡ None = sym found ∙ w.in-None.is in
          let none : jobs_for job.system (take i jobs) ≡ [] = subst (AreSumsOf (jobs_for job.system (take i jobs))) old (c.loop-job.invariant.sums job.system) in
          let more : AreSums (jobs_for job.system (take i jobs) ++ job ∷ []) c.match-copied.sums =
          subst (λ (l : List JobHead). AreSums (l ++ job ∷ []) c.match-copied.sums) (sym none) (subst (AreSums (job ∷ [])) (sym w.sums-is) w.sums_of-sums.ensures.sums) in
          let bytes = ap (λ (s : Sums). s.bytes) w.sums-is in
          record {
            sums = λ name. sums_step jobs i job name (get (slice_cmp nat_cmp) map name) _ c.match-copied.sums (omega arith) c.job-item.is (c.loop-job.invariant.sums name)
                (λ same. subst (λ (n : List ℕ). AreSums (jobs_for n (take i jobs) ++ job ∷ []) c.match-copied.sums) (sym same) more) (new name);
            small = λ name.
                let most : (i + 1) * 4294967296 ≡ i * 4294967296 + 4294967296 = omega arith in
                rw most (small_step job name (get (slice_cmp nat_cmp) map name) _ c.match-copied.sums (i * 4294967296) (c.loop-job.invariant.small name)
                (omega (arith, bytes, w.sums_of-sums.ensures.small)) (new name));
          }
    ]
