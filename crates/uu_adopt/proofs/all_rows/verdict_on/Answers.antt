use Rattle.std.proofs.Common.{subst}
use Rattle.uu_schema.specs.declared.version.Version.TheVariants.{Fourth}
use Rattle.uu_adopt.specs.Reading.{FindsJobs}
use Rattle.uu_adopt.proofs.Verdict.{no_jobs}
use Rattle.uu_adopt.proofs.all_rows.verdict_on.Goals as goal

pub returns-in-Some-clause-verdict : goal.returns-in-Some-clause-verdict
returns-in-Some-clause-verdict c trees found =
    let jobs = found.jobs c.in_ok-read.read (rw c.deref.ensures.value at c.in_ok-read.ensures.read) in
    c.verdict_with.ensures.verdict trees found c.in-Some.heads c.deref-in-Some.ensures.value (subst (FindsJobs Fourth trees) c.in-Some.is jobs)

pub returns-in-None-clause-verdict : goal.returns-in-None-clause-verdict
returns-in-None-clause-verdict c trees found =
    let jobs = found.jobs c.in_ok-read.read (rw c.deref.ensures.value at c.in_ok-read.ensures.read) in (λ yes. absurd (cc), λ none. no_jobs trees (subst (FindsJobs Fourth trees) c.in-None.is jobs))
