-- Changes of one job.
use Rattle.std.proofs.Common.{◌≡◌, ℕ, ◌+◌, [], ◌∷◌, refl, sym, ap}
use Rattle.std.proofs.lemmas.List.{map-append}
use Rattle.uu_core.specs.declared.command.Command.TheVariants.{Regrade, Rejuvenate, Kill}
use Rattle.uu_core.specs.declared.job.By.{By}
use Rattle.uu_core.specs.declared.job.NewJob.{NewJob}
use Rattle.uu_times.specs.declared.moment.Moment.{Moment}
use Rattle.uu_core.specs.State.{State, is_job, head_of}
use Rattle.uu_core.specs.After.{accept, with_job, job_of}
use Rattle.uu_tables.specs.declared.change.Change.TheVariants.{SetGrade, SetQueued, RemoveJob}
use Rattle.uu_tables.specs.Tables.{tables_of, body_of}
use Rattle.uu_tables.specs.Changes.{applied, has_number, is_body_of}
use Rattle.uu_tables.specs.Parts.{with_new_job}
use Rattle.uu_tables.proofs.RowLemmas.{altered, dropped, same_rows}

pub queued : (s : State) (job : NewJob) → with_new_job s.next job (tables_of s) ≡ tables_of (with_job job s)
queued s job = λ i. record (tables_of s) {
  next = s.next + 1;
  jobs = sym (map-append head_of s.jobs (job_of s.next job ∷ [])) i;
  bodies = sym (map-append body_of s.jobs (job_of s.next job ∷ [])) i;
}

pub regraded : (s : State) (number grade : ℕ) (by : By) → applied (SetGrade number grade ∷ []) (tables_of s) ≡ tables_of (accept s (Regrade number grade by))
regraded s number grade by = λ i. record (tables_of s) {
  jobs = altered head_of (is_job number) (has_number number) (λ job. record job { grade = grade }) (λ row. record row { grade = grade }) (λ job. refl) (λ job. refl) s.jobs i;
  bodies = same_rows body_of (is_job number) (λ job. record job { grade = grade }) (λ job. refl) s.jobs i;
}

pub rejuvenated : (s : State) (number : ℕ) (at : Moment) (by : By) → applied (SetQueued number at.second ∷ []) (tables_of s) ≡ tables_of (accept s (Rejuvenate number at by))
rejuvenated s number at by = λ i. record (tables_of s) {
  jobs = altered head_of (is_job number) (has_number number) (λ job. record job { queued = at.second }) (λ row. record row { queued = at.second }) (λ job. refl) (λ job. refl) s.jobs i;
  bodies = same_rows body_of (is_job number) (λ job. record job { queued = at.second }) (λ job. refl) s.jobs i;
}

pub killed : (s : State) (number : ℕ) (by : By) → applied (RemoveJob number ∷ []) (tables_of s) ≡ tables_of (accept s (Kill number by))
killed s number by = λ i. record (tables_of s) { jobs = dropped head_of (is_job number) (has_number number) (λ job. refl) s.jobs i; bodies = dropped body_of (is_job number) (is_body_of number) (λ job. refl) s.jobs i }
