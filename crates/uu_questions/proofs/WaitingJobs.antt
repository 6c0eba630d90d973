-- The numbers of jobs that wait for a system, looked for one after another.
use Rattle.std.proofs.Common.{◌≡◌, ℕ, ◌+◌, ◌<◌, ◌==◌, ◌&&◌, ◌||◌, Bool, true, false, cond, List, [], ◌∷◌, ◌++◌, length, filter, get_or, take, Some, option_map, refl, ap, sym, ◌∙◌, inl, inr, arith}
use Rattle.std.specs.Prelude.{find}
use Rattle.std.specs.List.{AllByRecursion, list_any}
use Rattle.std.proofs.lemmas.Bool.{cases_Bool}
use Rattle.std.proofs.lemmas.Bool.Decides.{nat_tests}
use Rattle.std.proofs.lemmas.List.{take_more}
use Rattle.std.proofs.lemmas.List.Elements.{filter-append}
use Rattle.std.proofs.Math.Bool.{or-false}
use Rattle.sqlite.specs.Tree.{IsAscending as Ascends}
use Rattle.uu_core.specs.State.{State, Job, IsWellFormed, same_text, is_job, job_at, head_of}
use Rattle.uu_tables.specs.Plans.{waits_under}
use Rattle.uu_rows.proofs.InOrder.{ascending_pairs}
use Rattle.uu_questions.specs.Waiting.{is_for}

abbrev waits : List ℕ → ℕ → Job → Bool
waits system number job = job.number == number && same_text job.system system

-- of jobs with higher numbers none has this one
none_waits : (system : List ℕ) (number : ℕ) (first : Job) (jobs : List Job) → (first.number == number) ≡ true → AllByRecursion (λ (job : Job). first.number < job.number) jobs → list_any (waits system number) jobs ≡ false
none_waits system number first [] here all = refl
none_waits system number first (job ∷ jobs) here all =
    let other : (job.number == number) ≡ false = apart first.number job.number number here all.0 in
    ap (λ t. (t && same_text job.system system) || list_any (waits system number) jobs) other ∙ none_waits system number first jobs here all.1
  where
    apart : (a b c : ℕ) → (a == c) ≡ true → a < b → (b == c) ≡ false
    apart a b c e l = grind (arith, nat_tests)

-- the job of the number is looked at alone
one_waits : (system : List ℕ) (number : ℕ) (jobs : List Job) → Ascends (λ (a b : Job). a.number < b.number) jobs → is_for system (option_map head_of (find (is_job number) jobs)) ≡ list_any (waits system number) jobs
one_waits system number [] up = refl
one_waits system number (job ∷ jobs) up = elim (cases_Bool (job.number == number)) [
  | inl here ↦ (ap (λ t. is_for system (option_map head_of (cond t (Some job) (find (is_job number) jobs)))) here
      ∙ sym (ap (λ l. same_text job.system system || l) (none_waits system number job jobs here up.0) ∙ or-false (same_text job.system system))
      ∙ sym (ap (λ t. (t && same_text job.system system) || list_any (waits system number) jobs) here))
  | inr other ↦ (ap (λ t. is_for system (option_map head_of (cond t (Some job) (find (is_job number) jobs)))) other
      ∙ one_waits system number jobs up.1
      ∙ sym (ap (λ t. (t && same_text job.system system) || list_any (waits system number) jobs) other))
]

pub waits_is : (s : State) (system : List ℕ) (number : ℕ) → IsWellFormed s → is_for system (option_map head_of (job_at s number)) ≡ waits_under s system number
waits_is s system number good = one_waits system number s.jobs (ascending_pairs (λ (x y : Job). x.number < y.number) s.jobs good.rising)

-- ---- all numbers

abbrev pub one_if : Bool → ℕ → List ℕ
one_if t number = cond t (number ∷ []) []

-- one number more
pub kept_more : (p : ℕ → Bool) (numbers : List ℕ) (i : ℕ) (found : List ℕ) (t : Bool) → i < length numbers → found ≡ filter p (take i numbers) → t ≡ p (get_or numbers i 0) → found ++ one_if t (get_or numbers i 0) ≡ filter p (take (i + 1) numbers)
kept_more p numbers i found t lt so_far one =
    let number = get_or numbers i 0 in
    (λ k. so_far k ++ one_if (one k) number) ∙ sym (filter-append p (take i numbers) (number ∷ [])) ∙ ap (filter p) (sym (take_more numbers i 0 lt))
