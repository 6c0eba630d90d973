-- A job as it is handed out: its head, and the bytes of its row.
use Rattle.std.proofs.Common.{◌≡◌, ℕ, refl, ap, ◌∙◌, Option, Some, None, option_map, Vec, Result, Ok, Err}
use Rattle.std.specs.Prelude.{IfOk}
use Rattle.std.specs.declared.alloc.Global.{Global}
use Rattle.uu_core.specs.declared.job.JobHead.{JobHead}
use Rattle.uu_core.specs.State.{State, Job, head_of, job_at}
use Rattle.uu_tables.specs.declared.rows.Body.{Body}
use Rattle.uu_tables.specs.Tables.{body_of}
use Rattle.uu_questions.specs.Listing.{handed_out, head_and_bytes}

pub bytes_given : {E : Type 0} (s : State) (n : ℕ) (found : Option Body) (r : Result (Vec ℕ Global) E) → found ≡ option_map body_of (job_at s n) → ((body : Body) → found ≡ Some body → IfOk r (λ bytes. bytes.items ≡ body.bytes))
    → IfOk r (λ bytes. (job : Job) → job_at s n ≡ Some job → bytes.items ≡ job.bytes)
bytes_given s n found (Ok bytes) is gives = λ job there. gives (body_of job) (is ∙ ap (option_map body_of) there)
bytes_given s n found (Err e) is gives = tt

pub handed : (s : State) (n : ℕ) (head : JobHead) (bytes : Vec ℕ Global) → Some head ≡ option_map head_of (job_at s n) → ((job : Job) → job_at s n ≡ Some job → bytes.items ≡ job.bytes)
    → option_map handed_out (Some (head, bytes)) ≡ option_map head_and_bytes (job_at s n)
handed s n head bytes is all = go (job_at s n) refl is
  where
    go : (o : Option Job) → job_at s n ≡ o → Some head ≡ option_map head_of o → option_map handed_out (Some (head, bytes)) ≡ option_map head_and_bytes o
    go None e k = absurd (cc)
    go (Some j) e k =
        let same : head ≡ head_of j = cc in
        let mine : bytes.items ≡ j.bytes = all j e in
        λ i. Some (same i, mine i)

pub not_there : (s : State) (n : ℕ) → None ≡ option_map head_of (job_at s n) → option_map handed_out None ≡ option_map head_and_bytes (job_at s n)
not_there s n is = go (job_at s n) is
  where
    go : (o : Option Job) → None ≡ option_map head_of o → option_map handed_out None ≡ option_map head_and_bytes o
    go None k = refl
    go (Some j) k = absurd (cc)
