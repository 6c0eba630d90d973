-- What is settled goes, and nothing else.
use Rattle.std.proofs.Common.{◌≡◌, ℕ, Bool, true, false, not, ◌==◌, List, Contains, ap, refl, subst, inl, inr, ◌⊎◌, All}
use Rattle.std.specs.Cmp.Lexicographic.{bytes_decides}
use Rattle.std.proofs.lemmas.Bool.{eqb-true, eq-eqb, both_ways, not-true, and_from}
use Rattle.std.proofs.lemmas.List.Elements.{All-contains}
use Rattle.uu_names.proofs.Basics.{in_filter, from_filter, some_passes, passing_one, and_first, and_second, all_from}
use Rattle.uu_core.specs.declared.command.Command.TheVariants.{Release}
use Rattle.uu_core.specs.State.{State, Job, same_text}
use Rattle.uu_core.specs.After.{after, is_among, is_released}
use Rattle.uu_handover.specs.Custody.{Parcel}
use Rattle.uu_handover.specs.Bundles.{Told, settled_of}
use Rattle.uu_handover.proofs.BundleLaws.{settled_waits}

-- a job that waits for the system and is named is let go
pub goes : (system numbers : List ℕ) (job : Job) → Contains numbers job.number → job.system ≡ system → is_released system numbers job ≡ true
goes system numbers job named own =
    and_from (is_among numbers job) (same_text job.system system) (some_passes (λ number. number == job.number) numbers job.number named (eq-eqb job.number job.number refl)) ((bytes_decides job.system system).1 own)

-- and no other is
pub named : (system numbers : List ℕ) (job : Job) → is_released system numbers job ≡ true → Contains numbers job.number × (job.system ≡ system)
named system numbers job e =
    let one = passing_one (λ number. number == job.number) numbers (and_first (is_among numbers job) (same_text job.system system) e) in
    (subst (Contains numbers) (eqb-true one.0 job.number one.2) one.1, (bytes_decides job.system system).0 (and_second (is_among numbers job) (same_text job.system system) e))

pub gone : (state : State) (system numbers : List ℕ) (job : Job) → Contains numbers job.number → job.system ≡ system → ¬ Contains (after state (Release system numbers)).0.jobs job
gone state system numbers job number own there = both_ways _ (not-true (is_released system numbers job) (from_filter (λ (other : Job). not (is_released system numbers other)) state.jobs job there).1) (goes system numbers job number own)

-- a job that isn't let go stays
pub left_alone : (state : State) (system numbers : List ℕ) (job : Job) → Contains state.jobs job → is_released system numbers job ≡ false → Contains (after state (Release system numbers)).0.jobs job
left_alone state system numbers job there e = in_filter (λ (other : Job). not (is_released system numbers other)) state.jobs job there (ap not e)

pub stays : (state : State) (system numbers : List ℕ) (job : Job) → Contains state.jobs job → (¬ Contains numbers job.number) ⊎ (¬ (job.system ≡ system)) → Contains (after state (Release system numbers)).0.jobs job
stays state system numbers job there other = by-test (is_released system numbers job) refl
  where
    by-test : (t : Bool) → is_released system numbers job ≡ t → Contains (after state (Release system numbers)).0.jobs job
    by-test false e = left_alone state system numbers job there e
    by-test true e = absurd (let it = named system numbers job e in elim other [
      | inl not_named ↦ not_named it.0
      | inr of_another ↦ of_another it.1
    ])

-- what is settled was in the bundle
pub was_told : (system : List ℕ) (mark : Parcel → ℕ) (state : State) (has : List Told) (answered : List ℕ) → All (λ (told : Told). Contains answered told.number) has → All (Contains answered) (settled_of system mark state has)
was_told system mark state has answered all = all_from (Contains answered) (settled_of system mark state has)
    (λ number there. let it = settled_waits system mark state has number there in subst (Contains answered) it.2 (All-contains (λ (told : Told). Contains answered told.number) has it.0 all it.1))
