-- Which systems may be called, and a walk through the jobs that lists each of the systems once, for
-- the first job for which it may be called.
use Rattle.std.specs.Prelude.{◌≡◌, ℕ, pos, Bool, not, ◌&&◌, if◌then◌else◌, List, [], ◌∷◌, ◌++◌, Option}
use Rattle.sqlite.specs.declared.types.Value.TheVariants.{Int, Text}
use Rattle.sqlite.specs.Order.{Row}
use Rattle.uu_core.specs.declared.due.Due.{Due}
use Rattle.uu_core.specs.Due.{is_within, is_listed}

-- the columns of a job in the answer
abbrev pub due_cells : Due → Row
due_cells due = Text due.system ∷ Int (pos due.grade) ∷ Int (pos due.number) ∷ []

-- each system's limit allows exactly the grades for which it may be called
abbrev pub AreLimits : (List ℕ → Option ℕ) → (List ℕ → ℕ → Bool) → Type 0
AreLimits limit may = (name : List ℕ) (grade : ℕ) → is_within (limit name) grade ≡ may name grade

-- each system's remaining limit allows exactly the grades for which it may be called, until the
-- system is listed
abbrev pub IsLeft : (List ℕ → ℕ → Bool) → (List ℕ → Option ℕ) → List Due → Type 0
IsLeft may limit dues = AreLimits limit (λ name grade. may name grade && not (is_listed dues name))

-- one more job is listed if its system may be called for it and isn't listed
abbrev pub with_due : (List ℕ → ℕ → Bool) → List Due → Due → List Due
with_due may dues due = if may due.system due.grade && not (is_listed dues due.system) then dues ++ due ∷ [] else dues

-- A row is taken: its job is listed if its system may be called for it and isn't listed yet. Then
-- the system has no limit any more.
abbrev pub TakesRow : (List ℕ → Option ℕ) → List Due → Row → (List ℕ → Option ℕ) → List Due → Type 0
TakesRow limit dues row left more = (may : List ℕ → ℕ → Bool) (due : Due) → row ≡ due_cells due → IsLeft may limit dues → IsLeft may left more × (more ≡ with_due may dues due)
