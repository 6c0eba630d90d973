-- What several questions to a spool do, one after the other.
use Rattle.std.specs.Prelude.{◌≡◌, ◌==◌, ◌&&◌, ℕ, Bool, true, false, IsTrue, List, [], map, Option, Some, None, Result, Ok, IfOk, All, ⊤}
use Rattle.sqlite.specs.Store.{Ghosts}
use Rattle.sqlite.specs.State.{HasCleanDisk}
use Rattle.uu_bundle.specs.Bundles.{answer_front_text, text_with_refused}
use Rattle.uu_bundle.specs.declared.bundle.Heading.{Heading}
use Rattle.uu_handover.specs.Bundles.{below_of}
use Rattle.uu_handover.specs.Custody.{parcel_of}
use Rattle.uu_core.specs.State.{State, Job, job_at, link_of, same_text}
use Rattle.uu_request.specs.declared.request.Answering.{Answering}
use Rattle.uu_request.specs.declared.request.Packing.{Packing}
use Rattle.uu_schema.specs.Steps.{StaysUnclean}
use Rattle.uu_schema.specs.declared.fault.StoreFault.{StoreFault}
use Rattle.uu_schema.specs.declared.fault.StoreFault.TheVariants.{Store}
use Rattle.uu_schema.specs.declared.fault.StoreKind.{StoreKind}
use Rattle.uu_store.specs.Runs.{Ran, fault_in}
use Rattle.uu_store.specs.Spool.{Shows, disk, has_failed}
use Rattle.uu_store.specs.declared.spool.Spool.{Spool}
use Rattle.uuspool.specs.Bundles.{AreToGo, mark_for, refused_among, taken_among}
use Rattle.uuspool.specs.Served.{Marks}

-- They are answered by the one state that the spool shows, and change nothing. The caller may know
-- something about that state. (A fault of the database also comes if a row isn't there that each
-- such state has.)
pub record IsAsked {S : Type 0} {g : Ghosts S} {T : Type 0} (Knows : State → Type 0) (IsAnswer : State → T → Type 0) (old new : Spool S g) (r : Result T StoreFault) : Type 0 where
  pub marked : Marks (has_failed old) (has_failed new) (fault_in r)
  pub noted : HasCleanDisk (disk new) → (s : State) → Shows old s → Knows s → (kind : StoreKind) → fault_in r ≡ Some (Store kind) → has_failed new ≡ true
  pub answer : HasCleanDisk (disk new) → (s : State) → Shows old s → Knows s → IfOk r (λ answer. IsAnswer s answer × Shows new s)
  pub clean : StaysUnclean (disk old) (disk new)
  pub ran : Ran 1 [] old new [] (fault_in r)
  pub failed : IsTrue (has_failed old) → new ≡ old

-- the same, if the only result is that something holds
abbrev pub WasAsked : {S : Type 0} {g : Ghosts S} → (State → Type 0) → (State → Type 0) → Spool S g → Spool S g → Type 0
WasAsked Knows Is old new = let r : Result ⊤ StoreFault = Ok tt in IsAsked Knows (λ s done. Is s) old new r

-- each of the jobs is there under its number
abbrev pub AreThere : List Job → State → Type 0
AreThere jobs s = All (λ job. job_at s job.number ≡ Some job) jobs

-- these are the numbers of the jobs that go into a bundle, if there is room, and the number below
-- which none waits
pub record ArePacked (it : Packing) (lowest : ℕ) (s : State) (numbers : List ℕ) (below : ℕ) : Type 0 where
  pub jobs : List Job
  pub are : AreToGo it lowest s jobs
  pub there : AreThere jobs s
  pub numbers_are : numbers ≡ map (λ job. job.number) jobs
  pub below_is : below ≡ below_of it.system s

-- the first line of a bundle with this number
abbrev pub heading_with : List ℕ → Packing → ℕ → Heading
heading_with from it below = record { from = from; to = it.system; spool = it.spool; below = below; grade = it.grade }

-- the beginning of an answer
abbrev pub answer_front : List ℕ → Answering → ℕ → State → List ℕ
answer_front from it below s =
    text_with_refused (answer_front_text (heading_with from it.packing below) (taken_among it.commands (link_of s it.packing.system).taken)) (refused_among it.commands s)

-- there is a text if the system is known, and it is the bundle's
abbrev pub IsBundleFor : Bool → (List ℕ → Type 0) → Option (List ℕ) → Type 0
IsBundleFor true IsText (Some text) = IsText text
IsBundleFor false IsText None = ⊤
IsBundleFor true IsText None = ⊥
IsBundleFor false IsText (Some text) = ⊥

-- a job waits for the system, and has this mark
abbrev pub is_job_told : List ℕ → List ℕ → List ℕ → ℕ → Option Job → Bool
is_job_told from to spool mark None = false
is_job_told from to spool mark (Some job) = same_text job.system to && mark_for from to spool (parcel_of job) == mark
