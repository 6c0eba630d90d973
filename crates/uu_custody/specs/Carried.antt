-- Two sites between which jobs go in bundles: one says a bundle, a carrier moves it as it likes,
-- and the other takes from it what is there. A carrier may be late, bring a bundle again or bring
-- an old one, and cut it off after its first line. (The lines are this project's choice.)
use Rattle.std.specs.Prelude.{◌≡◌, ⊤, ℕ, Bool, List, [], ◌∷◌, ◌++◌, map, take, All, Contains, if◌then◌else◌, true}
use Rattle.sqlite.specs.Held.{state}
use Rattle.sqlite_wal.specs.Recovery.{Image}
use Rattle.uu_core.specs.declared.command.Command.{Command}
use Rattle.uu_core.specs.declared.command.Command.TheVariants.{Remove, QueueOnce, Done, Release, Forget}
use Rattle.uu_core.specs.declared.command.Reply.{Reply}
use Rattle.uu_core.specs.declared.custody.Key.{Key}
use Rattle.uu_core.specs.declared.job.NewJob.{NewJob}
use Rattle.uu_core.specs.State.{State, same_text}
use Rattle.uu_core.specs.Run.{state_after}
use Rattle.uu_handover.specs.Bundles.{Bundle, Packed, IsSaid, IsFrontOf}
use Rattle.uu_handover.specs.Custody.{Parcel, Crossing}
use Rattle.uu_store.specs.Exchanges.{Ending}
use Rattle.uu_store.specs.Files.{FileStretch}
use Rattle.uu_store.specs.Openings.{ImageKeeps}
use Rattle.uu_custody.specs.Events.{Side, sender, receiver, Notice, waits, no_more, has, Event, answered, stopped, noticed}

-- ---- a history of two sites

-- what happens at a site, of two or of several
pub data Deed (S : Type 0) : Type 0 where
  -- the spool of a site was given a command, and this reply came
  runs : (site : S) (command : Command) (reply : Reply) → Deed S
  -- the spool of a site stopped, as in an event
  stops : (site : S) (in_hand : ℕ) (unanswered : List Command) (ending : Ending) → Deed S
  -- a site said this bundle
  says : (site : S) (bundle : Bundle) → Deed S

-- What a bundle says about the jobs that the sender hands on to the receiver: a bundle of the
-- sender's says which wait, and one of the receiver's which it has. (For the receiver's own jobs it
-- is the other way round.)
abbrev pub notices_of : Crossing → Side → Bundle → List Notice
notices_of crossing sender bundle = if same_text bundle.to crossing.to then no_more bundle.below ∷ map (λ packed. waits packed.parcel) bundle.jobs else []
notices_of crossing receiver bundle = if same_text bundle.to crossing.from then map (λ told. has told.number) bundle.has else []

-- the same history as events
abbrev pub events_of : Crossing → List (Deed Side) → List Event
events_of crossing [] = []
events_of crossing (runs site command reply ∷ deeds) = answered site command reply ∷ events_of crossing deeds
events_of crossing (stops site in_hand unanswered ending ∷ deeds) = stopped site in_hand unanswered ending ∷ events_of crossing deeds
events_of crossing (says site bundle ∷ deeds) = map noticed (notices_of crossing site bundle) ++ events_of crossing deeds

-- ---- what was said is true

-- a bundle, and the commands since the opening that had been answered by then
pub record Saying : Type 0 where
  pub answered : List Command
  pub bundle : Bundle

abbrev pub with_first : (List Saying → List Saying) → List (List Saying) → List (List Saying)
with_first change [] = change [] ∷ []
with_first change (sayings ∷ more) = change sayings ∷ more

abbrev pub after_answer : Command → Saying → Saying
after_answer command saying = record saying { answered = command ∷ saying.answered }

-- what a site said, given a test for the site: one list for each of its openings
abbrev pub sayings_at : {S : Type 0} → (S → Bool) → List (Deed S) → List (List Saying)
sayings_at here [] = []
sayings_at here (runs site command reply ∷ deeds) = if here site then with_first (map (after_answer command)) (sayings_at here deeds) else sayings_at here deeds
sayings_at here (stops site in_hand unanswered ending ∷ deeds) = if here site then [] ∷ sayings_at here deeds else sayings_at here deeds
sayings_at here (says site bundle ∷ deeds) =
    if here site then with_first (λ sayings. record { answered = []; bundle = bundle } ∷ sayings) (sayings_at here deeds) else sayings_at here deeds

-- what the site of this name had to say in this state, to any neighbour
abbrev pub IsSaidBy : List ℕ → State → Bundle → Type 0
IsSaidBy own state bundle = (mark : Parcel → ℕ) × IsSaid own bundle.to mark state bundle

-- Each bundle was what the site had to say, with any state that the files kept before the stretch,
-- after these commands were answered.
abbrev pub WereSaidInFiles : List ℕ → Image → List (List Saying) → List FileStretch → Type 0
WereSaidInFiles own before [] stretches = ⊤
WereSaidInFiles own before (sayings ∷ more) [] = ⊤
WereSaidInFiles own before (sayings ∷ more) (it ∷ stretches) =
    ((s : State) → ImageKeeps before s → All (λ saying. IsSaidBy own (state_after s saying.answered) saying.bundle) sayings) × WereSaidInFiles own it.left more stretches

-- ---- what a site is given

-- the key of a job of a bundle, under the name of the site that said it
abbrev pub key_in : Bundle → Packed → Key
key_in bundle packed = record { from = bundle.from; number = packed.parcel.number; mark = packed.mark }

-- The lines: `unpack` with a bundle that was read, if this is made of each job; `settle` with such
-- a bundle, which removes jobs that the bundle has; and any other line, with its command.
pub data BundleLine : Type 0 where
  unpack : (bundle : Bundle) (make : Packed → NewJob) → BundleLine
  settle : (bundle : Bundle) (numbers : List ℕ) → BundleLine
  other : (command : Command) → BundleLine

abbrev pub commands_of : BundleLine → List Command
commands_of (unpack bundle make) = Forget bundle.from bundle.below ∷ map (λ packed. QueueOnce (key_in bundle packed) (make packed)) bundle.jobs
commands_of (settle bundle numbers) = Release bundle.from numbers ∷ []
commands_of (other command) = command ∷ []

-- the bundles that the sender said so far, and those of the receiver
pub record Bundles : Type 0 where
  pub out : List Bundle
  pub back : List Bundle

abbrev pub nothing_said : Bundles
nothing_said = record { out = []; back = [] }

abbrev pub after_deed : Bundles → Deed Side → Bundles
after_deed bundles (runs site command reply) = bundles
after_deed bundles (stops site in_hand unanswered ending) = bundles
after_deed bundles (says sender bundle) = record bundles { out = bundles.out ++ bundle ∷ [] }
after_deed bundles (says receiver bundle) = record bundles { back = bundles.back ++ bundle ∷ [] }

-- it is one of these, or the beginning of one
abbrev pub IsOneOf : List Bundle → Bundle → Type 0
IsOneOf bundles bundle = (whole : Bundle) × Contains bundles whole × IsFrontOf whole bundle

-- By other lines the sender doesn't report a job as gone to the receiver, and doesn't release one.
-- The receiver doesn't hand in or forget any job under the sender's name, and doesn't remove the
-- sender.
abbrev pub IsBeside : Crossing → Side → Command → Type 0
IsBeside crossing sender (Done system at jobs) = system ≡ crossing.to → jobs ≡ []
IsBeside crossing sender (Release system jobs) = system ≡ crossing.to → jobs ≡ []
IsBeside crossing sender command = ⊤
IsBeside crossing receiver (Remove name) = ¬ (name ≡ crossing.from)
IsBeside crossing receiver (QueueOnce key new) = ¬ (key.from ≡ crossing.from)
IsBeside crossing receiver (Forget system below) = ¬ (system ≡ crossing.from)
IsBeside crossing receiver command = ⊤

-- A bundle of the other site's that is read here was said there, for this one: otherwise it is
-- refused by the names in its first line. What is made of a job is what was agreed on, and `settle`
-- removes jobs that the bundle has. (There is no premise about bundles of other sites, and about
-- what the sender takes.)
abbrev pub MayBeLine : Crossing → Bundles → Side → BundleLine → Type 0
MayBeLine crossing bundles sender (unpack bundle make) = ⊤
MayBeLine crossing bundles sender (settle bundle numbers) =
    bundle.from ≡ crossing.to → IsOneOf bundles.back bundle × (bundle.to ≡ crossing.from) × All (Contains (map (λ told. told.number) bundle.has)) numbers
MayBeLine crossing bundles receiver (unpack bundle make) =
    bundle.from ≡ crossing.from → IsOneOf bundles.out bundle × (bundle.to ≡ crossing.to) × All (λ packed. crossing.makes packed.parcel (make packed) ≡ true) bundle.jobs
MayBeLine crossing bundles receiver (settle bundle numbers) = ⊤
MayBeLine crossing bundles site (other command) = IsBeside crossing site command

-- the command is one of such a line
abbrev pub IsOfLine : Crossing → Bundles → Side → Command → Type 0
IsOfLine crossing bundles site command = (line : BundleLine) × MayBeLine crossing bundles site line × Contains (commands_of line) command

-- The jobs have the marks that were agreed on, so the same mark of a job is said each time.
abbrev pub IsMarked : Crossing → Bundle → Type 0
IsMarked crossing bundle = bundle.to ≡ crossing.to → All (λ packed. packed.mark ≡ crossing.mark packed.parcel) bundle.jobs

abbrev pub IsByLines : Crossing → Bundles → Deed Side → Type 0
IsByLines crossing bundles (runs site command reply) = IsOfLine crossing bundles site command
IsByLines crossing bundles (stops site in_hand unanswered ending) = All (IsOfLine crossing bundles site) (take in_hand unanswered)
IsByLines crossing bundles (says sender bundle) = IsMarked crossing bundle
IsByLines crossing bundles (says receiver bundle) = ⊤

-- Each command that a site was given, including those in hand at a stop, is of a line whose bundle
-- was said before it.
abbrev pub GoesByBundles : Crossing → Bundles → List (Deed Side) → Type 0
GoesByBundles crossing bundles [] = ⊤
GoesByBundles crossing bundles (deed ∷ deeds) = IsByLines crossing bundles deed × GoesByBundles crossing (after_deed bundles deed) deeds
