-- Several sites between which jobs go in bundles, whatever moves these: each bundle that any site
-- said may be brought to any site, as often and as late as one likes, and cut off at any byte. (The
-- sites and lines are those of `uu_handover/specs/Network.antt`.)
use Rattle.std.specs.Prelude.{◌≡◌, ◌<◌, ⊤, ℕ, true, ◌==◌, List, [], ◌∷◌, ◌++◌, map, take, All, Contains, if◌then◌else◌}
use Rattle.sqlite_wal.specs.Recovery.{Image}
use Rattle.uu_core.specs.declared.command.Command.{Command}
use Rattle.uu_core.specs.State.{State, link_of, new_link}
use Rattle.uu_handover.specs.Bundles.{Bundle}
use Rattle.uu_handover.specs.Network.{Chart}
use Rattle.uu_store.specs.Exchanges.{Exchange}
use Rattle.uu_store.specs.Files.{FileStretch, AllFilesPassed, file_exchanges}
use Rattle.uu_store.specs.Openings.{ImageKeeps}
use Rattle.uu_custody.specs.Events.{Side, sender, receiver, just_opened, after_answer}
use Rattle.uu_custody.specs.Routes.{Course, IsFreeOver}
use Rattle.uu_custody.specs.Sites.{AllComeOnce}
use Rattle.uu_custody.specs.Carried.{Deed, runs, stops, says, events_of, sayings_at, WereSaidInFiles, BundleLine, unpack, settle, other, commands_of, IsOneOf, IsBeside, IsMarked}

-- Each site has a name of its own, by which its neighbours know it, and no line leads from a site to
-- itself.
pub record AreNamed (chart : Chart) (name : ℕ → List ℕ) : Type 0 where
  pub own : (one other : ℕ) → name one ≡ name other → one ≡ other
  pub from : (line : ℕ) → (chart.crossing line).from ≡ name (chart.begins line)
  pub to : (line : ℕ) → (chart.crossing line).to ≡ name (chart.ends line)
  pub apart : (line : ℕ) → ¬ (chart.begins line ≡ chart.ends line)

-- ---- what a site is given

-- A bundle that is read at a site was said by some site, and is for this one: otherwise its names
-- show that it isn't. What is made of its jobs is what was agreed on with the site that said it.
-- Other lines are beside each line that begins or ends there.
abbrev pub MayBeLineAt : Chart → (ℕ → List ℕ) → List Bundle → ℕ → BundleLine → Type 0
MayBeLineAt chart name said site (unpack bundle make) =
    IsOneOf said bundle × (bundle.to ≡ name site)
    × ((line : ℕ) → chart.ends line ≡ site → (chart.crossing line).from ≡ bundle.from → All (λ packed. (chart.crossing line).makes packed.parcel (make packed) ≡ true) bundle.jobs)
MayBeLineAt chart name said site (settle bundle numbers) = IsOneOf said bundle × (bundle.to ≡ name site) × All (Contains (map (λ told. told.number) bundle.has)) numbers
MayBeLineAt chart name said site (other command) =
    (line : ℕ) → (chart.begins line ≡ site → IsBeside (chart.crossing line) sender command) × (chart.ends line ≡ site → IsBeside (chart.crossing line) receiver command)

abbrev pub IsOfLineAt : Chart → (ℕ → List ℕ) → List Bundle → ℕ → Command → Type 0
IsOfLineAt chart name said site command = (line : BundleLine) × MayBeLineAt chart name said site line × Contains (commands_of line) command

-- a site says a bundle under its own name, with the marks of each line that begins there
abbrev pub IsByLinesAt : Chart → (ℕ → List ℕ) → List Bundle → Deed ℕ → Type 0
IsByLinesAt chart name said (runs site command reply) = IsOfLineAt chart name said site command
IsByLinesAt chart name said (stops site in_hand unanswered ending) = All (IsOfLineAt chart name said site) (take in_hand unanswered)
IsByLinesAt chart name said (says site bundle) = (bundle.from ≡ name site) × ((line : ℕ) → chart.begins line ≡ site → IsMarked (chart.crossing line) bundle)

abbrev pub said_by : Deed ℕ → List Bundle
said_by (runs site command reply) = []
said_by (stops site in_hand unanswered ending) = []
said_by (says site bundle) = bundle ∷ []

-- each command that a site was given is of a line whose bundle was said before it
abbrev pub GoAround : Chart → (ℕ → List ℕ) → List Bundle → List (Deed ℕ) → Type 0
GoAround chart name said [] = ⊤
GoAround chart name said (deed ∷ deeds) = IsByLinesAt chart name said deed × GoAround chart name (said ++ said_by deed) deeds

-- ---- what a line sees of it

-- on which side of the line the site is, if it is on one
abbrev pub sides_of : Chart → ℕ → ℕ → List Side
sides_of chart line site = if chart.begins line == site then sender ∷ [] else (if chart.ends line == site then receiver ∷ [] else [])

abbrev pub seen_of : Chart → ℕ → Deed ℕ → List (Deed Side)
seen_of chart line (runs site command reply) = map (λ side. runs side command reply) (sides_of chart line site)
seen_of chart line (stops site in_hand unanswered ending) = map (λ side. stops side in_hand unanswered ending) (sides_of chart line site)
seen_of chart line (says site bundle) = map (λ side. says side bundle) (sides_of chart line site)

-- the history of the line's two sites
abbrev pub seen_by : Chart → ℕ → List (Deed ℕ) → List (Deed Side)
seen_by chart line [] = []
seen_by chart line (deed ∷ deeds) = seen_of chart line deed ++ seen_by chart line deeds

-- ---- a site's part of it

abbrev pub with_first : (Exchange → Exchange) → List Exchange → List Exchange
with_first change [] = change just_opened.exchange ∷ []
with_first change (exchange ∷ more) = change exchange ∷ more

-- its exchanges, one for each of its openings
abbrev pub exchanges_in : ℕ → List (Deed ℕ) → List Exchange
exchanges_in site [] = []
exchanges_in site (runs there command reply ∷ deeds) = if site == there then with_first (after_answer command reply) (exchanges_in site deeds) else exchanges_in site deeds
exchanges_in site (stops there in_hand unanswered ending ∷ deeds) =
    if site == there then record { commands = unanswered; replies = []; in_hand = in_hand; ending = ending } ∷ exchanges_in site deeds else exchanges_in site deeds
exchanges_in site (says there bundle ∷ deeds) = exchanges_in site deeds

-- after each bundle its site answers or stops, because the spool that said it stops at last
abbrev pub GoOn : List (Deed ℕ) → Type 0
GoOn [] = ⊤
GoOn (runs site command reply ∷ deeds) = GoOn deeds
GoOn (stops site in_hand unanswered ending ∷ deeds) = GoOn deeds
GoOn (says site bundle ∷ deeds) = ¬ (exchanges_in site deeds ≡ []) × GoOn deeds

-- The spool of this site is in files: its part of the history is that of the stretches over them,
-- and each bundle was what it had to say.
pub record IsInFiles (own : List ℕ) (first : State) (before : Image) (stretches : List FileStretch) (deeds : List (Deed ℕ)) (site : ℕ) : Type 0 where
  pub keeps : ImageKeeps before first
  pub passed : AllFilesPassed before stretches
  pub told : file_exchanges stretches ≡ exchanges_in site deeds
  pub said : WereSaidInFiles own before (sayings_at (λ there. site == there) deeds) stretches

-- The lines are among the sites with numbers below the count, and the end of each keeps nothing
-- from its beginning at first.
abbrev pub AreAmong : Chart → ℕ → (ℕ → State) → List ℕ → Type 0
AreAmong chart count first [] = ⊤
AreAmong chart count first (line ∷ lines) =
    (chart.begins line < count) × (chart.ends line < count) × (link_of (first (chart.ends line)) (chart.crossing line).from ≡ new_link (chart.crossing line).from) × AreAmong chart count first lines

-- ---- what follows

-- over every line each waiting job is free
abbrev pub AreFreeOverAll : Chart → Course → List ℕ → Type 0
AreFreeOverAll chart course [] = ⊤
AreFreeOverAll chart course (line ∷ lines) = IsFreeOver chart course line × AreFreeOverAll chart course lines

-- messages come once over the lines (`Sites.antt`), and nothing is in their way
pub record AllCameInBundles (chart : Chart) (count : ℕ) (first : ℕ → State) (stretches : ℕ → List FileStretch) (left : ℕ → Image) (deeds : List (Deed ℕ)) (lines : List ℕ) : Type 0 where
  pub come : AllComeOnce chart count first stretches left (λ line. events_of (chart.crossing line) (seen_by chart line deeds)) lines
  pub free : AreFreeOverAll chart (record { first = first; counted = come.counted }) lines
