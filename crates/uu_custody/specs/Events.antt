-- What happens at two sites, the first of which hands its jobs on to the other: a history of both,
-- in the order in which it becomes known. (The sites, the wire and the history are this project's
-- choice.)
use Rattle.std.specs.Prelude.{◌≡◌, ◌≤◌, ⊤, ℕ, Bool, true, false, List, [], ◌∷◌, ◌++◌, map, take, All, Contains, None, if◌then◌else◌}
use Rattle.uu_core.specs.declared.command.Command.{Command}
use Rattle.uu_core.specs.declared.command.Command.TheVariants.{Remove, QueueOnce, Done, Release, Forget}
use Rattle.uu_core.specs.declared.command.Reply.{Reply}
use Rattle.uu_core.specs.declared.custody.Key.{Key}
use Rattle.uu_core.specs.declared.job.NewJob.{NewJob}
use Rattle.uu_core.specs.State.{State, Job, same_text}
use Rattle.uu_core.specs.Run.{state_after}
use Rattle.uu_core.specs.Laws.{numbers_in}
use Rattle.uu_handover.specs.Custody.{Parcel, parcel_of, Crossing, key_of, IsLeast, HasTaken}
use Rattle.uu_store.specs.Exchanges.{Ending, Exchange, exchange_of, Counts}

-- ---- a history of two sites

pub data Side : Type 0 where
  sender : Side
  receiver : Side

-- What the spool of a site showed and what went to the other site. The sender showed what doesn't
-- change of a job that waits for the receiver, or a number below which it won't ask again. The
-- receiver showed the number of a job of the sender's that it keeps as taken.
pub data Notice : Type 0 where
  waits : (parcel : Parcel) → Notice
  no_more : (below : ℕ) → Notice
  has : (number : ℕ) → Notice

abbrev pub side_of : Notice → Side
side_of (waits parcel) = sender
side_of (no_more below) = sender
side_of (has number) = receiver

pub data Event : Type 0 where
  -- the spool of a site was given a command, and this reply came
  answered : (site : Side) (command : Command) (reply : Reply) → Event
  -- The spool of a site stopped: how the run of commands ended, and the commands without a reply.
  -- The first `in_hand` of them may have been in hand then, as one request. If that was carried
  -- out, nobody knows.
  stopped : (site : Side) (in_hand : ℕ) (unanswered : List Command) (ending : Ending) → Event
  -- the spool of the notice's site showed this, and it went to the other site
  noticed : (notice : Notice) → Event

-- ---- what each site has of the history

-- a notice, and the commands since the opening that had been answered by then
pub record Noted : Type 0 where
  pub answered : List Command
  pub notice : Notice

-- what happened at one site between an opening and the stop after it
pub record Session : Type 0 where
  pub exchange : Exchange
  pub noted : List Noted

abbrev pub is_at : Side → Side → Bool
is_at sender sender = true
is_at sender receiver = false
is_at receiver sender = false
is_at receiver receiver = true

-- a session in which nothing happened yet
abbrev pub just_opened : Session
just_opened = record { exchange = exchange_of 1 [] [] None; noted = [] }

-- the first of them changed, or a new one if no stop has come
abbrev pub with_first : (Session → Session) → List Session → List Session
with_first change [] = change just_opened ∷ []
with_first change (session ∷ sessions) = change session ∷ sessions

-- the exchange with one more answer before it
abbrev pub after_answer : Command → Reply → Exchange → Exchange
after_answer command reply exchange = record exchange { commands = command ∷ exchange.commands; replies = reply ∷ exchange.replies }

-- a command was answered before the rest of a session
abbrev pub begin_answered : Command → Reply → Session → Session
begin_answered command reply session = record {
  exchange = after_answer command reply session.exchange;
  noted = map (λ (note : Noted). record note { answered = command ∷ note.answered }) session.noted;
}

-- a notice went out before the rest of a session
abbrev pub begin_noticed : Notice → Session → Session
begin_noticed notice session = record session { noted = record { answered = []; notice = notice } ∷ session.noted }

-- a session with this end and these unanswered commands; the request in hand has so many
abbrev pub ended : ℕ → List Command → Ending → Session
ended in_hand unanswered ending = record { exchange = record { commands = unanswered; replies = []; in_hand = in_hand; ending = ending }; noted = [] }

abbrev pub sessions_at : Side → List Event → List Session
sessions_at site [] = []
sessions_at site (answered there command reply ∷ events) =
    if is_at site there then with_first (begin_answered command reply) (sessions_at site events) else sessions_at site events
sessions_at site (stopped there in_hand unanswered ending ∷ events) =
    if is_at site there then ended in_hand unanswered ending ∷ sessions_at site events else sessions_at site events
sessions_at site (noticed notice ∷ events) =
    if is_at site (side_of notice) then with_first (begin_noticed notice) (sessions_at site events) else sessions_at site events

-- the site's part of a history: its exchanges, one for each session
abbrev pub exchanges_at : Side → List Event → List Exchange
exchanges_at site events = map (λ (session : Session). session.exchange) (sessions_at site events)

-- ---- notices that are true

-- a job that waits for the receiver is this parcel
pub record Waits (crossing : Crossing) (state : State) (parcel : Parcel) : Type 0 where
  pub job : Job
  pub there : Contains state.jobs job
  pub system : job.system ≡ crossing.to
  pub is : parcel_of job ≡ parcel

-- of the state of the site that it comes from
abbrev pub IsTrueOf : Crossing → State → Notice → Type 0
IsTrueOf crossing state (waits parcel) = Waits crossing state parcel
IsTrueOf crossing state (no_more below) = IsLeast crossing state below
IsTrueOf crossing state (has number) = HasTaken crossing state number

-- each notice was true, if the session began at this state, after the commands that had been
-- answered by then
abbrev pub AreTrue : Crossing → State → List Noted → Type 0
AreTrue crossing state noted = All (λ (note : Noted). IsTrueOf crossing (state_after state note.answered) note.notice) noted

-- The commands that count of all sessions (`Passes` of Exchanges.antt). Each session begins at the
-- state after those that count before it, and its notices were true there.
abbrev pub PassesTruly : Crossing → State → List Session → List Command → Type 0
PassesTruly crossing s [] counted = counted ≡ []
PassesTruly crossing s (session ∷ sessions) counted =
    (here : List Command) × (later : List Command) × (counted ≡ here ++ later) × Counts session.exchange s here × AreTrue crossing s session.noted
    × PassesTruly crossing (state_after s here) sessions later

-- ---- the wire between them

-- What ever went over the wire, which keeps it, repeats it and changes its order. These are the
-- jobs that the sender showed, its numbers that the receiver answered with one of its own or said
-- to have taken, and the numbers below which the sender said that it won't ask again.
pub record Wire : Type 0 where
  pub parcels : List Parcel
  pub answers : List ℕ
  pub said : List ℕ

abbrev pub nothing_sent : Wire
nothing_sent = record { parcels = []; answers = []; said = [] }

-- the sender's number, if the reply to a hand-in under its name is a number
abbrev pub answers_in : Crossing → Command → Reply → List ℕ
answers_in crossing (QueueOnce key new) reply = if same_text key.from crossing.from then map (λ number. key.number) (numbers_in (reply ∷ [])) else []
answers_in crossing command reply = []

-- what is on the wire after an event: what was noticed, and, of commands, only those that were
-- answered
abbrev pub after_event : Crossing → Wire → Event → Wire
after_event crossing wire (answered sender command reply) = wire
after_event crossing wire (answered receiver command reply) = record wire { answers = wire.answers ++ answers_in crossing command reply }
after_event crossing wire (stopped site in_hand unanswered ending) = wire
after_event crossing wire (noticed (waits parcel)) = record wire { parcels = wire.parcels ++ parcel ∷ [] }
after_event crossing wire (noticed (no_more below)) = record wire { said = wire.said ++ below ∷ [] }
after_event crossing wire (noticed (has number)) = record wire { answers = wire.answers ++ number ∷ [] }

-- a hand-in is that of a parcel on the wire: under its key, a job that the receiver's program makes
-- of it
pub record IsFromWire (crossing : Crossing) (wire : Wire) (key : Key) (new : NewJob) : Type 0 where
  pub parcel : Parcel
  pub there : Contains wire.parcels parcel
  pub key_is : key ≡ key_of crossing parcel
  pub made : crossing.makes parcel new ≡ true

-- The sender reports a job as gone to the receiver, or releases it, only if it was answered, or
-- said to be taken. The receiver hands in under the sender's name only what came over the wire, and
-- doesn't remove the sender. Both may be given any other command.
abbrev pub MayBeGiven : Crossing → Wire → Side → Command → Type 0
MayBeGiven crossing wire sender (Done system at jobs) = system ≡ crossing.to → All (Contains wire.answers) jobs
MayBeGiven crossing wire sender (Release system jobs) = system ≡ crossing.to → All (Contains wire.answers) jobs
MayBeGiven crossing wire sender command = ⊤
MayBeGiven crossing wire receiver (Remove name) = ¬ (name ≡ crossing.from)
MayBeGiven crossing wire receiver (QueueOnce key new) = key.from ≡ crossing.from → IsFromWire crossing wire key new
MayBeGiven crossing wire receiver command = ⊤

-- the command of an event does so, and each of those in hand at a stop
abbrev pub EventKeepsToWire : Crossing → Wire → Event → Type 0
EventKeepsToWire crossing wire (answered site command reply) = MayBeGiven crossing wire site command
EventKeepsToWire crossing wire (stopped site in_hand unanswered ending) = All (MayBeGiven crossing wire site) (take in_hand unanswered)
EventKeepsToWire crossing wire (noticed notice) = ⊤

-- each of the events keeps to what is on the wire before it
abbrev pub KeepsToWire : Crossing → Wire → List Event → Type 0
KeepsToWire crossing wire [] = ⊤
KeepsToWire crossing wire (event ∷ events) = EventKeepsToWire crossing wire event × KeepsToWire crossing (after_event crossing wire event) events

-- ---- what the receiver forgets

-- The receiver forgets only those of the sender's numbers that are below one that the sender has
-- said. (That jobs come once doesn't depend on this.)
abbrev pub MayForget : Crossing → Wire → Side → Command → Type 0
MayForget crossing wire receiver (Forget system below) = system ≡ crossing.from → (said : ℕ) × Contains wire.said said × (below ≤ said)
MayForget crossing wire site command = ⊤

-- the command of an event does so, and each of those in hand at a stop
abbrev pub ForgetsAsSaid : Crossing → Wire → Event → Type 0
ForgetsAsSaid crossing wire (answered site command reply) = MayForget crossing wire site command
ForgetsAsSaid crossing wire (stopped site in_hand unanswered ending) = All (MayForget crossing wire site) (take in_hand unanswered)
ForgetsAsSaid crossing wire (noticed notice) = ⊤

-- each of the events forgets only what was said before it
abbrev pub ForgetsWhatWasSaid : Crossing → Wire → List Event → Type 0
ForgetsWhatWasSaid crossing wire [] = ⊤
ForgetsWhatWasSaid crossing wire (event ∷ events) = ForgetsAsSaid crossing wire event × ForgetsWhatWasSaid crossing (after_event crossing wire event) events
