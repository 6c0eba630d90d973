-- Two spools over files, the first of which hands its jobs on to the other: the premises about their
-- history.
use Rattle.std.specs.Prelude.{◌≡◌, List, [], ◌∷◌, ⊤}
use Rattle.sqlite_wal.specs.Recovery.{Image}
use Rattle.uu_core.specs.State.{State, link_of, new_link}
use Rattle.uu_handover.specs.Custody.{Crossing}
use Rattle.uu_store.specs.Openings.{ImageKeeps}
use Rattle.uu_store.specs.Files.{FileStretch}
use Rattle.uu_custody.specs.Events.{Event, Session, AreTrue, nothing_sent, KeepsToWire}

-- The history keeps to the wire, and it is the first between the two: the receiver keeps nothing
-- from the sender yet.
pub record IsHandover (crossing : Crossing) (b : State) (events : List Event) : Type 0 where
  pub nothing_kept : link_of b crossing.from ≡ new_link crossing.from
  pub keeps : KeepsToWire crossing nothing_sent events

-- The notices of a site are what its spool showed: those of each session are true of any state that
-- the files kept before the stretch.
abbrev pub WereShownInFiles : Crossing → Image → List Session → List FileStretch → Type 0
WereShownInFiles crossing before [] stretches = ⊤
WereShownInFiles crossing before (session ∷ sessions) [] = ⊤
WereShownInFiles crossing before (session ∷ sessions) (it ∷ more) =
    ((s : State) → ImageKeeps before s → AreTrue crossing s session.noted) × WereShownInFiles crossing it.left sessions more
