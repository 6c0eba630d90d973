-- What a run of commands over a spool did: a list that was given request by request, until one
-- wasn't answered. A request is one command, or the commands of a bundle, which are done as one.
use Rattle.std.specs.declared.alloc.Global.{Global}
use Rattle.std.specs.Prelude.{◌≡◌, ◌⊎◌, ◌≤◌, ◌+◌, ℕ, List, [], ◌∷◌, length, take, Option, Some, None, Vec, Result, Ok, Err, ⊤}
use Rattle.sqlite.specs.Store.{Ghosts}
use Rattle.sqlite.specs.State as db
use Rattle.uu_core.specs.declared.command.Command.{Command}
use Rattle.uu_core.specs.declared.command.Reply.{Reply}
use Rattle.uu_core.specs.State.{State}
use Rattle.uu_core.specs.Run.{state_after, replies_to}
use Rattle.uu_schema.specs.declared.fault.StoreFault.{StoreFault}
use Rattle.uu_schema.specs.declared.fault.StoreFault.TheVariants.{Memory, Store, Failed, Foreign, Newer}
use Rattle.uu_store.specs.declared.spool.Spool.{Spool}
use Rattle.uu_schema.specs.Steps.{StaysUnclean}
use Rattle.uu_schema.specs.Encoded.{Leaves, LeavesEither}
use Rattle.uu_store.specs.Spool.{disk, Shows}

-- the run ended by itself or because memory ran out, so the spool can be used
abbrev pub GoesOn : Option StoreFault → Type 0
GoesOn None = ⊤
GoesOn (Some Memory) = ⊤
GoesOn (Some (Store kind)) = ⊥
GoesOn (Some Failed) = ⊥
GoesOn (Some Foreign) = ⊥
GoesOn (Some Newer) = ⊥

-- the commands with these replies: as many of the first ones as there are replies
abbrev pub answered_commands : List Reply → List Command → List Command
answered_commands replies commands = take (length replies) commands

-- What a run did if the spool showed a state: the commands that were answered were steps of the
-- machine, and the replies are its replies. The spool shows the state after them, and a stop leaves
-- that. If the store failed, a stop leaves that, or the state after the whole request in hand,
-- which has the next `in_hand` commands.
pub record RanFrom {S : Type 0} {g : Ghosts S} (in_hand : ℕ) (s : State) (commands : List Command) (new : Spool S g) (replies : List Reply) (stopped : Option StoreFault) : Type 0 where
  pub answers : replies ≡ replies_to s (answered_commands replies commands)
  pub shows : GoesOn stopped → Shows new (state_after s (answered_commands replies commands))
  pub stop : GoesOn stopped → Leaves (disk new) (state_after s (answered_commands replies commands))
  pub stop_store : LeavesEither (disk new) (state_after s (answered_commands replies commands)) (state_after s (take (length replies + in_hand) commands))

-- What a run did, for each state that the spool may have shown. Every command was answered, or the
-- request in hand is among those that weren't.
pub record Ran {S : Type 0} {g : Ghosts S} (in_hand : ℕ) (commands : List Command) (old new : Spool S g) (replies : List Reply) (stopped : Option StoreFault) : Type 0 where
  pub within : (length replies ≡ length commands) ⊎ (length replies + in_hand ≤ length commands)
  pub from : db.HasCleanDisk (disk new) → (s : State) → Shows old s → RanFrom in_hand s commands new replies stopped
  pub clean : StaysUnclean (disk old) (disk new)

-- ---- one call as a run: one command, a bundle, or a question, which is a run of no command

abbrev pub reply_in : Result Reply StoreFault → List Reply
reply_in (Ok reply) = reply ∷ []
reply_in (Err fault) = []

abbrev pub replies_in : Result (Vec Reply Global) StoreFault → List Reply
replies_in (Ok replies) = replies.items
replies_in (Err fault) = []

abbrev pub fault_in : {T : Type 0} → Result T StoreFault → Option StoreFault
fault_in (Ok answer) = None
fault_in (Err fault) = Some fault
