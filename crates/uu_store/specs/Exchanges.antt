-- What commands and replies say about a spool that is stopped and reopened any number of times.
use Rattle.std.specs.Prelude.{◌≡◌, ◌⊎◌, ℕ, List, [], ◌∷◌, ◌++◌, length, Option, ⊤}
use Rattle.uu_core.specs.declared.command.Command.{Command}
use Rattle.uu_core.specs.declared.command.Reply.{Reply}
use Rattle.uu_core.specs.State.{State}
use Rattle.uu_core.specs.Run.{state_after, replies_to}
use Rattle.uu_schema.specs.declared.fault.StoreFault.{StoreFault}
use Rattle.uu_store.specs.Runs.{GoesOn}

-- how a run of commands ended
pub data Ending : Type 0 where
  -- no spool was started, and no command was given
  none_given : Ending
  -- they were given one after the other; why the next one wasn't answered, unless all were
  given : Option StoreFault → Ending

-- The commands for a spool between an opening and the stop after it, the replies, the number of
-- commands of the request in hand at the stop, and how that ended.
pub record Exchange : Type 0 where
  pub commands : List Command
  pub replies : List Reply
  pub in_hand : ℕ
  pub ending : Ending

-- commands that a spool was given, with their replies, and why the next request, of so many
-- commands, wasn't answered
abbrev pub exchange_of : ℕ → List Command → List Reply → Option StoreFault → Exchange
exchange_of in_hand commands replies fault = record { commands = commands; replies = replies; in_hand = in_hand; ending = given fault }

-- commands for which no spool was started
abbrev pub not_given : List Command → Exchange
not_given commands = record { commands = commands; replies = []; in_hand = 1; ending = none_given }

-- no request was in hand at the stop: none was given, or the run ended by itself or because memory
-- ran out
abbrev pub HasNothingInHand : Ending → Type 0
HasNothingInHand none_given = ⊤
HasNothingInHand (given fault) = GoesOn fault

-- Which commands of an exchange count, if it began at a state: a prefix of them. The replies are
-- the machine's to this prefix. If the store failed, they may be its replies to the prefix without
-- the request in hand at the stop, which counts whole or not at all.
pub record Counts (it : Exchange) (s : State) (counted : List Command) : Type 0 where
  pub rest : List Command
  pub prefix : it.commands ≡ counted ++ rest
  pub unheard : List Reply
  pub whole : (unheard ≡ []) ⊎ (length unheard ≡ it.in_hand)
  pub settled : HasNothingInHand it.ending → unheard ≡ []
  pub answers : replies_to s counted ≡ it.replies ++ unheard

-- the commands that count of all exchanges; each exchange begins at the state after those that
-- count before it
abbrev pub Passes : State → List Exchange → List Command → Type 0
Passes s [] counted = counted ≡ []
Passes s (it ∷ more) counted =
    (here : List Command) × (later : List Command) × (counted ≡ here ++ later) × Counts it s here × Passes (state_after s here) more later
