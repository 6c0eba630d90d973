-- Stretches of work over a store: each from an opening to a stop, and the next opening finds what
-- that stop may have left.
use Rattle.std.specs.Prelude.{◌≡◌, ◌⊎◌, ◌≤◌, List, [], ◌∷◌, ◌++◌, map, Option}
use Rattle.sqlite.specs.Tree.{Trees}
use Rattle.sqlite.specs.Store.{Ghosts}
use Rattle.sqlite.specs.Held.{Held, state}
use Rattle.sqlite.specs.View.{doubt, IsClean}
use Rattle.sqlite.specs.State as db
use Rattle.uu_schema.specs.Steps.{Rests}
use Rattle.uu_core.specs.declared.command.Command.{Command}
use Rattle.uu_core.specs.State.{State}
use Rattle.uu_core.specs.Run.{state_after}
use Rattle.uu_schema.specs.declared.fault.StoreFault.{StoreFault}
use Rattle.uu_store.specs.declared.spool.Spool.{Spool}
use Rattle.uu_schema.specs.Steps.{StaysUnclean}
use Rattle.uu_store.specs.Kept.{Stores, KeepsOnly}
use Rattle.uu_store.specs.Spool.{connection_of, disk, Shows}
use Rattle.uu_store.specs.Runs.{Ran}
use Rattle.uu_store.specs.Exchanges.{Exchange, none_given, given, Counts, Passes}

-- ---- the calls at both ends

-- a database was taken as a spool: it shows the state that was stored
pub record Adopted {S : Type 0} {g : Ghosts S} (was : Held S) (spool : Spool S g) : Type 0 where
  pub shows : db.HasCleanDisk (disk spool) → (s : State) → Rests (state g was) → Stores (state g was).now s → Shows spool s
  pub clean : StaysUnclean (state g was) (disk spool)

-- A database wasn't taken as a spool, or the store failed meanwhile: a stop leaves what keeps the
-- state.
pub record TurnedAway {S : Type 0} (g : Ghosts S) (was now : Held S) : Type 0 where
  pub stop : db.HasCleanDisk (state g now) → (s : State) → Rests (state g was) → Stores (state g was).now s → KeepsOnly (state g now).may_leave s
  pub clean : StaysUnclean (state g was) (state g now)

-- the store was let go, by calls after which a stop leaves nothing that it could not leave before
pub record IsLetGo {S : Type 0} (g : Ghosts S) (last stopped : S) : Type 0 where
  pub left : (trees : Trees) → g.recovers stopped trees → g.recovers last trees
  pub clean : doubt (g.view last).is_clean ≤ doubt (g.view stopped).is_clean

-- ---- one stretch

-- what was opened, what was given and answered, and the store as it stopped
pub record Stretch : Type 1 where
  pub S : Type 0
  pub store : Ghosts S
  pub opened : Held S
  pub exchange : Exchange
  pub stopped : S

abbrev pub opened_as : Stretch → db.State
opened_as it = state it.store it.opened

abbrev pub left_by : Stretch → Trees → Type 0
left_by it = it.store.recovers it.stopped

-- a stretch by its parts
abbrev pub stretch : {S : Type 0} → Ghosts S → Held S → Exchange → S → Stretch
stretch {S} g opened exchange stopped = record { S = S; store = g; opened = opened; exchange = exchange; stopped = stopped }

-- the database was taken as a spool, which ran the commands with this end
pub record Worked (it : Stretch) : Type 0 where
  pub begun : Spool it.S it.store
  pub ended : Spool it.S it.store
  pub fault : Option StoreFault
  pub ending : it.exchange.ending ≡ given fault
  pub adopted : Adopted it.opened begun
  pub ran : Ran it.exchange.in_hand it.exchange.commands begun ended it.exchange.replies fault
  pub let_go : IsLetGo it.store (connection_of ended).store it.stopped

-- the database wasn't taken as a spool, and no command was given
pub record Unworked (it : Stretch) : Type 0 where
  pub last : Held it.S
  pub turned_away : TurnedAway it.store it.opened last
  pub no_reply : it.exchange.replies ≡ []
  pub ending : it.exchange.ending ≡ none_given
  pub let_go : IsLetGo it.store last.store it.stopped

-- The database was taken and the commands were run, or it wasn't taken. Until the stop the disk
-- returned what was written.
pub record Passed (it : Stretch) : Type 0 where
  pub work : Worked it ⊎ Unworked it
  pub clean : IsClean (it.store.view it.stopped)

-- ---- stretches that follow one another

-- what an opening finds after a stop: a database at rest, whose trees the stop could leave
pub record Reopens (could_leave : Trees → Type 0) (found : db.State) : Type 0 where
  pub rests : Rests found
  pub live : db.IsLive found
  pub left : ∥ could_leave found.now.trees ∥₁

-- The stretches lead from what could be left before them to what an opening after the last one
-- finds. Nobody else writes: each opening finds what the stop before it could leave.
abbrev pub LeadTo : (Trees → Type 0) → List Stretch → db.State → Type 0
LeadTo could_leave [] found = Reopens could_leave found
LeadTo could_leave (it ∷ more) found = Reopens could_leave (opened_as it) × Passed it × LeadTo (left_by it) more found

abbrev pub exchanges : List Stretch → List Exchange
exchanges stretches = map (λ (it : Stretch). it.exchange) stretches

-- what was found stores the state after commands that count
abbrev pub StoresAfter : State → List Exchange → db.State → Type 0
StoresAfter s exchanges found = (counted : List Command) × Passes s exchanges counted × Rests found × Stores found.now (state_after s counted)

-- Each opening on the way, and the last one, found the state after the commands that count until
-- then. One choice of what counts serves all of them.
abbrev pub StoresThroughout : State → List Stretch → db.State → List Command → Type 0
StoresThroughout s [] found counted = (counted ≡ []) × Rests found × Stores found.now s
StoresThroughout s (it ∷ more) found counted =
    Rests (opened_as it) × Stores (opened_as it).now s × (here : List Command) × (later : List Command) × (counted ≡ here ++ later) × Counts it.exchange s here
    × StoresThroughout (state_after s here) more found later

abbrev pub AllStore : State → List Stretch → db.State → Type 0
AllStore s stretches found = (counted : List Command) × StoresThroughout s stretches found counted

-- the spool shows the state after commands that count
abbrev pub ShowsAfter : {S : Type 0} {g : Ghosts S} → State → List Exchange → Spool S g → Type 0
ShowsAfter s exchanges spool = (counted : List Command) × Passes s exchanges counted × Shows spool (state_after s counted)

-- ---- stretches over a store of one kind

pub record StretchOver (S : Type 0) : Type 0 where
  pub opened : Held S
  pub exchange : Exchange
  pub stopped : S

abbrev pub as_stretch : {S : Type 0} → Ghosts S → StretchOver S → Stretch
as_stretch {S} g it = record { S = S; store = g; opened = it.opened; exchange = it.exchange; stopped = it.stopped }

abbrev pub exchanges_over : {S : Type 0} → Ghosts S → List (StretchOver S) → List Exchange
exchanges_over g stretches = exchanges (map (as_stretch g) stretches)

-- stretches that began with what could be left of a state, and what an opening after the last one
-- found
pub record Led {S : Type 0} (g : Ghosts S) (s : State) (before : Held S) (stretches : List (StretchOver S)) (found : Held S) : Type 0 where
  pub kept : KeepsOnly (state g before).may_leave s
  pub led : LeadTo (state g before).may_leave (map (as_stretch g) stretches) (state g found)
