-- What a spool shows.
use Rattle.std.specs.Prelude.{◌≡◌, Bool, true, false, Option, Some, is_some, ⊤}
use Rattle.sqlite.specs.Store.{Ghosts}
use Rattle.sqlite.specs.Held.{Held, state}
use Rattle.sqlite.specs.State as db
use Rattle.uu_schema.specs.Steps.{Rests}
use Rattle.uu_core.specs.State.{State}
use Rattle.uu_schema.specs.declared.fault.StoreFault.{StoreFault}
use Rattle.uu_schema.specs.declared.fault.StoreFault.TheVariants.{Memory, Store, Failed, Foreign, Newer}
use Rattle.uu_schema.specs.declared.fault.StoreKind.{StoreKind}
use Rattle.uu_store.specs.declared.spool.Spool.{Spool}
use Rattle.uu_schema.specs.Encoded.{Encodes}

-- the connection that it owns
abbrev pub connection_of : {S : Type 0} {g : Ghosts S} → Spool S g → Held S
connection_of spool = spool.conn

-- what its connection shows, and what a stop may leave of it
abbrev pub disk : {S : Type 0} {g : Ghosts S} → Spool S g → db.State
disk {g} spool = state g (connection_of spool)

-- which part of the store failed, once a call answered that it failed
abbrev pub failure_of : {S : Type 0} {g : Ghosts S} → Spool S g → Option StoreKind
failure_of spool = spool.failure

-- a call answered that the store failed
abbrev pub has_failed : {S : Type 0} {g : Ghosts S} → Spool S g → Bool
has_failed spool = is_some (failure_of spool)

-- the spool can be used, and its database encodes the state
pub record Shows {S : Type 0} {g : Ghosts S} (spool : Spool S g) (s : State) : Type 0 where
  pub usable : has_failed spool ≡ false
  pub rests : Rests (disk spool)
  pub encodes : Encodes (disk spool).now s

-- which fault a call gives, depending on whether the spool had failed before and has failed
-- afterwards
abbrev pub IsFaultBetween : Bool → Bool → StoreFault → Type 0
IsFaultBetween before afterwards Memory = (before ≡ false) × (afterwards ≡ false)
IsFaultBetween before afterwards (Store kind) = (before ≡ false) × (afterwards ≡ true)
IsFaultBetween before afterwards Failed = (before ≡ true) × (afterwards ≡ true)
IsFaultBetween before afterwards Foreign = ⊥
IsFaultBetween before afterwards Newer = ⊥

-- a fault of the store is noted, with its kind
abbrev pub Notes : Option StoreKind → StoreFault → Type 0
Notes failure (Store kind) = failure ≡ Some kind
Notes failure Memory = ⊤
Notes failure Failed = ⊤
Notes failure Foreign = ⊤
Notes failure Newer = ⊤
