-- What a command of a spool does, and a bundle that is taken in.
use Rattle.std.specs.declared.alloc.Global.{Global}
use Rattle.std.specs.Prelude.{◌≡◌, Vec, Result, Err, IfOk}
use Rattle.sqlite.specs.Store.{Ghosts}
use Rattle.sqlite.specs.State.{HasCleanDisk}
use Rattle.uu_core.specs.declared.command.Command.{Command}
use Rattle.uu_core.specs.declared.command.Reply.{Reply}
use Rattle.uu_core.specs.State.{State}
use Rattle.uu_core.specs.declared.take_in.TakeIn.{TakeIn}
use Rattle.uu_core.specs.After.{after}
use Rattle.uu_core.specs.TakeIns.{after_take_in}
use Rattle.uu_schema.specs.declared.fault.StoreFault.{StoreFault}
use Rattle.uu_schema.specs.declared.fault.StoreFault.TheVariants.{Memory}
use Rattle.uu_schema.specs.Encoded.{LeavesEither}
use Rattle.uu_store.specs.declared.spool.Spool.{Spool}
use Rattle.uu_store.specs.Spool.{disk, Shows}

-- One step from a state to the next, with its answer, or nothing if memory runs out. With any
-- answer, a stop at its end leaves the state before it or the state after it.
pub record IsStep {S : Type 0} {g : Ghosts S} {R : Type 0} (s t : State) (IsReply : R → Type 0) (old new : Spool S g) (r : Result R StoreFault) : Type 0 where
  pub ok : HasCleanDisk (disk new) → Shows old s → IfOk r (λ reply. IsReply reply × Shows new t)
  pub memory : HasCleanDisk (disk new) → Shows old s → r ≡ Err Memory → Shows new s
  pub stop : HasCleanDisk (disk new) → Shows old s → LeavesEither (disk new) s t

-- a command is one step of the machine
abbrev pub IsCommandStep : {S : Type 0} {g : Ghosts S} → State → Command → Spool S g → Spool S g → Result Reply StoreFault → Type 0
IsCommandStep s command old new r = IsStep s (after s command).0 (λ reply. reply ≡ (after s command).1) old new r

-- a bundle is its commands, one after the other, as one step
abbrev pub IsTakingStep : {S : Type 0} {g : Ghosts S} → State → TakeIn → Spool S g → Spool S g → Result (Vec Reply Global) StoreFault → Type 0
IsTakingStep s bundle old new r = IsStep s (after_take_in s bundle).0 (λ replies. replies.items ≡ (after_take_in s bundle).1) old new r
