-- What a spool shows again after a fault was noted.
use Rattle.std.proofs.Common.{◌≡◌, Bool, false, sym, subst}
use Rattle.sqlite.specs.State as db
use Rattle.sqlite.specs.Store.{Ghosts}
use Rattle.sqlite.specs.Held.{Held, state}
use Rattle.uu_schema.specs.Steps.{Rests}
use Rattle.uu_core.specs.State.{State}
use Rattle.uu_schema.specs.declared.fault.StoreFault.{StoreFault}
use Rattle.uu_schema.specs.declared.fault.StoreFault.TheVariants.{Memory}
use Rattle.uu_store.specs.declared.spool.Spool.{Spool}
use Rattle.uu_schema.specs.Encoded.{Encodes}
use Rattle.uu_store.specs.Spool.{connection_of, disk, has_failed, Shows, IsFaultBetween}

pub noted_memory : (before afterwards : Bool) (fault : StoreFault) → IsFaultBetween before afterwards fault → fault ≡ Memory → afterwards ≡ false
noted_memory before afterwards fault between is = (subst (IsFaultBetween before afterwards) is between).1

pub shows_again : {S : Type 0} {g : Ghosts S} (spool : Spool S g) (h : Held S) (s : State) → connection_of spool ≡ h → has_failed spool ≡ false → Rests (state g h) → Encodes (state g h).now s → Shows spool s
shows_again {g} spool h s same usable rests enc = record {
  usable = usable;
  rests = subst (λ x. Rests (state g x)) (sym same) rests;
  encodes = subst (λ x. Encodes (state g x).now s) (sym same) enc;
}

pub clean_before : {S : Type 0} {g : Ghosts S} (spool : Spool S g) (h : Held S) → connection_of spool ≡ h → db.HasCleanDisk (disk spool) → db.HasCleanDisk (state g h)
clean_before {g} spool h same clean = subst (λ x. db.HasCleanDisk (state g x)) same clean
