-- Two questions of one spool, one after the other.
use Rattle.std.proofs.Common.{◌≡◌, Bool, false, sym, subst, ◌∙◌, arith}
use Rattle.sqlite.specs.Store.{Ghosts}
use Rattle.sqlite.specs.State.{HasCleanDisk}
use Rattle.uu_schema.specs.Steps.{StaysUnclean}
use Rattle.uu_schema.specs.declared.fault.StoreFault.{StoreFault}
use Rattle.uu_store.specs.Spool as spool
use Rattle.uu_store.specs.declared.spool.Spool.{Spool}

-- a disk that is clean after a call was so before it
pub clean_before : {S : Type 0} {g : Ghosts S} (old new : Spool S g) → StaysUnclean (spool.disk old) (spool.disk new) → HasCleanDisk (spool.disk new) → HasCleanDisk (spool.disk old)
clean_before old new later clean = omega (arith, later, clean)

-- a fault of the second call is marked as one of both
pub marked_later : (before mid after : Bool) (why : StoreFault) → before ≡ false → mid ≡ false → spool.IsFaultBetween mid after why → spool.IsFaultBetween before after why
marked_later before mid after why was is marked = subst (λ (b : Bool). spool.IsFaultBetween b after why) (is ∙ sym was) marked
