use Rattle.std.proofs.Common.{◌≡◌, drop}
use Rattle.uu_check.specs.Walk.{walk}
use Rattle.uu_check.proofs.walk.walk_owners.Given as goal

abbrev pub invariant-loop-owner : goal.invariant-loop-owner
invariant-loop-owner g l = walk g.P.Owner.owns g.P.Owner.fits l.fn.owners l.fn.children ≡ walk g.P.Owner.owns g.P.Owner.fits (drop l.owner-index l.owners) l.rest
