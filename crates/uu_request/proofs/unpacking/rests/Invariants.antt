use Rattle.std.proofs.Common.{◌≡◌, map, take}
use Rattle.uu_names.specs.Path.{rest_of}
use Rattle.uu_request.proofs.unpacking.rests.Given as goal

-- the rests of the addresses before this one
abbrev pub invariant-loop-address : goal.invariant-loop-address
invariant-loop-address l = l.rests.items ≡ map rest_of (take l.address-index l.addresses)
