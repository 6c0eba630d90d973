use Rattle.std.proofs.Common.{◌≡◌, ◌++◌, length, map}
use Rattle.std.specs.Vec.Iter.{into_iter_items, into_iter_len}
use Rattle.uu_request.specs.Unpacking.{offered}
use Rattle.uu_request.proofs.unpacking.offers_of.Given as goal

-- the offers of the jobs that were gone over
abbrev pub invariant-loop-parcel : goal.invariant-loop-parcel
invariant-loop-parcel l = record {
  jobs : l.yielded ++ into_iter_items l.parcel-iterator ≡ into_iter_items l.initial.parcel-iterator;
  left : into_iter_len l.parcel-iterator ≡ length (into_iter_items l.parcel-iterator);
  offers : l.offers.items ≡ map (offered l.settings l.at l.sender l.onward) l.yielded;
}
