use Rattle.std.proofs.Common.{◌≡◌, ◌∷◌, map, take}
use Rattle.uu_core.specs.declared.subject.Subject.TheVariants.{Parcel, Site}
use Rattle.uu_request.proofs.unpacking.subjects_of.Given as goal

-- the sender, and the numbers of the jobs before this one
abbrev pub invariant-loop-parcel : goal.invariant-loop-parcel
invariant-loop-parcel l = l.subjects.items ≡ Site l.sender ∷ map (λ parcel. Parcel parcel.number) (take l.parcel-index l.jobs)
