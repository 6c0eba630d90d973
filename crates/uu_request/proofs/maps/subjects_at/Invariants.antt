use Rattle.std.proofs.Common.{◌≡◌, map, take}
use Rattle.uu_request.specs.Requests.{subject_at}
use Rattle.uu_request.proofs.maps.subjects_at.Given as goal

-- the subjects of the entries before this one
abbrev pub invariant-loop-place : goal.invariant-loop-place
invariant-loop-place l = l.subjects.items ≡ map (subject_at l.text) (take l.place-index l.places)
