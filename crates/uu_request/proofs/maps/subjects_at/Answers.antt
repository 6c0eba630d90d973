use Rattle.std.proofs.Common.{get_or}
use Rattle.std.proofs.lemmas.List.{get_or_default}
use Rattle.uu_request.proofs.Lists.{items_grow}
use Rattle.uu_request.proofs.Places.{nowhere}
use Rattle.uu_request.specs.Requests.{subject_at}
use Rattle.uu_request.proofs.maps.subjects_at.Goals as goal

pub subject_at-requires : goal.subject_at-requires
subject_at-requires c = c.requires c.loop-place.place-index nowhere c.loop-place-test.true

pub loop-place-preserved : goal.loop-place-preserved
loop-place-preserved c =
    let place = get_or c.args.places.now c.loop-place.place-index nowhere in
    items_grow (subject_at c.args.text.now) c.args.places.now c.loop-place.place-index place c.loop-place.subjects.items
    c.push.new.self.items c.in_ok-subject.subject c.loop-place-test.true
    (get_or_default c.args.places.now c.loop-place.place-index nowhere place c.loop-place-test.true) c.loop-place.invariant
    c.in_ok-subject.ensures c.in_ok-push.ensures.items
