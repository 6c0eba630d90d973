use Rattle.std.proofs.Common.{◌∙◌, ap, get_or}
use Rattle.std.proofs.lemmas.List.{get_or_default}
use Rattle.uu_core.specs.declared.command.Command.TheVariants.{Entry}
use Rattle.uu_request.proofs.Lists.{items_grow}
use Rattle.uu_request.proofs.Places.{nowhere}
use Rattle.uu_request.specs.Requests.{bytes_at}
use Rattle.uu_request.proofs.maps.commands_at.Goals as goal

pub bytes_at-requires : goal.bytes_at-requires
bytes_at-requires c = c.requires c.loop-place.place-index nowhere c.loop-place-test.true

pub loop-place-preserved : goal.loop-place-preserved
loop-place-preserved c =
    let place = get_or c.args.places.now c.loop-place.place-index nowhere in
    items_grow (λ place. Entry (bytes_at c.args.text.now place)) c.args.places.now c.loop-place.place-index place c.loop-place.commands.items
    c.push.new.self.items (Entry c.from_vec.result) c.loop-place-test.true
    (get_or_default c.args.places.now c.loop-place.place-index nowhere place c.loop-place-test.true) c.loop-place.invariant
    (ap Entry (c.from_vec.ensures ∙ c.in_ok-bytes.ensures.items ∙ c.bytes_at.ensures)) c.in_ok-push.ensures.items
