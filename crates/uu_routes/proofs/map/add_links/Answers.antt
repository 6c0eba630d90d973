use Rattle.std.proofs.Common.{length, get_or, ap, ◌∙◌, arith}
use Rattle.uu_routes.specs.Map.{link_if}
use Rattle.uu_routes.proofs.Filtering.{filter_map_step}
use Rattle.uu_routes.proofs.map.add_links.Goals as goal

pub loop-link-preserved : goal.loop-link-preserved
loop-link-preserved c =
    filter_map_step (link_if c.args.entries.now c.args.entry.now.host) c.args.entry.now.links c.loop-link.link-index c.link-item.result c.args.found.now.items c.loop-link.found.items c.push_if.new.found.items c.in_ok-link.link
    (omega (arith, ap length c.as_slice-link-items.ensures)) (c.link-item.is ∙ ap (λ xs. get_or xs c.loop-link.link-index c.link-item.result) c.as_slice-link-items.ensures) c.loop-link.invariant c.in_ok-push_if.ensures c.in_ok-link.ensures
