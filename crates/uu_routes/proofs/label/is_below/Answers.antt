use Rattle.std.proofs.Common.{sym, ◌∙◌}
use Rattle.uu_routes.proofs.Order.{below_by}
use Rattle.uu_routes.proofs.label.is_below.Goals as goal

pub returns-in-Less : goal.returns-in-Less
returns-in-Less c =
    below_by c.args.base.now c.args.edge.now c.args.other.now c.as_slice-path.result.now c.as_slice-other_path.result.now c.cmp.result c.cmp-2.result _
    c.as_slice-path.ensures c.as_slice-other_path.ensures c.cmp.ensures c.cmp-2.ensures (sym c.in-Less.is ∙ c.then-order.ensures)

pub returns-in-Equal : goal.returns-in-Equal
returns-in-Equal c =
    c.is_path_below.ensures
    ∙ below_by c.args.base.now c.args.edge.now c.args.other.now c.as_slice-path.result.now c.as_slice-other_path.result.now c.cmp.result c.cmp-2.result _
    c.as_slice-path.ensures c.as_slice-other_path.ensures c.cmp.ensures c.cmp-2.ensures (sym c.in-Equal.is ∙ c.then-order.ensures)

pub returns-in-Greater : goal.returns-in-Greater
returns-in-Greater c =
    below_by c.args.base.now c.args.edge.now c.args.other.now c.as_slice-path.result.now c.as_slice-other_path.result.now c.cmp.result c.cmp-2.result _
    c.as_slice-path.ensures c.as_slice-other_path.ensures c.cmp.ensures c.cmp-2.ensures (sym c.in-Greater.is ∙ c.then-order.ensures)
