use Rattle.std.proofs.Common.{ap, arith}
use Rattle.std.specs.Ordering.{is_lt}
use Rattle.uu_routes.proofs.Order.{split_compared}
use Rattle.uu_routes.proofs.label.is_path_below.Goals as goal

pub returns : goal.returns
returns c =
    let same = split_compared c.args.path.now c.args.other.now c.split_at.result.0.now c.split_at.result.1.now c.args.to
    c.split_at.ensures.front_len (omega (arith, c.split_at.ensures.back_len, c.requires)) c.split_at.ensures.by_index.0 in
    rw (c.is_lt.ensures, c.then.ensures, c.cmp.ensures, c.cmp-2.ensures) (ap is_lt same)
