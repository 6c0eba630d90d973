use Rattle.std.proofs.Common.{rules}
use Rattle.uu_check.proofs.Rising.{links_rise}
use Rattle.uu_check.proofs.links.are_links.Goals as goal

pub may_all_be_asked-requires : goal.may_all_be_asked-requires
may_all_be_asked-requires c = links_rise c.args.systems.now c.args.links.now c.requires (search rules)
