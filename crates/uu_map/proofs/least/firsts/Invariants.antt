use Rattle.std.proofs.Common.{◌≡◌, ◌++◌, None, map, drop}
use Rattle.std.specs.Prelude.{option_copied}
use Rattle.uu_map.specs.Internal.Ranking.{as_link, firsts_after}
use Rattle.uu_map.proofs.least.firsts.Given as goal

abbrev pub invariant-loop-link : goal.invariant-loop-link
invariant-loop-link l = map as_link l.ranked.items ++ firsts_after (option_copied l.before) (drop l.link-index l.links) ≡ firsts_after None l.links
