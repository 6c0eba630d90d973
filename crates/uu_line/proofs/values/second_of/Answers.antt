use Rattle.std.proofs.Common.{arith}
use Rattle.uu_line.specs.Internal.Entries.{most_second}
use Rattle.uu_line.proofs.LineLemmas.{numeral_of}
use Rattle.uu_line.proofs.values.second_of.Goals as goal

pub unreachable-requires : goal.unreachable-requires
unreachable-requires c = c.in-Err.ensures.value.0 (numeral_of 64 most_second c.args.text.now (omega arith) c.requires)
