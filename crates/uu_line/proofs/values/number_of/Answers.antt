use Rattle.std.proofs.Common.{arith}
use Rattle.uu_line.specs.Internal.Entries.{most_job}
use Rattle.uu_line.proofs.LineLemmas.{numeral_of}
use Rattle.uu_line.proofs.values.number_of.Goals as goal

pub unreachable-requires : goal.unreachable-requires
unreachable-requires c = c.in-Err.ensures.value.0 (numeral_of 32 most_job c.args.text.now (omega arith) c.requires)
