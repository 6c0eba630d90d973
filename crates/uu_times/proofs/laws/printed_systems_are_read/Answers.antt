use Rattle.std.proofs.Common.{arith, length-append, []}
use Rattle.uu_times.specs.Printed.{system_text}
use Rattle.uu_times.proofs.PrintedLengths.{length-system}
use Rattle.uu_times.proofs.PrintedSystems.{printed_read}
use Rattle.uu_times.proofs.laws.printed_systems_are_read.Goals as goal

pub returns : goal.returns
returns c = record {
  read = printed_read;
  short = λ system is. omega (arith, length-append (system_text system) [], length-system system is);
}
