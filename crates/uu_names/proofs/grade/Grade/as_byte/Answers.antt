-- Each arm is a range of the table.
use Rattle.std.proofs.Common.{arith}
use Rattle.std.proofs.lemmas.Bool.Decides.{nat_tests}
use Rattle.uu_names.proofs.GradeTables.{grade_bytes_is, rank_of_letter}
use Rattle.uu_names.proofs.grade.Grade.as_byte.Goals as goal

pub returns-in_default-clause-letter : goal.returns-in_default-clause-letter
returns-in_default-clause-letter c =
    grade_bytes_is c.self.inside.rank _ _ c.self.view_is c.self.invariant (grind (arith, nat_tests))

pub returns-in_default-clause-reads_back : goal.returns-in_default-clause-reads_back
returns-in_default-clause-reads_back c =
    rank_of_letter c.self.inside.rank _ _ c.self.view_is c.self.invariant (grind (arith, nat_tests))

pub returns-in-10-to-35-clause-letter : goal.returns-in-10-to-35-clause-letter
returns-in-10-to-35-clause-letter c =
    grade_bytes_is c.self.inside.rank _ _ c.self.view_is c.self.invariant (grind (arith, nat_tests))
