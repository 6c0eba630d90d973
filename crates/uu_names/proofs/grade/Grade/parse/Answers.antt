-- Each arm is a range of the table.
use Rattle.std.proofs.Common.{◌≡◌, ◌+◌, ◌-◌, Some, None, ◌∙◌, arith}
use Rattle.std.proofs.lemmas.Bool.Decides.{nat_tests}
use Rattle.uu_names.specs.Grade.{rank_of}
use Rattle.uu_names.proofs.GradeTables.{rank_of_at}
use Rattle.uu_names.proofs.grade.Grade.parse.Goals as goal

pub returns-in-97-to-122 : goal.returns-in-97-to-122
returns-in-97-to-122 c =
    let e : rank_of c.args.byte ≡ Some (c.args.byte - 97 + 36) = rank_of_at c.args.byte (omega arith) ∙ grind (arith, nat_tests) in
    rw e

pub returns-in_default : goal.returns-in_default
returns-in_default c =
    let e : rank_of c.args.byte ≡ None = rank_of_at c.args.byte (omega arith) ∙ grind (arith, nat_tests) in
    rw e
