use Rattle.std.proofs.Common.{◌≡◌, map}
use Rattle.uu_questions.specs.Systems.{row_from}
use Rattle.uu_questions.proofs.systems.rows_from.Given as goal

abbrev pub invariant-loop-columns : goal.invariant-loop-columns
invariant-loop-columns l = l.rows.items ≡ map row_from l.yielded
