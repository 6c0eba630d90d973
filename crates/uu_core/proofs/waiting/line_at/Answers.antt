-- The first line of the limit's grade.
use Rattle.uu_core.proofs.WaitingLemmas.{line_found}
use Rattle.uu_core.proofs.waiting.line_at.Goals as goal

pub returns : goal.returns
returns c = line_found c.args.lines.now c.args.week c.in_ok-lowest.lowest _ c.in_ok-lowest.ensures c.first_of_grade.ensures
