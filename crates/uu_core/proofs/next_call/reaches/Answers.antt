-- The limit is the lowest grade of the lines that are open.
use Rattle.std.proofs.Common.{◌∙◌}
use Rattle.uu_core.proofs.NextCallLemmas.{reached_by_one}
use Rattle.uu_core.proofs.next_call.reaches.Goals as goal

pub returns : goal.returns
returns c = c.is_one_open_for.ensures ∙ reached_by_one c.args.lines.now c.args.week c.args.grade
