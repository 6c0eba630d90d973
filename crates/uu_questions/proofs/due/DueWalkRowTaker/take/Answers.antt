use Rattle.std.proofs.Common.{ap, ◌∙◌}
use Rattle.uu_questions.specs.Dues.{with_due}
use Rattle.uu_questions.proofs.due.DueWalkRowTaker.take.Goals as goal

pub returns : goal.returns
returns c may due row left =
    let same = c.in_ok-due.ensures.due due row in
    let it = c.in_ok-offer.ensures may left in (it.0, it.1 ∙ ap (with_due may c.args.self.now.dues.items) same)
