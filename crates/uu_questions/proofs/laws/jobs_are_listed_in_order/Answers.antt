use Rattle.uu_questions.proofs.DueRows.{fitting_in_order, fitting_same}
use Rattle.uu_questions.proofs.laws.jobs_are_listed_in_order.Goals as goal

pub returns : goal.returns
returns c = record { same = fitting_same; order = fitting_in_order }
