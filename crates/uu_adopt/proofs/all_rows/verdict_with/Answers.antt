use Rattle.uu_adopt.proofs.Verdict.{tells}
use Rattle.uu_adopt.proofs.all_rows.verdict_with.Goals as goal

pub returns-in_default-clause-verdict : goal.returns-in_default-clause-verdict
returns-in_default-clause-verdict c trees found jobs same heads = (λ yes. absurd (cc), λ no. c.rows_of.ensures.none c.in_default.is trees found)

pub returns-in-Ok-clause-verdict : goal.returns-in-Ok-clause-verdict
returns-in-Ok-clause-verdict c trees found jobs same heads = tells trees c.args.all.now found c.args.heads.now jobs same heads c.in-Some.rows c.in-Some.ensures.rows c.in-Ok.good c.in-Ok.ensures
