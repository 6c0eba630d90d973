use Rattle.uu_adopt.proofs.EarlierVerdict.{tells}
use Rattle.uu_adopt.proofs.all_earlier.verdict_on.Goals as goal

pub returns-in_default-clause-verdict : goal.returns-in_default-clause-verdict
returns-in_default-clause-verdict c v trees old found = (λ yes. absurd (cc), λ no. c.earlier_rows_of.ensures.none c.in_default.is v trees old found)

pub returns-in-Ok-clause-verdict : goal.returns-in-Ok-clause-verdict
returns-in-Ok-clause-verdict c v trees old found = tells v old trees c.args.all.now found c.in-Some.rows c.in-Some.ensures.rows c.in-Ok.good c.in-Ok.ensures
