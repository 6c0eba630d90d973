use Rattle.uu_times.proofs.RuleOffsets.{days_by_rule, offset_by_rule}
use Rattle.uu_times.proofs.laws.rules_mean_what_posix_says.Goals as goal

pub returns-clause-days : goal.returns-clause-days
returns-clause-days c = days_by_rule

pub returns-clause-offset : goal.returns-clause-offset
returns-clause-offset c = offset_by_rule
