use Rattle.std.specs.Option.{option_copied}
use Rattle.uu_tables.proofs.ReportLemmas.{wait_is_within}
use Rattle.uu_tables.proofs.plan.report.failed_call.Goals as goal

pub returns-clause-wait : goal.returns-clause-wait
returns-clause-wait c = wait_is_within (option_copied c.args.row) c.args.at.now c.args.why c.decide_failed.result c.decide_failed.ensures c.definitions_are_within_limits.ensures
