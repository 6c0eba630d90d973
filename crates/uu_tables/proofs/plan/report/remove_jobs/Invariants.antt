use Rattle.std.proofs.Common.{◌≡◌, take}
use Rattle.uu_tables.specs.Tables.{Tables}
use Rattle.uu_tables.specs.Changes.{applied}
use Rattle.uu_tables.specs.Parts.{without_jobs}
use Rattle.uu_tables.proofs.plan.report.remove_jobs.Given as goal

abbrev pub invariant-loop-number : goal.invariant-loop-number
invariant-loop-number l = (t : Tables) → applied l.changes.items t ≡ without_jobs (take l.number-index l.numbers) (applied l.initial.changes.items t)
