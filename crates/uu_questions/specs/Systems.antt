-- Systems and the rows that they have in the tables.
use Rattle.std.specs.Prelude.{◌≡◌, ℕ, nat_eq, if◌then◌else◌, List, [], map, Option, None, Some}
use Rattle.uu_core.specs.declared.system.Outcome.{Outcome}
use Rattle.uu_core.specs.declared.system.Outcome.TheVariants.{Never, Failed, Done}
use Rattle.uu_core.specs.declared.system.SystemRow.{SystemRow}
use Rattle.uu_core.specs.State.{State, IsWellFormed}
use Rattle.uu_tables.specs.Tables.{system_columns}
use Rattle.uu_tables.specs.declared.rows.SystemColumns.{SystemColumns}

-- a spool that has only these systems
abbrev pub holding : List SystemRow → State
holding systems = record { jobs = []; systems = systems; entries = []; next = 1; links = [] }

-- The rows are exactly those of these systems, and a spool may have these systems.
pub record AreRowsOfSystems (made : List SystemRow) (systems : List SystemColumns) : Type 0 where
  pub good : IsWellFormed (holding made)
  pub are : map system_columns made ≡ systems

-- the outcome of this number and reason; of others it is any
abbrev pub outcome_from : ℕ → Option (List ℕ) → Outcome
outcome_from number (Some why) = Failed why
outcome_from number None = if nat_eq number 0 then Never else Done

abbrev pub row_from : SystemColumns → SystemRow
row_from s = record { def = s.def; call = record { last = s.call.last; failures = s.call.failures; wait = s.call.wait; outcome = outcome_from s.call.outcome s.call.why } }
