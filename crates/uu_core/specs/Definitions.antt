-- The definitions of a spool's systems: what an operator gets back from the sys files that were
-- loaded. (This project's choice.)
use Rattle.std.specs.Prelude.{ℕ, List, map, filter, Option, None, Some}
use Rattle.uu_times.specs.System.{System}
use Rattle.uu_core.specs.declared.system.SystemRow.{SystemRow}
use Rattle.uu_core.specs.State.{is_system}

-- those of all systems, or only that of the system of one name
abbrev pub definitions_of : Option (List ℕ) → List SystemRow → List System
definitions_of None rows = map (λ row. row.def) rows
definitions_of (Some name) rows = map (λ row. row.def) (filter (is_system name) rows)

-- all systems, or only that of one name
abbrev pub picked : Option (List ℕ) → List SystemRow → List SystemRow
picked None rows = rows
picked (Some name) rows = filter (is_system name) rows
