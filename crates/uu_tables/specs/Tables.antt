-- The tables of a state as plain lists of rows, in the machine's own order. (The tables and their
-- keys are this project's choice.)
use Rattle.std.specs.Prelude.{ℕ, zero, suc, List, [], ◌∷◌, length, map, Option, None, Some}
use Rattle.std.specs.List.{flat_map}
use Rattle.uu_times.specs.System.{System}
use Rattle.uu_times.specs.Printed.{sys_text}
use Rattle.uu_core.specs.declared.job.JobHead.{JobHead}
use Rattle.uu_core.specs.declared.system.CallState.{CallState}
use Rattle.uu_core.specs.declared.system.SystemRow.{SystemRow}
use Rattle.uu_core.specs.declared.system.Outcome.{Outcome}
use Rattle.uu_core.specs.declared.system.Outcome.TheVariants.{Never, Failed, Done}
use Rattle.uu_core.specs.declared.custody.Taken.{Taken}
use Rattle.uu_core.specs.State.{State, Job, MapEntry, Link, head_of}
use Rattle.uu_tables.specs.declared.rows.CallColumns.{CallColumns}
use Rattle.uu_tables.specs.declared.rows.SystemColumns.{SystemColumns}
use Rattle.uu_tables.specs.declared.rows.Body.{Body}
use Rattle.uu_tables.specs.declared.rows.BodySize.{BodySize}
use Rattle.uu_tables.specs.declared.rows.LinkColumns.{LinkColumns}
use Rattle.uu_tables.specs.declared.rows.TakenColumns.{TakenColumns}
use Rattle.uu_tables.specs.declared.rows.EntryColumns.{EntryColumns}

-- The number of the next job, and the rows of the other six tables.
pub record Tables : Type 0 where
  pub next : ℕ
  pub systems : List SystemColumns
  pub jobs : List JobHead
  pub bodies : List Body
  pub entries : List EntryColumns
  pub links : List LinkColumns
  pub taken : List TakenColumns

-- ---- systems

abbrev pub outcome_number : Outcome → ℕ
outcome_number Never = 0
outcome_number (Failed why) = 1
outcome_number Done = 2

abbrev pub reason_of : Outcome → Option (List ℕ)
reason_of Never = None
reason_of (Failed why) = Some why
reason_of Done = None

abbrev pub call_columns : CallState → CallColumns
call_columns call = record {
  last = call.last;
  failures = call.failures;
  wait = call.wait;
  outcome = outcome_number call.outcome;
  why = reason_of call.outcome;
}

abbrev pub system_columns : SystemRow → SystemColumns
system_columns row = record { def = row.def; call = call_columns row.call }

-- a definition as it is kept: the sys file of the system alone
unfoldable pub definition_text : System → List ℕ
definition_text def = sys_text (def ∷ [])

-- ---- links

-- the number below which a neighbour won't ask again, unless it is 0
abbrev pub links_from : List ℕ → ℕ → List LinkColumns
links_from name zero = []
links_from name (suc n) = record { system = name; below = suc n } ∷ []

abbrev pub links_of : Link → List LinkColumns
links_of link = links_from link.name link.below

abbrev pub taken_columns : List ℕ → Taken → TakenColumns
taken_columns name taken = record { system = name; taken = taken }

-- what was taken from a neighbour
abbrev pub taken_rows : Link → List TakenColumns
taken_rows link = map (taken_columns link.name) link.taken

-- ---- jobs

-- the bytes of a job, also if it has none
abbrev pub body_of : Job → Body
body_of job = record { job = job.number; bytes = job.bytes }

-- a body without its bytes
abbrev pub size_of : Body → BodySize
size_of body = record { job = body.job; length = length body.bytes }

-- ---- entries

abbrev pub entry_columns : MapEntry → EntryColumns
entry_columns entry = record { host = entry.host; bytes = entry.bytes }

-- ---- all of them

abbrev pub tables_of : State → Tables
tables_of s = record {
  next = s.next;
  systems = map system_columns s.systems;
  jobs = map head_of s.jobs;
  bodies = map body_of s.jobs;
  entries = map entry_columns s.entries;
  links = flat_map links_of s.links;
  taken = flat_map taken_rows s.links;
}
