-- The tables after a change. (This project's choice.)
use Rattle.std.specs.declared.cmp.Ordering.{Ordering}
use Rattle.std.specs.Ordering.{is_lt}
use Rattle.std.specs.Prelude.{ℕ, Bool, not, ◌==◌, ◌&&◌, nat_lt, List, [], ◌∷◌, ◌++◌, map, filter, if◌then◌else◌}
use Rattle.uu_times.specs.System.{System}
use Rattle.uu_core.specs.declared.job.JobHead.{JobHead}
use Rattle.uu_core.specs.State.{same_text}
use Rattle.uu_core.specs.After.{is_before, never_called}
use Rattle.uu_tables.specs.declared.rows.SystemColumns.{SystemColumns}
use Rattle.uu_tables.specs.declared.rows.Body.{Body}
use Rattle.uu_tables.specs.declared.rows.EntryColumns.{EntryColumns}
use Rattle.uu_tables.specs.declared.rows.LinkColumns.{LinkColumns}
use Rattle.uu_tables.specs.declared.rows.TakenColumns.{TakenColumns}
use Rattle.uu_tables.specs.declared.change.JobColumns.{JobColumns}
use Rattle.uu_tables.specs.declared.change.Change.{Change}
use Rattle.uu_tables.specs.declared.change.Change.TheVariants.{AddSystem, SetDefinition, SetCall, RemoveSystem, AddLink, RemoveLink, AddTaken, ForgetTaken, AddJob, SetGrade, SetQueued, RemoveJob, AddBody, RemoveEntry, AddEntry, SetNext}
use Rattle.uu_tables.specs.Tables.{Tables, system_columns, taken_columns}
use Rattle.uu_tables.specs.Order.{taken_cmp}

-- ---- changes of a list of rows

-- one more row, after those of its own name and of names before it
abbrev pub insert_by : {V : Type 0} → (V → List ℕ) → V → List V → List V
insert_by name row rows = filter (λ other. not (is_before name row other)) rows ++ row ∷ filter (λ other. is_before name row other) rows

-- one more row, after those of its own key and of keys before it
abbrev pub insert_at : {V : Type 0} → (V → V → Ordering) → V → List V → List V
insert_at order row rows = filter (λ other. not (is_lt (order row other))) rows ++ row ∷ filter (λ other. is_lt (order row other)) rows

-- one more row, after all others
abbrev pub append : {V : Type 0} → V → List V → List V
append row rows = rows ++ row ∷ []

-- the rows that pass the test change, and the others stay
abbrev pub alter : {V : Type 0} → (V → Bool) → (V → V) → List V → List V
alter test change rows = map (λ row. if test row then change row else row) rows

-- the rows that don't pass the test
abbrev pub without : {V : Type 0} → (V → Bool) → List V → List V
without test rows = filter (λ row. not (test row)) rows

-- ---- whose row it is

abbrev pub has_name : List ℕ → SystemColumns → Bool
has_name name row = same_text row.def.name name

abbrev pub is_link_of : List ℕ → LinkColumns → Bool
is_link_of name row = same_text row.system name

abbrev pub is_taken_of : List ℕ → TakenColumns → Bool
is_taken_of name row = same_text row.system name

-- it was taken from the neighbour under a number below this one
abbrev pub is_forgotten : List ℕ → ℕ → TakenColumns → Bool
is_forgotten name below row = is_taken_of name row && nat_lt row.taken.number below

abbrev pub has_number : ℕ → JobHead → Bool
has_number number row = row.number == number

abbrev pub is_body_of : ℕ → Body → Bool
is_body_of number row = row.job == number

abbrev pub is_about : List ℕ → EntryColumns → Bool
is_about host row = same_text row.host host

-- ---- rows that are added

-- a system that was never called
abbrev pub new_system : System → SystemColumns
new_system def = system_columns (record { def = def; call = never_called })

abbrev pub new_below : List ℕ → ℕ → LinkColumns
new_below name below = record { system = name; below = below }

abbrev pub new_job : ℕ → JobColumns → JobHead
new_job number columns = record {
  number = number;
  system = columns.system.now;
  grade = columns.grade;
  user = columns.user.now;
  kind = columns.kind.now;
  queued = columns.queued;
  size = columns.size;
}

abbrev pub new_body : ℕ → List ℕ → Body
new_body number all = record { job = number; bytes = all }

abbrev pub new_entry : List ℕ → List ℕ → EntryColumns
new_entry host text = record { host = host; bytes = text }

-- ---- the tables after one change

abbrev pub apply : Change → Tables → Tables
apply (AddSystem def) t = record t { systems = insert_by (λ row. row.def.name) (new_system def.now) t.systems }
apply (SetDefinition def) t = record t { systems = alter (has_name def.now.name) (λ row. record row { def = def.now }) t.systems }
apply (SetCall system call) t = record t { systems = alter (has_name system.now) (λ row. record row { call = call }) t.systems }
apply (RemoveSystem system) t =
    record t { systems = without (has_name system.now) t.systems; links = without (is_link_of system.now) t.links; taken = without (is_taken_of system.now) t.taken }
apply (AddLink system below) t = record t { links = insert_by (λ row. row.system) (new_below system.now below) t.links }
apply (RemoveLink system) t = record t { links = without (is_link_of system.now) t.links }
apply (AddTaken system taken) t = record t { taken = insert_at taken_cmp (taken_columns system.now taken) t.taken }
apply (ForgetTaken system below) t = record t { taken = without (is_forgotten system.now below) t.taken }
apply (AddJob number columns) t = record t { jobs = append (new_job number columns) t.jobs }
apply (SetGrade number grade) t = record t { jobs = alter (has_number number) (λ row. record row { grade = grade }) t.jobs }
apply (SetQueued number queued) t = record t { jobs = alter (has_number number) (λ row. record row { queued = queued }) t.jobs }
apply (RemoveJob number) t = record t { jobs = without (has_number number) t.jobs; bodies = without (is_body_of number) t.bodies }
apply (AddBody job bytes) t = record t { bodies = append (new_body job bytes.now) t.bodies }
apply (RemoveEntry host) t = record t { entries = without (is_about host) t.entries }
apply (AddEntry host bytes) t = record t { entries = insert_by (λ row. row.host) (new_entry host bytes.now) t.entries }
apply (SetNext next) t = record t { next = next }

-- some changes, one after the other
abbrev pub applied : List Change → Tables → Tables
applied [] t = t
applied (change ∷ changes) t = applied changes (apply change t)
