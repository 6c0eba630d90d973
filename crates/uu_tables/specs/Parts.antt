-- The tables after parts of a plan: several changes, one after the other.
use Rattle.std.specs.Prelude.{ℕ, ◌+◌, Bool, true, false, ◌==◌, List}
use Rattle.std.specs.List.{list_any}
use Rattle.uu_times.specs.System.{System}
use Rattle.uu_core.specs.declared.custody.Key.{Key}
use Rattle.uu_core.specs.declared.job.NewJob.{NewJob}
use Rattle.uu_core.specs.State.{head_of}
use Rattle.uu_core.specs.After.{job_of}
use Rattle.uu_tables.specs.Tables.{Tables, body_of, taken_columns}
use Rattle.uu_tables.specs.Order.{taken_cmp}
use Rattle.uu_tables.specs.Changes.{insert_by, insert_at, append, alter, without, has_name, new_system}

-- the tables with a job that is handed in, under this number
abbrev pub with_new_job : ℕ → NewJob → Tables → Tables
with_new_job number job t = record t { next = number + 1; jobs = append (head_of (job_of number job)) t.jobs; bodies = append (body_of (job_of number job)) t.bodies }

-- the tables with a key, and the number of its job here
abbrev pub with_new_key : Key → ℕ → Tables → Tables
with_new_key key number t = record t { taken = insert_at taken_cmp (taken_columns key.from (record { number = key.number; mark = key.mark; job = number })) t.taken }

-- a job's number is among these
abbrev pub is_one_of : List ℕ → ℕ → Bool
is_one_of numbers job = list_any (λ number. number == job) numbers

-- the tables without the jobs of these numbers
abbrev pub without_jobs : List ℕ → Tables → Tables
without_jobs numbers t = record t { jobs = without (λ row. is_one_of numbers row.number) t.jobs; bodies = without (λ row. is_one_of numbers row.job) t.bodies }

-- the tables with a definition; a known system keeps its calls
abbrev pub with_definition : Bool → System → Tables → Tables
with_definition true def t = record t { systems = alter (has_name def.name) (λ row. record row { def = def }) t.systems }
with_definition false def t = record t { systems = insert_by (λ row. row.def.name) (new_system def) t.systems }
