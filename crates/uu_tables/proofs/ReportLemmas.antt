-- Calls that are reported, and jobs that go with them.
use Rattle.std.proofs.Common.{◌≡◌, ◌≤◌, ℕ, ◌==◌, ◌||◌, Bool, true, false, not, length, nat_lt, is_some, IfSome, List, [], ◌∷◌, ◌++◌, map, find, Option, Some, None, Result, Ok, Err, IfOk, refl, sym, ap, ◌∙◌, arith}
use Rattle.std.specs.List.{AllByRecursion, flat_map, list_any}
use Rattle.std.proofs.lemmas.Bool.Decides.{nat_tests}
use Rattle.std.proofs.lemmas.List.Folds.{list_any-append}
use Rattle.uu_names.proofs.Basics.{AllPairsByRecursion, all_weaker, find_any, find_none, is_some-find}
use Rattle.uu_times.specs.System.{AreWithinLimits}
use Rattle.uu_times.specs.declared.moment.Moment.{Moment}
use Rattle.uu_core.specs.declared.command.Command.TheVariants.{Failed, Done}
use Rattle.uu_core.specs.declared.refusal.Refusal.{Refusal}
use Rattle.uu_core.specs.declared.system.CallState.{CallState}
use Rattle.uu_core.specs.declared.system.SystemRow.{SystemRow}
use Rattle.uu_core.specs.declared.refusal.Refusal.TheVariants.{NoSystem, TooLarge, NoJob, JobTwice, OtherSystem}
use Rattle.uu_core.specs.declared.job.JobHead.{JobHead}
use Rattle.uu_core.specs.Refusal.{first_reason, value_unless, decided}
use Rattle.uu_core.specs.Verdict.{verdict, done_reasons, is_missing_one, has_repeat, has_other}
use Rattle.uu_core.specs.State.{State, Job, head_of, is_system, system_at, has_system, most_wait}
use Rattle.uu_core.specs.Waiting.{one_more}
use Rattle.uu_core.specs.After.{accept, failed_call, failed_decision, done_call, done_call_of, is_among}
use Rattle.uu_tables.specs.declared.change.Change.TheVariants.{RemoveJob}
use Rattle.uu_tables.specs.declared.rows.CallColumns.{CallColumns}
use Rattle.uu_tables.specs.Tables.{Tables, tables_of, call_columns, system_columns, body_of}
use Rattle.uu_tables.specs.Changes.{alter, apply, without, has_name}
use Rattle.uu_tables.specs.Parts.{without_jobs, is_one_of}
use Rattle.uu_tables.proofs.RowLemmas.{altered, dropped, gone_twice, none_gone}
use Rattle.uu_tables.proofs.OrderLemmas.{before, only_one, agree}
use Rattle.uu_tables.proofs.WaitLemmas.{wait_within}

-- ---- jobs that go one after the other

one_more_number : (numbers : List ℕ) (number job : ℕ) → is_one_of (numbers ++ number ∷ []) job ≡ is_one_of numbers job || job == number
one_more_number numbers number job = list_any-append (λ n. n == job) numbers (number ∷ []) ∙ ap (λ b. is_one_of numbers job || b) (turned number job)
  where
    turned : (a b : ℕ) → list_any (λ n. n == b) (a ∷ []) ≡ (b == a)
    turned a b = grind (arith, nat_tests)

pub one_job_more : (numbers : List ℕ) (number : ℕ) (t : Tables) → apply (RemoveJob number) (without_jobs numbers t) ≡ without_jobs (numbers ++ number ∷ []) t
one_job_more numbers number t = λ i. record t {
  jobs = gone_twice (λ row. is_one_of numbers row.number) (λ row. row.number == number) (λ row. is_one_of (numbers ++ number ∷ []) row.number) (λ row. one_more_number numbers number row.number) t.jobs i;
  bodies = gone_twice (λ row. is_one_of numbers row.job) (λ row. row.job == number) (λ row. is_one_of (numbers ++ number ∷ []) row.job) (λ row. one_more_number numbers number row.job) t.bodies i;
}

pub no_job_less : (t : Tables) → t ≡ without_jobs [] t
no_job_less t = λ i. record t { jobs = sym (none_gone t.jobs) i; bodies = sym (none_gone t.bodies) i }

-- ---- calls

-- the tables with these calls of the system
abbrev pub with_call : List ℕ → CallState → Tables → Tables
with_call name call t = record t { systems = alter (has_name name) (λ row. record row { call = call_columns call }) t.systems }

-- columns that are those of some calls make these the system's
pub call_made : (s : State) (name : List ℕ) (columns : CallColumns) (given call : CallState) → columns ≡ call_columns given → given ≡ call → record (tables_of s) { systems = alter (has_name name) (λ row. record row { call = columns }) (tables_of s).systems } ≡ with_call name call (tables_of s)
call_made s name columns given call is same = ap (λ these. record (tables_of s) { systems = alter (has_name name) (λ row. record row { call = these }) (tables_of s).systems }) (is ∙ ap call_columns same)

-- the systems with these calls of one
abbrev pub called : List ℕ → CallState → List SystemRow → List SystemRow
called name call rows = alter (is_system name) (λ row. record row { call = call }) rows

pub call_is_set : (s : State) (name : List ℕ) (call : CallState) → with_call name call (tables_of s) ≡ tables_of (record s { systems = called name call s.systems })
call_is_set s name call = λ i. record (tables_of s) {
  systems = altered system_columns (is_system name) (has_name name) (λ row. record row { call = call }) (λ row. record row { call = call_columns call }) (λ row. refl) (λ row. refl) s.systems i;
}

pub jobs_are_gone : (s : State) (numbers : List ℕ) → without_jobs numbers (tables_of s) ≡ tables_of (record s { jobs = without (is_among numbers) s.jobs })
jobs_are_gone s numbers = λ i. record (tables_of s) {
  jobs = dropped head_of (is_among numbers) (λ row. is_one_of numbers row.number) (λ job. refl) s.jobs i;
  bodies = dropped body_of (is_among numbers) (λ row. is_one_of numbers row.job) (λ job. refl) s.jobs i;
}

-- the calls of one system, which is found, change as those of each of its name would
one_called : (s : State) (name : List ℕ) (change : SystemRow → CallState) (row : SystemRow) → AllPairsByRecursion (before (λ r. r.def.name)) s.systems → find (is_system name) s.systems ≡ Some row
    → with_call name (change row) (tables_of s) ≡ tables_of (record s { systems = alter (is_system name) (λ r. record r { call = change r }) s.systems })
one_called s name change row ordered found =
    call_is_set s name (change row) ∙ ap (λ rows. tables_of (record s { systems = rows })) (agree (is_system name) (λ r. record r { call = change row }) (λ r. record r { call = change r }) s.systems each)
  where
    each : AllByRecursion (λ r. is_system name r ≡ true → record r { call = change row } ≡ record r { call = change r }) s.systems
    each = all_weaker (λ r. is_system name r ≡ true → r ≡ row) (λ r. is_system name r ≡ true → record r { call = change row } ≡ record r { call = change r }) (λ r one own. ap (λ x. record r { call = change x }) (sym (one own))) s.systems (only_one (λ r. r.def.name) name s.systems ordered row found)

pub done : (s : State) (name : List ℕ) (at : Moment) (numbers : List ℕ) (row : SystemRow) → AllPairsByRecursion (before (λ r. r.def.name)) s.systems → find (is_system name) s.systems ≡ Some row → without_jobs numbers (with_call name (done_call row at) (tables_of s)) ≡ tables_of (accept s (Done name at numbers))
done s name at numbers row ordered found =
    ap (without_jobs numbers) (one_called s name (λ r. done_call r at) row ordered found) ∙ jobs_are_gone (record s { systems = alter (is_system name) (λ r. record r { call = done_call r at }) s.systems }) numbers

failed : (s : State) (name : List ℕ) (at : Moment) (why : List ℕ) (row : SystemRow) → AllPairsByRecursion (before (λ r. r.def.name)) s.systems → find (is_system name) s.systems ≡ Some row → with_call name (failed_call row at why) (tables_of s) ≡ tables_of (accept s (Failed name at why))
failed s name at why row ordered found = one_called s name (λ r. failed_call r at why) row ordered found

-- ---- the wait after a call that failed

pub wait_is_within : (o : Option SystemRow) (at : Moment) (why : List ℕ) (result : Result CallState Refusal) → result ≡ failed_decision o at why → IfSome o (λ row. AreWithinLimits row.def.lines row.def.max_retries row.def.success_wait) → IfOk result (λ call. call.wait ≤ most_wait)
wait_is_within None at why result is limits = rw is tt
wait_is_within (Some row) at why result is limits = rw is (wait_within row.def at.week (one_more row.call.failures) limits)

-- ---- what is decided on a call that failed

failure_accepted : (o : Option SystemRow) (at : Moment) (why : List ℕ) (call : CallState) → failed_decision o at why ≡ Ok call → (row : SystemRow) × (o ≡ Some row) × (failed_call row at why ≡ call)
failure_accepted None at why call e = absurd (cc)
failure_accepted (Some row) at why call e = (row, refl, cc)

failure_refused : (o : Option SystemRow) (at : Moment) (why : List ℕ) (refusal : Refusal) → failed_decision o at why ≡ Err refusal → (o ≡ None) × (NoSystem ≡ refusal)
failure_refused None at why refusal e = (refl, cc)
failure_refused (Some row) at why refusal e = absurd (cc)

known_system : (s : State) (name : List ℕ) (at : Moment) (why : List ℕ) (row : SystemRow) → system_at s name ≡ Some row → verdict s (Failed name at why) ≡ None
known_system s name at why row found = ap (λ known. first_reason ((not known, NoSystem) ∷ [])) (find_any (is_system name) s.systems row found)

unknown_system : (s : State) (name : List ℕ) (at : Moment) (why : List ℕ) → system_at s name ≡ None → verdict s (Failed name at why) ≡ Some NoSystem
unknown_system s name at why missing = ap (λ known. first_reason ((not known, NoSystem) ∷ [])) (find_none (is_system name) s.systems missing)

-- a call that failed of a known system is accepted, and its columns are set
pub failed_is_set : (s : State) (name : List ℕ) (at : Moment) (why : List ℕ) (o : Option SystemRow) (call : CallState) (columns : CallColumns) → AllPairsByRecursion (before (λ r. r.def.name)) s.systems → o ≡ system_at s name → failed_decision o at why ≡ Ok call → columns ≡ call_columns call
    → (verdict s (Failed name at why) ≡ None) × (record (tables_of s) { systems = alter (has_name name) (λ row. record row { call = columns }) (tables_of s).systems } ≡ tables_of (accept s (Failed name at why)))
failed_is_set s name at why o call columns ordered facts decided is =
    let known = failure_accepted o at why call decided in
    let found : system_at s name ≡ Some known.0 = sym facts ∙ known.1 in
    (known_system s name at why known.0 found, call_made s name columns call (failed_call known.0 at why) is (sym known.2) ∙ failed s name at why known.0 ordered found)

-- one of an unknown system is refused
pub failed_is_refused : (s : State) (name : List ℕ) (at : Moment) (why : List ℕ) (o : Option SystemRow) (refusal : Refusal) → o ≡ system_at s name → failed_decision o at why ≡ Err refusal → verdict s (Failed name at why) ≡ Some refusal
failed_is_refused s name at why o refusal facts decided =
    let unknown = failure_refused o at why refusal decided in
    unknown_system s name at why (sym facts ∙ unknown.0) ∙ ap Some unknown.1

-- ---- what is decided on a call that went well

-- its wait is a year at most
pub success_wait_is_within : (o : Option SystemRow) (at : Moment) (result : Result CallState Refusal) (reasons : List (Bool × Refusal)) → result ≡ decided reasons (done_call_of o at) → IfSome o (λ row. AreWithinLimits row.def.lines row.def.max_retries row.def.success_wait) → IfOk result (λ call. call.wait ≤ most_wait)
success_wait_is_within o at result reasons is within = by_first o (first_reason reasons) is within
  where
    by_first : (o : Option SystemRow) (refusal : Option Refusal) → result ≡ value_unless refusal (done_call_of o at) → IfSome o (λ row. AreWithinLimits row.def.lines row.def.max_retries row.def.success_wait) → IfOk result (λ call. call.wait ≤ most_wait)
    by_first None None is within = rw is (omega arith)
    by_first (Some row) None is within = rw is within.3
    by_first o (Some refusal) is within = rw is tt

-- if it is accepted, the system is known, and its calls are those
pub done_is_found : (o : Option SystemRow) (at : Moment) (call : CallState) (name : List ℕ) (numbers : List ℕ) (heads : List JobHead) → first_reason (done_reasons (is_some o) name numbers heads) ≡ None → done_call_of o at ≡ call → (row : SystemRow) × (o ≡ Some row) × (done_call row at ≡ call)
done_is_found None at call name numbers heads none is = absurd (no_none (nat_lt 256 (length numbers)) none)
  where
    no_none : (many : Bool) → first_reason ((many, TooLarge) ∷ (true, NoSystem) ∷ (is_missing_one numbers heads, NoJob) ∷ (has_repeat numbers, JobTwice) ∷ (has_other name numbers heads, OtherSystem) ∷ []) ≡ None → ⊥
    no_none true h = cc
    no_none false h = cc
done_is_found (Some row) at call name numbers heads none is = (row, refl, is)

pub is_known : (s : State) (name : List ℕ) (o : Option SystemRow) → o ≡ system_at s name → is_some o ≡ has_system s name
is_known s name o is = ap is_some is ∙ is_some-find (is_system name) s.systems
