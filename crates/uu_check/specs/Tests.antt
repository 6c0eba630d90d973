-- The checks of the rows, one after the other.
use Rattle.std.specs.Prelude.{ℕ, ◌+◌, ◌-◌, min, Bool, true, false, not, ◌&&◌, ◌||◌, ◌==◌, nat_le, nat_lt, List, [], ◌∷◌, length, Option, None, Some, Result, Ok, Err}
use Rattle.std.specs.List.{list_all, list_any}
use Rattle.std.specs.Ordering.{is_lt, nat_cmp}
use Rattle.std.specs.Cmp.Lexicographic.{slice_cmp}
use Rattle.uu_names.specs.Grade.{grade_count}
use Rattle.uu_names.specs.Name.{is_site_name, is_word}
use Rattle.uu_times.specs.Ranges.{week_minutes}
use Rattle.uu_times.specs.System.{most_lines, most_retry_minutes, most_retries, most_success_wait}
use Rattle.uu_core.specs.declared.job.Kind.{Kind}
use Rattle.uu_core.specs.declared.job.Kind.TheVariants.{Send, Request, Execute}
use Rattle.uu_core.specs.declared.job.JobHead.{JobHead}
use Rattle.uu_core.specs.Marks.{marks_end}
use Rattle.uu_core.specs.State.{same_text, last_second, most_bytes, most_arguments, most_failures, most_wait, numbers_end}
use Rattle.uu_tables.specs.declared.earlier.BareSystem.{BareSystem}
use Rattle.uu_tables.specs.declared.rows.SystemColumns.{SystemColumns}
use Rattle.uu_tables.specs.declared.rows.BodySize.{BodySize}
use Rattle.uu_tables.specs.declared.earlier.LineColumns.{LineColumns}
use Rattle.uu_tables.specs.declared.earlier.RangeColumns.{RangeColumns}
use Rattle.uu_tables.specs.declared.earlier.Piece.{Piece}
use Rattle.uu_tables.specs.declared.rows.EntryColumns.{EntryColumns}
use Rattle.uu_tables.specs.declared.earlier.WaitColumns.{WaitColumns}
use Rattle.uu_tables.specs.declared.rows.LinkColumns.{LinkColumns}
use Rattle.uu_tables.specs.declared.rows.TakenColumns.{TakenColumns}
use Rattle.uu_map.specs.declared.fault.MapFault.{MapFault}
use Rattle.uu_map.specs.Text.{host_of}
use Rattle.uu_tables.specs.Earlier.{piece_bytes}
use Rattle.uu_check.specs.Walk.{walk, rises}

-- ---- jobs and their pieces

abbrev pub is_kind : Kind → Bool
is_kind (Send source target) = is_word source && is_word target
is_kind (Request source target) = is_word source && is_word target
is_kind (Execute command arguments) = is_word command && list_all is_word arguments && nat_le (length arguments) most_arguments

abbrev pub is_head : JobHead → Bool
is_head h = nat_le 1 h.number && is_site_name h.system && nat_lt h.grade grade_count && is_word h.user && is_kind h.kind && nat_le h.queued last_second && nat_le h.size most_bytes

-- pieces from a place on have so many bytes, each as many as it can
abbrev pub are_cut : ℕ → ℕ → List Piece → Bool
are_cut place size [] = size == 0
are_cut place size (x ∷ xs) = (x.place == place) && nat_le 1 size && (length x.bytes == min size piece_bytes) && are_cut (place + 1) (size - min size piece_bytes) xs

abbrev pub owns_piece : JobHead → Piece → Bool
owns_piece h x = x.job == h.number

abbrev pub fits_job : JobHead → List Piece → Bool
fits_job h xs = is_head h && are_cut 0 h.size xs

abbrev pub job_before : JobHead → JobHead → Bool
job_before a b = nat_lt a.number b.number

abbrev pub is_below : ℕ → JobHead → Bool
is_below next h = nat_lt h.number next

-- ---- lines and their ranges

-- ranges in order from a minute on, with at least one minute between two that is in none
abbrev pub are_ranges : ℕ → List RangeColumns → Bool
are_ranges start [] = true
are_ranges start (r ∷ rs) = nat_le start r.low && nat_le r.low r.high && nat_lt r.high week_minutes && are_ranges (r.high + 2) rs

abbrev pub is_retry : Option ℕ → Bool
is_retry None = true
is_retry (Some minutes) = nat_le 1 minutes && nat_le minutes most_retry_minutes

abbrev pub owns_range : LineColumns → RangeColumns → Bool
owns_range l r = same_text l.system r.system && (l.place == r.place)

abbrev pub fits_line : LineColumns → List RangeColumns → Bool
fits_line l rs = nat_lt l.grade grade_count && is_retry l.retry && are_ranges 0 rs

-- ---- systems and their lines

-- the reason is there exactly if the last call failed, and a system that was never called has zeros
abbrev pub is_outcome : Option (List ℕ) → ℕ → ℕ → ℕ → ℕ → Bool
is_outcome None outcome last failures wait = (outcome == 2) || ((outcome == 0) && (last == 0) && (failures == 0) && (wait == 0))
is_outcome (Some why) outcome last failures wait = (outcome == 1) && is_word why

abbrev pub is_call : BareSystem → Bool
is_call s = nat_le s.call.last last_second && nat_le s.call.failures most_failures && nat_le s.call.wait most_wait && is_outcome s.call.why s.call.outcome s.call.last s.call.failures s.call.wait

abbrev pub are_placed : ℕ → List LineColumns → Bool
are_placed place [] = true
are_placed place (l ∷ ls) = (l.place == place) && are_placed (place + 1) ls

abbrev pub owns_line : BareSystem → LineColumns → Bool
owns_line s l = same_text s.name l.system

abbrev pub fits_system : BareSystem → List LineColumns → Bool
fits_system s ls = is_site_name s.name && nat_le s.max_retries most_retries && is_call s && nat_le (length ls) most_lines && are_placed 0 ls

-- ---- systems and their success waits

abbrev pub owns_wait : BareSystem → WaitColumns → Bool
owns_wait s w = same_text s.name w.system

-- at most one, and not of 0 seconds
abbrev pub fits_wait : BareSystem → List WaitColumns → Bool
fits_wait s [] = true
fits_wait s (w ∷ []) = nat_le 1 w.wait && nat_le w.wait most_success_wait
fits_wait s (w ∷ other ∷ more) = false

abbrev pub system_before : BareSystem → BareSystem → Bool
system_before a b = is_lt (slice_cmp nat_cmp a.name b.name)

-- ---- systems, and the links of those that hand on jobs

abbrev pub owns_link : BareSystem → LinkColumns → Bool
owns_link s l = same_text s.name l.system

abbrev pub link_before : LinkColumns → LinkColumns → Bool
link_before a b = is_lt (slice_cmp nat_cmp a.system b.system)

-- at most one, and not of 0
abbrev pub fits_link : BareSystem → List LinkColumns → Bool
fits_link s [] = true
fits_link s (l ∷ []) = nat_le 1 l.below && nat_le l.below numbers_end
fits_link s (l ∷ other ∷ more) = false

abbrev pub owns_taken : BareSystem → TakenColumns → Bool
owns_taken s t = same_text s.name t.system

abbrev pub taken_before : TakenColumns → TakenColumns → Bool
taken_before a b = nat_lt a.taken.number b.taken.number

-- what was taken from one system is in order of the numbers there
abbrev pub fits_taken : BareSystem → List TakenColumns → Bool
fits_taken s ts = rises taken_before ts

-- the number here was given, and the key is valid
abbrev pub is_given : ℕ → TakenColumns → Bool
is_given next t = nat_le 1 t.taken.job && nat_lt t.taken.job next && nat_le t.taken.number numbers_end && nat_lt t.taken.mark marks_end

-- the neighbour may still ask for its number
abbrev pub may_be_asked : List LinkColumns → TakenColumns → Bool
may_be_asked links t = list_all (λ (l : LinkColumns). not (same_text l.system t.system) || nat_le l.below t.taken.number) links

abbrev pub are_links : ℕ → List BareSystem → List LinkColumns → List TakenColumns → Bool
are_links next systems links taken = walk owns_link fits_link systems links && walk owns_taken fits_taken systems taken && list_all (is_given next) taken && list_all (may_be_asked links) taken

-- ---- entries

abbrev pub is_host : Result (List ℕ) MapFault → List ℕ → Bool
is_host (Ok name) host = same_text name host
is_host (Err fault) host = false

-- the entry names its host
abbrev pub is_entry : EntryColumns → Bool
is_entry e = is_host (host_of e.bytes) e.host

abbrev pub entry_before : EntryColumns → EntryColumns → Bool
entry_before a b = is_lt (slice_cmp nat_cmp a.host b.host)

abbrev pub are_entries : List EntryColumns → Bool
are_entries entries = rises entry_before entries && list_all is_entry entries

-- ---- all of them, in earlier versions

abbrev pub is_known : List BareSystem → JobHead → Bool
is_known systems h = list_any (λ (s : BareSystem). same_text s.name h.system) systems

abbrev pub are_systems : List BareSystem → List LineColumns → List RangeColumns → List WaitColumns → Bool
are_systems systems lines ranges waits = rises system_before systems && walk owns_line fits_system systems lines && walk owns_range fits_line lines ranges && walk owns_wait fits_wait systems waits

abbrev pub are_jobs : ℕ → List BareSystem → List JobHead → List Piece → Bool
are_jobs next systems jobs pieces = rises job_before jobs && list_all (is_below next) jobs && list_all (is_known systems) jobs && walk owns_piece fits_job jobs pieces

abbrev pub is_earlier_spool : ℕ → List BareSystem → List LineColumns → List RangeColumns → List WaitColumns → List JobHead → List Piece → List EntryColumns → List LinkColumns → List TakenColumns → Bool
is_earlier_spool next systems lines ranges waits jobs pieces entries links taken =
    nat_le 1 next && nat_le next numbers_end && are_systems systems lines ranges waits && are_jobs next systems jobs pieces && are_links next systems links taken && are_entries entries

-- ---- all of them

-- the columns of a system that an earlier version has beside its lines
abbrev pub bare_of : SystemColumns → BareSystem
bare_of s = record { name = s.def.name; max_retries = s.def.max_retries; call = s.call }

abbrev pub are_called : List BareSystem → Bool
are_called systems = rises system_before systems && list_all is_call systems

abbrev pub owns_body : JobHead → BodySize → Bool
owns_body h x = x.job == h.number

-- exactly one, with as many bytes as the job
abbrev pub fits_body : JobHead → List BodySize → Bool
fits_body h [] = false
fits_body h (x ∷ []) = is_head h && (x.length == h.size)
fits_body h (x ∷ other ∷ more) = false

abbrev pub have_bodies : ℕ → List BareSystem → List JobHead → List BodySize → Bool
have_bodies next systems jobs bodies = rises job_before jobs && list_all (is_below next) jobs && list_all (is_known systems) jobs && walk owns_body fits_body jobs bodies

abbrev pub is_spool : ℕ → List BareSystem → List JobHead → List BodySize → List EntryColumns → List LinkColumns → List TakenColumns → Bool
is_spool next systems jobs bodies entries links taken =
    nat_le 1 next && nat_le next numbers_end && are_called systems && have_bodies next systems jobs bodies && are_links next systems links taken && are_entries entries
