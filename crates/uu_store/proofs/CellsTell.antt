-- Typed rows with the same cells are the same.
use Rattle.std.proofs.Common.{◌≡◌, ℕ, pos, true, List, Option, Some, None, refl, ap}
use Rattle.std.proofs.lemmas.Bool.{and_parts}
use Rattle.sqlite.specs.declared.types.Value.TheVariants.{Int, Text}
use Rattle.sqlite.specs.Values.{or_null}
use Rattle.uu_core.specs.declared.job.JobHead.{JobHead}
use Rattle.uu_core.specs.declared.job.Kind.{Kind}
use Rattle.uu_core.specs.declared.job.Kind.TheVariants.{Send, Request, Execute}
use Rattle.uu_tables.specs.declared.rows.SystemColumns.{SystemColumns}
use Rattle.uu_tables.specs.declared.earlier.LineColumns.{LineColumns}
use Rattle.uu_tables.specs.declared.earlier.RangeColumns.{RangeColumns}
use Rattle.uu_tables.specs.declared.rows.EntryColumns.{EntryColumns}
use Rattle.uu_tables.specs.declared.earlier.WaitColumns.{WaitColumns}
use Rattle.uu_tables.specs.declared.rows.LinkColumns.{LinkColumns}
use Rattle.uu_tables.specs.declared.rows.TakenColumns.{TakenColumns}
use Rattle.uu_tables.specs.declared.rows.Body.{Body}
use Rattle.uu_tables.specs.declared.earlier.BareSystem.{BareSystem}
use Rattle.uu_tables.specs.declared.earlier.Piece.{Piece}
use Rattle.uu_tables.specs.Tables.{definition_text}
use Rattle.uu_check.specs.Readable.{IsJobRow, IsSystemRow}
use Rattle.uu_check.specs.Tests.{is_kind, is_head}
use Rattle.uu_schema.specs.Cells.{system_cells, body_cells, bare_cells, line_cells, range_cells, job_cells, piece_cells, entry_cells, wait_cells, link_cells, taken_cells, kind_number, first_word, second_word}
use Rattle.uu_rows.proofs.Definitions.{same_definition}
use Rattle.uu_store.proofs.Words.{same_words}

same_text : (o p : Option (List ℕ)) → or_null Text o ≡ or_null Text p → o ≡ p
same_text None None h = refl
same_text None (Some t) h = absurd (cc)
same_text (Some t) None h = absurd (cc)
same_text (Some t) (Some u) h = let is : t ≡ u = cc in ap Some is

same_number : (o p : Option ℕ) → or_null (λ n. Int (pos n)) o ≡ or_null (λ n. Int (pos n)) p → o ≡ p
same_number None None h = refl
same_number None (Some n) h = absurd (cc)
same_number (Some n) None h = absurd (cc)
same_number (Some n) (Some m) h = let is : n ≡ m = cc in ap Some is

pub same_system : (a b : SystemColumns) → IsSystemRow a → IsSystemRow b → system_cells a ≡ system_cells b → a ≡ b
same_system a b good fine h =
    let text : definition_text a.def ≡ definition_text b.def = cc in
    let def = same_definition a.def b.def (good.def.name, good.def.limits, good.def.lines) (fine.def.name, fine.def.limits, fine.def.lines) text in
    let last : a.call.last ≡ b.call.last = cc in
    let failures : a.call.failures ≡ b.call.failures = cc in
    let wait : a.call.wait ≡ b.call.wait = cc in
    let outcome : a.call.outcome ≡ b.call.outcome = cc in
    let cell : or_null Text a.call.why ≡ or_null Text b.call.why = cc in
    let why = same_text a.call.why b.call.why cell in
    λ i. record { def = def i; call = record { last = last i; failures = failures i; wait = wait i; outcome = outcome i; why = why i } }

pub same_body : (a b : Body) → body_cells a ≡ body_cells b → a ≡ b
same_body a b h =
    let job : a.job ≡ b.job = cc in
    let bytes : a.bytes ≡ b.bytes = cc in
    λ i. record { job = job i; bytes = bytes i }

pub same_bare : (a b : BareSystem) → bare_cells a ≡ bare_cells b → a ≡ b
same_bare a b h =
    let name : a.name ≡ b.name = cc in
    let most : a.max_retries ≡ b.max_retries = cc in
    let last : a.call.last ≡ b.call.last = cc in
    let failures : a.call.failures ≡ b.call.failures = cc in
    let wait : a.call.wait ≡ b.call.wait = cc in
    let outcome : a.call.outcome ≡ b.call.outcome = cc in
    let cell : or_null Text a.call.why ≡ or_null Text b.call.why = cc in
    let why = same_text a.call.why b.call.why cell in
    λ i. record { name = name i; max_retries = most i; call = record { last = last i; failures = failures i; wait = wait i; outcome = outcome i; why = why i } }

pub same_line : (a b : LineColumns) → line_cells a ≡ line_cells b → a ≡ b
same_line a b h =
    let system : a.system ≡ b.system = cc in
    let place : a.place ≡ b.place = cc in
    let grade : a.grade ≡ b.grade = cc in
    let cell : or_null (λ n. Int (pos n)) a.retry ≡ or_null (λ n. Int (pos n)) b.retry = cc in
    let retry = same_number a.retry b.retry cell in
    λ i. record { system = system i; place = place i; grade = grade i; retry = retry i }

pub same_range : (a b : RangeColumns) → range_cells a ≡ range_cells b → a ≡ b
same_range a b h =
    let system : a.system ≡ b.system = cc in
    let place : a.place ≡ b.place = cc in
    let low : a.low ≡ b.low = cc in
    let high : a.high ≡ b.high = cc in
    λ i. record { system = system i; place = place i; low = low i; high = high i }

pub same_piece : (a b : Piece) → piece_cells a ≡ piece_cells b → a ≡ b
same_piece a b h =
    let job : a.job ≡ b.job = cc in
    let place : a.place ≡ b.place = cc in
    let bytes : a.bytes ≡ b.bytes = cc in
    λ i. record { job = job i; place = place i; bytes = bytes i }

pub same_entry : (a b : EntryColumns) → entry_cells a ≡ entry_cells b → a ≡ b
same_entry a b h =
    let host : a.host ≡ b.host = cc in
    let bytes : a.bytes ≡ b.bytes = cc in
    λ i. record { host = host i; bytes = bytes i }

pub same_wait : (a b : WaitColumns) → wait_cells a ≡ wait_cells b → a ≡ b
same_wait a b h =
    let system : a.system ≡ b.system = cc in
    let wait : a.wait ≡ b.wait = cc in
    λ i. record { system = system i; wait = wait i }

pub same_link : (a b : LinkColumns) → link_cells a ≡ link_cells b → a ≡ b
same_link a b h =
    let system : a.system ≡ b.system = cc in
    let below : a.below ≡ b.below = cc in
    λ i. record { system = system i; below = below i }

pub same_taken : (a b : TakenColumns) → taken_cells a ≡ taken_cells b → a ≡ b
same_taken a b h =
    let system : a.system ≡ b.system = cc in
    let number : a.taken.number ≡ b.taken.number = cc in
    let mark : a.taken.mark ≡ b.taken.mark = cc in
    let job : a.taken.job ≡ b.taken.job = cc in
    λ i. record { system = system i; taken = record { number = number i; mark = mark i; job = job i } }

-- ---- jobs

same_kind : (a b : Kind) → is_kind a ≡ true → is_kind b ≡ true → kind_number a ≡ kind_number b → first_word a ≡ first_word b → second_word a ≡ second_word b → a ≡ b
same_kind (Send source target) (Send other place) good fine number first second = λ i. Send (first i) (second i)
same_kind (Send source target) (Request other place) good fine number first second = absurd (cc)
same_kind (Send source target) (Execute other place) good fine number first second = absurd (cc)
same_kind (Request source target) (Send other place) good fine number first second = absurd (cc)
same_kind (Request source target) (Request other place) good fine number first second = λ i. Request (first i) (second i)
same_kind (Request source target) (Execute other place) good fine number first second = absurd (cc)
same_kind (Execute command arguments) (Send other place) good fine number first second = absurd (cc)
same_kind (Execute command arguments) (Request other place) good fine number first second = absurd (cc)
same_kind (Execute command arguments) (Execute other words) good fine number first second =
    let all = same_words arguments words (and_parts _ _ (and_parts _ _ good).0).1 (and_parts _ _ (and_parts _ _ fine).0).1 second in
    λ i. Execute (first i) (all i)

-- the kind of a job can be read
kind_good : (h : JobHead) → is_head h ≡ true → is_kind h.kind ≡ true
kind_good h good = (and_parts _ _ (and_parts _ _ (and_parts _ _ good).0).0).1

pub same_job : (a b : JobHead) → IsJobRow a → IsJobRow b → job_cells a ≡ job_cells b → a ≡ b
same_job a b good fine h =
    let number : a.number ≡ b.number = cc in
    let system : a.system ≡ b.system = cc in
    let grade : a.grade ≡ b.grade = cc in
    let user : a.user ≡ b.user = cc in
    let code : kind_number a.kind ≡ kind_number b.kind = cc in
    let queued : a.queued ≡ b.queued = cc in
    let first : first_word a.kind ≡ first_word b.kind = cc in
    let second : second_word a.kind ≡ second_word b.kind = cc in
    let size : a.size ≡ b.size = cc in
    let kind = same_kind a.kind b.kind (kind_good a good.good) (kind_good b fine.good) code first second in
    λ i. record { number = number i; system = system i; grade = grade i; user = user i; kind = kind i; queued = queued i; size = size i }
