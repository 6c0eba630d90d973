-- What is answered takes no more room than what it answers.
use Rattle.std.proofs.Common.{◌≡◌, ◌≢◌, ◌∙◌, ◌<◌, ◌≤◌, ◌+◌, ◌*◌, ◌==◌, ◌||◌, ap, sym, refl, arith, subst, ℕ, zero, suc, List, [], ◌∷◌, ◌++◌, length, length-append, map, Bool, true, false, not, true≢false, cond, Option, Some, None, All, AllPairs, codes, filter}
use Rattle.std.proofs.lemmas.Bool.Decides.{Decides-eqb}
use Rattle.std.proofs.lemmas.Fmt.{decimal_nonempty, length-decimal-le}
use Rattle.std.proofs.lemmas.List.Elements.{All-cons, All-head, All-nil, All-tail}
use Rattle.std.proofs.lemmas.List.Kept.{AllPairs-filter}
use Rattle.std.proofs.lemmas.Bool.{and_parts}
use borrow.Author.Tests.{leb-true}
use Rattle.std.specs.Prelude.{IsTrue, nat_le}
use Rattle.std.specs.Fmt.{decimal}
use Rattle.std.specs.List.{flat_map, list_any}
use Rattle.uu_names.specs.Name.{has_form, is_word, is_word_byte, most_word}
use Rattle.uu_core.specs.Marks.{marks_end}
use Rattle.uu_core.specs.Refusal.{refusal_name}
use Rattle.uu_core.specs.State.{IsKind}
use Rattle.uu_core.specs.declared.custody.Taken.{Taken}
use Rattle.uu_core.specs.declared.job.Kind.{Kind}
use Rattle.uu_core.specs.declared.job.Kind.TheVariants.{Send, Request, Execute}
use Rattle.uu_core.specs.declared.refusal.Refusal.{Refusal}
use Rattle.uu_core.specs.declared.refusal.Refusal.TheVariants.{NoSystem, NoJob, NotYours, JobTwice, OtherSystem, Busy, TooLarge, NumbersOut, BadEntry, Stale, Differs}
use Rattle.uu_bundle.specs.Bundles.{answer_front_text, heading_of, most_bundle, records_text, told_of, told_records, text_with_refused}
use Rattle.uu_bundle.specs.Laws.{AreAnswers, is_row_of, refused_for}
use Rattle.uu_bundle.specs.Reading.{IsRead, jobs_in}
use Rattle.uu_bundle.specs.Texts.{IsHeading, IsParcel, IsRecord, end_text, grade_text, heading_text, job_words, kind_words, line_text, marked_text, record_text, refused_words, spaced_words, told_words}
use Rattle.uu_bundle.specs.declared.bundle.Bundle.{Bundle}
use Rattle.uu_bundle.specs.declared.bundle.Heading.{Heading}
use Rattle.uu_bundle.specs.declared.bundle.Parcel.{Parcel}
use Rattle.uu_bundle.specs.declared.bundle.Record.{Record}
use Rattle.uu_bundle.specs.declared.bundle.Record.TheVariants.{Has, No, Job}
use Rattle.uu_bundle.specs.declared.bundle.Refused.{Refused}
use Rattle.uu_bundle.proofs.Made.{grade_sized, heading_sized, one_sized}
use Rattle.uu_bundle.proofs.MarkSizes.{mark_below}

-- ---- the size of each record

-- how much of a record its number and its mark are
abbrev shared : ℕ → ℕ → ℕ
shared number mark = length (decimal number) + length (decimal mark)

pub told_sized : (row : Taken) → length (record_text (Has (told_of row))) ≡ 6 + shared row.number row.mark
told_sized row =
    let words = told_words (told_of row) in
    omega (
      arith,
      length-append (line_text (codes "has") words) (10 ∷ []),
      length-append (codes "has") (spaced_words words),
      one_sized (decimal row.number) (decimal row.mark ∷ []),
      one_sized (decimal row.mark) [],
    )

reason_sized : (reason : Refusal) → length (refusal_name reason) ≤ 11
reason_sized NoSystem = omega arith
reason_sized NoJob = omega arith
reason_sized NotYours = omega arith
reason_sized JobTwice = omega arith
reason_sized OtherSystem = omega arith
reason_sized Busy = omega arith
reason_sized TooLarge = omega arith
reason_sized NumbersOut = omega arith
reason_sized BadEntry = omega arith
reason_sized Stale = omega arith
reason_sized Differs = omega arith

refused_sized : (one : Refused) → length (record_text (No one)) ≤ 17 + shared one.number one.mark
refused_sized one =
    let words = refused_words one in
    let name = refusal_name one.reason in
    omega (
      arith,
      length-append (line_text (codes "no") words) (10 ∷ []),
      length-append (codes "no") (spaced_words words),
      one_sized (decimal one.number) (decimal one.mark ∷ name ∷ []),
      one_sized (decimal one.mark) (name ∷ []),
      one_sized name [],
      reason_sized one.reason,
    )

word_some : (word : List ℕ) → IsTrue (is_word word) → 1 ≤ length word
word_some word is = leb-true 1 (length word) (and_parts (nat_le 1 (length word)) _ (and_parts (has_form is_word_byte word) (nat_le (length word) most_word) is).0).0

kind_sized : (kind : Kind) → IsKind kind → 7 ≤ length (spaced_words (kind_words kind))
kind_sized (Send source target) is =
    omega (arith, one_sized (codes "send") (source ∷ target ∷ []), one_sized source (target ∷ []), one_sized target [], word_some source is.0, word_some target is.1)
kind_sized (Request source target) is = omega (arith, one_sized (codes "request") (source ∷ target ∷ []))
kind_sized (Execute command arguments) is = omega (arith, one_sized (codes "exec") (command ∷ arguments), one_sized command arguments, word_some command is.0)

job_sized : (heading : Heading) (job : Parcel) → IsParcel heading job → 20 + shared job.number job.mark ≤ length (record_text (Job job))
job_sized heading job is =
    let number = decimal job.number in
    let mark = decimal job.mark in
    let grade = grade_text job.grade in
    let size = decimal (length job.bytes) in
    let kind = kind_words job.kind in
    let words = job_words job in
    omega (
      arith,
      length-append (line_text (codes "job") words) (10 ∷ (job.bytes ++ 10 ∷ [])),
      length-append job.bytes (10 ∷ []),
      length-append (codes "job") (spaced_words words),
      one_sized number (mark ∷ grade ∷ job.user ∷ size ∷ kind),
      one_sized mark (grade ∷ job.user ∷ size ∷ kind),
      one_sized grade (job.user ∷ size ∷ kind),
      one_sized job.user (size ∷ kind),
      one_sized size kind,
      grade_sized job.grade is.grade,
      word_some job.user is.user,
      decimal_nonempty (length job.bytes) (omega (arith, is.size)),
      kind_sized job.kind is.kind,
    )

shared_small : (heading : Heading) (job : Parcel) → IsParcel heading job → shared job.number job.mark ≤ 29
shared_small heading job is =
    let text = marked_text heading.from heading.to heading.spool job.number job.user job.kind job.bytes in
    let below : job.mark < marks_end = subst (λ m. m < marks_end) (sym is.mark) (mark_below text) in
    let number = length-decimal-le 10 job.number (omega arith) (omega (arith, is.number)) (omega (arith, is.number)) in
    let mark = length-decimal-le 19 job.mark (omega arith) (omega arith) (omega arith) in
    omega arith

-- ---- what the bundle has of what was taken

abbrev told_room : List Taken → ℕ
told_room [] = 0
told_room (row ∷ taken) = (6 + shared row.number row.mark) + told_room taken

told_text_sized : (taken : List Taken) → length (records_text (told_records taken)) ≡ told_room taken
told_text_sized [] = refl
told_text_sized (row ∷ taken) =
    omega (arith, length-append (record_text (Has (told_of row))) (records_text (told_records taken)), told_sized row, told_text_sized taken)

abbrev is_told : List Taken → Parcel → Bool
is_told taken job = list_any (is_row_of job) taken

-- the room for what the bundle has of these jobs
abbrev one_covered : Bool → Parcel → ℕ
one_covered b job = cond b (6 + shared job.number job.mark) 0

abbrev covered : List Parcel → List Taken → ℕ
covered [] taken = 0
covered (job ∷ jobs) taken = one_covered (is_told taken job) job + covered jobs taken

-- the others
abbrev without : Parcel → List Taken → List Taken
without job taken = filter (λ row. not (is_row_of job row)) taken

abbrev Rising : List Taken → Type 0
Rising taken = AllPairs (λ (a : Taken) (b : Taken). a.number < b.number) taken

rising_tail : (row : Taken) (taken : List Taken) → Rising (row ∷ taken) → Rising taken
rising_tail row taken rises i j d before within = rises (suc i) (suc j) d (omega arith) (omega arith)

rising_head : (row : Taken) (taken : List Taken) → Rising (row ∷ taken) → All (λ (other : Taken). row.number < other.number) taken
rising_head row taken rises k d within = rises zero (suc k) d (omega arith) (omega arith)

row_number : (job : Parcel) (row : Taken) → is_row_of job row ≡ true → (job.number ≡ row.number) × (job.mark ≡ row.mark)
row_number job row is =
    let parts = and_parts (job.number == row.number) (job.mark == row.mark) is in ((Decides-eqb job.number row.number).0 parts.0, (Decides-eqb job.mark row.mark).0 parts.1)

other_row : (job : Parcel) (row : Taken) → job.number ≢ row.number → is_row_of job row ≡ false
other_row job row other = by (is_row_of job row) refl
  where
    by : (b : Bool) → is_row_of job row ≡ b → b ≡ false
    by true is = absurd (other (row_number job row is).0)
    by false is = refl

-- no row with a greater number is the job's
none_behind : (job : Parcel) (low : ℕ) (taken : List Taken) → job.number ≡ low → All (λ (other : Taken). low < other.number) taken → told_room taken ≤ told_room (without job taken)
none_behind job low [] is all = omega arith
none_behind job low (row ∷ taken) is all =
    let above = All-head (λ (other : Taken). low < other.number) row taken all in
    let rest = none_behind job low taken is (All-tail (λ (other : Taken). low < other.number) row taken all) in
    let other : is_row_of job row ≡ false = other_row job row (λ same. omega arith) in
    subst (λ b. told_room (row ∷ taken) ≤ told_room (cond (not b) (row ∷ without job taken) (without job taken))) (sym other) (omega arith)

-- one row at most is the job's
one_row : (job : Parcel) (taken : List Taken) → Rising taken → told_room taken ≤ one_covered (is_told taken job) job + told_room (without job taken)
one_row job [] rises = omega arith
one_row job (row ∷ taken) rises = by (is_row_of job row) refl (one_row job taken (rising_tail row taken rises))
  where
    by : (b : Bool) → is_row_of job row ≡ b → told_room taken ≤ one_covered (is_told taken job) job + told_room (without job taken)
        → told_room (row ∷ taken) ≤ one_covered (b || is_told taken job) job + told_room (cond (not b) (row ∷ without job taken) (without job taken))
    by true is rest =
        let same = row_number job row is in
        let size : shared job.number job.mark ≡ shared row.number row.mark = ap (λ n. shared n job.mark) same.0 ∙ ap (λ m. shared row.number m) same.1 in
        let others = none_behind job row.number taken same.0 (rising_head row taken rises) in
        omega arith
    by false is rest = omega arith

-- a job that is among the taken ones without another job is among all of them
told_kept : (job other : Parcel) (taken : List Taken) → is_told (without job taken) other ≡ true → is_told taken other ≡ true
told_kept job other [] is = is
told_kept job other (row ∷ taken) is = by (is_row_of other row) (told_kept job other taken) (rest (is_row_of job row) is)
  where
    either : (d : Bool) → is_told (without job taken) other ≡ true → (d || is_told (without job taken) other) ≡ true
    either true at = refl
    either false at = at

    rest : (b : Bool) → is_told (cond (not b) (row ∷ without job taken) (without job taken)) other ≡ true → (is_row_of other row || is_told (without job taken) other) ≡ true
    rest true at = either (is_row_of other row) at
    rest false at = at

    by : (d : Bool) → (is_told (without job taken) other ≡ true → is_told taken other ≡ true) → (d || is_told (without job taken) other) ≡ true → (d || is_told taken other) ≡ true
    by true more at = refl
    by false more at = more at

one_less : (b d : Bool) (job : Parcel) → (b ≡ true → d ≡ true) → one_covered b job ≤ one_covered d job
one_less true d job f = subst (λ e. one_covered true job ≤ one_covered e job) (sym (f refl)) (omega arith)
one_less false true job f = omega arith
one_less false false job f = omega arith

covered_less : (job : Parcel) (jobs : List Parcel) (taken : List Taken) → covered jobs (without job taken) ≤ covered jobs taken
covered_less job [] taken = omega arith
covered_less job (other ∷ jobs) taken =
    omega (arith, one_less (is_told (without job taken) other) (is_told taken other) other (told_kept job other taken), covered_less job jobs taken)

abbrev is_asked : List Parcel → Taken → Bool
is_asked jobs row = list_any (λ job. is_row_of job row) jobs

asked_rest : (job : Parcel) (jobs : List Parcel) (taken : List Taken) → All (λ row. IsTrue (is_asked (job ∷ jobs) row)) taken → All (λ row. IsTrue (is_asked jobs row)) (without job taken)
asked_rest job jobs [] all = All-nil (λ row. IsTrue (is_asked jobs row))
asked_rest job jobs (row ∷ taken) all =
    by (is_row_of job row) (All-head (λ row. IsTrue (is_asked (job ∷ jobs) row)) row taken all) (asked_rest job jobs taken (All-tail (λ row. IsTrue (is_asked (job ∷ jobs) row)) row taken all))
  where
    by : (b : Bool) → (b || is_asked jobs row) ≡ true → All (λ row. IsTrue (is_asked jobs row)) (without job taken)
        → All (λ row. IsTrue (is_asked jobs row)) (cond (not b) (row ∷ without job taken) (without job taken))
    by true own rest = rest
    by false own rest = All-cons (λ row. IsTrue (is_asked jobs row)) row (without job taken) own rest

-- what was taken of these jobs takes the room that they have for it
all_covered : (jobs : List Parcel) (taken : List Taken) → Rising taken → All (λ row. IsTrue (is_asked jobs row)) taken → told_room taken ≤ covered jobs taken
all_covered [] [] rises all = omega arith
all_covered [] (row ∷ taken) rises all = absurd (true≢false (sym (All-head (λ row. IsTrue (is_asked [] row)) row taken all)))
all_covered (job ∷ jobs) taken rises all =
    let rest = all_covered jobs (without job taken) (AllPairs-filter (λ (a : Taken) (b : Taken). a.number < b.number) (λ row. not (is_row_of job row)) taken rises) (asked_rest job jobs taken all) in
    omega (arith, one_row job taken rises, covered_less job jobs taken)

-- ---- what is refused

abbrev one_refused : Option Refusal → Parcel → ℕ
one_refused None job = 0
one_refused (Some reason) job = 17 + shared job.number job.mark

abbrev reasons_room : (Parcel → Option Refusal) → List Parcel → ℕ
reasons_room reason [] = 0
reasons_room reason (job ∷ jobs) = one_refused (reason job) job + reasons_room reason jobs

abbrev all_refused : (Parcel → Option Refusal) → List Parcel → List Refused
all_refused reason jobs = flat_map (λ job. refused_for job (reason job)) jobs

refused_text_sized : (reason : Parcel → Option Refusal) (jobs : List Parcel) → length (records_text (map No (all_refused reason jobs))) ≤ reasons_room reason jobs
refused_text_sized reason [] = omega arith
refused_text_sized reason (job ∷ jobs) = by (reason job) (refused_text_sized reason jobs)
  where
    by : (r : Option Refusal) → length (records_text (map No (all_refused reason jobs))) ≤ reasons_room reason jobs
        → length (records_text (map No (refused_for job r ++ all_refused reason jobs))) ≤ one_refused r job + reasons_room reason jobs
    by None rest = omega arith
    by (Some why) rest =
        let one : Refused = record { number = job.number; mark = job.mark; reason = why } in
        omega (arith, length-append (record_text (No one)) (records_text (map No (all_refused reason jobs))), refused_sized one)

-- ---- both of them

abbrev total : List Parcel → ℕ
total [] = 0
total (job ∷ jobs) = (17 + shared job.number job.mark) + total jobs

one_answer : (b : Bool) (r : Option Refusal) (job : Parcel) → (b ≡ true → r ≡ None) → one_covered b job + one_refused r job ≤ 17 + shared job.number job.mark
one_answer true r job none = subst (λ o. one_covered true job + one_refused o job ≤ 17 + shared job.number job.mark) (sym (none refl)) (omega arith)
one_answer false None job none = omega arith
one_answer false (Some why) job none = omega arith

all_answers : (reason : Parcel → Option Refusal) (taken : List Taken) (jobs : List Parcel) → All (λ job. IsTrue (is_told taken job) → reason job ≡ None) jobs
    → covered jobs taken + reasons_room reason jobs ≤ total jobs
all_answers reason taken [] all = omega arith
all_answers reason taken (job ∷ jobs) all =
    omega (
      arith,
      one_answer (is_told taken job) (reason job) job (All-head (λ job. IsTrue (is_told taken job) → reason job ≡ None) job jobs all),
      all_answers reason taken jobs (All-tail (λ job. IsTrue (is_told taken job) → reason job ≡ None) job jobs all),
    )

-- ---- what it answers

-- how much shorter each answer is, and how long it is at most
record Room (records : List Record) (jobs : List Parcel) : Type 0 where
  shorter : total jobs + 3 * length jobs ≤ length (records_text records)
  small : total jobs ≤ 46 * length jobs

room_of : (heading : Heading) (records : List Record) → All (IsRecord heading) records → Room records (jobs_in records)
room_of heading [] all = record { shorter = omega arith; small = omega arith }
room_of heading (next ∷ records) all = by next (All-head (IsRecord heading) next records all) (room_of heading records (All-tail (IsRecord heading) next records all))
  where
    by : (next : Record) → IsRecord heading next → Room records (jobs_in records) → Room (next ∷ records) (jobs_in (next ∷ records))
    by (Has told) own rest =
        record { shorter = omega (arith, rest.shorter, length-append (record_text (Has told)) (records_text records)); small = rest.small }
    by (No refused) own rest =
        record { shorter = omega (arith, rest.shorter, length-append (record_text (No refused)) (records_text records)); small = rest.small }
    by (Job job) own rest =
        record {
          shorter = omega (arith, rest.shorter, length-append (record_text (Job job)) (records_text records), job_sized heading job own);
          small = omega (arith, rest.small, shared_small heading job own);
        }

pub answers_small : (heading : Heading) (text : List ℕ) (asked : Bundle) (taken : List Taken) (refused : List Refused) → IsHeading heading → IsRead text asked → length text ≤ most_bundle → AreAnswers asked.jobs taken refused
    → length (text_with_refused (answer_front_text heading taken) refused) + length end_text ≤ most_bundle
answers_small heading text asked taken refused good is fits answers =
    let room = room_of (heading_of asked) is.records is.each in
    let jobs : asked.jobs ≡ jobs_in is.records = is.jobs in
    let told = all_covered asked.jobs taken answers.rising answers.asked in
    let both_rooms : covered asked.jobs taken + reasons_room answers.reason asked.jobs ≤ total (jobs_in is.records) =
    subst (λ js. covered asked.jobs taken + reasons_room answers.reason asked.jobs ≤ total js) jobs (all_answers answers.reason taken asked.jobs answers.others) in
    let said : length (records_text (map No refused)) ≤ reasons_room answers.reason asked.jobs =
    subst (λ rs. length (records_text (map No rs)) ≤ reasons_room answers.reason asked.jobs) (sym answers.refused_are) (refused_text_sized answers.reason asked.jobs) in
    let whole = length-append (answer_front_text heading taken) (records_text (map No refused)) in
    let front = length-append (heading_text heading) (records_text (told_records taken)) in
    let size = ap length is.is_text ∙ length-append (heading_text (heading_of asked)) (records_text is.records ++ is.rest) in
    let behind = length-append (records_text is.records) is.rest in
    let shorter = room.shorter in
    let small = room.small in
    let first = heading_sized heading good in
    let told_size = told_text_sized taken in
    omega arith
