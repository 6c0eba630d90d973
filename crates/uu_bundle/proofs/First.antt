-- The first taken job and the first waiting job are in a bundle, however few bytes it is to have.
use Rattle.std.proofs.Common.{◌≡◌, ◌≢◌, ◌∙◌, ◌<◌, ◌≤◌, ◌+◌, ◌*◌, ap, refl, arith, subst, sym, ℕ, List, [], ◌∷◌, ◌++◌, length, length-append, map, true, cond, All, codes}
use Rattle.std.proofs.lemmas.Bool.{and_from, and_parts}
use Rattle.std.proofs.lemmas.Bool.Decides.{nat_tests}
use Rattle.std.proofs.lemmas.Fmt.{length-decimal-le}
use Rattle.std.proofs.lemmas.List.Elements.{All-head, All-tail}
use borrow.Author.Tests.{leb-true}
use Rattle.std.specs.Prelude.{IsTrue, nat_le, ◌^◌, ◌&&◌}
use Rattle.std.specs.Fmt.{decimal}
use Rattle.uu_names.specs.Name.{is_word, most_word}
use Rattle.uu_core.specs.Marks.{marks_end}
use Rattle.uu_core.specs.State.{most_arguments, most_bytes}
use Rattle.uu_core.specs.WellFormed.{HasWords}
use Rattle.uu_core.specs.declared.custody.Taken.{Taken}
use Rattle.uu_core.specs.declared.job.Kind.{Kind}
use Rattle.uu_core.specs.declared.job.Kind.TheVariants.{Send, Request, Execute}
use Rattle.uu_bundle.specs.Bundles.{AreTaken, IsGiven, front_text, half, has_room, is_short, is_within_limits, jobs_with_room, most_bundle, packed_bundle, takes_job, told_first, told_of, told_with_room}
use Rattle.uu_bundle.specs.Texts.{IsHeading, grade_text, heading_text, job_words, kind_words, line_text, marked_text, record_text, spaced_words}
use Rattle.uu_bundle.specs.declared.bundle.Heading.{Heading}
use Rattle.uu_bundle.specs.declared.bundle.Parcel.{Parcel}
use Rattle.uu_bundle.specs.declared.bundle.Record.TheVariants.{Has, Job}
use Rattle.uu_bundle.specs.declared.bundle.Told.{Told}
use Rattle.uu_bundle.proofs.Made.{grade_sized, heading_sized, longest_front, one_sized, word_fits}
use Rattle.uu_bundle.proofs.MarkSizes.{mark_below}
use Rattle.uu_bundle.proofs.Pieces.{room_is}
use Rattle.uu_bundle.proofs.Room.{told_sized}

-- ---- the first taken job

abbrev IsKept : Taken → Type 0
IsKept one = (one.number < 2 ^ 32) × (one.mark < marks_end)

told_small : (one : Taken) → IsKept one → length (record_text (Has (told_of one))) ≤ 35
told_small one kept =
    let number = length-decimal-le 10 one.number (omega arith) (omega (arith, kept.0)) (omega (arith, kept.0)) in
    let mark = length-decimal-le 19 one.mark (omega arith) (omega (arith, kept.1)) (omega (arith, kept.1)) in
    omega (arith, told_sized one)

within : (n most : ℕ) → n ≤ most → nat_le n most ≡ true
within n most fits = grind (arith, nat_tests)

-- what fits is taken
taken_first : (first further : ℕ) (text : List ℕ) (one : Taken) (taken : List Taken) → nat_le (length (text ++ record_text (Has (told_of one)))) first ≡ true → told_with_room first further text (one ∷ taken) ≢ []
taken_first first further text one taken fits none =
    let more = text ++ record_text (Has (told_of one)) in
    absurd (no_end one (told_with_room further further more taken) (subst (λ b. cond b (one ∷ told_with_room further further more taken) [] ≡ []) fits none))
  where
    no_end : (one : Taken) (rest : List Taken) → one ∷ rest ≢ []
    no_end one rest is = absurd (cc)

some_mapped : (taken : List Taken) → taken ≢ [] → map told_of taken ≢ []
some_mapped [] some = λ none. some refl
some_mapped (one ∷ taken) some = λ none. absurd (cc)

pub first_told : (most : ℕ) (heading : Heading) (taken : List Taken) (jobs : List Parcel) → IsHeading heading → AreTaken taken → taken ≢ [] → (packed_bundle most heading taken jobs).has ≢ []
first_told most heading [] jobs is are some = λ none. some refl
first_told most heading (one ∷ taken) jobs is are some =
    let text = heading_text heading in
    let size = length-append text (record_text (Has (told_of one))) in
    let small : length (text ++ record_text (Has (told_of one))) ≤ half most_bundle = omega (arith, size, heading_sized heading is, told_small one (All-head IsKept one taken are.numbers)) in
    some_mapped (told_first most heading (one ∷ taken)) (taken_first (half most_bundle) (half most) text one taken (within (length (text ++ record_text (Has (told_of one)))) (half most_bundle) small))

-- ---- the first waiting job

words_small : (words : List (List ℕ)) → All (λ word. IsTrue (is_word word)) words → length (spaced_words words) ≤ 256 * length words
words_small [] all = omega arith
words_small (word ∷ words) all =
    omega (
      arith,
      one_sized word words,
      word_fits word (All-head (λ word. IsTrue (is_word word)) word words all),
      words_small words (All-tail (λ word. IsTrue (is_word word)) word words all),
    )

kind_small : (kind : Kind) → HasWords kind → is_short kind ≡ true → length (spaced_words (kind_words kind)) ≤ 17000
kind_small (Send source target) words short =
    omega (arith, one_sized (codes "send") (source ∷ target ∷ []), one_sized source (target ∷ []), one_sized target [], word_fits source words.0, word_fits target words.1)
kind_small (Request source target) words short =
    omega (arith, one_sized (codes "request") (source ∷ target ∷ []), one_sized source (target ∷ []), one_sized target [], word_fits source words.0, word_fits target words.1)
kind_small (Execute command arguments) words short =
    omega (
      arith,
      one_sized (codes "exec") (command ∷ arguments),
      one_sized command arguments,
      word_fits command words.0,
      words_small arguments words.1,
      leb-true (length arguments) most_arguments short,
    )

job_small : (heading : Heading) (job : Parcel) → IsGiven heading job → is_within_limits job ≡ true → length (record_text (Job job)) ≤ 1100000
job_small heading job given within =
    let limits = and_parts (nat_le 1 job.number && is_short job.kind) (nat_le (length job.bytes) most_bytes) within in
    let first = and_parts (nat_le 1 job.number) (is_short job.kind) limits.0 in
    let few = leb-true (length job.bytes) most_bytes limits.1 in
    let text = marked_text heading.from heading.to heading.spool job.number job.user job.kind job.bytes in
    let below : job.mark < marks_end = subst (λ m. m < marks_end) (sym given.mark) (mark_below text) in
    let number = decimal job.number in
    let mark = decimal job.mark in
    let grade = grade_text job.grade in
    let size = decimal (length job.bytes) in
    let kind = kind_words job.kind in
    let words = job_words job in
    omega (
      arith,
      length-append (line_text (codes "job") words) (10 ∷ (job.bytes ++ 10 ∷ [])),
      length-append job.bytes (10 ∷ []),
      length-append (codes "job") (spaced_words words),
      one_sized number (mark ∷ grade ∷ job.user ∷ size ∷ kind),
      one_sized mark (grade ∷ job.user ∷ size ∷ kind),
      one_sized grade (job.user ∷ size ∷ kind),
      one_sized job.user (size ∷ kind),
      one_sized size kind,
      grade_sized job.grade given.grade,
      word_fits job.user given.user,
      length-decimal-le 10 job.number (omega arith) (omega (arith, given.number)) (omega (arith, given.number)),
      length-decimal-le 19 job.mark (omega arith) (omega (arith, below)) (omega (arith, below)),
      length-decimal-le 10 (length job.bytes) (omega arith) (omega (arith, few)) (omega (arith, few)),
      few,
      kind_small job.kind given.kind first.1,
    )

taken_job : (first further : ℕ) (text : List ℕ) (job : Parcel) (jobs : List Parcel) → takes_job first text job ≡ true → jobs_with_room first further text (job ∷ jobs) ≢ []
taken_job first further text job jobs takes none =
    let more = text ++ record_text (Job job) in
    absurd (no_end job (jobs_with_room further further more jobs) (subst (λ b. cond b (job ∷ jobs_with_room further further more jobs) [] ≡ []) takes none))
  where
    no_end : (job : Parcel) (rest : List Parcel) → job ∷ rest ≢ []
    no_end job rest is = absurd (cc)

pub first_job : (most : ℕ) (heading : Heading) (taken : List Taken) (job : Parcel) (jobs : List Parcel) → most ≤ most_bundle → IsHeading heading → IsGiven heading job → IsTrue (is_within_limits job)
    → (packed_bundle most heading taken (job ∷ jobs)).jobs ≢ []
first_job most heading taken job jobs less is given limits =
    let text = front_text most heading taken in
    let fits : length text ≤ half most_bundle = (longest_front most heading taken less is).fits in
    taken_job most_bundle most text job jobs
    (and_from (is_within_limits job) (has_room most_bundle text job) limits
    (room_is most_bundle text job (length (record_text (Job job))) refl (omega (arith, fits, job_small heading job given limits))))
