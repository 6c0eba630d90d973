-- Bundles that are made of pieces.
use Rattle.std.proofs.Common.{◌≡◌, ◌∙◌, ◌<◌, ◌≤◌, ◌^◌, ap, sym, refl, arith, subst, ℕ, zero, suc, List, [], ◌∷◌, ◌++◌, append_assoc, append-nil, length, length-append, ◌+◌, map, Bool, true, false, cond, All, AllPairs, codes, get_or}
use Rattle.std.proofs.lemmas.Fmt.{length-decimal-le}
use Rattle.std.proofs.lemmas.List.{get_or-map, get_or_append_left, length-map}
use Rattle.std.proofs.lemmas.List.Concat.{flat_map-append}
use Rattle.std.proofs.lemmas.List.Elements.{All-append, All-cons, All-head, All-nil, All-tail}
use borrow.Author.Tests.{leb-true}
use Rattle.std.proofs.lemmas.Bool.{leb-false, and_parts}
use Rattle.std.specs.Prelude.{nat_le, IsTrue, ◌&&◌}
use Rattle.std.specs.Fmt.{decimal}
use Rattle.uu_names.specs.Name.{has_form, is_site_byte, is_site_name, is_word, is_word_byte, most_name, most_word}
use Rattle.uu_core.specs.Marks.{marks_end}
use Rattle.uu_core.specs.State.{IsKind, most_arguments, most_bytes}
use Rattle.uu_core.specs.WellFormed.{HasWords}
use Rattle.uu_core.specs.declared.custody.Taken.{Taken}
use Rattle.uu_core.specs.declared.job.Kind.{Kind}
use Rattle.uu_core.specs.declared.job.Kind.TheVariants.{Send, Request, Execute}
use Rattle.uu_bundle.specs.Bundles.{AreTaken, IsBundle, IsGiven, answer_front_text, answer_bundle, bundle_text, front_text, half, has_room, is_short, is_within_limits, jobs_with_room, most_bundle, packed_bundle, records_text, takes_job, told_first, told_of, told_records, told_with_room, text_with_jobs, text_with_refused, text_with_told}
use Rattle.uu_bundle.specs.Laws.{IsLongestFront, room_for}
use Rattle.uu_bundle.specs.Marks.{mark_of}
use Rattle.uu_bundle.specs.Texts.{IsHeading, IsParcel, IsRecord, IsRefused, end_text, grade_text, heading_text, heading_words, record_text, spaced_words, summed_text}
use Rattle.uu_bundle.specs.declared.bundle.Heading.{Heading}
use Rattle.uu_bundle.specs.declared.bundle.Parcel.{Parcel}
use Rattle.uu_bundle.specs.declared.bundle.Record.{Record}
use Rattle.uu_bundle.specs.declared.bundle.Record.TheVariants.{Has, No, Job}
use Rattle.uu_bundle.specs.declared.bundle.Refused.{Refused}
use Rattle.uu_bundle.specs.declared.bundle.Told.{Told}
use Rattle.uu_bundle.proofs.MarkSizes.{mark_below, mark_fits}
use Rattle.uu_bundle.proofs.Plain.{grade_is}

-- ---- the size of the first line

name_fits : (name : List ℕ) → IsTrue (is_site_name name) → length name ≤ most_name
name_fits name is = leb-true (length name) most_name (and_parts (has_form is_site_byte name) (nat_le (length name) most_name) is).1

pub word_fits : (word : List ℕ) → IsTrue (is_word word) → length word ≤ most_word
word_fits word is = leb-true (length word) most_word (and_parts (has_form is_word_byte word) (nat_le (length word) most_word) is).1

pub one_sized : (word : List ℕ) (words : List (List ℕ)) → length (spaced_words (word ∷ words)) ≡ 1 + length word + length (spaced_words words)
one_sized word words = omega (arith, length-append (32 ∷ word) (spaced_words words))

pub grade_sized : (grade : ℕ) → grade < 62 → length (grade_text grade) ≡ 1
grade_sized grade below = let is = grade_is grade below in ap length is.1

words_sized : (a b s n g m : List ℕ)
    → length (spaced_words (a ∷ b ∷ s ∷ n ∷ g ∷ m ∷ [])) ≡ 6 + length a + length b + length s + length n + length g + length m
words_sized a b s n g m =
    omega (
      arith,
      one_sized a (b ∷ s ∷ n ∷ g ∷ m ∷ []),
      one_sized b (s ∷ n ∷ g ∷ m ∷ []),
      one_sized s (n ∷ g ∷ m ∷ []),
      one_sized n (g ∷ m ∷ []),
      one_sized g (m ∷ []),
      one_sized m [],
    )

pub heading_sized : (heading : Heading) → IsHeading heading → length (heading_text heading) ≤ 500
heading_sized heading is =
    let words = heading_words heading in
    let sum = mark_of (summed_text heading) in
    let below = mark_below (summed_text heading) in
    let whole : length (heading_text heading) ≡ length (codes "bundle" ++ spaced_words words) + 1 = length-append (codes "bundle" ++ spaced_words words) (10 ∷ []) in
    let line : length (codes "bundle" ++ spaced_words words) ≡ 6 + length (spaced_words words) = length-append (codes "bundle") (spaced_words words) in
    let inside = words_sized heading.from heading.to heading.spool (decimal heading.below) (grade_text heading.grade) (decimal sum) in
    let number = length-decimal-le 10 heading.below (omega arith) (omega (arith, is.below)) (omega (arith, is.below)) in
    let mark = length-decimal-le 19 sum (omega arith) (omega arith) (mark_fits (summed_text heading)) in
    omega (arith, name_fits heading.from is.from, name_fits heading.to is.to, word_fits heading.spool is.spool, grade_sized heading.grade is.grade)

-- ---- what the bundle has

-- the first of the taken jobs that the bundle has, and the others
record Front (first further : ℕ) (text : List ℕ) (taken shown : List Taken) : Type 0 where
  others : List Taken
  is_front : taken ≡ shown ++ others
  one : length shown ≡ 1 → length (text_with_told text shown) ≤ first
  within : 1 < length shown → length (text_with_told text shown) ≤ further
  longest : (next : Taken) (more : List Taken) → others ≡ next ∷ more → room_for first further shown < length (text_with_told (text_with_told text shown) (next ∷ []))

-- one that it has, and others
pub told_one : (text : List ℕ) (one : Taken) (taken : List Taken) → text_with_told text (one ∷ taken) ≡ text_with_told (text ++ record_text (Has (told_of one))) taken
told_one text one taken = sym (append_assoc text (record_text (Has (told_of one))) (records_text (told_records taken)))

told_alone : (text : List ℕ) (one : Taken) → text_with_told (text_with_told text []) (one ∷ []) ≡ text ++ record_text (Has (told_of one))
told_alone text one =
    ap (λ t. t ++ (record_text (Has (told_of one)) ++ [])) (append-nil text) ∙ ap (λ r. text ++ r) (append-nil (record_text (Has (told_of one))))

-- the text with none
told_none : (text : List ℕ) (shown : List Taken) → length shown ≡ 0 → text_with_told text shown ≡ text
told_none text [] none = append-nil text
told_none text (one ∷ shown) none = absurd (omega arith)

same_room : (room : ℕ) (shown : List Taken) → room_for room room shown ≡ room
same_room room [] = refl
same_room room (one ∷ shown) = refl

front_told : (first further : ℕ) (text : List ℕ) (taken : List Taken) → Front first further text taken (told_with_room first further text taken)
front_told first further text [] =
    record { others = []; is_front = refl; one = λ is. absurd (omega arith); within = λ more. absurd (omega arith); longest = λ next more is. absurd (cc) }
front_told first further text (one ∷ taken) =
    by (nat_le (length (text ++ record_text (Has (told_of one)))) first) refl (front_told further further (text ++ record_text (Has (told_of one))) taken)
  where
    by : (b : Bool) → nat_le (length (text ++ record_text (Has (told_of one)))) first ≡ b
        → Front further further (text ++ record_text (Has (told_of one))) taken (told_with_room further further (text ++ record_text (Has (told_of one))) taken)
        → Front first further text (one ∷ taken) (cond b (one ∷ told_with_room further further (text ++ record_text (Has (told_of one))) taken) [])
    by true is rest =
        let more = text ++ record_text (Has (told_of one)) in
        let shown = told_with_room further further more taken in
        let regroup = sym (told_one text one shown) in
        let small : length more ≤ first = leb-true (length more) first is in
        record {
          others = rest.others;
          is_front = ap (λ ts. one ∷ ts) rest.is_front;
          one = λ is. subst (λ t. length t ≤ first) (sym (told_none more shown (omega arith)) ∙ regroup) small;
          within = λ some. subst (λ t. length t ≤ further) regroup (any (length shown) refl rest.one rest.within (omega arith));
          longest = λ next behind at. subst (λ t. further < length (text_with_told t (next ∷ []))) regroup
              (subst (λ room. room < length (text_with_told (text_with_told more shown) (next ∷ []))) (same_room further shown) (rest.longest next behind at));
        }
      where
        any : {P : Type 0} (n : ℕ) {m : ℕ} → m ≡ n → (m ≡ 1 → P) → (1 < m → P) → 1 ≤ n → P
        any zero is one within some = absurd (omega arith)
        any (suc zero) is one within some = one is
        any (suc (suc n)) is one within some = within (omega arith)
    by false is rest =
        record {
          others = one ∷ taken;
          is_front = refl;
          one = λ is. absurd (omega arith);
          within = λ more. absurd (omega arith);
          longest = λ next behind at.
              let same : one ≡ next = cc in
              subst (λ t. first < length (text_with_told (text_with_told text []) (t ∷ []))) same
              (subst (λ t. first < length t) (sym (told_alone text one)) (leb-false (length (text ++ record_text (Has (told_of one)))) first is));
        }

half_less : (most : ℕ) → most ≤ most_bundle → half most ≤ half most_bundle
half_less most less = omega (arith, less)

pub longest_front : (most : ℕ) (heading : Heading) (taken : List Taken) → most ≤ most_bundle → IsHeading heading → IsLongestFront most heading taken (front_text most heading taken)
longest_front most heading taken less is =
    let text = heading_text heading in
    let shown = told_first most heading taken in
    let front = front_told (half most_bundle) (half most) text taken in
    let small = heading_sized heading is in
    record {
      first = shown;
      others = front.others;
      is_front = front.is_front;
      is_text = refl;
      fits = by (length shown) refl front small;
      within = front.within;
      longest = front.longest;
    }
  where
    by : (n : ℕ) → length (told_first most heading taken) ≡ n → Front (half most_bundle) (half most) (heading_text heading) taken (told_first most heading taken)
        → length (heading_text heading) ≤ 500 → length (text_with_told (heading_text heading) (told_first most heading taken)) ≤ half most_bundle
    by zero is front small =
        subst (λ t. length t ≤ half most_bundle) (sym (told_none (heading_text heading) (told_first most heading taken) is)) (omega (arith, small))
    by (suc zero) is front small = front.one is
    by (suc (suc n)) is front small = omega (arith, front.within (omega (arith, is)), half_less most less)

-- ---- the text

pub jobs_written : (first further : ℕ) (text : List ℕ) (jobs : List Parcel) → text_with_jobs first further text jobs ≡ text ++ records_text (map Job (jobs_with_room first further text jobs))
jobs_written first further text [] = sym (append-nil text)
jobs_written first further text (job ∷ jobs) = by (takes_job first text job) (jobs_written further further (text ++ record_text (Job job)) jobs)
  where
    by : (b : Bool)
        → text_with_jobs further further (text ++ record_text (Job job)) jobs
        ≡ (text ++ record_text (Job job)) ++ records_text (map Job (jobs_with_room further further (text ++ record_text (Job job)) jobs))
        → cond b (text_with_jobs further further (text ++ record_text (Job job)) jobs) text
        ≡ text ++ records_text (map Job (cond b (job ∷ jobs_with_room further further (text ++ record_text (Job job)) jobs) []))
    by true rest = rest ∙ append_assoc text (record_text (Job job)) (records_text (map Job (jobs_with_room further further (text ++ record_text (Job job)) jobs)))
    by false rest = sym (append-nil text)

told_mapped : (taken : List Taken) → map (λ one. Has (told_of one)) taken ≡ map Has (map told_of taken)
told_mapped [] = refl
told_mapped (one ∷ taken) = ap (λ rs. Has (told_of one) ∷ rs) (told_mapped taken)

pub answers_are_text : (most : ℕ) (heading : Heading) (taken : List Taken) (refused : List Refused) (jobs : List Parcel)
    → text_with_jobs most_bundle most (text_with_refused (answer_front_text heading taken) refused) jobs ++ end_text ≡ bundle_text (answer_bundle most heading taken refused jobs)
answers_are_text most heading taken refused jobs =
    let front = text_with_refused (answer_front_text heading taken) refused in
    let inside = map Job (jobs_with_room most_bundle most front jobs) in
    ap (λ t. t ++ end_text) (jobs_written most_bundle most front jobs)
    ∙ append_assoc front (records_text inside) end_text
    ∙ append_assoc (answer_front_text heading taken) (records_text (map No refused)) (records_text inside ++ end_text)
    ∙ append_assoc (heading_text heading) (records_text (told_records taken)) (records_text (map No refused) ++ (records_text inside ++ end_text))
    ∙ ap (λ t. heading_text heading ++ t)
    (ap (λ rs. records_text rs ++ (records_text (map No refused) ++ (records_text inside ++ end_text))) (told_mapped taken)
    ∙ regroup (map Has (map told_of taken)) (map No refused) inside)
  where
    regroup : (a b d : List Record) → records_text a ++ (records_text b ++ (records_text d ++ end_text)) ≡ records_text (a ++ (b ++ d)) ++ end_text
    regroup a b d =
        ap (λ t. records_text a ++ t) (sym (append_assoc (records_text b) (records_text d) end_text) ∙ ap (λ t. t ++ end_text) (sym (flat_map-append record_text b d)))
        ∙ sym (append_assoc (records_text a) (records_text (b ++ d)) end_text) ∙ ap (λ t. t ++ end_text) (sym (flat_map-append record_text a (b ++ d)))

pub pieces_are_text : (most : ℕ) (heading : Heading) (taken : List Taken) (jobs : List Parcel)
    → text_with_jobs most_bundle most (front_text most heading taken) jobs ++ end_text ≡ bundle_text (packed_bundle most heading taken jobs)
pieces_are_text most heading taken jobs =
    let front = front_text most heading taken in
    let shown = told_first most heading taken in
    let inside = map Job (jobs_with_room most_bundle most front jobs) in
    ap (λ t. t ++ end_text) (jobs_written most_bundle most front jobs)
    ∙ append_assoc front (records_text inside) end_text
    ∙ append_assoc (heading_text heading) (records_text (told_records shown)) (records_text inside ++ end_text)
    ∙ ap (λ t. heading_text heading ++ t)
    (ap (λ rs. records_text rs ++ (records_text inside ++ end_text)) (told_mapped shown)
    ∙ sym (append_assoc (records_text (map Has (map told_of shown))) (records_text inside) end_text)
    ∙ ap (λ t. t ++ end_text) (sym (flat_map-append record_text (map Has (map told_of shown)) inside)))

-- ---- room

within : (most : ℕ) (text : List ℕ) (job : Parcel) → takes_job most text job ≡ true → length text + length (record_text (Job job)) + 4 ≤ most
within most text job takes = leb-true (length text + length (record_text (Job job)) + 4) most (and_parts (is_within_limits job) (has_room most text job) takes).1

jobs_fit : (top first further : ℕ) (text : List ℕ) (jobs : List Parcel) → first ≤ top → further ≤ top → length text + 4 ≤ top → length (text_with_jobs first further text jobs) + 4 ≤ top
jobs_fit top first further text [] low less fits = fits
jobs_fit top first further text (job ∷ jobs) low less fits = by (takes_job first text job) refl (jobs_fit top further further (text ++ record_text (Job job)) jobs less less)
  where
    by : (b : Bool) → takes_job first text job ≡ b
        → (length (text ++ record_text (Job job)) + 4 ≤ top → length (text_with_jobs further further (text ++ record_text (Job job)) jobs) + 4 ≤ top)
        → length (cond b (text_with_jobs further further (text ++ record_text (Job job)) jobs) text) + 4 ≤ top
    by true is rest = let room = within first text job is in rest (omega (arith, low, length-append text (record_text (Job job))))
    by false is rest = fits

-- with a job that has to fit, the text fits
some_fit : (room : ℕ) (text : List ℕ) (jobs : List Parcel) → 1 ≤ length (jobs_with_room room room text jobs) → length (text_with_jobs room room text jobs) + 4 ≤ room
some_fit room text [] some = absurd (omega (arith, some))
some_fit room text (job ∷ jobs) some = by (takes_job room text job) refl some
  where
    by : (b : Bool) → takes_job room text job ≡ b → 1 ≤ length (cond b (job ∷ jobs_with_room room room (text ++ record_text (Job job)) jobs) [])
        → length (cond b (text_with_jobs room room (text ++ record_text (Job job)) jobs) text) + 4 ≤ room
    by true is some =
        let fits = within room text job is in
        jobs_fit room room room (text ++ record_text (Job job)) jobs (omega arith) (omega arith) (omega (arith, length-append text (record_text (Job job))))
    by false is some = absurd (omega (arith, some))

-- with two jobs the text is within the room for further ones
two_fit : (first further : ℕ) (text : List ℕ) (jobs : List Parcel) → 1 < length (jobs_with_room first further text jobs) → length (text_with_jobs first further text jobs) + 4 ≤ further
two_fit first further text [] some = absurd (omega (arith, some))
two_fit first further text (job ∷ jobs) some = by (takes_job first text job) some
  where
    by : (b : Bool) → 1 < length (cond b (job ∷ jobs_with_room further further (text ++ record_text (Job job)) jobs) [])
        → length (cond b (text_with_jobs further further (text ++ record_text (Job job)) jobs) text) + 4 ≤ further
    by true some = some_fit further (text ++ record_text (Job job)) jobs (omega (arith, some))
    by false some = absurd (omega (arith, some))

answer_sized : (most : ℕ) (heading : Heading) (taken : List Taken) (refused : List Refused) (jobs : List Parcel)
    → length (bundle_text (answer_bundle most heading taken refused jobs)) ≡ length (text_with_jobs most_bundle most (text_with_refused (answer_front_text heading taken) refused) jobs) + 4
answer_sized most heading taken refused jobs =
    ap length (sym (answers_are_text most heading taken refused jobs)) ∙ length-append (text_with_jobs most_bundle most (text_with_refused (answer_front_text heading taken) refused) jobs) end_text

packed_sized : (most : ℕ) (heading : Heading) (taken : List Taken) (jobs : List Parcel)
    → length (bundle_text (packed_bundle most heading taken jobs)) ≡ length (text_with_jobs most_bundle most (front_text most heading taken) jobs) + 4
packed_sized most heading taken jobs =
    ap length (sym (pieces_are_text most heading taken jobs)) ∙ length-append (text_with_jobs most_bundle most (front_text most heading taken) jobs) end_text

pub answers_fit : (most : ℕ) (heading : Heading) (taken : List Taken) (refused : List Refused) (jobs : List Parcel) → most ≤ most_bundle
    → length (text_with_refused (answer_front_text heading taken) refused) + length end_text ≤ most_bundle
    → length (bundle_text (answer_bundle most heading taken refused jobs)) ≤ most_bundle
answers_fit most heading taken refused jobs less fits =
    let front = text_with_refused (answer_front_text heading taken) refused in
    omega (arith, answer_sized most heading taken refused jobs, jobs_fit most_bundle most_bundle most front jobs (omega arith) less fits)

pub answers_limited : (most : ℕ) (heading : Heading) (taken : List Taken) (refused : List Refused) (jobs : List Parcel) → 1 < length (answer_bundle most heading taken refused jobs).jobs
    → length (bundle_text (answer_bundle most heading taken refused jobs)) ≤ most
answers_limited most heading taken refused jobs two =
    let front = text_with_refused (answer_front_text heading taken) refused in
    omega (arith, answer_sized most heading taken refused jobs, two_fit most_bundle most front jobs two)

pub pieces_fit : (most : ℕ) (heading : Heading) (taken : List Taken) (jobs : List Parcel) → most ≤ most_bundle → IsHeading heading
    → length (bundle_text (packed_bundle most heading taken jobs)) ≤ most_bundle
pieces_fit most heading taken jobs less is =
    let front = front_text most heading taken in
    let fits : length front ≤ half most_bundle = (longest_front most heading taken less is).fits in
    omega (arith, packed_sized most heading taken jobs, jobs_fit most_bundle most_bundle most front jobs (omega arith) less (omega (arith, fits)))

pub pieces_limited : (most : ℕ) (heading : Heading) (taken : List Taken) (jobs : List Parcel) → 1 < length (packed_bundle most heading taken jobs).jobs
    → length (bundle_text (packed_bundle most heading taken jobs)) ≤ most
pieces_limited most heading taken jobs two =
    omega (arith, packed_sized most heading taken jobs, two_fit most_bundle most (front_text most heading taken) jobs two)

-- ---- and can be written

is_parcel : (heading : Heading) (room : ℕ) (text : List ℕ) (job : Parcel) → IsGiven heading job → takes_job room text job ≡ true → IsParcel heading job
is_parcel heading room text job given takes =
    let limits = and_parts (nat_le 1 job.number && is_short job.kind) (nat_le (length job.bytes) most_bytes) (and_parts (is_within_limits job) (has_room room text job) takes).0 in
    let first = and_parts (nat_le 1 job.number) (is_short job.kind) limits.0 in
    record {
      some = leb-true 1 job.number first.0;
      number = given.number;
      grade = given.grade;
      user = given.user;
      kind = is_kind job.kind given.kind first.1;
      size = leb-true (length job.bytes) most_bytes limits.1;
      mark = given.mark;
    }
  where
    is_kind : (kind : Kind) → HasWords kind → is_short kind ≡ true → IsKind kind
    is_kind (Send source target) words short = words
    is_kind (Request source target) words short = words
    is_kind (Execute command arguments) words short = (words.0, words.1, leb-true (length arguments) most_arguments short)

jobs_are : (heading : Heading) (first further : ℕ) (text : List ℕ) (jobs : List Parcel) → All (IsGiven heading) jobs → All (IsRecord heading) (map Job (jobs_with_room first further text jobs))
jobs_are heading first further text [] given = All-nil (IsRecord heading)
jobs_are heading first further text (job ∷ jobs) given =
    by (takes_job first text job) refl (All-head (IsGiven heading) job jobs given)
    (jobs_are heading further further (text ++ record_text (Job job)) jobs (All-tail (IsGiven heading) job jobs given))
  where
    by : (b : Bool) → takes_job first text job ≡ b → IsGiven heading job → All (IsRecord heading) (map Job (jobs_with_room further further (text ++ record_text (Job job)) jobs))
        → All (IsRecord heading) (map Job (cond b (job ∷ jobs_with_room further further (text ++ record_text (Job job)) jobs) []))
    by true is own rest =
        All-cons (IsRecord heading) (Job job) (map Job (jobs_with_room further further (text ++ record_text (Job job)) jobs)) (is_parcel heading first text job own is) rest
    by false is own rest = All-nil (IsRecord heading)

told_are : (heading : Heading) (taken : List Taken) → All (λ one. (one.number < 2 ^ 32) × (one.mark < marks_end)) taken → All (IsRecord heading) (map Has (map told_of taken))
told_are heading [] all = All-nil (IsRecord heading)
told_are heading (one ∷ taken) all =
    let own = All-head (λ (t : Taken). (t.number < 2 ^ 32) × (t.mark < marks_end)) one taken all in
    All-cons (IsRecord heading) (Has (told_of one)) (map Has (map told_of taken)) (record { number = own.0; mark = own.1 })
    (told_are heading taken (All-tail (λ (t : Taken). (t.number < 2 ^ 32) × (t.mark < marks_end)) one taken all))

refused_are : (heading : Heading) (refused : List Refused) → All IsRefused refused → All (IsRecord heading) (map No refused)
refused_are heading [] all = All-nil (IsRecord heading)
refused_are heading (one ∷ refused) all =
    All-cons (IsRecord heading) (No one) (map No refused) (All-head IsRefused one refused all) (refused_are heading refused (All-tail IsRefused one refused all))

-- numbers that rise also rise in what the bundle has
told_rising : (taken : List Taken) → AllPairs (λ (a : Taken) (b : Taken). a.number < b.number) taken → AllPairs (λ (a : Told) (b : Told). a.number < b.number) (map told_of taken)
told_rising taken rises i j d before inside =
    let e : Taken = record { number = 0; mark = 0; job = 0 } in
    let size : length (map told_of taken) ≡ length taken = length-map taken told_of in
    let first = ap (λ (t : Told). t.number) (get_or-map told_of taken i e d (omega arith)) in
    let second = ap (λ (t : Told). t.number) (get_or-map told_of taken j e d (omega arith)) in
    let own : (get_or taken i e).number < (get_or taken j e).number = rises i j e before (omega arith) in
    omega arith

-- what holds of all of what was taken holds of a front of it
front_taken : (front others : List Taken) → AreTaken (front ++ others) → AreTaken front
front_taken front others are = record { numbers = all front others are.numbers; rising = rises front others are.rising }
  where
    all : (front others : List Taken) → All (λ one. (one.number < 2 ^ 32) × (one.mark < marks_end)) (front ++ others) → All (λ one. (one.number < 2 ^ 32) × (one.mark < marks_end)) front
    all [] others good = All-nil (λ (one : Taken). (one.number < 2 ^ 32) × (one.mark < marks_end))
    all (one ∷ front) others good =
        All-cons (λ (one : Taken). (one.number < 2 ^ 32) × (one.mark < marks_end)) one front (All-head (λ (one : Taken). (one.number < 2 ^ 32) × (one.mark < marks_end)) one (front ++ others) good)
        (all front others (All-tail (λ (one : Taken). (one.number < 2 ^ 32) × (one.mark < marks_end)) one (front ++ others) good))

    rises : (front others : List Taken) → AllPairs (λ (a : Taken) (b : Taken). a.number < b.number) (front ++ others) → AllPairs (λ (a : Taken) (b : Taken). a.number < b.number) front
    rises front others good i j d before within =
        let size = length-append front others in
        let first = ap (λ (t : Taken). t.number) (get_or_append_left front others d i (omega arith)) in
        let second = ap (λ (t : Taken). t.number) (get_or_append_left front others d j within) in
        let own : (get_or (front ++ others) i d).number < (get_or (front ++ others) j d).number = good i j d before (omega arith) in
        omega arith

pub answered_is_bundle : (most : ℕ) (heading : Heading) (taken : List Taken) (refused : List Refused) (jobs : List Parcel) → IsHeading heading → AreTaken taken → All IsRefused refused → All (IsGiven heading) jobs
    → IsBundle (answer_bundle most heading taken refused jobs)
answered_is_bundle most heading taken refused jobs good are all given =
    let front = text_with_refused (answer_front_text heading taken) refused in
    record {
      heading = good;
      records = All-append (IsRecord heading) (map Has (map told_of taken)) (map No refused ++ map Job (jobs_with_room most_bundle most front jobs)) (told_are heading taken are.numbers)
          (All-append (IsRecord heading) (map No refused) (map Job (jobs_with_room most_bundle most front jobs)) (refused_are heading refused all) (jobs_are heading most_bundle most front jobs given));
      rising = told_rising taken are.rising;
      whole = refl;
    }

pub packed_is_bundle : (most : ℕ) (heading : Heading) (taken : List Taken) (jobs : List Parcel) → IsHeading heading → AreTaken taken → All (IsGiven heading) jobs
    → IsBundle (packed_bundle most heading taken jobs)
packed_is_bundle most heading taken jobs good are given =
    let shown = told_first most heading taken in
    let text = front_text most heading taken in
    let front = front_told (half most_bundle) (half most) (heading_text heading) taken in
    let told = front_taken shown front.others (subst AreTaken front.is_front are) in
    record {
      heading = good;
      records = All-append (IsRecord heading) (map Has (map told_of shown)) (map Job (jobs_with_room most_bundle most text jobs)) (told_are heading shown told.numbers)
          (jobs_are heading most_bundle most text jobs given);
      rising = told_rising shown told.rising;
      whole = refl;
    }
