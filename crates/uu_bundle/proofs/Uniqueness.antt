-- A text is cut into records in one way.
use Rattle.std.proofs.Common.{◌≡◌, ◌≢◌, ◌∙◌, ◌<◌, ◌^◌, ap, sym, refl, arith, subst, ℕ, List, [], ◌∷◌, ◌++◌, append_assoc, length, take, drop, get_or, map, Some, All, codes}
use Rattle.std.proofs.lemmas.Fmt.{decimal_injective}
use Rattle.std.proofs.lemmas.List.{drop_at, take_at}
use Rattle.std.proofs.lemmas.List.Elements.{All-head, All-tail}
use Rattle.std.specs.Fmt.{decimal}
use Rattle.uu_names.specs.Grade.{grade_count, rank_of}
use Rattle.uu_core.specs.Refusal.{refusal_name}
use Rattle.uu_bundle.specs.Bundles.{records_text}
use Rattle.uu_bundle.specs.Reading.{BeginsWithNoRecord, jobs_in, refused_in, told_in}
use Rattle.uu_bundle.specs.Texts.{IsHeading, IsParcel, IsRecord, IsRefused, IsTold, end_text, grade_text, heading_text, heading_words, job_words, kind_words, marked_text, record_text, refused_words, told_words}
use Rattle.uu_bundle.specs.declared.bundle.Heading.{Heading}
use Rattle.uu_bundle.specs.declared.bundle.Parcel.{Parcel}
use Rattle.uu_bundle.specs.declared.bundle.Record.{Record}
use Rattle.uu_bundle.specs.declared.bundle.Record.TheVariants.{Has, No, Job}
use Rattle.uu_bundle.specs.declared.bundle.Refused.{Refused}
use Rattle.uu_bundle.specs.declared.bundle.Told.{Told}
use Rattle.uu_bundle.proofs.Cuts.{lines_cut}
use Rattle.uu_bundle.proofs.MarkSizes.{mark_fits}
use Rattle.uu_bundle.proofs.Plain.{bare_from_plain, grade_is}
use Rattle.uu_bundle.proofs.Records.{first_of, has_job, has_no, heading_is, heading_plain, kinds_same, no_job, reasons_same, record_body, record_is, record_name, record_plain, record_words}

-- ---- one record

told_same : (one other : Told) → IsTold one → IsTold other → told_words one ≡ told_words other → one ≡ other
told_same one other good fine is =
    let numbers : decimal one.number ≡ decimal other.number = cc in
    let marks : decimal one.mark ≡ decimal other.mark = cc in
    let number = decimal_injective one.number other.number (omega (arith, good.number)) (omega (arith, fine.number)) numbers in
    let mark = decimal_injective one.mark other.mark (omega (arith, good.mark)) (omega (arith, fine.mark)) marks in
    ap (λ (n : ℕ). record { number = n; mark = one.mark }) number ∙ ap (λ (m : ℕ). record { number = other.number; mark = m }) mark

refused_same : (one other : Refused) → IsRefused one → IsRefused other → refused_words one ≡ refused_words other → one ≡ other
refused_same one other good fine is =
    let numbers : decimal one.number ≡ decimal other.number = cc in
    let marks : decimal one.mark ≡ decimal other.mark = cc in
    let names : refusal_name one.reason ≡ refusal_name other.reason = cc in
    let number = decimal_injective one.number other.number (omega (arith, good.number)) (omega (arith, fine.number)) numbers in
    let mark = decimal_injective one.mark other.mark (omega (arith, good.mark)) (omega (arith, fine.mark)) marks in
    refused_by one other number mark (reasons_same one.reason other.reason names)
  where
    refused_by : (a b : Refused) → a.number ≡ b.number → a.mark ≡ b.mark → a.reason ≡ b.reason → a ≡ b
    refused_by a b n m r =
        λ i. record { number = n i; mark = m i; reason = r i }

grades_same : (one other : ℕ) → one < grade_count → other < grade_count → grade_text one ≡ grade_text other → one ≡ other
grades_same one other good fine is =
    let first = grade_is one good in
    let second = grade_is other fine in
    let bytes : first.0 ∷ [] ≡ second.0 ∷ [] = sym first.1 ∙ is ∙ second.1 in
    let byte : first.0 ≡ second.0 = cc in
    let found : Some one ≡ Some other = sym first.3 ∙ ap rank_of byte ∙ second.3 in cc

mark_small : (heading : Heading) (job : Parcel) → IsParcel heading job → job.mark < 2 ^ 64
mark_small heading job good = subst (λ m. m < 2 ^ 64) (sym good.mark) (mark_fits (marked_text heading.from heading.to heading.spool job.number job.user job.kind job.bytes))

jobs_same : (heading : Heading) (one other : Parcel) (x y : List ℕ) → IsParcel heading one → IsParcel heading other → job_words one ≡ job_words other
    → (one.bytes ++ 10 ∷ []) ++ x ≡ (other.bytes ++ 10 ∷ []) ++ y → (one ≡ other) × (x ≡ y)
jobs_same heading one other x y good fine words rests =
    let numbers : decimal one.number ≡ decimal other.number = cc in
    let marks : decimal one.mark ≡ decimal other.mark = cc in
    let grades : grade_text one.grade ≡ grade_text other.grade = cc in
    let users : one.user ≡ other.user = cc in
    let sizes : decimal (length one.bytes) ≡ decimal (length other.bytes) = cc in
    let kinds : kind_words one.kind ≡ kind_words other.kind = cc in
    let size = decimal_injective (length one.bytes) (length other.bytes) (omega (arith, good.size)) (omega (arith, fine.size)) sizes in
    let texts : one.bytes ++ (10 ∷ x) ≡ other.bytes ++ (10 ∷ y) = sym (append_assoc one.bytes (10 ∷ []) x) ∙ rests ∙ append_assoc other.bytes (10 ∷ []) y in
    let bytes : one.bytes ≡ other.bytes = sym (take_at one.bytes (10 ∷ x) (length other.bytes) size) ∙ ap (take (length other.bytes)) texts ∙ take_at other.bytes (10 ∷ y) (length other.bytes) refl in
    let behind : 10 ∷ x ≡ 10 ∷ y = sym (drop_at one.bytes (10 ∷ x) (length other.bytes) size) ∙ ap (drop (length other.bytes)) texts ∙ drop_at other.bytes (10 ∷ y) (length other.bytes) refl in
    let number = decimal_injective one.number other.number (omega (arith, good.number)) (omega (arith, fine.number)) numbers in
    let mark = decimal_injective one.mark other.mark (mark_small heading one good) (mark_small heading other fine) marks in
    let grade = grades_same one.grade other.grade good.grade fine.grade grades in
    let kind = kinds_same one.kind other.kind kinds in (
      job_by one other number mark grade users kind bytes,
      ap (drop 1) behind,
    )
  where
    job_by : (a b : Parcel) → a.number ≡ b.number → a.mark ≡ b.mark → a.grade ≡ b.grade → a.user ≡ b.user → a.kind ≡ b.kind → a.bytes ≡ b.bytes → a ≡ b
    job_by a b n m g u k t =
        λ i. record { number = n i; mark = m i; grade = g i; user = u i; kind = k i; bytes = t i }

pub next_same : (heading : Heading) (one other : Record) (x y : List ℕ) → IsRecord heading one → IsRecord heading other → record_text one ++ x ≡ record_text other ++ y → (one ≡ other) × (x ≡ y)
next_same heading one other x y good fine is =
    by one other good fine
    (lines_cut (record_name one ∷ record_words one) (record_name other ∷ record_words other) (record_body one ++ x) (record_body other ++ y)
    (bare_from_plain (record_name one ∷ record_words one) (record_plain heading one good)) (bare_from_plain (record_name other ∷ record_words other) (record_plain heading other fine))
    (ap (λ t. 32 ∷ t) (sym (record_is one x) ∙ is ∙ record_is other y)))
  where
    by : (one other : Record) → IsRecord heading one → IsRecord heading other → (record_name one ∷ record_words one ≡ record_name other ∷ record_words other) × (record_body one ++ x ≡ record_body other ++ y)
        → (one ≡ other) × (x ≡ y)
    by (Has a) (Has b) good fine same = let words : told_words a ≡ told_words b = cc in (ap Has (told_same a b good fine words), same.1)
    by (Has a) (No b) good fine same = absurd (has_no (ap first_of same.0))
    by (Has a) (Job b) good fine same = absurd (has_job (ap first_of same.0))
    by (No a) (Has b) good fine same = absurd (has_no (sym (ap first_of same.0)))
    by (No a) (No b) good fine same = let words : refused_words a ≡ refused_words b = cc in (ap No (refused_same a b good fine words), same.1)
    by (No a) (Job b) good fine same = absurd (no_job (ap first_of same.0))
    by (Job a) (Has b) good fine same = absurd (has_job (sym (ap first_of same.0)))
    by (Job a) (No b) good fine same = absurd (no_job (sym (ap first_of same.0)))
    by (Job a) (Job b) good fine same = let words : job_words a ≡ job_words b = cc in let alike = jobs_same heading a b x y good fine words same.1 in (ap Job alike.0, alike.1)

-- ---- the first line

pub headings_same : (one other : Heading) (x y : List ℕ) → IsHeading one → IsHeading other → heading_text one ++ x ≡ heading_text other ++ y → (one ≡ other) × (x ≡ y)
headings_same one other x y good fine is =
    let both_lines = lines_cut (codes "bundle" ∷ heading_words one) (codes "bundle" ∷ heading_words other) x y (bare_from_plain (codes "bundle" ∷ heading_words one) (heading_plain one good))
    (bare_from_plain (codes "bundle" ∷ heading_words other) (heading_plain other fine)) (ap (λ t. 32 ∷ t) (sym (heading_is one x) ∙ is ∙ heading_is other y)) in
    let words : heading_words one ≡ heading_words other = ap (drop 1) both_lines.0 in
    let from : one.from ≡ other.from = cc in
    let to : one.to ≡ other.to = cc in
    let spool : one.spool ≡ other.spool = cc in
    let belows : decimal one.below ≡ decimal other.below = cc in
    let grades : grade_text one.grade ≡ grade_text other.grade = cc in
    let below = decimal_injective one.below other.below (omega (arith, good.below)) (omega (arith, fine.below)) belows in
    let grade = grades_same one.grade other.grade good.grade fine.grade grades in
    (λ i. record { from = from i; to = to i; spool = spool i; below = below i; grade = grade i }, both_lines.1)

-- ---- many records

end_first : (next : Record) (behind : List ℕ) → get_or (record_text next ++ behind) 0 0 ≢ 101
end_first (Has told) behind is = omega arith
end_first (No refused) behind is = omega arith
end_first (Job job) behind is = omega arith

-- no record begins with the last line
pub end_no_record : (heading : Heading) (more : List ℕ) → BeginsWithNoRecord heading (end_text ++ more)
end_no_record heading more next behind good is = end_first next behind (ap (λ t. get_or t 0 0) (sym is))

pub records_same : (heading : Heading) (rs ss : List Record) (x y : List ℕ) → All (IsRecord heading) rs → All (IsRecord heading) ss → BeginsWithNoRecord heading x → BeginsWithNoRecord heading y
    → records_text rs ++ x ≡ records_text ss ++ y → (rs ≡ ss) × (x ≡ y)
records_same heading [] [] x y good fine none_x none_y is = (refl, is)
records_same heading [] (s ∷ ss) x y good fine none_x none_y is =
    absurd (none_x s (records_text ss ++ y) (All-head (IsRecord heading) s ss fine) (is ∙ append_assoc (record_text s) (records_text ss) y))
records_same heading (r ∷ rs) [] x y good fine none_x none_y is =
    absurd (none_y r (records_text rs ++ x) (All-head (IsRecord heading) r rs good) (sym is ∙ append_assoc (record_text r) (records_text rs) x))
records_same heading (r ∷ rs) (s ∷ ss) x y good fine none_x none_y is =
    let first = next_same heading r s (records_text rs ++ x) (records_text ss ++ y) (All-head (IsRecord heading) r rs good) (All-head (IsRecord heading) s ss fine)
    (sym (append_assoc (record_text r) (records_text rs) x) ∙ is ∙ append_assoc (record_text s) (records_text ss) y) in
    let others = records_same heading rs ss x y (All-tail (IsRecord heading) r rs good) (All-tail (IsRecord heading) s ss fine) none_x none_y first.1 in
    (ap (λ z. z ∷ rs) first.0 ∙ ap (λ zs. s ∷ zs) others.0, others.1)

-- what is read before some text is the first of the records that come before the last line
pub records_front : (heading : Heading) (all rs : List Record) (x : List ℕ) → All (IsRecord heading) all → All (IsRecord heading) rs
    → records_text all ++ end_text ≡ records_text rs ++ x → (more : List Record) × (all ≡ rs ++ more)
records_front heading all [] x good fine is = (all, refl)
records_front heading [] (r ∷ rs) x good fine is =
    absurd (end_no_record heading [] r (records_text rs ++ x) (All-head (IsRecord heading) r rs fine) (is ∙ append_assoc (record_text r) (records_text rs) x))
records_front heading (a ∷ all) (r ∷ rs) x good fine is =
    let first = next_same heading a r (records_text all ++ end_text) (records_text rs ++ x) (All-head (IsRecord heading) a all good) (All-head (IsRecord heading) r rs fine)
    (sym (append_assoc (record_text a) (records_text all) end_text) ∙ is ∙ append_assoc (record_text r) (records_text rs) x) in
    let others = records_front heading all rs x (All-tail (IsRecord heading) a all good) (All-tail (IsRecord heading) r rs fine) first.1 in
    (others.0, ap (λ z. z ∷ all) first.0 ∙ ap (λ zs. r ∷ zs) others.1)

-- ---- records in the order in which they are written

told_of_jobs : (jobs : List Parcel) → told_in (map Job jobs) ≡ []
told_of_jobs [] = refl
told_of_jobs (job ∷ jobs) = told_of_jobs jobs

told_of_rest : (refused : List Refused) (jobs : List Parcel) → told_in (map No refused ++ map Job jobs) ≡ []
told_of_rest [] jobs = told_of_jobs jobs
told_of_rest (one ∷ refused) jobs = told_of_rest refused jobs

refused_of_jobs : (jobs : List Parcel) → refused_in (map Job jobs) ≡ []
refused_of_jobs [] = refl
refused_of_jobs (job ∷ jobs) = refused_of_jobs jobs

refused_of_rest : (refused : List Refused) (jobs : List Parcel) → refused_in (map No refused ++ map Job jobs) ≡ refused
refused_of_rest [] jobs = refused_of_jobs jobs
refused_of_rest (one ∷ refused) jobs = ap (λ rs. one ∷ rs) (refused_of_rest refused jobs)

jobs_of_jobs : (jobs : List Parcel) → jobs_in (map Job jobs) ≡ jobs
jobs_of_jobs [] = refl
jobs_of_jobs (job ∷ jobs) = ap (λ js. job ∷ js) (jobs_of_jobs jobs)

jobs_of_rest : (refused : List Refused) (jobs : List Parcel) → jobs_in (map No refused ++ map Job jobs) ≡ jobs
jobs_of_rest [] jobs = jobs_of_jobs jobs
jobs_of_rest (one ∷ refused) jobs = jobs_of_rest refused jobs

abbrev pub in_turn : List Told → List Refused → List Parcel → List Record
in_turn has refused jobs = map Has has ++ (map No refused ++ map Job jobs)

pub told_of_all : (has : List Told) (refused : List Refused) (jobs : List Parcel) → told_in (in_turn has refused jobs) ≡ has
told_of_all [] refused jobs = told_of_rest refused jobs
told_of_all (told ∷ has) refused jobs = ap (λ ts. told ∷ ts) (told_of_all has refused jobs)

pub refused_of_all : (has : List Told) (refused : List Refused) (jobs : List Parcel) → refused_in (in_turn has refused jobs) ≡ refused
refused_of_all [] refused jobs = refused_of_rest refused jobs
refused_of_all (told ∷ has) refused jobs = refused_of_all has refused jobs

pub jobs_of_all : (has : List Told) (refused : List Refused) (jobs : List Parcel) → jobs_in (in_turn has refused jobs) ≡ jobs
jobs_of_all [] refused jobs = jobs_of_rest refused jobs
jobs_of_all (told ∷ has) refused jobs = jobs_of_all has refused jobs

-- a front of jobs alone has jobs alone
only_jobs : (jobs : List Parcel) (rs more : List Record) → map Job jobs ≡ rs ++ more → (map Job (jobs_in rs) ≡ rs) × (told_in rs ≡ []) × (refused_in rs ≡ [])
only_jobs jobs [] more is = (refl, refl, refl)
only_jobs [] (r ∷ rs) more is = absurd (cc)
only_jobs (job ∷ jobs) (Has told ∷ rs) more is = absurd (cc)
only_jobs (job ∷ jobs) (No refused ∷ rs) more is = absurd (cc)
only_jobs (job ∷ jobs) (Job other ∷ rs) more is =
    let rest : map Job jobs ≡ rs ++ more = ap (drop 1) is in
    let so = only_jobs jobs rs more rest in (ap (λ z. Job other ∷ z) so.0, so.1, so.2)

abbrev behind_told : List Refused → List Parcel → List Record
behind_told refused jobs = map No refused ++ map Job jobs

-- a front of refusals and jobs has those alone
none_told : (refused : List Refused) (jobs : List Parcel) (rs more : List Record) → behind_told refused jobs ≡ rs ++ more → (behind_told (refused_in rs) (jobs_in rs) ≡ rs) × (told_in rs ≡ [])
none_told refused jobs [] more is = (refl, refl)
none_told [] jobs (r ∷ rs) more is =
    let only = only_jobs jobs (r ∷ rs) more is in (ap (λ fs. behind_told fs (jobs_in (r ∷ rs))) only.2 ∙ only.0, only.1)
none_told (one ∷ refused) jobs (Has told ∷ rs) more is = absurd (cc)
none_told (one ∷ refused) jobs (No other ∷ rs) more is =
    let so = none_told refused jobs rs more (ap (drop 1) is) in (ap (λ z. No other ∷ z) so.0, so.1)
none_told (one ∷ refused) jobs (Job other ∷ rs) more is = absurd (cc)

pub in_order : (has : List Told) (refused : List Refused) (jobs : List Parcel) (rs more : List Record) → in_turn has refused jobs ≡ rs ++ more → in_turn (told_in rs) (refused_in rs) (jobs_in rs) ≡ rs
in_order has refused jobs [] more is = refl
in_order [] refused jobs (r ∷ rs) more is =
    let none = none_told refused jobs (r ∷ rs) more is in ap (λ ts. in_turn ts (refused_in (r ∷ rs)) (jobs_in (r ∷ rs))) none.1 ∙ none.0
in_order (told ∷ has) refused jobs (Has other ∷ rs) more is = ap (λ z. Has other ∷ z) (in_order has refused jobs rs more (ap (drop 1) is))
in_order (told ∷ has) refused jobs (No other ∷ rs) more is = absurd (cc)
in_order (told ∷ has) refused jobs (Job other ∷ rs) more is = absurd (cc)
