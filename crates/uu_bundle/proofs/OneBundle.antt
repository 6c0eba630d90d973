-- Bundles, what is read of them and of their fronts.
use Rattle.std.proofs.Common.{◌≡◌, ◌≢◌, ◌∙◌, ◌<◌, ap, sym, refl, arith, subst, ℕ, List, [], ◌∷◌, ◌++◌, append_assoc, append-nil, length, length-append, ◌+◌, drop, Bool, true, false, cond, Some, None, All, codes, ◌⊎◌, inl, inr}
use Rattle.std.proofs.lemmas.List.{append_cancel_left}
use Rattle.std.proofs.lemmas.Slice.Eq.{bytes_eq-Decides}
use Rattle.std.proofs.lemmas.Fmt.{decimal_injective}
use Rattle.std.proofs.lemmas.Bool.{and_from}
use Rattle.std.specs.Fmt.{decimal}
use Rattle.std.specs.List.{list_all}
use Rattle.std.specs.Prelude.{IsSome}
use Rattle.std.specs.Str.{bytes_eq}
use Rattle.uu_names.specs.Name.{is_word_byte}
use Rattle.uu_bundle.specs.Bundles.{IsBundle, bundle_text, heading_of, records_of, records_text}
use Rattle.uu_bundle.specs.Internal.Forms.{are_plain}
use Rattle.uu_bundle.specs.Laws.{IsCutOff, IsFrontOf, IsMarked, Marked, marked_text_of}
use Rattle.uu_bundle.specs.Reading.{BeginsWithNoRecord, IsNoBundle, IsRead, jobs_in, line_behind, refused_in, stop_of, told_in}
use Rattle.uu_bundle.specs.Texts.{IsRecord, end_text, heading_text, kind_words, line_text}
use Rattle.uu_bundle.specs.declared.bundle.Bundle.{Bundle}
use Rattle.uu_bundle.specs.declared.bundle.Heading.{Heading}
use Rattle.uu_bundle.proofs.Cuts.{lines_cut}
use Rattle.uu_bundle.proofs.Plain.{bare_from_plain, decimal_is_plain, site_plain, word_is_plain}
use Rattle.uu_bundle.proofs.Records.{kind_plain, kinds_same}
use Rattle.uu_bundle.proofs.Uniqueness.{end_no_record, headings_same, in_order, in_turn, jobs_of_all, records_front, records_same, refused_of_all, told_of_all}

-- ---- one bundle

bundle_by : (one other : Bundle) → heading_of one ≡ heading_of other → one.has ≡ other.has → one.refused ≡ other.refused → one.jobs ≡ other.jobs → one.stopped ≡ other.stopped → one ≡ other
bundle_by one other heading has refused jobs stopped =
    λ i. record { from = (heading i).from; to = (heading i).to; spool = (heading i).spool; below = (heading i).below; grade = (heading i).grade; has = has i; refused = refused i; jobs = jobs i; stopped = stopped i }

pub one_bundle : (text : List ℕ) (one other : Bundle) → IsRead text one → IsRead text other → one ≡ other
one_bundle text one other is so =
    let lines = headings_same (heading_of one) (heading_of other) (records_text is.records ++ is.rest) (records_text so.records ++ so.rest) is.heading so.heading (sym is.is_text ∙ so.is_text) in
    let each : All (IsRecord (heading_of one)) so.records = subst (λ h. All (IsRecord h) so.records) (sym lines.0) so.each in
    let none : BeginsWithNoRecord (heading_of one) so.rest = subst (λ h. BeginsWithNoRecord h so.rest) (sym lines.0) so.longest in
    let alike = records_same (heading_of one) is.records so.records is.rest so.rest is.each each is.longest none lines.1 in
    bundle_by one other lines.0 (is.has ∙ ap told_in alike.0 ∙ sym so.has) (is.refused ∙ ap refused_in alike.0 ∙ sym so.refused) (is.jobs ∙ ap jobs_in alike.0 ∙ sym so.jobs)
    (is.stopped ∙ ap (λ h. stop_of (heading_text h ++ records_text is.records) is.rest) lines.0 ∙ ap (λ rs. stop_of (heading_text (heading_of other) ++ records_text rs) is.rest) alike.0
    ∙ ap (stop_of (heading_text (heading_of other) ++ records_text so.records)) alike.1 ∙ sym so.stopped)

-- ---- a bundle that was written

end_alone : (heading : Heading) → BeginsWithNoRecord heading end_text
end_alone heading = end_no_record heading []

pub written_is_read : (bundle : Bundle) → IsBundle bundle → IsRead (bundle_text bundle) bundle
written_is_read bundle good =
    record {
      records = records_of bundle;
      rest = end_text;
      heading = good.heading;
      each = good.records;
      is_text = refl;
      longest = end_alone (heading_of bundle);
      has = sym (told_of_all bundle.has bundle.refused bundle.jobs);
      refused = sym (refused_of_all bundle.has bundle.refused bundle.jobs);
      jobs = sym (jobs_of_all bundle.has bundle.refused bundle.jobs);
      stopped = good.whole;
    }

-- ---- a bundle that was cut off

-- the text, and what is missing of the bundle's
whole_text : (bundle read : Bundle) (text : List ℕ) (cut : IsCutOff text (bundle_text bundle)) (is : IsRead text read)
    → heading_text (heading_of bundle) ++ (records_text (records_of bundle) ++ end_text) ≡ heading_text (heading_of read) ++ (records_text is.records ++ (is.rest ++ cut.missing))
whole_text bundle read text cut is =
    cut.is_front ∙ ap (λ t. t ++ cut.missing) is.is_text
    ∙ append_assoc (heading_text (heading_of read)) (records_text is.records ++ is.rest) cut.missing
    ∙ ap (λ t. heading_text (heading_of read) ++ t) (append_assoc (records_text is.records) is.rest cut.missing)

some_stop : (front rest : List ℕ) → rest ≢ end_text → IsSome (stop_of front rest)
some_stop front rest other = by (bytes_eq rest end_text) refl
  where
    by : (b : Bool) → bytes_eq rest end_text ≡ b → IsSome (cond b None (Some (line_behind front)))
    by true is = absurd (other ((bytes_eq-Decides rest end_text).0 is))
    by false is = refl

pub front_is_read : (bundle read : Bundle) (text : List ℕ) → IsBundle bundle → IsCutOff text (bundle_text bundle) → IsRead text read → IsFrontOf read bundle
front_is_read bundle read text good cut is =
    let lines = headings_same (heading_of bundle) (heading_of read) (records_text (records_of bundle) ++ end_text) (records_text is.records ++ (is.rest ++ cut.missing)) good.heading is.heading (whole_text bundle read text cut is) in
    let each : All (IsRecord (heading_of bundle)) is.records = subst (λ h. All (IsRecord h) is.records) (sym lines.0) is.each in
    let front = records_front (heading_of bundle) (records_of bundle) is.records (is.rest ++ cut.missing) good.records each lines.1 in
    let same : records_of read ≡ is.records =
    ap (λ hs. in_turn hs read.refused read.jobs) is.has ∙ ap (λ fs. in_turn (told_in is.records) fs read.jobs) is.refused ∙ ap (λ js. in_turn (told_in is.records) (refused_in is.records) js) is.jobs
    ∙ in_order bundle.has bundle.refused bundle.jobs is.records front.0 front.1 in
    let other : is.rest ≢ end_text = λ at_end.
    let all = records_same (heading_of bundle) (records_of bundle) is.records end_text (end_text ++ cut.missing) good.records each (end_alone (heading_of bundle)) (end_no_record (heading_of bundle) cut.missing)
    (lines.1 ∙ ap (λ t. records_text is.records ++ (t ++ cut.missing)) at_end) in
    cut.some (sym (append_cancel_left end_text [] cut.missing (append-nil end_text ∙ all.1))) in
    record {
      heading = sym lines.0;
      more = front.0;
      records = front.1 ∙ ap (λ rs. rs ++ front.0) (sym same);
      stopped = subst IsSome (sym is.stopped) (some_stop (heading_text (heading_of read) ++ records_text is.records) is.rest other);
    }

-- a text that is shorter than the first line
pub no_heading : (bundle : Bundle) (text : List ℕ) → IsBundle bundle → IsCutOff text (bundle_text bundle) → length text < length (heading_text (heading_of bundle)) → IsNoBundle text
no_heading bundle text good cut short heading behind fine is =
    let lines = headings_same (heading_of bundle) heading (records_text (records_of bundle) ++ end_text) (behind ++ cut.missing) good.heading fine
    (cut.is_front ∙ ap (λ t. t ++ cut.missing) is ∙ append_assoc (heading_text heading) behind cut.missing) in
    let size : length text ≡ length (heading_text (heading_of bundle)) + length behind = ap length is ∙ length-append (heading_text heading) behind ∙ ap (λ h. length (heading_text h) + length behind) (sym lines.0) in
    omega arith

-- of two fronts of one text one begins the other
begins : (x y t m : List ℕ) → x ++ y ≡ t ++ m → (length t < length x) ⊎ ((z : List ℕ) × (t ≡ x ++ z))
begins [] y t m is = inr (t, refl)
begins (a ∷ x) y [] m is = inl (omega arith)
begins (a ∷ x) y (b ∷ t) m is =
    let head : b ≡ a = cc in
    elim (begins x y t m (ap (drop 1) is)) [
      | inl short ↦ inl (omega arith)
      | inr found ↦ inr (found.0, ap (λ c. c ∷ t) head ∙ ap (λ s. a ∷ s) found.1)
    ]

-- a text that has the first line
pub some_heading : (bundle : Bundle) (text : List ℕ) → IsBundle bundle → IsCutOff text (bundle_text bundle) → IsNoBundle text → length text < length (heading_text (heading_of bundle))
some_heading bundle text good cut none =
    elim (begins (heading_text (heading_of bundle)) (records_text (records_of bundle) ++ end_text) text cut.missing cut.is_front) [
      | inl short ↦ short
      | inr found ↦ absurd (none (heading_of bundle) found.0 good.heading found.1)
    ]

-- ---- what is marked

marked_by : (one other : Marked) → one.from ≡ other.from → one.to ≡ other.to → one.spool ≡ other.spool → one.number ≡ other.number → one.user ≡ other.user → one.kind ≡ other.kind → one.bytes ≡ other.bytes → one ≡ other
marked_by one other from to spool number user kind bytes =
    λ i. record { from = from i; to = to i; spool = spool i; number = number i; user = user i; kind = kind i; bytes = bytes i }

abbrev line_words : Marked → List (List ℕ)
line_words job = job.from ∷ job.to ∷ job.user ∷ decimal job.number ∷ kind_words job.kind

marked_plain : (job : Marked) → IsMarked job → are_plain (codes "job" ∷ line_words job) ≡ true
marked_plain job good =
    and_from (list_all is_word_byte job.from) (are_plain (job.to ∷ job.user ∷ decimal job.number ∷ kind_words job.kind)) (site_plain job.from good.from)
    (and_from (list_all is_word_byte job.to) (are_plain (job.user ∷ decimal job.number ∷ kind_words job.kind)) (site_plain job.to good.to)
    (and_from (list_all is_word_byte job.user) (are_plain (decimal job.number ∷ kind_words job.kind)) (word_is_plain job.user good.user)
    (and_from (list_all is_word_byte (decimal job.number)) (are_plain (kind_words job.kind)) (decimal_is_plain job.number (omega (arith, good.number))) (kind_plain job.kind good.kind))))

spool_plain : (job : Marked) → IsMarked job → are_plain (job.spool ∷ []) ≡ true
spool_plain job good = and_from (list_all is_word_byte job.spool) true (word_is_plain job.spool good.spool) refl

abbrev behind_spool : Marked → List ℕ
behind_spool job = line_text (codes "job") (line_words job) ++ 10 ∷ job.bytes

pub told_apart : (one other : Marked) → IsMarked one → IsMarked other → marked_text_of one ≡ marked_text_of other → one ≡ other
told_apart one other good fine is =
    let first = lines_cut (one.spool ∷ []) (other.spool ∷ []) (behind_spool one) (behind_spool other) (bare_from_plain (one.spool ∷ []) (spool_plain one good)) (bare_from_plain (other.spool ∷ []) (spool_plain other fine))
    (ap (λ t. 32 ∷ (t ++ 10 ∷ behind_spool one)) (append-nil one.spool) ∙ ap (λ t. 32 ∷ t) is ∙ ap (λ t. 32 ∷ (t ++ 10 ∷ behind_spool other)) (sym (append-nil other.spool))) in
    let second = lines_cut (codes "job" ∷ line_words one) (codes "job" ∷ line_words other) one.bytes other.bytes (bare_from_plain (codes "job" ∷ line_words one) (marked_plain one good))
    (bare_from_plain (codes "job" ∷ line_words other) (marked_plain other fine)) (ap (λ t. 32 ∷ t) first.1) in
    let words : line_words one ≡ line_words other = ap (drop 1) second.0 in
    let spool : one.spool ≡ other.spool = cc in
    let from : one.from ≡ other.from = cc in
    let to : one.to ≡ other.to = cc in
    let user : one.user ≡ other.user = cc in
    let numbers : decimal one.number ≡ decimal other.number = cc in
    let kinds : kind_words one.kind ≡ kind_words other.kind = cc in
    marked_by one other from to spool (decimal_injective one.number other.number (omega (arith, good.number)) (omega (arith, fine.number)) numbers) user (kinds_same one.kind other.kind kinds) second.1
