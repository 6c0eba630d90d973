-- Records at the front of a text.
use Rattle.std.proofs.Common.{◌≡◌, ◌≢◌, ◌∙◌, ◌<◌, ◌≤◌, ◌^◌, ap, sym, refl, arith, ℕ, List, [], ◌∷◌, ◌++◌, append_assoc, Option, Some, None, option_map, IsTrue, codes, subst, get_or, length, true, take, map, Vec, Bor, Global, ◌⊎◌, inl, inr}
use Rattle.std.proofs.lemmas.Fmt.{decimal_injective}
use Rattle.std.proofs.lemmas.List.{take_at}
use Rattle.std.proofs.lemmas.Bool.{and_from}
use Rattle.std.specs.Fmt.{decimal}
use Rattle.std.specs.List.{list_all}
use Rattle.uu_names.specs.Grade.{grade_count}
use Rattle.uu_names.specs.Name.{is_site_name, is_word, is_word_byte}
use Rattle.uu_core.specs.Marks.{marks_end}
use Rattle.uu_core.specs.State.{IsKind}
use Rattle.uu_core.specs.declared.job.Kind.{Kind}
use Rattle.uu_core.specs.declared.job.Kind.TheVariants.{Send, Request, Execute}
use Rattle.std.specs.Prelude.{if◌then◌else◌}
use Rattle.std.specs.Str.{bytes_eq}
use Rattle.uu_core.specs.Refusal.{refusal_name}
use Rattle.uu_core.specs.declared.refusal.Refusal.{Refusal}
use Rattle.uu_core.specs.declared.refusal.Refusal.TheVariants.{NoSystem, NoJob, NotYours, JobTwice, OtherSystem, Busy, TooLarge, NumbersOut, BadEntry, Stale, Differs}
use Rattle.uu_bundle.specs.Internal.Forms.{AreFiles, HasFirstWords, IsExecution, IsJobAt, IsParcelAt, IsReadAs, IsReadFrom, IsSaid, IsStated, are_plain, behind_line, execution_words, file_words, said_words, stated_words}
use Rattle.uu_bundle.specs.Marks.{mark_of}
use Rattle.uu_bundle.specs.Texts.{IsHeading, IsParcel, IsRecord, IsRefused, IsTold, grade_text, heading_text, heading_words, job_words, kind_words, line_text, marked_text, record_text, refused_words, spaced_words, summed_text, told_words}
use Rattle.uu_bundle.specs.declared.bundle.Heading.{Heading}
use Rattle.uu_bundle.specs.declared.bundle.Parcel.{Parcel}
use Rattle.uu_bundle.specs.declared.bundle.Record.{Record}
use Rattle.uu_bundle.specs.declared.bundle.Record.TheVariants.{Has, No, Job}
use Rattle.uu_bundle.specs.declared.bundle.Refused.{Refused}
use Rattle.uu_bundle.specs.declared.bundle.Told.{Told}
use Rattle.uu_bundle.specs.declared.heading.Said.{Said}
use Rattle.uu_bundle.specs.declared.record.Stated.{Stated}
use Rattle.uu_bundle.proofs.Cuts.{found}
use Rattle.uu_bundle.proofs.MarkSizes.{mark_below, mark_fits}
use Rattle.uu_bundle.proofs.Plain.{decimal_is_plain, grade_is_plain, site_plain, word_is_plain, words_are_plain}

-- ---- names

differ : (a b : List ℕ) → get_or a 0 0 ≢ get_or b 0 0 → a ≢ b
differ a b other same = other (ap (λ t. get_or t 0 0) same)

pub has_job : codes "has" ≢ codes "job"
has_job = differ (codes "has") (codes "job") (λ e. omega arith)

pub has_no : codes "has" ≢ codes "no"
has_no = differ (codes "has") (codes "no") (λ e. omega arith)

pub no_job : codes "no" ≢ codes "job"
no_job = differ (codes "no") (codes "job") (λ e. omega arith)

send_request : codes "send" ≢ codes "request"
send_request = differ (codes "send") (codes "request") (λ e. omega arith)

send_exec : codes "send" ≢ codes "exec"
send_exec = differ (codes "send") (codes "exec") (λ e. omega arith)

request_exec : codes "request" ≢ codes "exec"
request_exec = differ (codes "request") (codes "exec") (λ e. omega arith)

-- a reason by its name
abbrev reason_in : List ℕ → Option Refusal
reason_in name =
    if bytes_eq name (codes "NoSystem") then Some NoSystem
    else (if bytes_eq name (codes "NoJob") then Some NoJob
    else (if bytes_eq name (codes "NotYours") then Some NotYours
    else (if bytes_eq name (codes "JobTwice") then Some JobTwice
    else (if bytes_eq name (codes "OtherSystem") then Some OtherSystem
    else (if bytes_eq name (codes "Busy") then Some Busy
    else (if bytes_eq name (codes "TooLarge") then Some TooLarge
    else (if bytes_eq name (codes "NumbersOut") then Some NumbersOut
    else (if bytes_eq name (codes "BadEntry") then Some BadEntry
    else (if bytes_eq name (codes "Stale") then Some Stale
    else (if bytes_eq name (codes "Differs") then Some Differs else None))))))))))

reason_back : (reason : Refusal) → reason_in (refusal_name reason) ≡ Some reason
reason_back NoSystem = refl
reason_back NoJob = refl
reason_back NotYours = refl
reason_back JobTwice = refl
reason_back OtherSystem = refl
reason_back Busy = refl
reason_back TooLarge = refl
reason_back NumbersOut = refl
reason_back BadEntry = refl
reason_back Stale = refl
reason_back Differs = refl

-- no two reasons have one name
pub reasons_same : (one other : Refusal) → refusal_name one ≡ refusal_name other → one ≡ other
reasons_same one other is = let same : Some one ≡ Some other = sym (reason_back one) ∙ ap reason_in is ∙ reason_back other in cc

abbrev pub first_of : List (List ℕ) → List ℕ
first_of words = get_or words 0 []

-- ---- the words of each line

pub kind_plain : (kind : Kind) → IsKind kind → are_plain (kind_words kind) ≡ true
kind_plain (Send source target) is =
    and_from (list_all is_word_byte source) (are_plain (target ∷ [])) (word_is_plain source is.0) (and_from (list_all is_word_byte target) true (word_is_plain target is.1) refl)
kind_plain (Request source target) is =
    and_from (list_all is_word_byte source) (are_plain (target ∷ [])) (word_is_plain source is.0) (and_from (list_all is_word_byte target) true (word_is_plain target is.1) refl)
kind_plain (Execute command arguments) is =
    and_from (list_all is_word_byte command) (are_plain arguments) (word_is_plain command is.0) (words_are_plain arguments is.1)

abbrev pub record_name : Record → List ℕ
record_name (Has told) = codes "has"
record_name (No refused) = codes "no"
record_name (Job job) = codes "job"

abbrev pub record_words : Record → List (List ℕ)
record_words (Has told) = told_words told
record_words (No refused) = refused_words refused
record_words (Job job) = job_words job

abbrev pub record_body : Record → List ℕ
record_body (Has told) = []
record_body (No refused) = []
record_body (Job job) = behind_line job

pub record_is : (next : Record) (behind : List ℕ) → record_text next ++ behind ≡ line_text (record_name next) (record_words next) ++ 10 ∷ (record_body next ++ behind)
record_is (Has told) behind = append_assoc (line_text (codes "has") (told_words told)) (10 ∷ []) behind
record_is (No refused) behind = append_assoc (line_text (codes "no") (refused_words refused)) (10 ∷ []) behind
record_is (Job job) behind = append_assoc (line_text (codes "job") (job_words job)) (10 ∷ behind_line job) behind

told_plain : (told : Told) → IsTold told → are_plain (codes "has" ∷ told_words told) ≡ true
told_plain told is =
    and_from (list_all is_word_byte (decimal told.number)) (are_plain (decimal told.mark ∷ [])) (decimal_is_plain told.number (omega (arith, is.number)))
    (and_from (list_all is_word_byte (decimal told.mark)) true (decimal_is_plain told.mark (omega (arith, is.mark))) refl)

reason_plain : (reason : Refusal) → list_all is_word_byte (refusal_name reason) ≡ true
reason_plain NoSystem = refl
reason_plain NoJob = refl
reason_plain NotYours = refl
reason_plain JobTwice = refl
reason_plain OtherSystem = refl
reason_plain Busy = refl
reason_plain TooLarge = refl
reason_plain NumbersOut = refl
reason_plain BadEntry = refl
reason_plain Stale = refl
reason_plain Differs = refl

refused_plain : (refused : Refused) → IsRefused refused → are_plain (codes "no" ∷ refused_words refused) ≡ true
refused_plain refused is =
    let name = refusal_name refused.reason in
    and_from (list_all is_word_byte (decimal refused.number)) (are_plain (decimal refused.mark ∷ name ∷ [])) (decimal_is_plain refused.number (omega (arith, is.number)))
    (and_from (list_all is_word_byte (decimal refused.mark)) (are_plain (name ∷ [])) (decimal_is_plain refused.mark (omega (arith, is.mark))) (and_from (list_all is_word_byte name) true (reason_plain refused.reason) refl))

job_plain : (heading : Heading) (job : Parcel) → IsParcel heading job → are_plain (codes "job" ∷ job_words job) ≡ true
job_plain heading job is =
    let size = decimal (length job.bytes) in
    let small : job.mark < 2 ^ 64 = subst (λ m. m < 2 ^ 64) (sym is.mark) (mark_fits _) in
    and_from (list_all is_word_byte (decimal job.number)) (are_plain (decimal job.mark ∷ grade_text job.grade ∷ job.user ∷ size ∷ kind_words job.kind)) (decimal_is_plain job.number (omega (arith, is.number)))
    (and_from (list_all is_word_byte (decimal job.mark)) (are_plain (grade_text job.grade ∷ job.user ∷ size ∷ kind_words job.kind)) (decimal_is_plain job.mark small)
    (and_from (list_all is_word_byte (grade_text job.grade)) (are_plain (job.user ∷ size ∷ kind_words job.kind)) (grade_is_plain job.grade is.grade)
    (and_from (list_all is_word_byte job.user) (are_plain (size ∷ kind_words job.kind)) (word_is_plain job.user is.user)
    (and_from (list_all is_word_byte size) (are_plain (kind_words job.kind)) (decimal_is_plain (length job.bytes) (omega (arith, is.size))) (kind_plain job.kind is.kind)))))

pub record_plain : (heading : Heading) (next : Record) → IsRecord heading next → are_plain (record_name next ∷ record_words next) ≡ true
record_plain heading (Has told) is = told_plain told is
record_plain heading (No refused) is = refused_plain refused is
record_plain heading (Job job) is = job_plain heading job is

pub heading_plain : (heading : Heading) → IsHeading heading → are_plain (codes "bundle" ∷ heading_words heading) ≡ true
heading_plain heading is =
    let below = decimal heading.below in
    let grade = grade_text heading.grade in
    let sum = decimal (mark_of (summed_text heading)) in
    and_from (list_all is_word_byte heading.from) (are_plain (heading.to ∷ heading.spool ∷ below ∷ grade ∷ sum ∷ [])) (site_plain heading.from is.from)
    (and_from (list_all is_word_byte heading.to) (are_plain (heading.spool ∷ below ∷ grade ∷ sum ∷ [])) (site_plain heading.to is.to)
    (and_from (list_all is_word_byte heading.spool) (are_plain (below ∷ grade ∷ sum ∷ [])) (word_is_plain heading.spool is.spool)
    (and_from (list_all is_word_byte below) (are_plain (grade ∷ sum ∷ [])) (decimal_is_plain heading.below (omega (arith, is.below)))
    (and_from (list_all is_word_byte grade) (are_plain (sum ∷ [])) (grade_is_plain heading.grade is.grade)
    (and_from (list_all is_word_byte sum) true (decimal_is_plain (mark_of (summed_text heading)) (mark_fits (summed_text heading))) refl)))))

-- ---- a record at the front of a text

-- the first words are those of the record, and its body follows them
pub words_of_record : (heading : Heading) (next : Record) (text rest behind : List ℕ) (words : List (List ℕ)) → IsRecord heading next → HasFirstWords text (Some (words, rest)) → text ≡ record_text next ++ behind
    → (words ≡ record_name next ∷ record_words next) × (rest ≡ record_body next ++ behind)
words_of_record heading next text rest behind words is has written =
    found text (record_name next) rest (record_body next ++ behind) (record_words next) words (record_plain heading next is) has (written ∙ record_is next behind)

pub no_words_no_record : (heading : Heading) (text : List ℕ) → HasFirstWords text None → IsReadFrom (IsRecord heading) record_text text None
no_words_no_record heading text none next behind is written =
    none (record_name next) (record_words next) (record_body next ++ behind) (record_plain heading next is) (written ∙ record_is next behind)

-- the text that has these first words
text_of : (text first rest : List ℕ) (words : List (List ℕ)) → 32 ∷ text ≡ spaced_words (first ∷ words) ++ 10 ∷ rest → text ≡ line_text first words ++ 10 ∷ rest
text_of text first rest words is = cc

pub no_name_no_record : (heading : Heading) (text name rest : List ℕ) (words : List (List ℕ)) → HasFirstWords text (Some (name ∷ words, rest)) → name ≢ codes "has" → name ≢ codes "no" → name ≢ codes "job"
    → IsReadFrom (IsRecord heading) record_text text None
no_name_no_record heading text name rest words has not_has not_no not_job (Has told) behind is written =
    let same = words_of_record heading (Has told) text rest behind (name ∷ words) is has written in not_has (cc)
no_name_no_record heading text name rest words has not_has not_no not_job (No refused) behind is written =
    let same = words_of_record heading (No refused) text rest behind (name ∷ words) is has written in not_no (cc)
no_name_no_record heading text name rest words has not_has not_no not_job (Job job) behind is written =
    let same = words_of_record heading (Job job) text rest behind (name ∷ words) is has written in not_job (cc)

no_told : (heading : Heading) (text name rest : List ℕ) (words : List (List ℕ)) → HasFirstWords text (Some (name ∷ words, rest)) → name ≡ codes "has" → IsReadAs IsTold told_words words None
    → IsReadFrom (IsRecord heading) record_text text None
no_told heading text name rest words has named none (Has told) behind is written =
    let same = words_of_record heading (Has told) text rest behind (name ∷ words) is has written in
    let alike : words ≡ told_words told = cc in none told is alike
no_told heading text name rest words has named none (No refused) behind is written =
    let same = words_of_record heading (No refused) text rest behind (name ∷ words) is has written in
    has_no (sym named ∙ ap first_of same.0)
no_told heading text name rest words has named none (Job job) behind is written =
    let same = words_of_record heading (Job job) text rest behind (name ∷ words) is has written in
    has_job (sym named ∙ ap first_of same.0)

pub told_at_front : (heading : Heading) (text name rest : List ℕ) (words : List (List ℕ)) (read : Option Told) → HasFirstWords text (Some (name ∷ words, rest)) → name ≡ codes "has" → IsReadAs IsTold told_words words read
    → IsReadFrom (IsRecord heading) record_text text (option_map (λ told. (Has told, rest)) read)
told_at_front heading text name rest words (Some told) has named read =
    let is = read.0 in let good = read.1 in
    (text_of text name rest words has.0 ∙ ap (λ n. line_text n words ++ 10 ∷ rest) named ∙ ap (λ ws. line_text (codes "has") ws ++ 10 ∷ rest) is ∙ sym (record_is (Has told) rest), good)
told_at_front heading text name rest words None has named none = no_told heading text name rest words has named none

none_refused : (heading : Heading) (text name rest : List ℕ) (words : List (List ℕ)) → HasFirstWords text (Some (name ∷ words, rest)) → name ≡ codes "no" → IsReadAs IsRefused refused_words words None
    → IsReadFrom (IsRecord heading) record_text text None
none_refused heading text name rest words has named none (Has told) behind is written =
    let same = words_of_record heading (Has told) text rest behind (name ∷ words) is has written in
    has_no (sym (ap first_of same.0) ∙ named)
none_refused heading text name rest words has named none (No refused) behind is written =
    let same = words_of_record heading (No refused) text rest behind (name ∷ words) is has written in
    let alike : words ≡ refused_words refused = cc in none refused is alike
none_refused heading text name rest words has named none (Job job) behind is written =
    let same = words_of_record heading (Job job) text rest behind (name ∷ words) is has written in
    no_job (sym named ∙ ap first_of same.0)

pub refused_at_front : (heading : Heading) (text name rest : List ℕ) (words : List (List ℕ)) (read : Option Refused) → HasFirstWords text (Some (name ∷ words, rest)) → name ≡ codes "no" → IsReadAs IsRefused refused_words words read
    → IsReadFrom (IsRecord heading) record_text text (option_map (λ refused. (No refused, rest)) read)
refused_at_front heading text name rest words (Some refused) has named read =
    let is = read.0 in let good = read.1 in
    (text_of text name rest words has.0 ∙ ap (λ n. line_text n words ++ 10 ∷ rest) named ∙ ap (λ ws. line_text (codes "no") ws ++ 10 ∷ rest) is ∙ sym (record_is (No refused) rest), good)
refused_at_front heading text name rest words None has named none = none_refused heading text name rest words has named none

none_job : (heading : Heading) (text name rest : List ℕ) (words : List (List ℕ)) → HasFirstWords text (Some (name ∷ words, rest)) → name ≡ codes "job" → IsJobAt heading words rest None
    → IsReadFrom (IsRecord heading) record_text text None
none_job heading text name rest words has named none (Has told) behind is written =
    let same = words_of_record heading (Has told) text rest behind (name ∷ words) is has written in
    has_job (sym (ap first_of same.0) ∙ named)
none_job heading text name rest words has named none (No refused) behind is written =
    let same = words_of_record heading (No refused) text rest behind (name ∷ words) is has written in
    no_job (sym (ap first_of same.0) ∙ named)
none_job heading text name rest words has named none (Job job) behind is written =
    let same = words_of_record heading (Job job) text rest behind (name ∷ words) is has written in
    let alike : words ≡ job_words job = cc in none job behind (is, alike) same.1

pub job_at_front : (heading : Heading) (text name rest : List ℕ) (words : List (List ℕ)) (read : Option (Parcel × List ℕ)) → HasFirstWords text (Some (name ∷ words, rest)) → name ≡ codes "job" → IsJobAt heading words rest read
    → IsReadFrom (IsRecord heading) record_text text (option_map (λ cut. (Job cut.0, cut.1)) read)
job_at_front heading text name rest words (Some cut) has named read =
    let job = cut.0 in let after = cut.1 in let is = read.0 in let good = read.1 in (
      text_of text name rest words has.0 ∙ ap (λ n. line_text n words ++ 10 ∷ rest) named ∙ ap (λ ws. line_text (codes "job") ws ++ 10 ∷ rest) good.1 ∙ ap (λ t. line_text (codes "job") (job_words job) ++ 10 ∷ t) is
          ∙ sym (record_is (Job job) after),
      good.0,
    )
job_at_front heading text name rest words None has named none = none_job heading text name rest words has named none

-- ---- the first line at the front of a text

pub heading_is : (heading : Heading) (behind : List ℕ) → heading_text heading ++ behind ≡ line_text (codes "bundle") (heading_words heading) ++ 10 ∷ behind
heading_is heading behind = append_assoc (line_text (codes "bundle") (heading_words heading)) (10 ∷ []) behind

pub no_words_no_heading : (text : List ℕ) → HasFirstWords text None → IsReadFrom IsHeading heading_text text None
no_words_no_heading text none heading behind is written =
    none (codes "bundle") (heading_words heading) behind (heading_plain heading is) (written ∙ heading_is heading behind)

words_of_heading : (heading : Heading) (text rest behind : List ℕ) (words : List (List ℕ)) → IsHeading heading → HasFirstWords text (Some (words, rest)) → text ≡ heading_text heading ++ behind
    → (words ≡ codes "bundle" ∷ heading_words heading) × (rest ≡ behind)
words_of_heading heading text rest behind words is has written =
    found text (codes "bundle") rest behind (heading_words heading) words (heading_plain heading is) has (written ∙ heading_is heading behind)

pub no_name_no_heading : (text name rest : List ℕ) (words : List (List ℕ)) → HasFirstWords text (Some (name ∷ words, rest)) → name ≢ codes "bundle" → IsReadFrom IsHeading heading_text text None
no_name_no_heading text name rest words has other heading behind is written =
    let same = words_of_heading heading text rest behind (name ∷ words) is has written in other (cc)

pub heading_at_front : (text name rest : List ℕ) (words : List (List ℕ)) (read : Option Heading) → HasFirstWords text (Some (name ∷ words, rest)) → name ≡ codes "bundle" → IsReadAs IsHeading heading_words words read
    → IsReadFrom IsHeading heading_text text (option_map (λ heading. (heading, rest)) read)
heading_at_front text name rest words (Some heading) has named read =
    let is = read.0 in let good = read.1 in
    (text_of text name rest words has.0 ∙ ap (λ n. line_text n words ++ 10 ∷ rest) named ∙ ap (λ ws. line_text (codes "bundle") ws ++ 10 ∷ rest) is ∙ sym (heading_is heading rest), good)
heading_at_front text name rest words None has named none = λ heading behind is written.
    let same = words_of_heading heading text rest behind (name ∷ words) is has written in
    let alike : words ≡ heading_words heading = cc in none heading is alike

-- ---- the sum of the first line

pub no_said : (words : List (List ℕ)) → IsReadAs IsSaid said_words words None → IsReadAs IsHeading heading_words words None
no_said words none = λ heading good is.
    none (record { from = heading.from; to = heading.to; spool = heading.spool; below = heading.below; grade = heading.grade; sum = mark_of (summed_text heading) })
    (record { from = good.from; to = good.to; spool = good.spool; below = good.below; grade = good.grade; sum = mark_below (summed_text heading) }) is

-- the first line without its sum
abbrev pub heading_from : Said → Heading
heading_from said = record { from = said.from; to = said.to; spool = said.spool; below = said.below; grade = said.grade }

pub said_rightly : (words : List (List ℕ)) (said : Said) (mark : ℕ) → (words ≡ said_words said) × IsSaid said → mark ≡ mark_of (summed_text (heading_from said)) → mark ≡ said.sum
    → (words ≡ heading_words (heading_from said)) × IsHeading (heading_from said)
said_rightly words said mark is made same = (
  is.0 ∙ ap (λ n. said.from ∷ said.to ∷ said.spool ∷ decimal said.below ∷ grade_text said.grade ∷ decimal n ∷ []) (sym same ∙ made),
  record { from = is.1.from; to = is.1.to; spool = is.1.spool; below = is.1.below; grade = is.1.grade },
)

pub said_wrongly : (words : List (List ℕ)) (said : Said) (mark : ℕ) → (words ≡ said_words said) × IsSaid said → mark ≡ mark_of (summed_text (heading_from said)) → mark ≢ said.sum
    → IsReadAs IsHeading heading_words words None
said_wrongly words said mark is made other = λ real good written.
    let both_words : said_words said ≡ heading_words real = sym is.0 ∙ written in
    let froms : said.from ≡ real.from = cc in
    let tos : said.to ≡ real.to = cc in
    let spools : said.spool ≡ real.spool = cc in
    let belows : decimal said.below ≡ decimal real.below = cc in
    let grades : grade_text said.grade ≡ grade_text real.grade = cc in
    let sums : decimal said.sum ≡ decimal (mark_of (summed_text real)) = cc in
    let texts : summed_text (heading_from said) ≡ summed_text real =
    ap (λ w. line_text (codes "bundle") (w ∷ said.to ∷ said.spool ∷ decimal said.below ∷ grade_text said.grade ∷ [])) froms
    ∙ ap (λ w. line_text (codes "bundle") (real.from ∷ w ∷ said.spool ∷ decimal said.below ∷ grade_text said.grade ∷ [])) tos
    ∙ ap (λ w. line_text (codes "bundle") (real.from ∷ real.to ∷ w ∷ decimal said.below ∷ grade_text said.grade ∷ [])) spools
    ∙ ap (λ w. line_text (codes "bundle") (real.from ∷ real.to ∷ real.spool ∷ w ∷ grade_text said.grade ∷ [])) belows
    ∙ ap (λ w. line_text (codes "bundle") (real.from ∷ real.to ∷ real.spool ∷ decimal real.below ∷ w ∷ [])) grades in
    other (made ∙ ap mark_of texts ∙ sym (decimal_injective said.sum (mark_of (summed_text real)) (omega (arith, is.1.sum)) (mark_fits (summed_text real)) sums))

pub six : (words : List (Bor (List ℕ))) (d : Bor (List ℕ)) → 6 ≤ length words → length words < 7
    → map (λ word. word.now) words ≡ (get_or words 0 d).now ∷ (get_or words 1 d).now ∷ (get_or words 2 d).now ∷ (get_or words 3 d).now ∷ (get_or words 4 d).now ∷ (get_or words 5 d).now ∷ []
six [] d some few = absurd (omega arith)
six (a ∷ []) d some few = absurd (omega arith)
six (a ∷ b ∷ []) d some few = absurd (omega arith)
six (a ∷ b ∷ c ∷ []) d some few = absurd (omega arith)
six (a ∷ b ∷ c ∷ e ∷ []) d some few = absurd (omega arith)
six (a ∷ b ∷ c ∷ e ∷ f ∷ []) d some few = absurd (omega arith)
six (a ∷ b ∷ c ∷ e ∷ f ∷ g ∷ []) d some few = refl
six (a ∷ b ∷ c ∷ e ∷ f ∷ g ∷ h ∷ words) d some few = absurd (omega arith)

pub said_of : (words : List (List ℕ)) (a b c d g e : List ℕ) (said : Said) → words ≡ a ∷ b ∷ c ∷ d ∷ g ∷ e ∷ []
    → (a ≡ said.from) × IsTrue (is_site_name said.from) → (b ≡ said.to) × IsTrue (is_site_name said.to) → (c ≡ said.spool) × IsTrue (is_word said.spool)
    → (d ≡ decimal said.below) × (said.below < 2 ^ 32) → (g ≡ grade_text said.grade) × (said.grade < grade_count) → (e ≡ decimal said.sum) × (said.sum < marks_end) → (words ≡ said_words said) × IsSaid said
said_of words a b c d g e said is of_a of_b of_c of_d of_g of_e = (
  is ∙ ap (λ w. w ∷ b ∷ c ∷ d ∷ g ∷ e ∷ []) of_a.0 ∙ ap (λ w. said.from ∷ w ∷ c ∷ d ∷ g ∷ e ∷ []) of_b.0 ∙ ap (λ w. said.from ∷ said.to ∷ w ∷ d ∷ g ∷ e ∷ []) of_c.0
      ∙ ap (λ w. said.from ∷ said.to ∷ said.spool ∷ w ∷ g ∷ e ∷ []) of_d.0 ∙ ap (λ w. said.from ∷ said.to ∷ said.spool ∷ decimal said.below ∷ w ∷ e ∷ []) of_g.0
      ∙ ap (λ w. said.from ∷ said.to ∷ said.spool ∷ decimal said.below ∷ grade_text said.grade ∷ w ∷ []) of_e.0,
  record { from = of_a.1; to = of_b.1; spool = of_c.1; below = of_d.1; grade = of_g.1; sum = of_e.1 },
)

-- ---- what a job is for

pub no_files : (texts rest : List (List ℕ)) (name : List ℕ) → texts ≡ name ∷ rest → (name ≡ codes "send") ⊎ (name ≡ codes "request") → IsReadAs AreFiles file_words rest None → IsReadAs IsKind kind_words texts None
no_files texts rest name is (inl send) none (Send source target) good written = let alike : rest ≡ source ∷ target ∷ [] = cc in none (source, target) good alike
no_files texts rest name is (inr request) none (Send source target) good written = send_request (sym (ap first_of written) ∙ ap first_of is ∙ request)
no_files texts rest name is (inl send) none (Request source target) good written = send_request (sym send ∙ sym (ap first_of is) ∙ ap first_of written)
no_files texts rest name is (inr request) none (Request source target) good written = let alike : rest ≡ source ∷ target ∷ [] = cc in none (source, target) good alike
no_files texts rest name is (inl send) none (Execute command arguments) good written = send_exec (sym send ∙ sym (ap first_of is) ∙ ap first_of written)
no_files texts rest name is (inr request) none (Execute command arguments) good written = request_exec (sym request ∙ sym (ap first_of is) ∙ ap first_of written)

pub no_execution : (texts rest : List (List ℕ)) (name : List ℕ) → texts ≡ name ∷ rest → name ≡ codes "exec" → IsReadAs IsExecution execution_words rest None → IsReadAs IsKind kind_words texts None
no_execution texts rest name is exec none (Send source target) good written = send_exec (sym (ap first_of written) ∙ ap first_of is ∙ exec)
no_execution texts rest name is exec none (Request source target) good written = request_exec (sym (ap first_of written) ∙ ap first_of is ∙ exec)
no_execution texts rest name is exec none (Execute command arguments) good written = let alike : rest ≡ command ∷ arguments = cc in none (command, arguments) good alike

-- ---- the bytes of a job

pub kinds_same : (kind other : Kind) → kind_words kind ≡ kind_words other → kind ≡ other
kinds_same (Send source target) (Send first second) is = cc
kinds_same (Send source target) (Request first second) is = absurd (send_request (ap first_of is))
kinds_same (Send source target) (Execute command arguments) is = absurd (send_exec (ap first_of is))
kinds_same (Request source target) (Send first second) is = absurd (send_request (sym (ap first_of is)))
kinds_same (Request source target) (Request first second) is = cc
kinds_same (Request source target) (Execute command arguments) is = absurd (request_exec (ap first_of is))
kinds_same (Execute command arguments) (Send first second) is = absurd (send_exec (sym (ap first_of is)))
kinds_same (Execute command arguments) (Request first second) is = absurd (request_exec (sym (ap first_of is)))
kinds_same (Execute command arguments) (Execute first second) is = cc

abbrev pub has_size : ℕ → List ℕ → Type 0
has_size size bytes = length bytes ≡ size

abbrev pub ended : List ℕ → List ℕ
ended bytes = bytes ++ 10 ∷ []

size_said : (heading : Heading) (stated : Stated) (job : Parcel) → IsStated stated → IsParcel heading job → job_words job ≡ stated_words stated → length job.bytes ≡ stated.size
size_said heading stated job good is said =
    let same : decimal (length job.bytes) ≡ decimal stated.size = cc in decimal_injective (length job.bytes) stated.size (omega (arith, is.size)) (omega (arith, good.size)) same

pub no_bytes : (heading : Heading) (stated : Stated) (text : List ℕ) → IsStated stated → IsReadFrom (has_size stated.size) ended text None → IsParcelAt heading stated text None
no_bytes heading stated text good none = λ job behind is written. none job.bytes behind (size_said heading stated job good is.0 is.1) written

pub other_mark : (heading : Heading) (stated : Stated) (text bytes rest : List ℕ) (mark : ℕ) → IsStated stated → (text ≡ ended bytes ++ rest) × (length bytes ≡ stated.size)
    → mark ≡ mark_of (marked_text heading.from heading.to heading.spool stated.number stated.user stated.kind bytes) → mark ≢ stated.mark → IsParcelAt heading stated text None
other_mark heading stated text bytes rest mark good at made other = λ job behind is written.
    let size = size_said heading stated job good is.0 is.1 in
    let whole : ended job.bytes ++ behind ≡ ended bytes ++ rest = sym written ∙ at.0 in
    let same_bytes : job.bytes ≡ bytes =
    sym (take_at job.bytes (10 ∷ behind) (length bytes) (size ∙ sym at.1)) ∙ ap (take (length bytes)) (sym (append_assoc job.bytes (10 ∷ []) behind) ∙ whole ∙ append_assoc bytes (10 ∷ []) rest)
    ∙ take_at bytes (10 ∷ rest) (length bytes) refl in
    let said : job_words job ≡ stated_words stated = is.1 in
    let numerals : decimal job.number ≡ decimal stated.number = cc in
    let marks : decimal job.mark ≡ decimal stated.mark = cc in
    let users : job.user ≡ stated.user = cc in
    let kinds : kind_words job.kind ≡ kind_words stated.kind = cc in
    let number = decimal_injective job.number stated.number (omega (arith, is.0.number)) (omega (arith, good.number)) numerals in
    let own : job.mark < 2 ^ 64 = subst (λ m. m < 2 ^ 64) (sym is.0.mark) (mark_fits (marked_text heading.from heading.to heading.spool job.number job.user job.kind job.bytes)) in
    let known = decimal_injective job.mark stated.mark own (omega (arith, good.mark)) marks in
    let text_same : marked_text heading.from heading.to heading.spool job.number job.user job.kind job.bytes ≡ marked_text heading.from heading.to heading.spool stated.number stated.user stated.kind bytes =
    ap (λ n. marked_text heading.from heading.to heading.spool n job.user job.kind job.bytes) number ∙ ap (λ u. marked_text heading.from heading.to heading.spool stated.number u job.kind job.bytes) users
    ∙ ap (λ k. marked_text heading.from heading.to heading.spool stated.number stated.user k job.bytes) (kinds_same job.kind stated.kind kinds) ∙ ap (marked_text heading.from heading.to heading.spool stated.number stated.user stated.kind) same_bytes in
    other (made ∙ ap mark_of (sym text_same) ∙ sym is.0.mark ∙ known)

pub no_stated : (heading : Heading) (words : List (List ℕ)) (text : List ℕ) → IsReadAs IsStated stated_words words None → IsJobAt heading words text None
no_stated heading words text none = λ job behind is written.
    none (record { number = job.number; mark = job.mark; grade = job.grade; user = job.user; size = length job.bytes; kind = job.kind })
    (record {
      some = is.0.some;
      number = is.0.number;
      mark = subst (λ m. m < marks_end) (sym is.0.mark) (mark_below (marked_text heading.from heading.to heading.spool job.number job.user job.kind job.bytes));
      grade = is.0.grade;
      user = is.0.user;
      size = is.0.size;
      kind = is.0.kind;
    }) is.1

-- ---- as the code has them

abbrev pub words_cut : Vec (Bor (List ℕ)) Global × Bor (List ℕ) → List (List ℕ) × List ℕ
words_cut cut = (map (λ word. word.now) cut.0.items, cut.1.now)

-- the words are a name and others
pub named_words : (text : List ℕ) (items words : List (Bor (List ℕ))) (name rest : Bor (List ℕ)) → HasFirstWords text (Some (map (λ word. word.now) items, rest.now)) → items ≡ name ∷ words
    → HasFirstWords text (Some (name.now ∷ map (λ word. word.now) words, rest.now))
named_words text items words name rest has is = subst (λ (ws : List (Bor (List ℕ))). HasFirstWords text (Some (map (λ word. word.now) ws, rest.now))) is has
