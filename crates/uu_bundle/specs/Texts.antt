-- The texts of a bundle (this project's choice):
--
--     bundle FROM TO SPOOL BELOW GRADE SUM
--     has NUMBER MARK
--     no NUMBER MARK NAME
--     job NUMBER MARK GRADE USER SIZE KIND WORDS..
--     BYTES
--     end
use Rattle.std.specs.Prelude.{◌≡◌, ℕ, ◌<◌, ◌≤◌, ◌^◌, List, [], ◌∷◌, ◌++◌, length, codes, slice_get, IsTrue}
use Rattle.std.specs.List.{flat_map}
use Rattle.std.specs.Option.{option_to_list}
use Rattle.std.specs.Fmt.{decimal}
use Rattle.uu_names.specs.Grade.{grade_bytes, grade_count}
use Rattle.uu_names.specs.Name.{is_site_name, is_word}
use Rattle.uu_core.specs.Marks.{marks_end}
use Rattle.uu_core.specs.Refusal.{refusal_name}
use Rattle.uu_core.specs.State.{IsKind, most_bytes}
use Rattle.uu_core.specs.declared.job.Kind.{Kind}
use Rattle.uu_core.specs.declared.job.Kind.TheVariants.{Send, Request, Execute}
use Rattle.uu_bundle.specs.Marks.{mark_of}
use Rattle.uu_bundle.specs.declared.bundle.Heading.{Heading}
use Rattle.uu_bundle.specs.declared.bundle.Parcel.{Parcel}
use Rattle.uu_bundle.specs.declared.bundle.Record.{Record}
use Rattle.uu_bundle.specs.declared.bundle.Record.TheVariants.{Has, No, Job}
use Rattle.uu_bundle.specs.declared.bundle.Refused.{Refused}
use Rattle.uu_bundle.specs.declared.bundle.Told.{Told}

-- ---- lines

-- the words, each after a space
abbrev pub spaced_words : List (List ℕ) → List ℕ
spaced_words words = flat_map (λ word. 32 ∷ word) words

-- words with single spaces between them
abbrev pub line_text : List ℕ → List (List ℕ) → List ℕ
line_text first words = first ++ spaced_words words

-- the letter or digit of a grade
abbrev pub grade_text : ℕ → List ℕ
grade_text rank = option_to_list (slice_get grade_bytes rank)

-- what a job is for
abbrev pub kind_words : Kind → List (List ℕ)
kind_words (Send source target) = codes "send" ∷ source ∷ target ∷ []
kind_words (Request source target) = codes "request" ∷ source ∷ target ∷ []
kind_words (Execute command arguments) = codes "exec" ∷ command ∷ arguments

-- ---- the first line

-- Who says it to whom, the word for the sender's spool that numbers these jobs, and the number
-- below which the sender won't ask again. Last comes the grade of the answer: the sender asks for
-- jobs of this grade and of higher ones.
abbrev pub summed_text : Heading → List ℕ
summed_text heading =
    line_text (codes "bundle") (heading.from ∷ heading.to ∷ heading.spool ∷ decimal heading.below ∷ grade_text heading.grade ∷ [])

-- the same, and its mark as a sum
abbrev pub heading_words : Heading → List (List ℕ)
heading_words heading =
    heading.from ∷ heading.to ∷ heading.spool ∷ decimal heading.below ∷ grade_text heading.grade ∷ decimal (mark_of (summed_text heading)) ∷ []

abbrev pub heading_text : Heading → List ℕ
heading_text heading = line_text (codes "bundle") (heading_words heading) ++ 10 ∷ []

pub record IsHeading (heading : Heading) : Type 0 where
  pub from : IsTrue (is_site_name heading.from)
  pub to : IsTrue (is_site_name heading.to)
  pub spool : IsTrue (is_word heading.spool)
  pub below : heading.below < 2 ^ 32
  pub grade : heading.grade < grade_count

-- ---- the mark of a job

-- The text from which a job's mark is made: a line of the word for the sender's spool, the two
-- sites, the user, the number and what the job is for, and then its bytes. The grade isn't in it.
abbrev pub marked_text : List ℕ → List ℕ → List ℕ → ℕ → List ℕ → Kind → List ℕ → List ℕ
marked_text from to spool number user kind bytes =
    spool ++ 10 ∷ (line_text (codes "job") (from ∷ to ∷ user ∷ decimal number ∷ kind_words kind) ++ 10 ∷ bytes)

-- ---- records

-- the receiver's job that the sender has, with its number there, and its mark
abbrev pub told_words : Told → List (List ℕ)
told_words told = decimal told.number ∷ decimal told.mark ∷ []

-- the receiver's job that the sender won't take, the mark under which it came, and why
abbrev pub refused_words : Refused → List (List ℕ)
refused_words refused = decimal refused.number ∷ decimal refused.mark ∷ refusal_name refused.reason ∷ []

-- a job for the receiver, which has this many bytes
abbrev pub job_words : Parcel → List (List ℕ)
job_words job =
    decimal job.number ∷ decimal job.mark ∷ grade_text job.grade ∷ job.user ∷ decimal (length job.bytes) ∷ kind_words job.kind

abbrev pub record_text : Record → List ℕ
record_text (Has told) = line_text (codes "has") (told_words told) ++ 10 ∷ []
record_text (No refused) = line_text (codes "no") (refused_words refused) ++ 10 ∷ []
record_text (Job job) = line_text (codes "job") (job_words job) ++ 10 ∷ (job.bytes ++ 10 ∷ [])

pub record IsTold (told : Told) : Type 0 where
  pub number : told.number < 2 ^ 32
  pub mark : told.mark < marks_end

-- a refused job, for any reason
pub record IsRefused (refused : Refused) : Type 0 where
  pub number : refused.number < 2 ^ 32
  pub mark : refused.mark < marks_end

-- the job's mark is that of its fields; otherwise the record is damaged
pub record IsParcel (heading : Heading) (job : Parcel) : Type 0 where
  pub some : 1 ≤ job.number
  pub number : job.number < 2 ^ 32
  pub grade : job.grade < grade_count
  pub user : IsTrue (is_word job.user)
  pub kind : IsKind job.kind
  pub size : length job.bytes ≤ most_bytes
  pub mark : job.mark ≡ mark_of (marked_text heading.from heading.to heading.spool job.number job.user job.kind job.bytes)

abbrev pub IsRecord : Heading → Record → Type 0
IsRecord heading (Has told) = IsTold told
IsRecord heading (No refused) = IsRefused refused
IsRecord heading (Job job) = IsParcel heading job

-- ---- the last line

abbrev pub end_text : List ℕ
end_text = codes "end" ++ 10 ∷ []
