-- How a bundle is written (this project's choice).
use Rattle.std.specs.Prelude.{◌≡◌, ℕ, ◌+◌, ◌/◌, ◌<◌, ◌^◌, Bool, IsTrue, true, ◌&&◌, if◌then◌else◌, nat_le, List, [], ◌∷◌, ◌++◌, All, AllPairs, None, length, map}
use Rattle.std.specs.List.{flat_map}
use Rattle.uu_names.specs.Grade.{grade_count}
use Rattle.uu_names.specs.Name.{is_word}
use Rattle.uu_core.specs.Marks.{marks_end}
use Rattle.uu_core.specs.WellFormed.{HasWords}
use Rattle.uu_core.specs.State.{most_arguments, most_bytes}
use Rattle.uu_core.specs.declared.custody.Taken.{Taken}
use Rattle.uu_core.specs.declared.job.Kind.{Kind}
use Rattle.uu_core.specs.declared.job.Kind.TheVariants.{Send, Request, Execute}
use Rattle.uu_core.specs.declared.job.JobHead.{JobHead}
use Rattle.uu_bundle.specs.Marks.{mark_of}
use Rattle.uu_bundle.specs.Texts.{IsHeading, IsRecord, end_text, heading_text, marked_text, record_text}
use Rattle.uu_bundle.specs.declared.bundle.Bundle.{Bundle}
use Rattle.uu_bundle.specs.declared.bundle.Heading.{Heading}
use Rattle.uu_bundle.specs.declared.bundle.Parcel.{Parcel}
use Rattle.uu_bundle.specs.declared.bundle.Record.{Record}
use Rattle.uu_bundle.specs.declared.bundle.Record.TheVariants.{Has, No, Job}
use Rattle.uu_bundle.specs.declared.bundle.Refused.{Refused}
use Rattle.uu_bundle.specs.declared.bundle.Told.{Told}

-- ---- limits

-- the most bytes of a bundle that is written
abbrev pub most_bundle : ℕ
most_bundle = 4194304

-- half of a bundle of this many bytes: the most bytes of its first line and of the taken jobs, if it
-- doesn't answer another
abbrev pub half : ℕ → ℕ
half most = most / 2

-- ---- a bundle and its text

abbrev pub heading_of : Bundle → Heading
heading_of bundle = record { from = bundle.from; to = bundle.to; spool = bundle.spool; below = bundle.below; grade = bundle.grade }

-- its records in the order in which they are written: the receiver's jobs that the sender has,
-- those that it won't take, and its own jobs
abbrev pub records_of : Bundle → List Record
records_of bundle = map Has bundle.has ++ (map No bundle.refused ++ map Job bundle.jobs)

abbrev pub records_text : List Record → List ℕ
records_text records = flat_map record_text records

abbrev pub bundle_text : Bundle → List ℕ
bundle_text bundle = heading_text (heading_of bundle) ++ (records_text (records_of bundle) ++ end_text)

-- a bundle that can be written: its names, words, grades, numbers, marks and sizes are within their
-- limits, the numbers of what the sender has rise, and it wasn't cut
pub record IsBundle (bundle : Bundle) : Type 0 where
  pub heading : IsHeading (heading_of bundle)
  pub records : All (IsRecord (heading_of bundle)) (records_of bundle)
  pub rising : AllPairs (λ a b. a.number < b.number) bundle.has
  pub whole : bundle.stopped ≡ None

-- ---- what the sender has of the receiver's jobs

abbrev pub told_of : Taken → Told
told_of taken = record { number = taken.number; mark = taken.mark }

-- the records of what was taken
abbrev pub told_records : List Taken → List Record
told_records taken = map (λ one. Has (told_of one)) taken

-- the text and the records of what was taken
abbrev pub text_with_told : List ℕ → List Taken → List ℕ
text_with_told text taken = text ++ records_text (told_records taken)

-- as many of the taken jobs, from the first on, as the text has room for: the text with the first one
-- has at most `first` bytes, and with each further one at most `further`
abbrev pub told_with_room : ℕ → ℕ → List ℕ → List Taken → List Taken
told_with_room first further text [] = []
told_with_room first further text (one ∷ taken) =
    let more = text ++ record_text (Has (told_of one)) in
    if nat_le (length more) first then one ∷ told_with_room further further more taken else []

-- what a bundle of at most so many bytes that answers none has of the taken jobs: the first one, if
-- half of the longest bundle has room for it, and the next ones within half of this bundle
abbrev pub told_first : ℕ → Heading → List Taken → List Taken
told_first most heading taken = told_with_room (half most_bundle) (half most) (heading_text heading) taken

-- its beginning: its first line, and these
abbrev pub front_text : ℕ → Heading → List Taken → List ℕ
front_text most heading taken = text_with_told (heading_text heading) (told_first most heading taken)

-- the beginning of a bundle that answers another: its first line, and all of these
abbrev pub answer_front_text : Heading → List Taken → List ℕ
answer_front_text heading taken = text_with_told (heading_text heading) taken

-- what was taken, as a spool keeps it for one neighbour
pub record AreTaken (taken : List Taken) : Type 0 where
  pub numbers : All (λ one. (one.number < 2 ^ 32) × (one.mark < marks_end)) taken
  pub rising : AllPairs (λ a b. a.number < b.number) taken

-- ---- the receiver's jobs that the sender won't take

-- the text and the records of what isn't taken
abbrev pub text_with_refused : List ℕ → List Refused → List ℕ
text_with_refused text refused = text ++ records_text (map No refused)

-- ---- its own jobs

-- a job that waits, as a bundle has it
abbrev pub parcel_of : List ℕ → List ℕ → List ℕ → JobHead → List ℕ → Parcel
parcel_of from to spool head bytes =
    record {
      number = head.number;
      mark = mark_of (marked_text from to spool head.number head.user head.kind bytes);
      grade = head.grade;
      user = head.user;
      kind = head.kind;
      bytes = bytes;
    }

abbrev pub is_short : Kind → Bool
is_short (Send source target) = true
is_short (Request source target) = true
is_short (Execute command arguments) = nat_le (length arguments) most_arguments

-- the job is within the limits, like each job of a spool
abbrev pub is_within_limits : Parcel → Bool
is_within_limits job = nat_le 1 job.number && is_short job.kind && nat_le (length job.bytes) most_bytes

-- there is room for the job, and for `end` after it, in a bundle of at most so many bytes
abbrev pub has_room : ℕ → List ℕ → Parcel → Bool
has_room most text job = nat_le (length text + length (record_text (Job job)) + length end_text) most

-- the text with the job, if it goes into it
abbrev pub takes_job : ℕ → List ℕ → Parcel → Bool
takes_job most text job = is_within_limits job && has_room most text job

abbrev pub text_with_job : ℕ → List ℕ → Parcel → List ℕ
text_with_job most text job = if takes_job most text job then text ++ record_text (Job job) else text

-- as many of these jobs, from the first on, as fit into the text: the first one if the bundle then
-- has at most `first` bytes, and each further one within `further`
abbrev pub jobs_with_room : ℕ → ℕ → List ℕ → List Parcel → List Parcel
jobs_with_room first further text [] = []
jobs_with_room first further text (job ∷ jobs) =
    if takes_job first text job then job ∷ jobs_with_room further further (text ++ record_text (Job job)) jobs else []

-- the text with them
abbrev pub text_with_jobs : ℕ → ℕ → List ℕ → List Parcel → List ℕ
text_with_jobs first further text [] = text
text_with_jobs first further text (job ∷ jobs) =
    if takes_job first text job then text_with_jobs further further (text ++ record_text (Job job)) jobs else text

-- a job whose fields are within the limits of their types, with its mark
pub record IsGiven (heading : Heading) (job : Parcel) : Type 0 where
  pub number : job.number < 2 ^ 32
  pub grade : job.grade < grade_count
  pub user : IsTrue (is_word job.user)
  pub kind : HasWords job.kind
  pub mark : job.mark ≡ mark_of (marked_text heading.from heading.to heading.spool job.number job.user job.kind job.bytes)

-- ---- whole bundles, whose text this is once `end` follows it

-- an answer: all that it has of the jobs that the other bundle asks about, all that it won't take,
-- the first waiting job, and from there on as many as this many bytes have room for
abbrev pub answer_bundle : ℕ → Heading → List Taken → List Refused → List Parcel → Bundle
answer_bundle most heading taken refused jobs =
    record {
      from = heading.from;
      to = heading.to;
      spool = heading.spool;
      below = heading.below;
      grade = heading.grade;
      has = map told_of taken;
      refused = refused;
      jobs = jobs_with_room most_bundle most (text_with_refused (answer_front_text heading taken) refused) jobs;
      stopped = None;
    }

-- what there is to say to a neighbour that asked nothing, in at most so many bytes, but for the first
-- taken job and the first waiting one
abbrev pub packed_bundle : ℕ → Heading → List Taken → List Parcel → Bundle
packed_bundle most heading taken jobs =
    record {
      from = heading.from;
      to = heading.to;
      spool = heading.spool;
      below = heading.below;
      grade = heading.grade;
      has = map told_of (told_first most heading taken);
      refused = [];
      jobs = jobs_with_room most_bundle most (front_text most heading taken) jobs;
      stopped = None;
    }
