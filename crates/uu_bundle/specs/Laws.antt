-- What the laws of bundles are about.
use Rattle.std.specs.Prelude.{◌≡◌, ◌≢◌, ◌<◌, ◌≤◌, ◌^◌, ◌==◌, ◌&&◌, ℕ, Bool, List, [], ◌∷◌, ◌++◌, All, AllPairs, Option, Some, None, IsSome, IsTrue, length}
use Rattle.std.specs.List.{flat_map, list_any}
use Rattle.uu_names.specs.Name.{is_site_name, is_word}
use Rattle.uu_core.specs.State.{IsKind}
use Rattle.uu_core.specs.declared.job.Kind.{Kind}
use Rattle.uu_core.specs.declared.refusal.Refusal.{Refusal}
use Rattle.uu_core.specs.declared.custody.Taken.{Taken}
use Rattle.uu_bundle.specs.Bundles.{half, heading_of, most_bundle, records_of, text_with_told}
use Rattle.uu_bundle.specs.Texts.{heading_text, marked_text}
use Rattle.uu_bundle.specs.declared.bundle.Bundle.{Bundle}
use Rattle.uu_bundle.specs.declared.bundle.Heading.{Heading}
use Rattle.uu_bundle.specs.declared.bundle.Parcel.{Parcel}
use Rattle.uu_bundle.specs.declared.bundle.Record.{Record}
use Rattle.uu_bundle.specs.declared.bundle.Refused.{Refused}

-- one text begins the other, and is shorter
pub record IsCutOff (front whole : List ℕ) : Type 0 where
  pub missing : List ℕ
  pub some : missing ≢ []
  pub is_front : whole ≡ front ++ missing

-- the first line is that of the other bundle, the records are the first ones of the other's, and
-- the bundle says that it was cut
pub record IsFrontOf (front whole : Bundle) : Type 0 where
  pub heading : heading_of front ≡ heading_of whole
  pub more : List Record
  pub records : records_of whole ≡ records_of front ++ more
  pub stopped : IsSome front.stopped

-- the room for the next taken job, after these: `first` for the first one, and then `further`
abbrev pub room_for : ℕ → ℕ → List Taken → ℕ
room_for first further [] = first
room_for first further (one ∷ taken) = further

-- The text is the first line and the first of the taken jobs, within half of the longest bundle, and
-- within half of a bundle of so many bytes if it has more than one of these. With the next one it
-- would be longer than that.
pub record IsLongestFront (most : ℕ) (heading : Heading) (taken : List Taken) (text : List ℕ) : Type 0 where
  pub first : List Taken
  pub others : List Taken
  pub is_front : taken ≡ first ++ others
  pub is_text : text ≡ text_with_told (heading_text heading) first
  pub fits : length text ≤ half most_bundle
  pub within : 1 < length first → length text ≤ half most
  pub longest : (next : Taken) (more : List Taken) → others ≡ next ∷ more → room_for (half most_bundle) (half most) first < length (text_with_told text (next ∷ []))

-- the part of a job that its mark covers
pub record Marked : Type 0 where
  pub from : List ℕ
  pub to : List ℕ
  pub spool : List ℕ
  pub number : ℕ
  pub user : List ℕ
  pub kind : Kind
  pub bytes : List ℕ

abbrev pub marked_text_of : Marked → List ℕ
marked_text_of job = marked_text job.from job.to job.spool job.number job.user job.kind job.bytes

pub record IsMarked (job : Marked) : Type 0 where
  pub from : IsTrue (is_site_name job.from)
  pub to : IsTrue (is_site_name job.to)
  pub spool : IsTrue (is_word job.spool)
  pub number : job.number < 2 ^ 32
  pub user : IsTrue (is_word job.user)
  pub kind : IsKind job.kind

-- ---- what another bundle asks about

-- the job that came and the row of what was taken have the same number and mark
abbrev pub is_row_of : Parcel → Taken → Bool
is_row_of job row = job.number == row.number && job.mark == row.mark

-- the answer's reason why a job isn't taken, if there is one
abbrev pub refused_for : Parcel → Option Refusal → List Refused
refused_for job None = []
refused_for job (Some reason) = record { number = job.number; mark = job.mark; reason = reason } ∷ []

-- The answer to a bundle with these jobs says that some of them are taken, in the order of the
-- numbers, and that some others aren't, in the order of the jobs.
pub record AreAnswers (jobs : List Parcel) (taken : List Taken) (refused : List Refused) : Type 0 where
  pub rising : AllPairs (λ a b. a.number < b.number) taken
  pub asked : All (λ row. IsTrue (list_any (λ job. is_row_of job row) jobs)) taken
  pub reason : Parcel → Option Refusal
  pub refused_are : refused ≡ flat_map (λ job. refused_for job (reason job)) jobs
  pub others : All (λ job. IsTrue (list_any (is_row_of job) taken) → reason job ≡ None) jobs
