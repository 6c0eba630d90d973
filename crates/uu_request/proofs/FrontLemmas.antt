-- What is read of what a carrier brings.
use Rattle.std.proofs.Common.{◌≡◌, ◌∙◌, ap, sym, refl, subst, ℕ, List, [], ◌∷◌, ◌++◌, map, append-nil}
use Rattle.uu_bundle.specs.Bundles.{IsBundle, bundle_text, heading_of, records_of}
use Rattle.uu_bundle.specs.Laws.{IsCutOff, IsFrontOf}
use Rattle.uu_bundle.specs.Reading.{IsRead, jobs_in, refused_in, told_in}
use Rattle.uu_bundle.specs.declared.bundle.Bundle.{Bundle}
use Rattle.uu_bundle.specs.declared.bundle.Parcel.{Parcel}
use Rattle.uu_bundle.specs.declared.bundle.Record.{Record}
use Rattle.uu_bundle.specs.declared.bundle.Record.TheVariants.{Has, No, Job}
use Rattle.uu_bundle.specs.declared.bundle.Refused.{Refused}
use Rattle.uu_bundle.specs.declared.bundle.Told.{Told}

-- ---- the records of a bundle

told_more : (read more : List Record) → told_in (read ++ more) ≡ told_in read ++ told_in more
told_more [] more = refl
told_more (Has told ∷ read) more = ap (λ all. told ∷ all) (told_more read more)
told_more (No refused ∷ read) more = told_more read more
told_more (Job job ∷ read) more = told_more read more

refused_more : (read more : List Record) → refused_in (read ++ more) ≡ refused_in read ++ refused_in more
refused_more [] more = refl
refused_more (Has told ∷ read) more = refused_more read more
refused_more (No refused ∷ read) more = ap (λ all. refused ∷ all) (refused_more read more)
refused_more (Job job ∷ read) more = refused_more read more

jobs_more : (read more : List Record) → jobs_in (read ++ more) ≡ jobs_in read ++ jobs_in more
jobs_more [] more = refl
jobs_more (Has told ∷ read) more = jobs_more read more
jobs_more (No refused ∷ read) more = jobs_more read more
jobs_more (Job job ∷ read) more = ap (λ all. job ∷ all) (jobs_more read more)

abbrev records : List Told → List Refused → List Parcel → List Record
records has refused jobs = map Has has ++ (map No refused ++ map Job jobs)

told_of_all : (has : List Told) (refused : List Refused) (jobs : List Parcel) → told_in (records has refused jobs) ≡ has
told_of_all [] [] [] = refl
told_of_all [] [] (job ∷ jobs) = told_of_all [] [] jobs
told_of_all [] (one ∷ refused) jobs = told_of_all [] refused jobs
told_of_all (told ∷ has) refused jobs = ap (λ all. told ∷ all) (told_of_all has refused jobs)

refused_of_all : (has : List Told) (refused : List Refused) (jobs : List Parcel) → refused_in (records has refused jobs) ≡ refused
refused_of_all [] [] [] = refl
refused_of_all [] [] (job ∷ jobs) = refused_of_all [] [] jobs
refused_of_all [] (one ∷ refused) jobs = ap (λ all. one ∷ all) (refused_of_all [] refused jobs)
refused_of_all (told ∷ has) refused jobs = refused_of_all has refused jobs

jobs_of_all : (has : List Told) (refused : List Refused) (jobs : List Parcel) → jobs_in (records has refused jobs) ≡ jobs
jobs_of_all [] [] [] = refl
jobs_of_all [] [] (job ∷ jobs) = ap (λ all. job ∷ all) (jobs_of_all [] [] jobs)
jobs_of_all [] (one ∷ refused) jobs = jobs_of_all [] refused jobs
jobs_of_all (told ∷ has) refused jobs = jobs_of_all has refused jobs

-- ---- a front of it

-- the first line is that of the whole, and what it says that its sender has, and its jobs, are the
-- first of the whole's
pub record IsFirst (whole read : Bundle) : Type 0 where
  pub heading : heading_of read ≡ heading_of whole
  pub told : List Told
  pub has : whole.has ≡ read.has ++ told
  pub more : List Refused
  pub refused : whole.refused ≡ read.refused ++ more
  pub left : List Parcel
  pub jobs : whole.jobs ≡ read.jobs ++ left

-- the laws of bundles by which a front of a text is read
abbrev pub FrontsAreRead : Type 0
FrontsAreRead = (bundle read : Bundle) (text : List ℕ) → IsBundle bundle → IsCutOff text (bundle_text bundle) → IsRead text read → IsFrontOf read bundle

abbrev pub WholesAreRead : Type 0
WholesAreRead = (bundle : Bundle) → IsBundle bundle → IsRead (bundle_text bundle) bundle

abbrev pub OneIsRead : Type 0
OneIsRead = (text : List ℕ) (bundle other : Bundle) → IsRead text bundle → IsRead text other → bundle ≡ other

first_of_records : (whole read : Bundle) → IsFrontOf read whole → IsFirst whole read
first_of_records whole read is = record {
  heading = is.heading;
  told = told_in is.more;
  has = sym (told_of_all whole.has whole.refused whole.jobs) ∙ ap told_in is.records ∙ told_more (records_of read) is.more
      ∙ ap (λ has. has ++ told_in is.more) (told_of_all read.has read.refused read.jobs);
  more = refused_in is.more;
  refused = sym (refused_of_all whole.has whole.refused whole.jobs) ∙ ap refused_in is.records ∙ refused_more (records_of read) is.more
      ∙ ap (λ refused. refused ++ refused_in is.more) (refused_of_all read.has read.refused read.jobs);
  left = jobs_in is.more;
  jobs = sym (jobs_of_all whole.has whole.refused whole.jobs) ∙ ap jobs_in is.records ∙ jobs_more (records_of read) is.more
      ∙ ap (λ jobs. jobs ++ jobs_in is.more) (jobs_of_all read.has read.refused read.jobs);
}

first_of_all : (whole read : Bundle) → read ≡ whole → IsFirst whole read
first_of_all whole read same = record {
  heading = ap heading_of same;
  told = [];
  has = sym (ap (λ (bundle : Bundle). bundle.has) same) ∙ sym (append-nil read.has);
  more = [];
  refused = sym (ap (λ (bundle : Bundle). bundle.refused) same) ∙ sym (append-nil read.refused);
  left = [];
  jobs = sym (ap (λ (bundle : Bundle). bundle.jobs) same) ∙ sym (append-nil read.jobs);
}

pub first_read : FrontsAreRead → WholesAreRead → OneIsRead → (whole read : Bundle) (front cut : List ℕ)
    → IsBundle whole → front ++ cut ≡ bundle_text whole → IsRead front read → IsFirst whole read
first_read fronts wholes one whole read front [] is_whole is_front is_read =
    first_of_all whole read (one (bundle_text whole) read whole (subst (λ text. IsRead text read) (sym (append-nil front) ∙ is_front) is_read) (wholes whole is_whole))
first_read fronts wholes one whole read front (byte ∷ cut) is_whole is_front is_read =
    first_of_records whole read
    (fronts whole read front is_whole (record { missing = byte ∷ cut; some = λ none. absurd cc; is_front = sym is_front }) is_read)
