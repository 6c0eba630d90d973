-- How far a bundle was read.
use Rattle.std.proofs.Common.{◌≡◌, ◌∙◌, ◌<◌, ap, sym, refl, arith, ℕ, List, [], ◌∷◌, ◌++◌, append_assoc, append-nil, length, length-append, None, All}
use Rattle.std.proofs.lemmas.List.Concat.{flat_map-append}
use Rattle.std.proofs.lemmas.List.Elements.{All-nil, All-push}
use Rattle.uu_bundle.specs.Bundles.{heading_of, records_text}
use Rattle.uu_bundle.specs.Internal.Forms.{IsReadFrom}
use Rattle.uu_bundle.specs.Reading.{IsRead, jobs_in, refused_in, stop_of, told_in}
use Rattle.uu_bundle.specs.Texts.{IsHeading, IsRecord, heading_text, record_text}
use Rattle.uu_bundle.specs.declared.bundle.Bundle.{Bundle}
use Rattle.uu_bundle.specs.declared.bundle.Heading.{Heading}
use Rattle.uu_bundle.specs.declared.bundle.Parcel.{Parcel}
use Rattle.uu_bundle.specs.declared.bundle.Record.{Record}
use Rattle.uu_bundle.specs.declared.bundle.Record.TheVariants.{Has, No, Job}
use Rattle.uu_bundle.specs.declared.bundle.Refused.{Refused}
use Rattle.uu_bundle.specs.declared.bundle.Told.{Told}

-- records come before what is left, and what they say was kept
pub record Progress (text : List ℕ) (heading : Heading) (rest : List ℕ) (has : List Told) (refused : List Refused) (jobs : List Parcel) : Type 0 where
  pub records : List Record
  pub is_text : text ≡ heading_text heading ++ (records_text records ++ rest)
  pub each : All (IsRecord heading) records
  pub has_is : has ≡ told_in records
  pub refused_is : refused ≡ refused_in records
  pub jobs_is : jobs ≡ jobs_in records

told_in-append : (xs ys : List Record) → told_in (xs ++ ys) ≡ told_in xs ++ told_in ys
told_in-append [] ys = refl
told_in-append (Has told ∷ xs) ys = ap (λ ts. told ∷ ts) (told_in-append xs ys)
told_in-append (No refused ∷ xs) ys = told_in-append xs ys
told_in-append (Job job ∷ xs) ys = told_in-append xs ys

refused_in-append : (xs ys : List Record) → refused_in (xs ++ ys) ≡ refused_in xs ++ refused_in ys
refused_in-append [] ys = refl
refused_in-append (Has told ∷ xs) ys = refused_in-append xs ys
refused_in-append (No refused ∷ xs) ys = ap (λ rs. refused ∷ rs) (refused_in-append xs ys)
refused_in-append (Job job ∷ xs) ys = refused_in-append xs ys

jobs_in-append : (xs ys : List Record) → jobs_in (xs ++ ys) ≡ jobs_in xs ++ jobs_in ys
jobs_in-append [] ys = refl
jobs_in-append (Has told ∷ xs) ys = jobs_in-append xs ys
jobs_in-append (No refused ∷ xs) ys = jobs_in-append xs ys
jobs_in-append (Job job ∷ xs) ys = ap (λ js. job ∷ js) (jobs_in-append xs ys)

-- the text with one record more before what is left
one_more : (front : List ℕ) (records : List Record) (next : Record) (rest after text : List ℕ) → text ≡ front ++ (records_text records ++ rest) → rest ≡ record_text next ++ after
    → text ≡ front ++ (records_text (records ++ next ∷ []) ++ after)
one_more front records next rest after text is at =
    is ∙ ap (λ r. front ++ (records_text records ++ r)) at
    ∙ ap (λ t. front ++ t)
    (sym (append_assoc (records_text records) (record_text next) after)
    ∙ ap (λ t. t ++ after) (ap (λ r. records_text records ++ r) (sym (append-nil (record_text next))) ∙ sym (flat_map-append record_text records (next ∷ []))))

-- the progress with one record more, and what it says
pub one_read : (text : List ℕ) (heading : Heading) (rest after : List ℕ) (has : List Told) (refused : List Refused) (jobs : List Parcel) (next : Record) → Progress text heading rest has refused jobs
    → (rest ≡ record_text next ++ after) × IsRecord heading next → Progress text heading after (has ++ told_in (next ∷ [])) (refused ++ refused_in (next ∷ [])) (jobs ++ jobs_in (next ∷ []))
one_read text heading rest after has refused jobs next so_far read =
    record {
      records = so_far.records ++ next ∷ [];
      is_text = one_more (heading_text heading) so_far.records next rest after text so_far.is_text read.0;
      each = All-push (IsRecord heading) so_far.records next so_far.each read.1;
      has_is = ap (λ ts. ts ++ told_in (next ∷ [])) so_far.has_is ∙ sym (told_in-append so_far.records (next ∷ []));
      refused_is = ap (λ rs. rs ++ refused_in (next ∷ [])) so_far.refused_is ∙ sym (refused_in-append so_far.records (next ∷ []));
      jobs_is = ap (λ js. js ++ jobs_in (next ∷ [])) so_far.jobs_is ∙ sym (jobs_in-append so_far.records (next ∷ []));
    }

pub some_bytes : (next : Record) → 0 < length (record_text next)
some_bytes (Has told) = omega arith
some_bytes (No refused) = omega arith
some_bytes (Job job) = omega arith

pub shorter : (heading : Heading) (next : Record) (rest after : List ℕ) → (rest ≡ record_text next ++ after) × IsRecord heading next → length after < length rest
shorter heading next rest after read = let some = some_bytes next in omega (arith, ap length read.0, length-append (record_text next) after)

abbrev pub front_of : (text : List ℕ) (heading : Heading) (rest : List ℕ) (has : List Told) (refused : List Refused) (jobs : List Parcel) → Progress text heading rest has refused jobs → List ℕ
front_of text heading rest has refused jobs so_far = heading_text heading ++ records_text so_far.records

pub front_is : (text : List ℕ) (heading : Heading) (rest : List ℕ) (has : List Told) (refused : List Refused) (jobs : List Parcel) (so_far : Progress text heading rest has refused jobs)
    → text ≡ front_of text heading rest has refused jobs so_far ++ rest
front_is text heading rest has refused jobs so_far = so_far.is_text ∙ sym (append_assoc (heading_text heading) (records_text so_far.records) rest)

pub read_whole : (text : List ℕ) (bundle : Bundle) (rest : List ℕ) (has : List Told) (refused : List Refused) (jobs : List Parcel) → IsHeading (heading_of bundle)
    → (so_far : Progress text (heading_of bundle) rest has refused jobs) → IsReadFrom (IsRecord (heading_of bundle)) record_text rest None → bundle.has ≡ has → bundle.refused ≡ refused → bundle.jobs ≡ jobs
    → bundle.stopped ≡ stop_of (front_of text (heading_of bundle) rest has refused jobs so_far) rest → IsRead text bundle
read_whole text bundle rest has refused jobs good so_far none of_has of_refused of_jobs stopped =
    record {
      records = so_far.records;
      rest = rest;
      heading = good;
      each = so_far.each;
      is_text = so_far.is_text;
      longest = none;
      has = of_has ∙ so_far.has_is;
      refused = of_refused ∙ so_far.refused_is;
      jobs = of_jobs ∙ so_far.jobs_is;
      stopped = stopped;
    }

-- ---- as the code has them

pub begun_here : (text : List ℕ) (heading : Heading) (rest : List ℕ) (has : List Told) (refused : List Refused) (jobs : List Parcel) → (text ≡ heading_text heading ++ rest) × IsHeading heading → has ≡ [] → refused ≡ [] → jobs ≡ []
    → Progress text heading rest has refused jobs
begun_here text heading rest has refused jobs read no_has no_refused no_jobs =
    record { records = []; is_text = read.0; each = All-nil (IsRecord heading); has_is = no_has; refused_is = no_refused; jobs_is = no_jobs }

-- three lists that are those with one record more
moved : (text : List ℕ) (heading : Heading) (after : List ℕ) (has hs : List Told) (refused rs : List Refused) (jobs js : List Parcel) → hs ≡ has → rs ≡ refused → js ≡ jobs → Progress text heading after has refused jobs
    → Progress text heading after hs rs js
moved text heading after has hs refused rs jobs js of_has of_refused of_jobs so_far =
    record {
      records = so_far.records;
      is_text = so_far.is_text;
      each = so_far.each;
      has_is = of_has ∙ so_far.has_is;
      refused_is = of_refused ∙ so_far.refused_is;
      jobs_is = of_jobs ∙ so_far.jobs_is;
    }

pub has_kept : (text : List ℕ) (heading : Heading) (rest after : List ℕ) (has items : List Told) (refused : List Refused) (jobs : List Parcel) (next : Record) (told : Told) → Progress text heading rest has refused jobs
    → (rest ≡ record_text next ++ after) × IsRecord heading next → next ≡ Has told → items ≡ has ++ told ∷ [] → Progress text heading after items refused jobs
has_kept text heading rest after has items refused jobs next told so_far read is kept =
    moved text heading after (has ++ told_in (next ∷ [])) items (refused ++ refused_in (next ∷ [])) refused (jobs ++ jobs_in (next ∷ [])) jobs (kept ∙ ap (λ r. has ++ told_in (r ∷ [])) (sym is))
    (sym (append-nil refused) ∙ ap (λ r. refused ++ refused_in (r ∷ [])) (sym is)) (sym (append-nil jobs) ∙ ap (λ r. jobs ++ jobs_in (r ∷ [])) (sym is)) (one_read text heading rest after has refused jobs next so_far read)

pub refused_kept : (text : List ℕ) (heading : Heading) (rest after : List ℕ) (has : List Told) (refused items : List Refused) (jobs : List Parcel) (next : Record) (one : Refused) → Progress text heading rest has refused jobs
    → (rest ≡ record_text next ++ after) × IsRecord heading next → next ≡ No one → items ≡ refused ++ one ∷ [] → Progress text heading after has items jobs
refused_kept text heading rest after has refused items jobs next one so_far read is kept =
    moved text heading after (has ++ told_in (next ∷ [])) has (refused ++ refused_in (next ∷ [])) items (jobs ++ jobs_in (next ∷ [])) jobs (sym (append-nil has) ∙ ap (λ r. has ++ told_in (r ∷ [])) (sym is))
    (kept ∙ ap (λ r. refused ++ refused_in (r ∷ [])) (sym is)) (sym (append-nil jobs) ∙ ap (λ r. jobs ++ jobs_in (r ∷ [])) (sym is)) (one_read text heading rest after has refused jobs next so_far read)

pub job_kept : (text : List ℕ) (heading : Heading) (rest after : List ℕ) (has : List Told) (refused : List Refused) (jobs items : List Parcel) (next : Record) (job : Parcel) → Progress text heading rest has refused jobs
    → (rest ≡ record_text next ++ after) × IsRecord heading next → next ≡ Job job → items ≡ jobs ++ job ∷ [] → Progress text heading after has refused items
job_kept text heading rest after has refused jobs items next job so_far read is kept =
    moved text heading after (has ++ told_in (next ∷ [])) has (refused ++ refused_in (next ∷ [])) refused (jobs ++ jobs_in (next ∷ [])) items (sym (append-nil has) ∙ ap (λ r. has ++ told_in (r ∷ [])) (sym is))
    (sym (append-nil refused) ∙ ap (λ r. refused ++ refused_in (r ∷ [])) (sym is)) (kept ∙ ap (λ r. jobs ++ jobs_in (r ∷ [])) (sym is)) (one_read text heading rest after has refused jobs next so_far read)
