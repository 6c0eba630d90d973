-- What is read of any text as a bundle: its first line, and then the records up to the first that
-- is cut off, damaged or unknown (this project's choice).
use Rattle.std.specs.Prelude.{◌≡◌, ◌≢◌, ◌==◌, ℕ, ◌+◌, ◌-◌, ◌^◌, List, [], ◌∷◌, ◌++◌, All, Option, Some, None, count_by, min, if◌then◌else◌, ⊤}
use Rattle.std.specs.Str.{bytes_eq}
use Rattle.uu_bundle.specs.Bundles.{heading_of, records_text}
use Rattle.uu_bundle.specs.Texts.{IsHeading, IsRecord, end_text, heading_text, record_text}
use Rattle.uu_bundle.specs.declared.bundle.Bundle.{Bundle}
use Rattle.uu_bundle.specs.declared.bundle.Heading.{Heading}
use Rattle.uu_bundle.specs.declared.bundle.Parcel.{Parcel}
use Rattle.uu_bundle.specs.declared.bundle.Record.{Record}
use Rattle.uu_bundle.specs.declared.bundle.Record.TheVariants.{Has, No, Job}
use Rattle.uu_bundle.specs.declared.bundle.Refused.{Refused}
use Rattle.uu_bundle.specs.declared.bundle.Told.{Told}
use Rattle.uu_bundle.specs.declared.fault.BundleFault.{BundleFault}
use Rattle.uu_bundle.specs.declared.fault.BundleFault.TheVariants.{NoBundle, Memory}

-- what the records say that the sender has, in order
abbrev pub told_in : List Record → List Told
told_in [] = []
told_in (Has told ∷ records) = told ∷ told_in records
told_in (No refused ∷ records) = told_in records
told_in (Job job ∷ records) = told_in records

-- what they say that it won't take, in order
abbrev pub refused_in : List Record → List Refused
refused_in [] = []
refused_in (Has told ∷ records) = refused_in records
refused_in (No refused ∷ records) = refused ∷ refused_in records
refused_in (Job job ∷ records) = refused_in records

-- their jobs, in order
abbrev pub jobs_in : List Record → List Parcel
jobs_in [] = []
jobs_in (Has told ∷ records) = jobs_in records
jobs_in (No refused ∷ records) = jobs_in records
jobs_in (Job job ∷ records) = job ∷ jobs_in records

-- the text doesn't begin with a whole record
abbrev pub BeginsWithNoRecord : Heading → List ℕ → Type 0
BeginsWithNoRecord heading text = (next : Record) (behind : List ℕ) → IsRecord heading next → text ≢ record_text next ++ behind

-- the line, counted from 1, that begins after this first part of a text; at most the greatest `u32`
abbrev pub line_behind : List ℕ → ℕ
line_behind front = min (1 + count_by (λ byte. byte == 10) front) (2 ^ 32 - 1)

-- the line at which reading ended, unless that was the `end` at the end of the text
abbrev pub stop_of : List ℕ → List ℕ → Option ℕ
stop_of front rest = if bytes_eq rest end_text then None else Some (line_behind front)

-- the bundle is what is read of the text
pub record IsRead (text : List ℕ) (bundle : Bundle) : Type 0 where
  pub records : List Record
  pub rest : List ℕ
  pub heading : IsHeading (heading_of bundle)
  pub each : All (IsRecord (heading_of bundle)) records
  pub is_text : text ≡ heading_text (heading_of bundle) ++ (records_text records ++ rest)
  pub longest : BeginsWithNoRecord (heading_of bundle) rest
  pub has : bundle.has ≡ told_in records
  pub refused : bundle.refused ≡ refused_in records
  pub jobs : bundle.jobs ≡ jobs_in records
  pub stopped : bundle.stopped ≡ stop_of (heading_text (heading_of bundle) ++ records_text records) rest

-- the text doesn't begin with the first line of a bundle
abbrev pub IsNoBundle : List ℕ → Type 0
IsNoBundle text = (heading : Heading) (behind : List ℕ) → IsHeading heading → text ≢ heading_text heading ++ behind

-- why nothing is read of a text
abbrev pub IsCause : List ℕ → BundleFault → Type 0
IsCause text NoBundle = IsNoBundle text
IsCause text Memory = ⊤
