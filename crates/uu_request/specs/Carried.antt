-- What a site unpacks of a neighbour's bundles as steps of custody (`uu_handover/specs/Custody.antt`).
use Rattle.std.specs.Prelude.{◌≡◌, ℕ, Bool, true, false, ◌&&◌, ◌||◌, nat_eq, is_some, List, [], ◌∷◌, ◌++◌, map, All, codes}
use Rattle.std.specs.List.{ends_with}
use Rattle.std.specs.Cmp.Lexicographic.{pointwise}
use Rattle.uu_names.specs.Envelope.{quote_of}
use Rattle.uu_handover.specs.Bundles.{Bundle, Packed, RefusedJob, Told, unpacked}
use Rattle.uu_handover.specs.Custody.{Crossing, Parcel}
use Rattle.uu_core.specs.declared.command.Command.{Command}
use Rattle.uu_core.specs.declared.job.Kind.{Kind}
use Rattle.uu_core.specs.declared.job.Kind.TheVariants as kind
use Rattle.uu_core.specs.declared.job.NewJob.{NewJob}
use Rattle.uu_bundle.specs.Marks.{mark_of}
use Rattle.uu_bundle.specs.Texts.{marked_text}
use Rattle.uu_bundle.specs.declared.bundle.Bundle.{Bundle as BundleText}
use Rattle.uu_bundle.specs.declared.bundle.Parcel.{Parcel as BundledJob}
use Rattle.uu_bundle.specs.declared.bundle.Refused.{Refused}
use Rattle.uu_bundle.specs.declared.bundle.Told.{Told as ToldText}
use Rattle.uu_line.specs.Lines.{same_text}
use Rattle.uu_request.specs.Unpacking.{next_hop, rests_of, user_of}

-- the part of a bundle's job that is handed on
abbrev pub carried : BundledJob → Parcel
carried job = record { number = job.number; user = job.user; kind = job.kind; bytes = job.bytes }

abbrev pub same_kind : Kind → Kind → Bool
same_kind (kind.Send source target) (kind.Send from to) = same_text source from && same_text target to
same_kind (kind.Request source target) (kind.Request from to) = same_text source from && same_text target to
same_kind (kind.Execute command arguments) (kind.Execute other others) = same_text command other && pointwise same_text arguments others
same_kind one other = false

-- the job is this user's, for this system, and of this kind
abbrev pub is_job_of : List ℕ → List ℕ → Kind → NewJob → Bool
is_job_of user system kind job = same_text job.user user && same_text job.system system && same_kind job.kind kind

-- The job is made from a parcel from this site to that one. Either it is for that site, with the
-- kind and the bytes of the parcel. Or it is a message that is passed on to its system, whose bytes
-- end with those of the parcel, after an envelope line that differs each time.
abbrev pub is_unpacked : List ℕ → List ℕ → Parcel → NewJob → Bool
is_unpacked from to parcel job =
    let user = user_of from parcel.user in
    (is_job_of user to parcel.kind job && same_text job.bytes parcel.bytes)
    || (is_some (next_hop (job.system ∷ []) parcel.kind)
    && (is_job_of user job.system (kind.Execute (codes "rmail") (rests_of parcel.kind)) job
    && ends_with nat_eq job.bytes (quote_of parcel.bytes ++ parcel.bytes)))

-- The crossing of bundles with these names in them: from the site that says them to the one that
-- unpacks them, with the word for the sender's spool.
abbrev pub bundle_crossing : List ℕ → List ℕ → List ℕ → Crossing
bundle_crossing from to spool = record {
  from = from;
  to = to;
  mark = λ parcel. mark_of (marked_text from to spool parcel.number parcel.user parcel.kind parcel.bytes);
  makes = is_unpacked from to;
}

-- What a site is told by a bundle that it reads (`uu_handover/specs/Bundles.antt`).
abbrev pub packed_job : BundledJob → Packed
packed_job job = record { parcel = carried job; mark = job.mark; grade = job.grade }

abbrev pub told_job : ToldText → Told
told_job one = record { number = one.number; mark = one.mark }

abbrev pub refused_job : Refused → RefusedJob
refused_job one = record { number = one.number; mark = one.mark; reason = one.reason }

abbrev pub said_of : BundleText → Bundle
said_of bundle = record {
  from = bundle.from;
  to = bundle.to;
  below = bundle.below;
  grade = bundle.grade;
  has = map told_job bundle.has;
  refused = map refused_job bundle.refused;
  jobs = map packed_job bundle.jobs;
}

-- The commands are those of a bundle: what the sender won't hand on again is forgotten, and each
-- job is handed in under its key, in their order. What is made of the job, and its mark, are those
-- of the crossing, so the command takes it (`ReceiverTakes`).
pub record AreUnpacked (crossing : Crossing) (bundle : Bundle) (commands : List Command) : Type 0 where
  pub make : Packed → NewJob
  pub commands_are : commands ≡ unpacked bundle.from make bundle
  pub made : All (λ packed_job. crossing.makes packed_job.parcel (make packed_job) ≡ true) bundle.jobs
  pub marked : All (λ packed_job. packed_job.mark ≡ crossing.mark packed_job.parcel) bundle.jobs
