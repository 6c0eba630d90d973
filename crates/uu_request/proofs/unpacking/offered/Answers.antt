use Rattle.std.proofs.Common.{◌∙◌, ap, unwrap_or, ℕ, List}
use Rattle.uu_times.specs.declared.moment.Moment.{Moment}
use Rattle.uu_core.specs.declared.job.NewJob.{NewJob}
use Rattle.uu_core.specs.declared.take_in.Offered.{Offered}
use Rattle.uu_bundle.specs.declared.bundle.Parcel.{Parcel}
use Rattle.uu_settings.specs.declared.settings.Settings.{Settings}
use Rattle.uu_request.specs.Unpacking.{next_hop, own_job, passed_on}
use Rattle.uu_request.proofs.unpacking.offered.Goals as goal

-- what is made of the job as this user's
abbrev made : Settings → Moment → List (List ℕ) → Parcel → List ℕ → NewJob
made settings at onward parcel user = unwrap_or (passed_on settings at user parcel (next_hop onward parcel.kind)) (own_job settings at user parcel)

abbrev offer_of : Parcel → NewJob → Offered
offer_of parcel job = record { number = parcel.number; mark = parcel.mark; job = job }

pub returns-clause-offered : goal.returns-clause-offered
returns-clause-offered c =
    ap (offer_of c.args.parcel)
    (c.in_ok-job.ensures.job ∙ ap (made c.args.settings.now c.args.at.now c.args.onward.now c.args.parcel) c.in_ok-user.ensures.user)
