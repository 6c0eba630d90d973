use Rattle.uu_handover.proofs.CustodyRuns.{holds, in_order}
use Rattle.uu_handover.proofs.CustodyLaws.{unchanged, free, never_lost, may_cross, least_waiting}
use Rattle.uu_handover.proofs.laws.handed_on_jobs_come_once.Goals as goal

pub returns : goal.returns
returns c = record {
  never_twice = λ crossing world reached. (holds crossing world reached).once;
  apart = λ crossing world reached. (holds crossing world reached).rising;
  unchanged = λ crossing world parcel new reached queued. unchanged crossing world parcel new (holds crossing world reached) queued;
  never_lost = λ crossing world steps job reached may there own. never_lost crossing world steps job (holds crossing world reached) may there own;
  answered = λ crossing world number reached there. let it = (holds crossing world reached).answered number there in (it.it, it.there, it.is);
  same = λ crossing world handed reached there. (holds crossing world reached).made handed there;
  gets_through = λ crossing world job new reached heard there own. free crossing world job new (holds crossing world reached) heard there own;
  may_say = λ crossing sender good. least_waiting crossing sender (in_order sender good);
  crosses = λ crossing world job new at reached there own made accepted knows. may_cross crossing world job new at (holds crossing world reached) there own made accepted knows;
}
