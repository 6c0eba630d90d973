use Rattle.std.proofs.Common.{sym, subst}
use Rattle.uu_core.specs.Order.{IsInOrder}
use Rattle.uu_handover.specs.Custody.{IsLeast}
use Rattle.uu_handover.proofs.CustodyRuns.{holds, in_order, order_on}
use Rattle.uu_handover.proofs.CustodyLaws.{least_waiting}
use Rattle.uu_handover.proofs.BundleLaws.{waits_there, has_told, told_in, told_of_job, settled_told, settled_waits, one_order, front_waits}
use Rattle.uu_handover.proofs.laws.bundles_say_what_may_be_said.Goals as goal

pub returns : goal.returns
returns c = record {
  below = λ crossing world mark bundle first commands good is said. subst (IsLeast crossing world.sender) (sym said.below) (least_waiting crossing world.sender (subst IsInOrder (sym is) (order_on first commands (in_order first good))));
  jobs = λ crossing world mark bundle packed said there. waits_there crossing world.sender mark bundle packed said there;
  has = λ crossing world mark bundle told said there. has_told crossing world.receiver mark bundle told said there;
  handed_in = λ crossing world mark bundle told reached said there. let it = told_in crossing world (holds crossing world reached) mark bundle told said there in (it.it, it.there, it.is);
  same = λ crossing world mark bundle told job reached said there. told_of_job crossing world (holds crossing world reached) mark bundle told said there job;
  settles = λ crossing world mark bundle told job reached said there waits own number.
      settled_told crossing.to crossing.mark world.sender bundle.has told job there waits own number (told_of_job crossing world (holds crossing world reached) mark bundle told said there job waits number).1;
  settled = settled_waits;
  one_order = one_order;
  fronts = front_waits;
}
