use Rattle.std.proofs.Common.{refl}
use Rattle.uu_handover.proofs.SettledLaws.{gone, stays, was_told}
use Rattle.uu_handover.proofs.laws.settled_jobs_may_be_reported.Goals as goal

pub returns : goal.returns
returns c = record {
  may_go = λ crossing world mark bundle all own. was_told crossing.to mark world.sender bundle.has world.answered all;
  accepted = λ state system numbers. refl;
  gone = gone;
  stays = stays;
  same = λ state system numbers. refl;
}
