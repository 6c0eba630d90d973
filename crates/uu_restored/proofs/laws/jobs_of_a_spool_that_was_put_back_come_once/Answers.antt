use Rattle.uu_restored.proofs.HistoryRuns.{lives, never_lost}
use Rattle.uu_restored.proofs.HistoryLaws.{still_unchanged, counts_anew, settled, never_differs, free_or_done, stale_was_done}
use Rattle.uu_restored.proofs.laws.jobs_of_a_spool_that_was_put_back_come_once.Goals as goal

pub returns : goal.returns
returns c = record {
  never_twice = λ crossing history it. (lives crossing history it).holds.once;
  apart = λ crossing history it. (lives crossing history it).holds.rising;
  unchanged = λ crossing history parcel new it queued. still_unchanged crossing history parcel new (lives crossing history it) queued;
  one_parcel = λ crossing history one other it. (lives crossing history it).one one other;
  one_job = λ crossing history copy job parcel it there inside shown number. (lives crossing history it).shown copy there parcel job shown inside number;
  never_lost = λ crossing history events job it may own all. never_lost crossing history events job (lives crossing history it) may own all;
  known = λ crossing history copy other job it newest there inside waits own given. (lives crossing history it).known newest copy other there inside job waits own given;
  counted_anew = λ crossing history it. counts_anew crossing history (lives crossing history it);
  answered = λ crossing history number it there. let one = (lives crossing history it).holds.answered number there in (one.it, one.there, one.is);
  same = λ crossing history handed it there. (lives crossing history it).holds.made handed there;
  settled = λ crossing history mark bundle told job it said there waits own number. settled crossing history mark bundle told job (lives crossing history it) said there waits own number;
  never_differs = λ crossing history parcel new it there. never_differs crossing history (lives crossing history it) parcel new there;
  free_or_done = λ crossing history job new it newest heard there own. free_or_done crossing history (lives crossing history it) job new newest heard there own;
  stale_was_done = λ crossing history job new it newest heard there own stale. stale_was_done crossing history (lives crossing history it) job new newest heard there own stale;
}
