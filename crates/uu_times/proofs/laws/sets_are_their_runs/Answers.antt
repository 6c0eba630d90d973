use Rattle.std.proofs.Common.{refl}
use Rattle.uu_times.specs.Ranges.{holds}
use Rattle.uu_times.proofs.Runs.{holds-maximal_runs, runs_maximal_runs, maximal_runs_runs}
use Rattle.uu_times.proofs.laws.sets_are_their_runs.Goals as goal

pub returns : goal.returns
returns c = record {
  union = holds-maximal_runs;
  apart = runs_maximal_runs;
  accepted = λ ranges runs. maximal_runs_runs (holds ranges) ranges runs (λ minute below. refl);
}
