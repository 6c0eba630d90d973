use Rattle.std.proofs.Common.{◌≡◌, sym, refl, subst, ◌∙◌}
use Rattle.uu_times.specs.Ranges.{holds, AreSeparateRanges}
use Rattle.uu_times.proofs.Runs.{maximal_runs_runs}
use Rattle.uu_times.proofs.windows.Windows.ranges.Goals as goal

pub returns-clause-maximal : goal.returns-clause-maximal
returns-clause-maximal c =
    let same : c.as_slice.result.now ≡ c.args.self.now = cc in
    same ∙ sym (maximal_runs_runs (holds c.args.self.now) c.args.self.now (subst AreSeparateRanges c.self.view_is c.self.invariant) (λ minute below. refl))
