use Rattle.std.proofs.Common.{◌≡◌, List, map}
use Rattle.uu_core.specs.State.{Job}
use Rattle.uuspool.specs.Internal.Asked.{AreThere, WasAsked}
use Rattle.uuspool.proofs.BundleLemmas.{Adds}
use Rattle.uuspool.proofs.bundles.add_jobs.Given as goal

-- the jobs before this one were added
abbrev pub invariant-loop-number : goal.invariant-loop-number
invariant-loop-number g l =
    (jobs : List Job) → l.fn.numbers ≡ map (λ (job : Job). job.number) jobs
    → WasAsked (AreThere jobs) (Adds l.fn.own l.fn.packing l.fn.text.items jobs l.number-index l.room l.text.items) l.fn.spool l.spool
