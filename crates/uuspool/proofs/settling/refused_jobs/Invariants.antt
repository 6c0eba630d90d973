use Rattle.std.proofs.Common.{◌≡◌, take}
use Rattle.std.specs.Prelude.{⊤}
use Rattle.uuspool.specs.Bundles.{refused_still}
use Rattle.uuspool.specs.Internal.Asked.{WasAsked}
use Rattle.uuspool.proofs.settling.refused_jobs.Given as goal

-- kept so far are those of the jobs before this one
abbrev pub invariant-loop-one : goal.invariant-loop-one
invariant-loop-one g l = WasAsked (λ s. ⊤) (λ s. l.refused.items ≡ refused_still l.fn.own l.fn.settling.system l.fn.settling.spool (take l.one-index l.one-items) s) l.fn.spool l.spool
