use Rattle.std.proofs.Common.{◌≡◌, All, Contains, take}
use Rattle.std.specs.Prelude.{⊤}
use Rattle.uuspool.specs.Bundles.{numbers_told, settled_among}
use Rattle.uuspool.specs.Internal.Asked.{WasAsked}
use Rattle.uuspool.proofs.settling.settled_numbers.Given as goal

-- kept so far are those of the jobs before this one
abbrev pub invariant-loop-one : goal.invariant-loop-one
invariant-loop-one g l =
    WasAsked (λ s. ⊤) (λ s. l.numbers.items ≡ settled_among l.fn.own l.fn.settling.system l.fn.settling.spool (take l.one-index l.one-items) s) l.fn.spool l.spool
    × All (Contains (numbers_told l.fn.settling.has)) l.numbers.items
