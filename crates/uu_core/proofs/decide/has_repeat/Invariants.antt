use Rattle.std.proofs.Common.{◌≡◌, drop}
use Rattle.uu_core.specs.Verdict.{has_repeat}
use Rattle.uu_core.proofs.DoneLemmas.{repeats}
use Rattle.uu_core.proofs.decide.has_repeat.Given as goal

abbrev pub invariant-loop-i : goal.invariant-loop-i
invariant-loop-i l = repeats (drop l.i l.numbers) ≡ has_repeat l.numbers
