-- What the reader of a list of simple strings answers.
use Rattle.std.specs.Prelude.{◌≡◌, ℕ, List, Vec, Result, Ok, Err}
use Rattle.std.specs.Global.{Global}
use Rattle.uu_times.specs.declared.days.Simple.{Simple}
use Rattle.uu_times.specs.declared.scan.Unlisted.{Unlisted}
use Rattle.uu_times.specs.declared.scan.Unlisted.TheVariants.{At, Memory}

-- the answer is the expected one, unless memory ran out
abbrev pub Lists : Result (Vec Simple Global) Unlisted → Result (List Simple) ℕ → Type 0
Lists (Ok simples) expected = expected ≡ Ok simples.items
Lists (Err (At at)) expected = expected ≡ Err at
Lists (Err Memory) expected = Unit {0}
