-- The lines of a report of what a neighbour has, while they are being written.
use Rattle.std.specs.Prelude.{◌≡◌, ℕ, ◌≤◌, All, List, ◌++◌, length}
use Rattle.std.specs.List.{concat, flat_map}
use Rattle.uu_core.specs.State.{most_done}
use Rattle.uu_report.specs.Reports.{settled_line, settled_words}

-- the lines of these numbers; the last line has this many and no line end yet
pub record AreBegun (system numbers : List ℕ) (count : ℕ) (text : List ℕ) : Type 0 where
  pub full : List (List ℕ)
  pub last : List ℕ
  pub all : numbers ≡ concat full ++ last
  pub full_have : All (λ line. length line ≡ most_done) full
  pub last_has : count ≡ length last
  pub within : count ≤ most_done
  pub some : 1 ≤ length full → 1 ≤ length last
  pub text_is : text ≡ flat_map (settled_line system) full ++ settled_words system last
