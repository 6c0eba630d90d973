-- What the program answers to the words of a line. `uu_line` says what words mean.
use Rattle.std.specs.Prelude.{ℕ, List, Result, Ok, Err, ⊤}
pub use Rattle.uu_line.specs.Lines.{AreRefused, MeansFault, MeansLine, same_text, takes_input}
use Rattle.uu_line.specs.declared.fault.LineFault.TheVariants as of_line
use Rattle.uu_line.specs.declared.line.CommandLine.{CommandLine}
use Rattle.uuspool.specs.declared.fault.Fault.{Fault}
use Rattle.uuspool.specs.declared.fault.Fault.TheVariants.{Words, Name, TwoSystems, Memory}

-- The answer to words is what they mean. A fault of words comes exactly if `clap` refuses them or
-- they ask for help, and says which. Out of memory may come instead of any answer. No other fault
-- comes.
abbrev pub IsAnswerTo : List (List ℕ) → Result CommandLine Fault → Type 0
IsAnswerTo words (Ok line) = MeansLine words line
IsAnswerTo words (Err (Words text help)) = AreRefused words help
IsAnswerTo words (Err (Name why)) = MeansFault words (of_line.Name why)
IsAnswerTo words (Err TwoSystems) = MeansFault words of_line.TwoSystems
IsAnswerTo words (Err Memory) = ⊤
IsAnswerTo words (Err _) = ⊥
