-- A fault of a line is the answer to its words, as the program tells it.
use Rattle.std.proofs.Common.{ℕ, List, Result, Err}
use Rattle.uu_line.specs.Lines as line
use Rattle.uu_line.specs.declared.fault.LineFault.{LineFault}
use Rattle.uu_line.specs.declared.fault.LineFault.TheVariants as of_line
use Rattle.uu_line.specs.declared.line.CommandLine.{CommandLine}
use Rattle.uuspool.specs.Faults.{fault_of_line}
use Rattle.uuspool.specs.Lines.{IsAnswerTo}
use Rattle.uuspool.specs.declared.fault.Fault.{Fault}

pub fault_answer : (words : List (List ℕ)) (why : LineFault) → (let answer : Result CommandLine LineFault = Err why in line.IsAnswerTo words answer)
    → (let answer : Result CommandLine Fault = Err (fault_of_line why) in IsAnswerTo words answer)
fault_answer words (of_line.Words text help) answer = answer
fault_answer words (of_line.Name why) answer = answer
fault_answer words of_line.TwoSystems answer = answer
fault_answer words of_line.Memory answer = tt
