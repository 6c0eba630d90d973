-- The numbers of the faults (this project's choice).
use Rattle.std.specs.Prelude.{◌≡◌, ℕ, Result, Err, ⊤}
use Rattle.uu_times.specs.declared.fault.TimeFault.{TimeFault}
use Rattle.uu_times.specs.declared.fault.TimeFault.TheVariants.{MomentRange, OffsetRange, BadTime, UnknownTable, TableTwice, BadNumber, BadSystem, TooManyLines, SystemTwice, BadWords, Memory, BadZone}

abbrev pub code_of : TimeFault → ℕ
code_of MomentRange = 1
code_of OffsetRange = 2
code_of (BadTime line at) = 3
code_of (UnknownTable line) = 4
code_of (TableTwice line) = 5
code_of (BadNumber line) = 6
code_of (BadSystem line) = 7
code_of (TooManyLines line) = 8
code_of (SystemTwice line) = 9
code_of (BadWords line) = 10
code_of Memory = 11
code_of BadZone = 12

-- the answer is the expected one, or out of memory
abbrev pub AnswersUnlessMemory : {V : Type 0} → Result V TimeFault → Result V TimeFault → Type 0
AnswersUnlessMemory (Err Memory) expected = ⊤
AnswersUnlessMemory answer expected = answer ≡ expected

-- the fact, unless the fault is out of memory
abbrev pub UnlessMemory : TimeFault → Type 0 → Type 0
UnlessMemory Memory fact = ⊤
UnlessMemory fault fact = fact
