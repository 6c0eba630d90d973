-- Why a call of this crate fails.
use Rattle.std.specs.Prelude.{◌≡◌, ℕ, Result, Err, ⊤}
use Rattle.uu_names.specs.declared.fault.NameFault.{NameFault}
use Rattle.uu_names.specs.declared.fault.NameFault.TheVariants.{BadGrade, BadName, BadPath, BadWord, NoEnvelope, TooLong, Memory}

-- the number of a fault (this project's choice)
abbrev pub fault_code : NameFault → ℕ
fault_code BadGrade = 1
fault_code (BadName at) = 2
fault_code (BadPath at) = 3
fault_code (BadWord at) = 4
fault_code NoEnvelope = 5
fault_code TooLong = 6
fault_code Memory = 7

-- the answer is the expected one, or out of memory
abbrev pub AnswersUnlessMemory : {V : Type 0} → Result V NameFault → Result V NameFault → Type 0
AnswersUnlessMemory (Err Memory) expected = ⊤
AnswersUnlessMemory answer expected = answer ≡ expected

-- the fact, unless the fault is out of memory
abbrev pub UnlessMemory : NameFault → Type 0 → Type 0
UnlessMemory Memory fact = ⊤
UnlessMemory fault fact = fact
