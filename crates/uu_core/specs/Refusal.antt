-- Why a command is refused, and which of several reasons is the reply.
use Rattle.std.specs.Prelude.{ℕ, ◌<◌, Bool, List, [], ◌∷◌, codes, AllPairs, Option, Some, None, Result, Ok, Err, if◌then◌else◌}
use Rattle.uu_core.specs.declared.refusal.Refusal.{Refusal}
use Rattle.uu_core.specs.declared.refusal.Refusal.TheVariants.{NoSystem, NoJob, NotYours, JobTwice, OtherSystem, Busy, TooLarge, NumbersOut, BadEntry, Stale, Differs}

-- the number of a refusal (this project's choice)
abbrev pub refusal_code : Refusal → ℕ
refusal_code NoSystem = 1
refusal_code NoJob = 2
refusal_code NotYours = 3
refusal_code JobTwice = 4
refusal_code OtherSystem = 5
refusal_code Busy = 6
refusal_code TooLarge = 7
refusal_code NumbersOut = 8
refusal_code BadEntry = 9
refusal_code Stale = 10
refusal_code Differs = 11

-- the name of a refusal, which is that of its variant
abbrev pub refusal_name : Refusal → List ℕ
refusal_name NoSystem = codes "NoSystem"
refusal_name NoJob = codes "NoJob"
refusal_name NotYours = codes "NotYours"
refusal_name JobTwice = codes "JobTwice"
refusal_name OtherSystem = codes "OtherSystem"
refusal_name Busy = codes "Busy"
refusal_name TooLarge = codes "TooLarge"
refusal_name NumbersOut = codes "NumbersOut"
refusal_name BadEntry = codes "BadEntry"
refusal_name Stale = codes "Stale"
refusal_name Differs = codes "Differs"

-- The turn of a refusal if several apply: `TooLarge` first, because it doesn't depend on the spool,
-- and then by number (this project's choice).
abbrev pub turn_of : Refusal → ℕ
turn_of TooLarge = 0
turn_of refusal = refusal_code refusal

-- reasons in their order, each with whether it applies
abbrev pub AreInTurn : List (Bool × Refusal) → Type 0
AreInTurn reasons = AllPairs (λ earlier later. turn_of earlier.1 < turn_of later.1) reasons

-- the first of some reasons that applies
abbrev pub first_reason : List (Bool × Refusal) → Option Refusal
first_reason [] = None
first_reason (reason ∷ reasons) = if reason.0 then Some reason.1 else first_reason reasons

-- the value, unless it is refused
abbrev pub value_unless : {V : Type 0} → Option Refusal → V → Result V Refusal
value_unless None value = Ok value
value_unless (Some refusal) value = Err refusal

-- the value, or the first reason to refuse it that applies
abbrev pub decided : {V : Type 0} → List (Bool × Refusal) → V → Result V Refusal
decided reasons value = value_unless (first_reason reasons) value
