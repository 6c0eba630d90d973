-- Why a map text is refused.
use Rattle.std.specs.Prelude.{ℕ}
use Rattle.uu_map.specs.declared.fault.MapFault.{MapFault}
use Rattle.uu_map.specs.declared.fault.MapFault.TheVariants.{NoName, BadHost, TooLarge, Memory}

-- the number of a fault (this project's choice)
abbrev pub fault_code : MapFault → ℕ
fault_code NoName = 1
fault_code BadHost = 2
fault_code TooLarge = 3
fault_code Memory = 4
