-- The fault of a line for a fault of a name; this project's choice.
use Rattle.uu_names.specs.declared.fault.NameFault.{NameFault}
use Rattle.uu_names.specs.declared.fault.NameFault.TheVariants as name
use Rattle.uu_line.specs.declared.fault.LineFault.{LineFault}
use Rattle.uu_line.specs.declared.fault.LineFault.TheVariants as fault

-- out of memory is a fault of its own
abbrev pub fault_of_name : NameFault → LineFault
fault_of_name name.Memory = fault.Memory
fault_of_name why = fault.Name why
