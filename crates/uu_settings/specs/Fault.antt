-- Why a text isn't the settings of a site. The numbers and names are this project's choice.
use Rattle.std.specs.Prelude.{ℕ, List, codes}
use Rattle.uu_names.specs.declared.fault.NameFault.{NameFault}
use Rattle.uu_names.specs.declared.fault.NameFault.TheVariants as name
use Rattle.uu_settings.specs.declared.fault.Key.{Key}
use Rattle.uu_settings.specs.declared.fault.Key.TheVariants as key
use Rattle.uu_settings.specs.declared.fault.SettingsFault.{SettingsFault}
use Rattle.uu_settings.specs.declared.fault.SettingsFault.TheVariants.{NotToml, Missing, BadValue, Memory}

-- the number of a fault
abbrev pub fault_code : SettingsFault → ℕ
fault_code (NotToml why) = 1
fault_code (Missing key) = 2
fault_code (BadValue key) = 3
fault_code Memory = 4

-- a key as it is written in the document
abbrev pub key_name : Key → List ℕ
key_name key.Name = codes "name"
key_name key.Offset = codes "offset"
key_name key.Zone = codes "zone"
key_name key.Spool = codes "spool"
key_name key.Admins = codes "admins"
key_name key.Seals = codes "seals"
key_name key.Limit = codes "limit"

-- the fault of a key whose value isn't a name; out of memory stays out of memory
abbrev pub value_fault : Key → NameFault → SettingsFault
value_fault key name.Memory = Memory
value_fault key _ = BadValue key
