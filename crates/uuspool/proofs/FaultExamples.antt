-- What the program tells of faults, as worked examples of the definitions: the line, the status and
-- the number of each. Many of them come of no line of the program alone.
use Rattle.std.proofs.Common.{◌≡◌, ℕ, Bool, List, ◌∷◌, [], ◌++◌, String, codes, refl}
use Rattle.std.specs.declared.alloc.Global.{Global}
use Rattle.uu_names.specs.declared.fault.NameFault.TheVariants as name
use Rattle.uu_times.specs.declared.fault.TimeFault.TheVariants as time
use Rattle.uu_schema.specs.declared.fault.StoreFault.TheVariants as store
use Rattle.uu_schema.specs.declared.fault.StoreKind.TheVariants as kind
use Rattle.uu_request.specs.declared.fault.WrongBundle.TheVariants as wrong
use Rattle.uu_settings.specs.declared.fault.Key.TheVariants as key
use Rattle.uu_settings.specs.declared.fault.SettingsFault.TheVariants as settings
use Rattle.uu_settings.specs.declared.fault.TomlFault.{TomlFault}
use Rattle.uuspool.specs.declared.fault.Fault.{Fault}
use Rattle.uuspool.specs.declared.fault.Fault.TheVariants as fault
use Rattle.uuspool.specs.Faults.{code_of, line_of_fault, status_of}

-- the fault has this line, this status, and this number
abbrev pub IsTold : Fault → List ℕ → ℕ → ℕ → Type 0
IsTold why line status number = (line_of_fault why ≡ line ++ 10 ∷ []) × (status_of why ≡ status) × (code_of why ≡ number)

-- ---- words: of any text, with help or without

pub words : (text : String Global) (help : Bool) → code_of (fault.Words text help) ≡ 1
words text help = refl

-- ---- settings

pub not_toml : (why : TomlFault) → IsTold (fault.Settings (settings.NotToml why)) (codes "uuspool: settings: not toml") 2 2
not_toml why = (refl, refl, refl)

pub name_missing : IsTold (fault.Settings (settings.Missing key.Name)) (codes "uuspool: settings: name missing") 2 2
name_missing = (refl, refl, refl)

pub admins_bad : IsTold (fault.Settings (settings.BadValue key.Admins)) (codes "uuspool: settings: admins bad") 2 2
admins_bad = (refl, refl, refl)

pub no_memory_for_settings : IsTold (fault.Settings settings.Memory) (codes "uuspool: out of memory") 4 2
no_memory_for_settings = (refl, refl, refl)

-- ---- names

pub bad_grade : IsTold (fault.Name name.BadGrade) (codes "uuspool: name: BadGrade") 2 3
bad_grade = (refl, refl, refl)

pub no_envelope : IsTold (fault.Name name.NoEnvelope) (codes "uuspool: name: NoEnvelope") 2 3
no_envelope = (refl, refl, refl)

pub no_memory_for_a_name : IsTold (fault.Name name.Memory) (codes "uuspool: out of memory") 4 3
no_memory_for_a_name = (refl, refl, refl)

-- ---- times

pub offset_range : IsTold (fault.Time time.OffsetRange) (codes "uuspool: time: OffsetRange") 2 4
offset_range = (refl, refl, refl)

pub bad_zone : IsTold (fault.Time time.BadZone) (codes "uuspool: time: BadZone") 2 4
bad_zone = (refl, refl, refl)

pub bad_time_in_no_line : IsTold (fault.Time (time.BadTime 0 3)) (codes "uuspool: time: BadTime") 2 4
bad_time_in_no_line = (refl, refl, refl)

pub no_memory_for_times : IsTold (fault.Time time.Memory) (codes "uuspool: out of memory") 4 4
no_memory_for_times = (refl, refl, refl)

-- ---- the spool

pub no_memory_for_the_spool : IsTold (fault.Store store.Memory) (codes "uuspool: out of memory") 4 7
no_memory_for_the_spool = (refl, refl, refl)

pub disk : IsTold (fault.Store (store.Store kind.Disk)) (codes "uuspool: spool: store") 3 7
disk = (refl, refl, refl)

pub failed : IsTold (fault.Store store.Failed) (codes "uuspool: spool: failed") 3 7
failed = (refl, refl, refl)

pub foreign : IsTold (fault.Store store.Foreign) (codes "uuspool: spool: foreign") 3 7
foreign = (refl, refl, refl)

pub newer : IsTold (fault.Store store.Newer) (codes "uuspool: spool: newer") 3 7
newer = (refl, refl, refl)

-- ---- others

pub two_systems : IsTold fault.TwoSystems (codes "uuspool: addresses of two systems") 2 5
two_systems = (refl, refl, refl)

pub input : IsTold fault.Input (codes "uuspool: too much input") 2 6
input = (refl, refl, refl)

pub read : IsTold fault.Read (codes "uuspool: cannot read") 5 8
read = (refl, refl, refl)

pub write : IsTold fault.Write (codes "uuspool: cannot write") 5 9
write = (refl, refl, refl)

pub memory : IsTold fault.Memory (codes "uuspool: out of memory") 4 10
memory = (refl, refl, refl)

pub other_sender : IsTold (fault.Bundle wrong.OtherSender) (codes "uuspool: bundle: OtherSender") 2 11
other_sender = (refl, refl, refl)
