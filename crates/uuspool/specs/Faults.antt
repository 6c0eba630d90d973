-- What the program says about a fault: its number, its exit status and its line. All of it is this
-- project's choice.
use Rattle.std.specs.Prelude.{ℕ, ◌==◌, ◌++◌, ◌∷◌, [], Bool, true, false, List, codes, if◌then◌else◌}
use Rattle.std.specs.Fmt.{decimal}
use Rattle.std.specs.String.{string_bytes}
use Rattle.uu_names.specs.declared.fault.NameFault.{NameFault}
use Rattle.uu_names.specs.declared.fault.NameFault.TheVariants as name
use Rattle.uu_times.specs.declared.fault.TimeFault.{TimeFault}
use Rattle.uu_times.specs.declared.fault.TimeFault.TheVariants as time
use Rattle.uu_line.specs.declared.fault.LineFault.{LineFault}
use Rattle.uu_line.specs.declared.fault.LineFault.TheVariants as line
use Rattle.uu_settings.specs.Fault.{key_name}
use Rattle.uu_settings.specs.declared.fault.SettingsFault.{SettingsFault}
use Rattle.uu_settings.specs.declared.fault.SettingsFault.TheVariants as settings
use Rattle.uu_request.specs.declared.fault.RequestFault.{RequestFault}
use Rattle.uu_request.specs.declared.fault.RequestFault.TheVariants as request
use Rattle.uu_request.specs.declared.fault.WrongBundle.{WrongBundle}
use Rattle.uu_request.specs.declared.fault.WrongBundle.TheVariants as wrong
use Rattle.uuspool.specs.declared.fault.Fault.{Fault}
use Rattle.uuspool.specs.declared.fault.Fault.TheVariants as fault
use Rattle.uu_schema.specs.declared.fault.StoreFault.{StoreFault}
use Rattle.uu_schema.specs.declared.fault.StoreFault.TheVariants as store

-- the number of a fault
abbrev pub code_of : Fault → ℕ
code_of (fault.Words text help) = 1
code_of (fault.Settings why) = 2
code_of (fault.Name why) = 3
code_of (fault.Time why) = 4
code_of fault.TwoSystems = 5
code_of fault.Input = 6
code_of (fault.Store why) = 7
code_of fault.Read = 8
code_of fault.Write = 9
code_of fault.Memory = 10
code_of (fault.Bundle why) = 11

-- the status of a fault of the settings: 4 for out of memory, otherwise 2
abbrev pub settings_status : SettingsFault → ℕ
settings_status settings.Memory = 4
settings_status _ = 2

-- the status of a fault of a name: 4 for out of memory, otherwise 2
abbrev pub name_status : NameFault → ℕ
name_status name.Memory = 4
name_status _ = 2

-- the status of a fault of a moment or a sys file: 4 for out of memory, otherwise 2
abbrev pub time_status : TimeFault → ℕ
time_status time.Memory = 4
time_status _ = 2

-- the status of a fault of the spool: 4 for out of memory, otherwise 3
abbrev pub store_status : StoreFault → ℕ
store_status store.Memory = 4
store_status _ = 3

-- the exit status of a fault: 0 for help, 2 for words, settings, names, times, addresses, input and
-- bundles, 3 for the spool, 4 for out of memory anywhere, 5 for reading and writing
abbrev pub status_of : Fault → ℕ
status_of (fault.Words text true) = 0
status_of (fault.Words text false) = 2
status_of (fault.Settings why) = settings_status why
status_of (fault.Name why) = name_status why
status_of (fault.Time why) = time_status why
status_of fault.TwoSystems = 2
status_of fault.Input = 2
status_of (fault.Store why) = store_status why
status_of fault.Read = 5
status_of fault.Write = 5
status_of fault.Memory = 4
status_of (fault.Bundle why) = 2

-- the text of a fault of the settings
abbrev pub settings_text : SettingsFault → List ℕ
settings_text (settings.NotToml why) = codes "settings: not toml"
settings_text (settings.Missing key) = codes "settings: " ++ key_name key ++ codes " missing"
settings_text (settings.BadValue key) = codes "settings: " ++ key_name key ++ codes " bad"
settings_text settings.Memory = codes "out of memory"

-- the text of a fault of a name
abbrev pub name_text : NameFault → List ℕ
name_text name.BadGrade = codes "name: BadGrade"
name_text (name.BadName at) = codes "name: BadName"
name_text (name.BadPath at) = codes "name: BadPath"
name_text (name.BadWord at) = codes "name: BadWord"
name_text name.NoEnvelope = codes "name: NoEnvelope"
name_text name.TooLong = codes "name: TooLong"
name_text name.Memory = codes "out of memory"

-- the line of a text that has the fault, counted from 1, or 0 if the fault isn't about a line
abbrev pub fault_place : TimeFault → ℕ
fault_place time.MomentRange = 0
fault_place time.OffsetRange = 0
fault_place (time.BadTime line at) = line
fault_place (time.UnknownTable line) = line
fault_place (time.TableTwice line) = line
fault_place (time.BadNumber line) = line
fault_place (time.BadSystem line) = line
fault_place (time.TooManyLines line) = line
fault_place (time.SystemTwice line) = line
fault_place (time.BadWords line) = line
fault_place time.Memory = 0
fault_place time.BadZone = 0

abbrev pub time_name : TimeFault → List ℕ
time_name time.MomentRange = codes "MomentRange"
time_name time.OffsetRange = codes "OffsetRange"
time_name (time.BadTime line at) = codes "BadTime"
time_name (time.UnknownTable line) = codes "UnknownTable"
time_name (time.TableTwice line) = codes "TableTwice"
time_name (time.BadNumber line) = codes "BadNumber"
time_name (time.BadSystem line) = codes "BadSystem"
time_name (time.TooManyLines line) = codes "TooManyLines"
time_name (time.SystemTwice line) = codes "SystemTwice"
time_name (time.BadWords line) = codes "BadWords"
time_name time.Memory = codes "Memory"
time_name time.BadZone = codes "BadZone"

-- the name of a fault with the line of the text that has it, if there is one
abbrev pub placed : ℕ → List ℕ → List ℕ
placed line name =
    if line == 0 then codes "time: " ++ name else codes "line " ++ (decimal line ++ (codes ": " ++ name))

-- the text of a fault of a moment or a sys file
abbrev pub time_text : TimeFault → List ℕ
time_text time.Memory = codes "out of memory"
time_text why = placed (fault_place why) (time_name why)

-- the text of a fault of a bundle
abbrev pub bundle_fault_text : WrongBundle → List ℕ
bundle_fault_text wrong.NoBundle = codes "bundle: NoBundle"
bundle_fault_text wrong.OtherSender = codes "bundle: OtherSender"
bundle_fault_text wrong.OtherSite = codes "bundle: OtherSite"
bundle_fault_text wrong.OwnSite = codes "bundle: OwnSite"
bundle_fault_text wrong.Sealed = codes "bundle: Sealed"

-- the text of a fault of the spool
abbrev pub store_text : StoreFault → List ℕ
store_text store.Memory = codes "out of memory"
store_text (store.Store kind) = codes "spool: store"
store_text store.Failed = codes "spool: failed"
store_text store.Foreign = codes "spool: foreign"
store_text store.Newer = codes "spool: newer"

-- the text of a fault: that of a fault of words as it is
abbrev pub text_of_fault : Fault → List ℕ
text_of_fault (fault.Words text help) = string_bytes text
text_of_fault (fault.Settings why) = settings_text why
text_of_fault (fault.Name why) = name_text why
text_of_fault (fault.Time why) = time_text why
text_of_fault fault.TwoSystems = codes "addresses of two systems"
text_of_fault fault.Input = codes "too much input"
text_of_fault (fault.Store why) = store_text why
text_of_fault fault.Read = codes "cannot read"
text_of_fault fault.Write = codes "cannot write"
text_of_fault fault.Memory = codes "out of memory"
text_of_fault (fault.Bundle why) = bundle_fault_text why

-- a line of the program on standard error
abbrev pub named : List ℕ → List ℕ
named text = codes "uuspool: " ++ text ++ 10 ∷ []

-- the line of a fault: that of a fault of words is its text, which has its line ends
abbrev pub line_of_fault : Fault → List ℕ
line_of_fault (fault.Words text help) = string_bytes text
line_of_fault why = named (text_of_fault why)

-- the fault is that the user asked for help
abbrev pub is_help : Fault → Bool
is_help (fault.Words text help) = help
is_help _ = false

-- what the program prints for a fault on standard output: help
abbrev pub output_of_fault : Fault → List ℕ
output_of_fault why = if is_help why then line_of_fault why else []

-- what it prints on standard error: the line of any other fault
abbrev pub errors_of_fault : Fault → List ℕ
errors_of_fault why = if is_help why then [] else line_of_fault why

-- The fault of the program for a fault of the words.
abbrev pub fault_of_line : LineFault → Fault
fault_of_line (line.Words text help) = fault.Words text help
fault_of_line (line.Name why) = fault.Name why
fault_of_line line.TwoSystems = fault.TwoSystems
fault_of_line line.Memory = fault.Memory

-- The fault of the program for a fault of the request.
abbrev pub fault_of_request : RequestFault → Fault
fault_of_request request.Input = fault.Input
fault_of_request (request.Time why) = fault.Time why
fault_of_request (request.Bundle why) = fault.Bundle why
fault_of_request request.Memory = fault.Memory
