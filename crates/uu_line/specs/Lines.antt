-- What the words of a line mean. The forms of words are those of `clap`, which refuses a line
-- without a subcommand and its required entries. The lines themselves are this project's choice.
use Rattle.std.specs.Prelude.{◌≡◌, ◌≢◌, ◌↔◌, ◌⊎◌, Bool, true, false, ℕ, ◌^◌, ◌<◌, ◌&&◌, nat_le, length, List, [], ◌∷◌, Option, Some, None, Result, Ok, Err, All, ⊤, codes, if◌then◌else◌, map, take, option_map, slice_get, ok_or, string_bytes, unwrap_or}
use Rattle.std.specs.List.{list_all, list_any}
use Rattle.std.specs.Option.{option_map_or}
use Rattle.std.specs.Str.Parse.{IsNumeral, digits_value, without_leading_plus}
use Rattle.std.specs.Cmp.Lexicographic.{pointwise}
use Rattle.std.specs.Prelude.{nat_eq}
use Rattle.clap.specs.ValueTests.{is_numeral}
use Rattle.clap.specs.Words.{IsAmong, Row, Text, all_of, first_of, matches_of, subcommand_of, fault_of}
use Rattle.clap.specs.Words.{found_of, rows_of, subcommand_rows_of}
use Rattle.clap.specs.declared.error.kind.ErrorKind.{ErrorKind}
use Rattle.clap.specs.declared.error.kind.ErrorKind.TheVariants.{DisplayHelp, DisplayVersion}
use Rattle.clap.specs.declared.parser.matches.ArgMatches.{ArgMatches}
use Rattle.uu_names.specs.Grade.{rank_of}
use Rattle.uu_names.specs.Name.{site_name_of, word_of as as_word}
use Rattle.uu_names.specs.Path.{IsPathText, IsPathFault, is_bang, first_hop, rest_of}
use Rattle.uu_names.specs.declared.fault.NameFault.{NameFault}
use Rattle.uu_names.specs.declared.fault.NameFault.TheVariants.{BadGrade, BadPath}
use Rattle.uu_names.specs.declared.fault.NameFault.TheVariants.{Memory as NoMemory}
use Rattle.uu_line.specs.Commands.{program}
use Rattle.uu_line.specs.declared.fault.LineFault.{LineFault}
use Rattle.uu_line.specs.declared.fault.LineFault.TheVariants.{Words, Name, TwoSystems, Memory}
use Rattle.uu_line.specs.declared.line.CommandLine.{CommandLine}
use Rattle.uu_line.specs.declared.origin.Origin.{Origin}
use Rattle.uu_line.specs.declared.task.Task.{Task}
use Rattle.uu_line.specs.declared.task.Task.TheVariants as task

-- ---- entries

-- the entry has a text with P
abbrev pub WithText : Text → List Row → (Text → Type 0) → Type 0
WithText id rows P = (text : Text) × (Some text ≡ first_of id rows) × P text

-- the entry has texts, at least one, with P
abbrev pub WithTexts : Text → List Row → (Text → List Text → Type 0) → Type 0
WithTexts id rows P = (first : Text) × (others : List Text) × (Some (first ∷ others) ≡ all_of id rows) × P first others

-- the texts of an entry that may be given any number of times
abbrev pub texts_at : Text → List Row → List Text
texts_at id rows = unwrap_or (all_of id rows) []

-- the text is this number of so many bits, in decimal digits, perhaps after a plus
abbrev pub IsNumber : ℕ → Text → ℕ → Type 0
IsNumber bits text number =
    (IsNumeral 10 (without_leading_plus text) × (digits_value 10 (without_leading_plus text) < 2 ^ bits))
    × (number ≡ digits_value 10 (without_leading_plus text))

-- the texts are these numbers, one each
abbrev pub AreNumbers : ℕ → List Text → List ℕ → Type 0
AreNumbers bits [] [] = ⊤
AreNumbers bits (text ∷ texts) (number ∷ numbers) = IsNumber bits text number × AreNumbers bits texts numbers
AreNumbers bits [] (number ∷ numbers) = ⊥
AreNumbers bits (text ∷ texts) [] = ⊥

-- the number of an entry that may be left out
abbrev pub IsNumberOf : ℕ → Option Text → Option ℕ → Type 0
IsNumberOf bits None None = ⊤
IsNumberOf bits (Some text) (Some number) = IsNumber bits text number
IsNumberOf bits None (Some number) = ⊥
IsNumberOf bits (Some text) None = ⊥

-- ---- names: each a value or the fault that is reported for it

-- the value, or the fault of a name as the line's fault
abbrev pub named : {V : Type 0} → Result V NameFault → Result V LineFault
named (Ok value) = Ok value
named (Err fault) = Err (Name fault)

-- the result of the first reading, and then of the next; the first fault is reported
abbrev pub and_then : {V W : Type 0} → Result V LineFault → (V → Result W LineFault) → Result W LineFault
and_then (Ok value) next = next value
and_then (Err fault) next = Err fault

-- a text as a site name, and as a word
abbrev pub site_of : Text → Result (List ℕ) LineFault
site_of text = named (site_name_of text)

abbrev pub word_of : Text → Result (List ℕ) LineFault
word_of text = named (as_word text)

-- texts, each read as a value; the first fault is reported
abbrev pub each_of : (Text → Result (List ℕ) LineFault) → List Text → Result (List (List ℕ)) LineFault
each_of read [] = Ok []
each_of read (text ∷ texts) = and_then (read text) (λ value. and_then (each_of read texts) (λ values. Ok (value ∷ values)))

-- texts, each as a word, and as a site name; the first fault is reported
abbrev pub words_of : List Text → Result (List (List ℕ)) LineFault
words_of texts = each_of word_of texts

abbrev pub sites_of : List Text → Result (List (List ℕ)) LineFault
sites_of texts = each_of site_of texts

-- the rank of a grade, which is one byte
abbrev pub grade_of : Text → Result ℕ LineFault
grade_of (byte ∷ []) = named (ok_or (rank_of byte) BadGrade)
grade_of _ = Err (Name BadGrade)

-- an option that may be left out: its value, if it is given
abbrev pub optional : {V : Type 0} → (Text → Result V LineFault) → Option Text → Result (Option V) LineFault
optional read None = Ok None
optional read (Some text) = and_then (read text) (λ value. Ok (Some value))

-- ---- whose job it is

-- the number that a neighbour has for a job: decimal digits without a sign, 1 to 4,294,967,294
abbrev pub handed_number : Text → Option ℕ
handed_number text =
    let number = digits_value 10 text in
    if is_numeral text && nat_le 1 number && nat_le number 4_294_967_294 then Some number else None

-- the text after its first `!`, if it has one
abbrev pub after_bang : Text → Option Text
after_bang text = if list_any is_bang text then Some (rest_of text) else None

-- `SYSTEM!NUMBER[!WORD]`: the text is cut at its first two `!`, so WORD may be any word, and the
-- parts are read in their order. If the second isn't such a number, or is missing, the fault is
-- that of a path without a job, at the end of the first part. The offset in a part's fault counts
-- that part's bytes.
abbrev pub origin_of : Text → Result Origin LineFault
origin_of text =
    let rest = rest_of text in
    and_then (site_of (first_hop text)) (λ from.
    and_then (named (ok_or (handed_number (first_hop rest)) (BadPath (length (first_hop text))))) (λ number.
    and_then (optional word_of (after_bang rest)) (λ spool.
    Ok (record { from = from; number = number; spool = spool }))))

-- `-g GRADE` and `--once SYSTEM!NUMBER[!WORD]`, in this order
abbrev pub terms_of : Text → Option Text → Result (ℕ × Option Origin) LineFault
terms_of grade once = and_then (grade_of grade) (λ grade. and_then (optional origin_of once) (λ once. Ok (grade, once)))

-- ---- tasks, by the texts of their entries

-- `drop SYSTEM`
abbrev pub drop_task : Text → Result Task LineFault
drop_task system = and_then (site_of system) (λ system. Ok (task.Drop system))

-- `NAME SYSTEM FROM TO [-g GRADE] [--once SYSTEM!NUMBER[!WORD]]`
abbrev pub file_task : (List ℕ → List ℕ → List ℕ → ℕ → Option Origin → Task) → Text → Text → Text → Text → Option Text → Result Task LineFault
file_task made system source target grade once =
    and_then (site_of system) (λ system.
    and_then (word_of source) (λ source.
    and_then (word_of target) (λ target.
    and_then (terms_of grade once) (λ terms. Ok (made system source target terms.0 terms.1)))))

-- `exec [-g GRADE] [--once SYSTEM!NUMBER[!WORD]] SYSTEM COMMAND [ARG..]`
abbrev pub exec_task : Text → Option Text → Text → Text → List Text → Result Task LineFault
exec_task grade once system command arguments =
    and_then (terms_of grade once) (λ terms.
    and_then (site_of system) (λ system.
    and_then (word_of command) (λ command.
    and_then (words_of arguments) (λ arguments. Ok (task.Execute terms.0 terms.1 system command arguments)))))

abbrev pub same_text : Text → Text → Bool
same_text = pointwise nat_eq

-- Addresses that are bang paths: each has to begin with the same system as the first. That system
-- gets the rests.
abbrev pub mail_by : ℕ × Option Origin → Text → List Text → Result Task LineFault
mail_by terms first addresses =
    if list_all (λ address. same_text (first_hop address) (first_hop first)) addresses
    then Ok (task.Mail terms.0 terms.1 (first_hop first) (map rest_of addresses))
    else Err TwoSystems

-- the first of the addresses that isn't a bang path, and why
pub record IsBadAddress (addresses : List Text) (fault : NameFault) : Type 0 where
  pub place : ℕ
  pub address : Text
  pub at : slice_get addresses place ≡ Some address
  pub first : All IsPathText (take place addresses)
  pub none : ¬ IsPathText address
  pub why : IsPathFault address fault
  pub told : fault ≢ NoMemory

-- the fault that is reported for the addresses, or out of memory
abbrev pub IsAddressFault : List Text → LineFault → Type 0
IsAddressFault addresses (Name fault) = IsBadAddress addresses fault
IsAddressFault addresses Memory = ⊤
IsAddressFault addresses _ = ⊥

-- addresses: the task if all are bang paths, and otherwise the fault of the first that isn't
abbrev pub MeansMail : ℕ × Option Origin → Text → List Text → Result Task LineFault → Type 0
MeansMail terms first addresses meant =
    (All IsPathText addresses × (meant ≡ mail_by terms first addresses))
    ⊎ ((fault : NameFault) × IsBadAddress addresses fault × (meant ≡ Err (Name fault)))

-- `mail [-g GRADE] [--once SYSTEM!NUMBER[!WORD]] ADDRESS..`
abbrev pub MeansMailOn : Result (ℕ × Option Origin) LineFault → Text → List Text → Result Task LineFault → Type 0
MeansMailOn (Err fault) first addresses meant = meant ≡ Err fault
MeansMailOn (Ok terms) first addresses meant = MeansMail terms first addresses meant

-- `list [-s SYSTEM] [-u USER]`
abbrev pub list_task : Option Text → Option Text → Result Task LineFault
list_task system user =
    and_then (optional site_of system) (λ system.
    and_then (optional word_of user) (λ user. Ok (task.List (record { system = system; user = user }))))

-- `due [-s SYSTEM]`
abbrev pub due_task : Option Text → Result Task LineFault
due_task system = and_then (optional site_of system) (λ system. Ok (task.Due system))

-- `when [-a] [-s SYSTEM]`
abbrev pub asked_when : Bool → Option Text → Task
asked_when true system = task.Polls system
asked_when false system = task.When (record { system = system; user = None })

abbrev pub when_task : Bool → Option Text → Result Task LineFault
when_task all system = and_then (optional site_of system) (λ system. Ok (asked_when all system))

-- `queues [-s SYSTEM]`
abbrev pub queues_task : Option Text → Result Task LineFault
queues_task system = and_then (optional site_of system) (λ system. Ok (task.Queues (record { system = system; user = None })))

-- `systems [-s SYSTEM]`
abbrev pub systems_task : Option Text → Result Task LineFault
systems_task system = and_then (optional site_of system) (λ system. Ok (task.Systems system))

-- `regrade JOB GRADE`
abbrev pub regrade_task : ℕ → Text → Result Task LineFault
regrade_task job grade = and_then (grade_of grade) (λ grade. Ok (task.Regrade job grade))

-- `failed SYSTEM WHY`
abbrev pub failed_task : Text → Text → Result Task LineFault
failed_task system why = and_then (site_of system) (λ system. and_then (word_of why) (λ why. Ok (task.Failed system why)))

-- `done SYSTEM [JOB..]`
abbrev pub done_task : Text → List ℕ → Result Task LineFault
done_task system jobs = and_then (site_of system) (λ system. Ok (task.Done system jobs))

-- `forget SYSTEM NUMBER`
abbrev pub forget_task : Text → ℕ → Result Task LineFault
forget_task system below = and_then (site_of system) (λ system. Ok (task.Forget system below))

-- `pack SYSTEM [-g GRADE] [--spool WORD] [--after JOB] [--most BYTES] [--no-jobs]`
abbrev pub pack_task : Text → Text → Option Text → Option ℕ → Option ℕ → Bool → Result Task LineFault
pack_task system grade spool after most no_jobs =
    and_then (site_of system) (λ system.
    and_then (grade_of grade) (λ grade.
    and_then (optional word_of spool) (λ spool. Ok (task.Pack system grade spool after most no_jobs))))

-- `unpack SENDER [SYSTEM..]`
abbrev pub unpack_task : Text → List Text → Result Task LineFault
unpack_task sender onward =
    and_then (site_of sender) (λ sender. and_then (sites_of onward) (λ onward. Ok (task.Unpack sender onward)))

-- `settle SYSTEM [--spool WORD]`
abbrev pub settle_task : Text → Option Text → Result Task LineFault
settle_task system spool =
    and_then (site_of system) (λ system. and_then (optional word_of spool) (λ spool. Ok (task.Settle system spool)))

-- `answer SENDER [SYSTEM..] [-g GRADE] [--spool WORD] [--after JOB] [--most BYTES] [--no-jobs]`
abbrev pub answer_task : Text → List Text → Text → Option Text → Option ℕ → Option ℕ → Bool → Result Task LineFault
answer_task sender onward grade spool after most no_jobs =
    and_then (site_of sender) (λ sender.
    and_then (sites_of onward) (λ onward.
    and_then (grade_of grade) (λ grade.
    and_then (optional word_of spool) (λ spool. Ok (task.Answer sender onward grade spool after most no_jobs)))))

-- `neighbours HOST`
abbrev pub neighbours_task : Text → Result Task LineFault
neighbours_task host = and_then (site_of host) (λ host. Ok (task.Neighbours host))

-- `route [--cost] HOST`
abbrev pub route_task : Text → Bool → Result Task LineFault
route_task host costs = and_then (site_of host) (λ host. Ok (task.Routes (Some host) costs))

-- `routes [--cost]`
abbrev pub routes_task : Bool → Task
routes_task costs = task.Routes None costs

-- ---- the task of a subcommand with these entries, or the fault that is reported

abbrev pub MeansDrop : List Row → Result Task LineFault → Type 0
MeansDrop rows meant = WithText (codes "system") rows (λ system. meant ≡ drop_task system)

abbrev pub MeansFile : (List ℕ → List ℕ → List ℕ → ℕ → Option Origin → Task) → List Row → Result Task LineFault → Type 0
MeansFile made rows meant =
    WithText (codes "system") rows (λ system.
    WithText (codes "from") rows (λ source.
    WithText (codes "to") rows (λ target.
    WithText (codes "grade") rows (λ grade. meant ≡ file_task made system source target grade (first_of (codes "once") rows)))))

abbrev pub MeansExec : List Row → Result Task LineFault → Type 0
MeansExec rows meant =
    WithText (codes "grade") rows (λ grade.
    WithText (codes "system") rows (λ system.
    WithText (codes "command") rows (λ command.
    meant ≡ exec_task grade (first_of (codes "once") rows) system command (texts_at (codes "argument") rows))))

abbrev pub MeansMailing : List Row → Result Task LineFault → Type 0
MeansMailing rows meant =
    WithText (codes "grade") rows (λ grade.
    WithTexts (codes "address") rows (λ first others.
    MeansMailOn (terms_of grade (first_of (codes "once") rows)) first (first ∷ others) meant))

abbrev pub MeansJob : (ℕ → Result Task LineFault) → List Row → Result Task LineFault → Type 0
MeansJob made rows meant =
    WithText (codes "job") rows (λ text. (job : ℕ) × IsNumber 32 text job × (meant ≡ made job))

abbrev pub MeansRegrade : List Row → Result Task LineFault → Type 0
MeansRegrade rows meant = WithText (codes "grade") rows (λ grade. MeansJob (λ job. regrade_task job grade) rows meant)

abbrev pub MeansFailed : List Row → Result Task LineFault → Type 0
MeansFailed rows meant =
    WithText (codes "system") rows (λ system. WithText (codes "why") rows (λ why. meant ≡ failed_task system why))

abbrev pub MeansDone : List Row → Result Task LineFault → Type 0
MeansDone rows meant =
    WithText (codes "system") rows (λ system.
    (jobs : List ℕ) × AreNumbers 32 (texts_at (codes "job") rows) jobs × (meant ≡ done_task system jobs))

abbrev pub MeansForget : List Row → Result Task LineFault → Type 0
MeansForget rows meant = WithText (codes "system") rows (λ system. MeansJob (forget_task system) rows meant)

-- a flag was given
abbrev pub has_flag : Text → List Row → Bool
has_flag id rows = option_map_or (same_text (codes "true")) (first_of id rows) false

abbrev pub MeansPack : List Row → Result Task LineFault → Type 0
MeansPack rows meant =
    WithText (codes "system") rows (λ system.
    WithText (codes "grade") rows (λ grade.
    (after : Option ℕ) × IsNumberOf 32 (first_of (codes "job") rows) after
    × (most : Option ℕ) × IsNumberOf 32 (first_of (codes "most") rows) most
    × (meant ≡ pack_task system grade (first_of (codes "spool") rows) after most (has_flag (codes "no-jobs") rows))))

abbrev pub MeansUnpack : List Row → Result Task LineFault → Type 0
MeansUnpack rows meant = WithText (codes "sender") rows (λ sender. meant ≡ unpack_task sender (texts_at (codes "system") rows))

abbrev pub MeansSettle : List Row → Result Task LineFault → Type 0
MeansSettle rows meant = WithText (codes "system") rows (λ system. meant ≡ settle_task system (first_of (codes "spool") rows))

abbrev pub MeansAnswer : List Row → Result Task LineFault → Type 0
MeansAnswer rows meant =
    WithText (codes "sender") rows (λ sender.
    WithText (codes "grade") rows (λ grade.
    (after : Option ℕ) × IsNumberOf 32 (first_of (codes "job") rows) after
    × (most : Option ℕ) × IsNumberOf 32 (first_of (codes "most") rows) most
    × (meant ≡ answer_task sender (texts_at (codes "system") rows) grade (first_of (codes "spool") rows) after most (has_flag (codes "no-jobs") rows))))

abbrev pub MeansNeighbours : List Row → Result Task LineFault → Type 0
MeansNeighbours rows meant = WithText (codes "host") rows (λ host. meant ≡ neighbours_task host)

abbrev pub MeansRoute : List Row → Result Task LineFault → Type 0
MeansRoute rows meant = WithText (codes "host") rows (λ host. meant ≡ route_task host (has_flag (codes "cost") rows))

-- no other name has a meaning
abbrev pub MeansTask : Text → List Row → Result Task LineFault → Type 0
MeansTask name rows meant =
    ((name ≡ codes "load") × (meant ≡ Ok task.Load))
    ⊎ ((name ≡ codes "drop") × MeansDrop rows meant)
    ⊎ ((name ≡ codes "send") × MeansFile task.Send rows meant)
    ⊎ ((name ≡ codes "request") × MeansFile task.Request rows meant)
    ⊎ ((name ≡ codes "exec") × MeansExec rows meant)
    ⊎ ((name ≡ codes "mail") × MeansMailing rows meant)
    ⊎ ((name ≡ codes "list") × (meant ≡ list_task (first_of (codes "system") rows) (first_of (codes "user") rows)))
    ⊎ ((name ≡ codes "show") × MeansJob (λ job. Ok (task.Show job)) rows meant)
    ⊎ ((name ≡ codes "kill") × MeansJob (λ job. Ok (task.Kill job)) rows meant)
    ⊎ ((name ≡ codes "regrade") × MeansRegrade rows meant)
    ⊎ ((name ≡ codes "rejuvenate") × MeansJob (λ job. Ok (task.Rejuvenate job)) rows meant)
    ⊎ ((name ≡ codes "due") × (meant ≡ due_task (first_of (codes "system") rows)))
    ⊎ ((name ≡ codes "when") × (meant ≡ when_task (has_flag (codes "all") rows) (first_of (codes "system") rows)))
    ⊎ ((name ≡ codes "queues") × (meant ≡ queues_task (first_of (codes "system") rows)))
    ⊎ ((name ≡ codes "status") × (meant ≡ Ok task.Status))
    ⊎ ((name ≡ codes "systems") × (meant ≡ systems_task (first_of (codes "system") rows)))
    ⊎ ((name ≡ codes "failed") × MeansFailed rows meant)
    ⊎ ((name ≡ codes "done") × MeansDone rows meant)
    ⊎ ((name ≡ codes "forget") × MeansForget rows meant)
    ⊎ ((name ≡ codes "pack") × MeansPack rows meant)
    ⊎ ((name ≡ codes "unpack") × MeansUnpack rows meant)
    ⊎ ((name ≡ codes "settle") × MeansSettle rows meant)
    ⊎ ((name ≡ codes "answer") × MeansAnswer rows meant)
    ⊎ ((name ≡ codes "map") × (meant ≡ Ok task.Map))
    ⊎ ((name ≡ codes "neighbours") × MeansNeighbours rows meant)
    ⊎ ((name ≡ codes "name") × (meant ≡ Ok task.Name))
    ⊎ ((name ≡ codes "route") × MeansRoute rows meant)
    ⊎ ((name ≡ codes "routes") × (meant ≡ Ok (routes_task (has_flag (codes "cost") rows))))

-- a task takes an input
abbrev pub takes_input : Task → Bool
takes_input task.Load = true
takes_input (task.Drop system) = false
takes_input (task.Send system source target grade once) = true
takes_input (task.Request system source target grade once) = false
takes_input (task.Execute grade once system command arguments) = true
takes_input (task.Mail grade once system rests) = true
takes_input (task.List filter) = false
takes_input (task.Show job) = false
takes_input (task.Kill job) = false
takes_input (task.Regrade job grade) = false
takes_input (task.Rejuvenate job) = false
takes_input (task.Due system) = false
takes_input (task.When filter) = false
takes_input (task.Polls system) = false
takes_input (task.Queues filter) = false
takes_input task.Status = false
takes_input (task.Systems system) = false
takes_input (task.Failed system why) = false
takes_input (task.Done system jobs) = false
takes_input (task.Forget system below) = false
takes_input (task.Pack system grade spool after most no_jobs) = false
takes_input (task.Unpack sender onward) = true
takes_input (task.Settle system spool) = true
takes_input (task.Answer sender onward grade spool after most no_jobs) = true
takes_input task.Map = true
takes_input (task.Neighbours host) = false
takes_input task.Name = false
takes_input (task.Routes host costs) = false

-- ---- lines

-- a line, as these definitions see it
pub record LineView : Type 0 where
  pub config : Option Text
  pub at : Option ℕ
  pub user : List ℕ
  pub task : Task

abbrev pub line_view : CommandLine → LineView
line_view line = record { config = option_map string_bytes line.config; at = line.at; user = line.user; task = line.task }

abbrev pub line_or_fault : Result CommandLine LineFault → Result LineView LineFault
line_or_fault (Ok line) = Ok (line_view line)
line_or_fault (Err fault) = Err fault

abbrev pub line_with : Option Text → Option ℕ → List ℕ → Result Task LineFault → Result LineView LineFault
line_with config at user task = and_then task (λ task. Ok (record { config = config; at = at; user = user; task = task }))

-- the task of the subcommand that was entered
abbrev pub MeansEntered : Option (Text × List Row) → Result Task LineFault → Type 0
MeansEntered None meant = ⊥
MeansEntered (Some subcommand) meant = MeansTask subcommand.0 subcommand.1 meant

-- the line of a user with a subcommand; the user is checked first
abbrev pub MeansLineOf : Option Text → Option ℕ → Result (List ℕ) LineFault → Option (Text × List Row) → Result LineView LineFault → Type 0
MeansLineOf config at (Err fault) entered meant = meant ≡ Err fault
MeansLineOf config at (Ok user) entered meant =
    (task : Result Task LineFault) × MeansEntered entered task × (meant ≡ line_with config at user task)

-- what entries mean, with the subcommand that was entered
abbrev pub MeansEntries : List Row → Option (Text × List Row) → Result LineView LineFault → Type 0
MeansEntries rows entered meant =
    WithText (codes "as") rows (λ user.
    (at : Option ℕ) × IsNumberOf 64 (first_of (codes "at") rows) at
    × MeansLineOf (first_of (codes "config") rows) at (word_of user) entered meant)

-- What words mean that `clap` accepts, without the program's name: a line, or the first fault of
-- its names.
abbrev pub Means : List Text → Result LineView LineFault → Type 0
Means words meant = MeansEntries (matches_of program words) (subcommand_of program words) meant

-- `clap` accepts the words, and finds these entries in them
abbrev pub HasEntriesOf : List Text → ArgMatches → Type 0
HasEntriesOf words found =
    (fault_of program words ≡ []) × (rows_of (found_of found) ≡ matches_of program words)
    × (subcommand_rows_of found ≡ subcommand_of program words)

-- a fault of this kind asks for help exactly if it is of the kind of help or of a version
abbrev pub IsToldAsHelp : ErrorKind → Bool → Type 0
IsToldAsHelp kind help = (help ≡ false) ↔ ((kind ≢ DisplayHelp) × (kind ≢ DisplayVersion))

-- the words aren't a line, or ask for help: `clap` refuses them with one of the possible kinds,
-- which says whether they ask for help
abbrev pub AreRefused : List Text → Bool → Type 0
AreRefused words help = (kind : ErrorKind) × IsAmong kind (fault_of program words) × IsToldAsHelp kind help

-- the words mean this line
abbrev pub MeansLine : List Text → CommandLine → Type 0
MeansLine words line = (fault_of program words ≡ []) × Means words (Ok (line_view line))

-- `clap` accepts the words, and this is the first fault of their names and addresses
abbrev pub MeansFault : List Text → LineFault → Type 0
MeansFault words fault = (fault_of program words ≡ []) × Means words (Err fault)

-- The answer to words is what they mean. A fault of words comes exactly if `clap` refuses them or
-- they ask for help, and says which. Out of memory may come instead of any answer. No other fault
-- comes.
abbrev pub IsAnswerTo : List Text → Result CommandLine LineFault → Type 0
IsAnswerTo words (Ok line) = MeansLine words line
IsAnswerTo words (Err (Words text help)) = AreRefused words help
IsAnswerTo words (Err (Name why)) = MeansFault words (Name why)
IsAnswerTo words (Err TwoSystems) = MeansFault words TwoSystems
IsAnswerTo words (Err Memory) = ⊤

-- the answer is a value or a fault of names and has the property, or it is out of memory
abbrev pub UnlessMemory : {V : Type 0} → (Result V LineFault → Type 0) → Result V LineFault → Type 0
UnlessMemory P (Ok value) = P (Ok value)
UnlessMemory P (Err (Name why)) = P (Err (Name why))
UnlessMemory P (Err TwoSystems) = P (Err TwoSystems)
UnlessMemory P (Err (Words text help)) = ⊥
UnlessMemory P (Err Memory) = ⊤

-- the answer is the expected one, or out of memory
abbrev pub AnswersUnlessMemory : {V : Type 0} → Result V LineFault → Result V LineFault → Type 0
AnswersUnlessMemory answer expected = UnlessMemory (λ a. a ≡ expected) answer

-- out of memory, or a fault of words with a kind with P, which says whether they ask for help
abbrev pub IsWordsOf : (ErrorKind → Type 0) → LineFault → Type 0
IsWordsOf P (Words text help) = (kind : ErrorKind) × P kind × IsToldAsHelp kind help
IsWordsOf P Memory = ⊤
IsWordsOf P _ = ⊥
