-- The entries of a line that `clap` accepts: a subcommand of the program, a text under each entry
-- that is required or has a default, and numbers under the entries that are numbers.
use Rattle.std.specs.Prelude.{ℕ, List, [], ◌∷◌, Option, Some, None, IsSome, IsTrue, ⊤, codes, find}
use Rattle.std.specs.List.{list_all}
use Rattle.std.specs.Option.{option_map_or}
use Rattle.std.specs.Str.{bytes_eq}
use Rattle.clap.specs.ValueTests.{is_unsigned_in}
use Rattle.clap.specs.Words.{Row, Text, first_of}
use Rattle.uu_line.specs.Lines.{texts_at}

-- the most that JOB, BYTES and SECONDS may be
abbrev pub most_job : ℕ
most_job = 4_294_967_295

abbrev pub most_size : ℕ
most_size = 4_294_967_295

abbrev pub most_second : ℕ
most_second = 9_999_999_999

-- the subcommands, each with its entries that have a text in every line
abbrev pub subcommands : List (Text × List Text)
subcommands =
    (codes "load", [])
    ∷ (codes "drop", codes "system" ∷ [])
    ∷ (codes "send", codes "system" ∷ codes "from" ∷ codes "to" ∷ codes "grade" ∷ [])
    ∷ (codes "request", codes "system" ∷ codes "from" ∷ codes "to" ∷ codes "grade" ∷ [])
    ∷ (codes "exec", codes "grade" ∷ codes "system" ∷ codes "command" ∷ [])
    ∷ (codes "mail", codes "grade" ∷ codes "address" ∷ [])
    ∷ (codes "list", [])
    ∷ (codes "show", codes "job" ∷ [])
    ∷ (codes "kill", codes "job" ∷ [])
    ∷ (codes "regrade", codes "job" ∷ codes "grade" ∷ [])
    ∷ (codes "rejuvenate", codes "job" ∷ [])
    ∷ (codes "due", [])
    ∷ (codes "when", [])
    ∷ (codes "queues", [])
    ∷ (codes "status", [])
    ∷ (codes "systems", [])
    ∷ (codes "failed", codes "system" ∷ codes "why" ∷ [])
    ∷ (codes "done", codes "system" ∷ [])
    ∷ (codes "forget", codes "system" ∷ codes "job" ∷ [])
    ∷ (codes "pack", codes "system" ∷ codes "grade" ∷ [])
    ∷ (codes "unpack", codes "sender" ∷ [])
    ∷ (codes "settle", codes "system" ∷ [])
    ∷ (codes "answer", codes "sender" ∷ codes "grade" ∷ [])
    ∷ (codes "map", [])
    ∷ (codes "neighbours", codes "host" ∷ [])
    ∷ (codes "name", [])
    ∷ (codes "route", codes "host" ∷ [])
    ∷ (codes "routes", [])
    ∷ []

-- the subcommand of a name
abbrev pub subcommand_named : Text → Option (Text × List Text)
subcommand_named name = find (λ subcommand. bytes_eq subcommand.0 name) subcommands

-- the entries that have a text in every line of a subcommand
abbrev pub texts_of : Text → List Text
texts_of name = option_map_or (λ subcommand. subcommand.1) (subcommand_named name) []

-- each of the entries has a text
abbrev pub HaveTexts : List Text → List Row → Type 0
HaveTexts [] rows = ⊤
HaveTexts (id ∷ ids) rows = IsSome (first_of id rows) × HaveTexts ids rows

-- each text of an entry is a whole number of at most this
abbrev pub AreNumbersUpTo : ℕ → List Text → Type 0
AreNumbersUpTo most texts = IsTrue (list_all (is_unsigned_in 0 most) texts)

-- the entries of a subcommand of the program
pub record IsEntered (name : Text) (rows : List Row) : Type 0 where
  pub known : IsSome (subcommand_named name)
  pub texts : HaveTexts (texts_of name) rows
  pub jobs : AreNumbersUpTo most_job (texts_at (codes "job") rows)
  pub sizes : AreNumbersUpTo most_size (texts_at (codes "most") rows)

-- a subcommand of the program was entered
abbrev pub HasSubcommand : Option (Text × List Row) → Type 0
HasSubcommand None = ⊥
HasSubcommand (Some subcommand) = IsEntered subcommand.0 subcommand.1

-- the entries of a line, with its subcommand
pub record AreLineEntries (rows : List Row) (entered : Option (Text × List Row)) : Type 0 where
  pub texts : HaveTexts (codes "as" ∷ []) rows
  pub second : AreNumbersUpTo most_second (texts_at (codes "at") rows)
  pub subcommand : HasSubcommand entered
