-- How the code parses one statement after another.
use Rattle.std.specs.Prelude.{◌≡◌, ℕ, List, [], ◌∷◌, ◌++◌, Option, Some, None}
use Rattle.uu_map.specs.declared.entry.Link.{Link}
use Rattle.uu_map.specs.declared.entry.Entry.{Entry}
use Rattle.uu_map.specs.declared.entry.Network.{Network}
use Rattle.uu_map.specs.declared.reader.Parsed.{Parsed}
use Rattle.uu_map.specs.declared.reader.Pending.{Pending}
use Rattle.uu_map.specs.Entry.{Parsed as AnyParsed, kept, networked, left_out}
use Rattle.uu_map.specs.Statement.{Meaning}
use Rattle.uu_map.specs.Internal.NetworkReading.{network_of}
use Rattle.uu_map.specs.Internal.StatementReading.{statement_of}
use Rattle.uu_map.specs.Text.{Numbered, statements}
use Rattle.uu_map.specs.Listing.{IsListing}

-- what the statements said so far
pub record Said : Type 0 where
  pub aliases : List (List ℕ)
  pub links : List Link
  pub networks : List Network
  pub skipped : List ℕ

abbrev pub nothing_said : Said
nothing_said = record { aliases = []; links = []; networks = []; skipped = [] }

-- one after the other
abbrev pub then_said : Said → Said → Said
then_said a b = record { aliases = a.aliases ++ b.aliases; links = a.links ++ b.links; networks = a.networks ++ b.networks; skipped = a.skipped ++ b.skipped }

-- what a statement is, by both readings
abbrev pub parsed_by : Option Meaning → Option Network → AnyParsed
parsed_by (Some m) o = kept m
parsed_by None (Some n) = networked n
parsed_by None None = left_out

abbrev pub parsed_as : List ℕ → List ℕ → AnyParsed
parsed_as host text = parsed_by (statement_of host text) (network_of text)

-- what one statement says
abbrev pub of_one : ℕ → AnyParsed → Said
of_one line (kept m) = record { aliases = m.aliases; links = m.links; networks = []; skipped = [] }
of_one line (networked n) = record { aliases = []; links = []; networks = n ∷ []; skipped = [] }
of_one line left_out = record { aliases = []; links = []; networks = []; skipped = line ∷ [] }

-- what the statements say, in order
abbrev pub all_said : List ℕ → List Numbered → Said
all_said host [] = nothing_said
all_said host (s ∷ ss) = then_said (of_one s.line (parsed_as host s.text)) (all_said host ss)

abbrev pub as_said : Parsed → Said
as_said h = record { aliases = h.aliases.items; links = h.links.items; networks = h.networks.items; skipped = h.skipped.items }

abbrev pub numbered_of : Pending → Numbered
numbered_of o = record { line = o.line; text = o.text.items }

-- the statement that may still be continued
abbrev pub pending_list : Option Pending → List Numbered
pending_list None = []
pending_list (Some o) = numbered_of o ∷ []

-- what was said so far, and what a list of further lines says
abbrev pub in_all : List ℕ → Said → List Numbered → Said
in_all host h lines = then_said h (all_said host (statements lines))

-- the entry says this of this host
pub record Says (h : Said) (host : List ℕ) (entry : Entry) : Type 0 where
  pub host_is : entry.host ≡ host
  pub aliases : entry.aliases ≡ h.aliases
  pub links : IsListing h.links entry.links
  pub networks : entry.networks ≡ h.networks
  pub skipped : entry.skipped ≡ h.skipped
