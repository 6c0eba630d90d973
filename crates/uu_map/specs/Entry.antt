-- What a map entry says about its host, and its networks (UUCP Mapping Project README; what is skipped is
-- this project's choice).
use Rattle.std.specs.Prelude.{◌≡◌, ⊤, ℕ, List, [], ◌∷◌, Result, Ok, Err, flat_map}
use Rattle.std.specs.List.{AllZip}
use Rattle.uu_map.specs.declared.entry.Link.{Link}
use Rattle.uu_map.specs.declared.entry.Entry.{Entry}
use Rattle.uu_map.specs.declared.entry.Network.{Network}
use Rattle.uu_map.specs.declared.fault.MapFault.{MapFault}
use Rattle.uu_map.specs.declared.fault.MapFault.TheVariants.{Memory}
use Rattle.uu_map.specs.Network.{IsNetwork}
use Rattle.uu_map.specs.Statement.{Meaning, IsStatement}
use Rattle.uu_map.specs.Text.{Numbered, host_of, statements_of}
use Rattle.uu_map.specs.Listing.{IsListing}

-- what a statement is: one about the host, a network, or neither
pub data Parsed : Type 0 where
  kept : Meaning → Parsed
  networked : Network → Parsed
  left_out : Parsed

-- A statement about the host is kept with its meaning. Any other is a network, or is skipped.
abbrev pub IsParsed : List ℕ → Numbered → Parsed → Type 0
IsParsed host s (kept m) = IsStatement host s.text m
IsParsed host s (networked n) = ((m : Meaning) → IsStatement host s.text m → ⊥) × IsNetwork s.text n
IsParsed host s left_out = ((m : Meaning) → IsStatement host s.text m → ⊥) × ((n : Network) → IsNetwork s.text n → ⊥)

abbrev pub aliases_in : Parsed → List (List ℕ)
aliases_in (kept m) = m.aliases
aliases_in (networked n) = []
aliases_in left_out = []

abbrev pub links_in : Parsed → List Link
links_in (kept m) = m.links
links_in (networked n) = []
links_in left_out = []

abbrev pub networks_in : Parsed → List Network
networks_in (kept m) = []
networks_in (networked n) = n ∷ []
networks_in left_out = []

-- the line numbers of the statements that are skipped
abbrev pub skipped_lines : List Numbered → List Parsed → List ℕ
skipped_lines (s ∷ ss) (left_out ∷ ps) = s.line ∷ skipped_lines ss ps
skipped_lines (s ∷ ss) (kept m ∷ ps) = skipped_lines ss ps
skipped_lines (s ∷ ss) (networked n ∷ ps) = skipped_lines ss ps
skipped_lines [] ps = []
skipped_lines (s ∷ ss) [] = []

-- The entry of a text: the host that it names, the aliases of its kept statements in the text's
-- order, their links as they are listed, its networks in the text's order, and the lines of the
-- skipped statements.
pub record IsEntry (text : List ℕ) (entry : Entry) : Type 0 where
  pub parsed : List Parsed
  pub host : host_of text ≡ Ok entry.host
  pub each : AllZip (IsParsed entry.host) (statements_of text) parsed
  pub aliases : entry.aliases ≡ flat_map aliases_in parsed
  pub links : IsListing (flat_map links_in parsed) entry.links
  pub networks : entry.networks ≡ flat_map networks_in parsed
  pub skipped : entry.skipped ≡ skipped_lines (statements_of text) parsed

-- The answer to a text: its entry, the fault of its host, or out of memory.
abbrev pub IsAnswer : List ℕ → Result Entry MapFault → Type 0
IsAnswer text (Ok entry) = IsEntry text entry
IsAnswer text (Err Memory) = ⊤
IsAnswer text (Err fault) = host_of text ≡ Err fault

-- the answer is the expected one, or out of memory
abbrev pub AnswersUnlessMemory : {V : Type 0} → Result V MapFault → Result V MapFault → Type 0
AnswersUnlessMemory (Err Memory) expected = ⊤
AnswersUnlessMemory answer expected = answer ≡ expected
