-- How the code reads a statement: from left to right.
use Rattle.std.specs.Prelude.{ℕ, Bool, List, [], ◌∷◌, take, drop, length, Option, Some, None, option_map, option_and_then, ◌==◌, if◌then◌else◌}
use Rattle.std.specs.List.{prefix_len}
use Rattle.std.specs.Str.{byte, bytes_eq}
use Rattle.uu_names.specs.Name.{is_site_byte, is_site_name}
use Rattle.uu_map.specs.declared.entry.Cost.{Cost}
use Rattle.uu_map.specs.declared.entry.Cost.TheVariants.{Value}
use Rattle.uu_map.specs.declared.entry.Link.{Link}
use Rattle.uu_map.specs.declared.statement.Statement.{Statement}
use Rattle.uu_map.specs.declared.token.Token.{Token}
use Rattle.uu_map.specs.declared.token.Token.TheVariants.{Open}
use Rattle.uu_map.specs.Token.{begins, tokens}
use Rattle.uu_names.specs.Text.{is_blank}
use Rattle.uu_map.specs.Internal.Reading.{run, start}
use Rattle.uu_map.specs.Statement.{usual_cost, most_depth, Meaning, is_mark, all_blank, elements}

-- the text after its longest prefix of bytes that pass
abbrev pub skip : (ℕ → Bool) → List ℕ → List ℕ
skip passes text = drop (prefix_len passes text) text

-- the text after a mark, if it begins with one
abbrev pub skip_mark : List ℕ → List ℕ
skip_mark [] = []
skip_mark (b ∷ bs) = if is_mark b then bs else b ∷ bs

abbrev pub cost_behind : List Token → Option Cost
cost_behind [] = Some (Value usual_cost)
cost_behind (Open ∷ ts) = run (start most_depth) ts
cost_behind (t ∷ ts) = None

abbrev pub site_name : List ℕ → Option (List ℕ)
site_name text = if is_site_name text then Some text else None

-- the name that a text begins with, and its cost
unfoldable pub named_link : List ℕ → Option Link
named_link text = option_and_then (λ cost. option_map (λ name. record { to = name; cost = cost }) (site_name (take (prefix_len is_site_byte text) text))) (cost_behind (tokens (skip_mark (skip is_site_byte text))))

unfoldable pub link_of : List ℕ → Option Link
link_of text = named_link (skip_mark (skip is_blank text))

unfoldable pub named_alias : List ℕ → Option (List ℕ)
named_alias text = if all_blank (skip is_site_byte text) then site_name (take (prefix_len is_site_byte text) text) else None

unfoldable pub alias_of : List ℕ → Option (List ℕ)
alias_of text = named_alias (skip is_blank text)

-- one value for each text, if each text has one
abbrev pub each_of : {Y : Type 0} → (List ℕ → Option Y) → List (List ℕ) → Option (List Y)
each_of read [] = Some []
each_of read (t ∷ ts) = option_and_then (λ y. option_map (λ ys. y ∷ ys) (each_of read ts)) (read t)

unfoldable pub list_of : {Y : Type 0} → (List ℕ → Option Y) → List ℕ → Option (List Y)
list_of read list = each_of read (elements list)

abbrev pub is_equals : ℕ → Bool
is_equals b = b == byte "="

-- what the text after the host says
abbrev pub said_by : List ℕ → Option Meaning
said_by [] = Some (record { aliases = []; links = [] })
said_by (b ∷ bs) =
    if begins is_equals (skip is_blank (b ∷ bs)) then option_map (λ aliases. record { aliases = aliases; links = [] }) (list_of alias_of (drop 1 (skip is_blank (b ∷ bs))))
    else (if is_blank b then option_map (λ links. record { aliases = []; links = links }) (list_of link_of bs) else None)

unfoldable pub statement_of : List ℕ → List ℕ → Option Meaning
statement_of host text = if bytes_eq (take (length host) text) host then said_by (drop (length host) text) else None

-- a statement that was read
abbrev pub meaning_of : Statement → Meaning
meaning_of s = record { aliases = s.aliases.items; links = s.links.items }
