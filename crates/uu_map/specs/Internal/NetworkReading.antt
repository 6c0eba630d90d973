-- How the code reads the statement of a network: from left to right.
use Rattle.std.specs.Prelude.{ℕ, Bool, List, [], ◌∷◌, take, drop, Option, Some, None, option_map, option_and_then, ◌==◌, if◌then◌else◌}
use Rattle.std.specs.List.{list_all, position_or_len, prefix_len}
use Rattle.std.specs.Str.{byte}
use Rattle.uu_names.specs.Name.{is_site_byte}
use Rattle.uu_names.specs.Text.{is_blank}
use Rattle.uu_map.specs.declared.entry.Cost.{Cost}
use Rattle.uu_map.specs.declared.entry.Network.{Network}
use Rattle.uu_map.specs.Network.{is_closing, is_plain}
use Rattle.uu_map.specs.Token.{begins, tokens}
use Rattle.uu_map.specs.Internal.StatementReading.{skip, skip_mark, cost_behind, site_name, alias_of, list_of, is_equals}

abbrev pub is_opening : ℕ → Bool
is_opening b = b == byte "{"

-- the text behind a byte that passes, if it begins with one
abbrev pub behind_byte : (ℕ → Bool) → List ℕ → Option (List ℕ)
behind_byte passes [] = None
behind_byte passes (b ∷ bs) = if passes b then Some bs else None

abbrev pub if_plain : List ℕ → Option (List ℕ)
if_plain name = if is_plain name then Some name else None

abbrev pub if_all_plain : List (List ℕ) → Option (List (List ℕ))
if_all_plain names = if list_all is_plain names then Some names else None

-- the name that a text begins with
unfoldable pub network_name : List ℕ → Option (List ℕ)
network_name text = option_and_then if_plain (site_name (take (prefix_len is_site_byte text) text))

-- the sites of a list
unfoldable pub sites_of : List ℕ → Option (List (List ℕ))
sites_of list = option_and_then if_all_plain (list_of alias_of list)

-- what a network of this name says in braces and behind them
unfoldable pub said_in : List ℕ → List ℕ → List ℕ → Option Network
said_in name list behind =
    option_and_then (λ sites. option_map (λ cost. record { name = name; sites = sites; cost = cost }) (cost_behind (tokens (skip_mark behind)))) (sites_of list)

-- what stands after the brace that opens the list
unfoldable pub said_from : List ℕ → List ℕ → Option Network
said_from name text =
    option_and_then (λ behind. said_in name (take (position_or_len is_closing text) text) behind) (behind_byte is_closing (drop (position_or_len is_closing text) text))

-- what stands after the equals sign
unfoldable pub said_after : List ℕ → List ℕ → Option Network
said_after name text = option_and_then (said_from name) (behind_byte is_opening (skip_mark (skip is_blank text)))

-- what stands after the name
unfoldable pub said_behind : List ℕ → List ℕ → Option Network
said_behind name text = option_and_then (said_after name) (behind_byte is_equals (skip is_blank text))

unfoldable pub network_of : List ℕ → Option Network
network_of text = option_and_then (λ name. said_behind name (skip is_site_byte text)) (network_name text)
