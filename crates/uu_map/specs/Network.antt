-- The networks of a map entry (UUCP Mapping Project README and pathalias, on networks; the details are this
-- project's choice).
--
--     network := name blanks* "=" blanks* [ mark ] "{" list of names "}" [ mark ] blanks* [ "(" sum ")" ]
--
-- Each of its sites has a link to each other one, at its cost. Its own name is no site's.
use Rattle.std.specs.Prelude.{◌≡◌, ℕ, Bool, not, List, ◌∷◌, ◌++◌, IsTrue, ◌==◌}
use Rattle.std.specs.List.{list_all, AllZip}
use Rattle.std.specs.Str.{byte}
use Rattle.uu_names.specs.Name.{is_site_name}
use Rattle.uu_map.specs.declared.entry.Network.{Network}
use Rattle.uu_map.specs.Statement.{all_blank, elements, IsMarkAtMost, IsCost, IsAlias}
use Rattle.uu_map.specs.Token.{begins}

abbrev pub is_dot : ℕ → Bool
is_dot b = b == byte "."

abbrev pub is_closing : ℕ → Bool
is_closing b = b == byte "}"

-- A name that begins with a dot is that of a domain, which is entered only by its gateways. Networks with
-- one aren't read.
abbrev pub is_plain : List ℕ → Bool
is_plain name = not (begins is_dot name)

-- the statement of a network, in its parts
pub record IsNetwork (text : List ℕ) (network : Network) : Type 0 where
  pub gap : List ℕ
  pub blanks : List ℕ
  pub front : List ℕ
  pub list : List ℕ
  pub back : List ℕ
  pub behind : List ℕ
  pub written : text ≡ network.name ++ (gap ++ (byte "=" ∷ (blanks ++ (front ++ (byte "{" ∷ (list ++ (byte "}" ∷ (back ++ behind))))))))
  pub name : IsTrue (is_site_name network.name)
  pub plain_name : IsTrue (is_plain network.name)
  pub before_equals : IsTrue (all_blank gap)
  pub after_equals : IsTrue (all_blank blanks)
  pub front_mark : IsMarkAtMost front
  pub within : IsTrue (list_all (λ b. not (is_closing b)) list)
  pub sites : AllZip IsAlias (elements list) network.sites
  pub plain_sites : IsTrue (list_all is_plain network.sites)
  pub back_mark : IsMarkAtMost back
  pub cost : IsCost behind network.cost
