-- The statements of a map entry (UUCP Mapping Project README, on links and aliases; the details are
-- this project's choice).
--
--     statement := host | host blanks list of links | host blanks* "=" list of names
--     link      := [ mark ] name [ mark ] blanks* [ "(" sum ")" ]
--     mark      := "!" | "@" | ":" | "%"
use Rattle.std.specs.Prelude.{◌≡◌, ℕ, Bool, not, ◌||◌, List, [], ◌∷◌, ◌++◌, Some, ◌==◌, IsTrue, filter, ◌⊎◌, ⊤, if◌then◌else◌}
use Rattle.std.specs.List.{list_all, onto_first, AllZip}
use Rattle.std.specs.Str.{byte}
use Rattle.uu_names.specs.Name.{is_site_name}
use Rattle.uu_map.specs.declared.entry.Cost.{Cost}
use Rattle.uu_map.specs.declared.entry.Cost.TheVariants.{Value}
use Rattle.uu_map.specs.declared.entry.Link.{Link}
use Rattle.uu_map.specs.declared.token.Token.TheVariants.{Open, Close}
use Rattle.uu_map.specs.Expression.{Sum, sum_text, sum_value, sum_fits, sum_is_dead, cost_of}
use Rattle.uu_map.specs.Token.{tokens}
use Rattle.uu_names.specs.Text.{is_blank}

abbrev pub is_mark : ℕ → Bool
is_mark b = b == byte "!" || b == byte "@" || b == byte ":" || b == byte "%"

abbrev pub is_comma : ℕ → Bool
is_comma b = b == byte ","

abbrev pub all_blank : List ℕ → Bool
all_blank text = list_all is_blank text

-- the parts of a text between the bytes at which it is cut
abbrev pub cut : (ℕ → Bool) → List ℕ → List (List ℕ)
cut at [] = []
cut at (b ∷ bs) = if at b then [] ∷ cut at bs else onto_first b (cut at bs)

-- the elements of a list: its parts between commas, without those that are empty or only blanks
abbrev pub elements : List ℕ → List (List ℕ)
elements list = filter (λ part. not (all_blank part)) (cut is_comma list)

-- nothing, or one mark
abbrev pub IsMarkAtMost : List ℕ → Type 0
IsMarkAtMost [] = ⊤
IsMarkAtMost (b ∷ []) = IsTrue (is_mark b)
IsMarkAtMost (b ∷ c ∷ bs) = ⊥

-- the cost of a link without a written cost, and how deep parentheses and signs may nest (this
-- project's choice)
abbrev pub usual_cost : ℕ
usual_cost = 4000

abbrev pub most_depth : ℕ
most_depth = 32

-- The text after a link's name says the cost: nothing means 4000; an expression in parentheses
-- costs its value. Parentheses and signs nest at most 32 deep in it.
pub record IsPriced (text : List ℕ) (cost : Cost) (sum : Sum) : Type 0 where
  pub written : tokens text ≡ Open ∷ (sum_text sum ++ Close ∷ [])
  pub fits : IsTrue (sum_fits most_depth sum)
  pub price : cost_of (sum_is_dead sum) (sum_value sum) ≡ Some cost

abbrev pub IsCost : List ℕ → Cost → Type 0
IsCost text cost = ((tokens text ≡ []) × (cost ≡ Value usual_cost)) ⊎ ((sum : Sum) × IsPriced text cost sum)

-- a link as an element of a list: blanks, a mark or nothing, the name, a mark or nothing, and the
-- cost
pub record IsLink (text : List ℕ) (link : Link) : Type 0 where
  pub blanks : List ℕ
  pub front : List ℕ
  pub back : List ℕ
  pub behind : List ℕ
  pub written : text ≡ blanks ++ (front ++ (link.to ++ (back ++ behind)))
  pub before : IsTrue (all_blank blanks)
  pub front_mark : IsMarkAtMost front
  pub name : IsTrue (is_site_name link.to)
  pub back_mark : IsMarkAtMost back
  pub cost : IsCost behind link.cost

-- a name as an element of a list, with blanks around it
pub record IsAlias (text : List ℕ) (name : List ℕ) : Type 0 where
  pub blanks : List ℕ
  pub behind : List ℕ
  pub written : text ≡ blanks ++ (name ++ behind)
  pub before : IsTrue (all_blank blanks)
  pub is_name : IsTrue (is_site_name name)
  pub after : IsTrue (all_blank behind)

-- what a statement says about its host
pub record Meaning : Type 0 where
  pub aliases : List (List ℕ)
  pub links : List Link

-- The host alone; the host, a blank and a list of links; the host, blanks or nothing, an equals
-- sign and a list of names.
pub data IsStatement (host : List ℕ) : List ℕ → Meaning → Type 0 where
  alone : IsStatement host host (record { aliases = []; links = [] })
  with_links : (blank : ℕ) (list : List ℕ) (links : List Link) → IsTrue (is_blank blank) → AllZip IsLink (elements list) links → IsStatement host (host ++ blank ∷ list) (record { aliases = []; links = links })
  with_aliases : (blanks : List ℕ) (list : List ℕ) (aliases : List (List ℕ)) → IsTrue (all_blank blanks) → AllZip IsAlias (elements list) aliases → IsStatement host (host ++ (blanks ++ byte "=" ∷ list)) (record { aliases = aliases; links = [] })
