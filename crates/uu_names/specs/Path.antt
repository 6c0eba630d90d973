-- Bang paths: the sites that a message passes, and what the last of them does with the rest (RFC
-- 976 writes such addresses `host!host!user`; this project's grammar and limits).
use Rattle.std.specs.Prelude.{◌≡◌, ℕ, ◌<◌, ◌≤◌, Bool, not, ◌&&◌, List, [], ◌∷◌, ◌++◌, ◌==◌, nat_le, length, take, IsTrue, ⊤}
use Rattle.std.specs.List.{list_all, join_with_byte, before_first, after_first}
use Rattle.std.specs.Str.{byte}
use Rattle.uu_names.specs.declared.fault.NameFault.{NameFault}
use Rattle.uu_names.specs.declared.fault.NameFault.TheVariants.{BadGrade, BadName, BadPath, BadWord, NoEnvelope, TooLong, Memory}
use Rattle.uu_names.specs.Name.{is_site_byte, is_word_byte, has_form, most_name}

-- the sites in the order in which a message passes them, and the local part
pub record BangPath : Type 0 where
  pub sites : List (List ℕ)
  pub local_part : List ℕ

abbrev pub is_bang : ℕ → Bool
is_bang b = b == byte "!"

-- the text of a path: its sites and then its local part, joined by `!`
abbrev pub path_text : BangPath → List ℕ
path_text path = join_with_byte (byte "!") (path.sites ++ path.local_part ∷ [])

-- a byte of a local part, which isn't read any further: `@` and `%` stay as written
abbrev pub is_local_byte : ℕ → Bool
is_local_byte b = is_word_byte b && not (is_bang b)

-- the form of a path of any length: one site or more, each of the form of a site name, and a local
-- part
abbrev pub has_path_form : BangPath → Bool
has_path_form path = nat_le 1 (length path.sites) && list_all (has_form is_site_byte) path.sites && has_form is_local_byte path.local_part

-- the most bytes of a path's text
abbrev pub most_path : ℕ
most_path = 255

-- the limits: 63 bytes for each site name, 255 for the text
abbrev pub is_within_limits : BangPath → Bool
is_within_limits path = list_all (λ site. nat_le (length site) most_name) path.sites && nat_le (length (path_text path)) most_path

-- the text is a path
pub record IsPathText (text : List ℕ) : Type 0 where
  pub path : BangPath
  pub is_text : path_text path ≡ text
  pub form : IsTrue (has_path_form path)
  pub limits : IsTrue (is_within_limits path)

-- followed by some bytes, the text is a path of any length
pub record BeginsPath (text : List ℕ) : Type 0 where
  pub path : BangPath
  pub rest : List ℕ
  pub is_text : path_text path ≡ text ++ rest
  pub form : IsTrue (has_path_form path)

-- the text isn't a path of any length, and this is the largest number of its bytes that begin one
pub record IsBadPathAt (text : List ℕ) (at : ℕ) : Type 0 where
  pub no_path : (path : BangPath) → IsTrue (has_path_form path) → ¬ (path_text path ≡ text)
  pub within : at ≤ length text
  pub begins : BeginsPath (take at text)
  pub longest : (n : ℕ) → at < n → n ≤ length text → ¬ BeginsPath (take n text)

-- the text has the form of a path, but exceeds a limit
pub record IsLongPath (text : List ℕ) : Type 0 where
  pub path : BangPath
  pub is_text : path_text path ≡ text
  pub form : IsTrue (has_path_form path)
  pub over : ¬ IsTrue (is_within_limits path)

-- why a text that isn't a path is refused
abbrev pub IsPathFault : List ℕ → NameFault → Type 0
IsPathFault text (BadPath at) = IsBadPathAt text at
IsPathFault text TooLong = IsLongPath text
IsPathFault text Memory = ⊤
IsPathFault text BadGrade = ⊥
IsPathFault text (BadName at) = ⊥
IsPathFault text (BadWord at) = ⊥
IsPathFault text NoEnvelope = ⊥

-- the parts of a path's text before and after its first `!`
abbrev pub first_hop : List ℕ → List ℕ
first_hop text = before_first is_bang text

abbrev pub rest_of : List ℕ → List ℕ
rest_of text = after_first is_bang text
