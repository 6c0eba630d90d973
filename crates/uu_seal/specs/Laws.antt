-- What the laws of sealed texts are about.
use Rattle.std.specs.Prelude.{◌≡◌, ℕ, List, [], ◌∷◌, ◌++◌, All, Contains, codes}
use Rattle.std.specs.List.{flat_map}
use Rattle.uu_seal.specs.Hmac.{hmac}
use Rattle.uu_seal.specs.Texts.{IsPiece, first_line, name_of, pieces_of, pieces_text, tag_of}

-- ---- who made a tag

-- what the tags of these pieces are made from
abbrev pub tagged_after : List ℕ → List ℕ → List (List ℕ) → List (List ℕ)
tagged_after key before [] = []
tagged_after key before (piece ∷ pieces) = (before ++ piece) ∷ tagged_after key (tag_of key before piece) pieces

-- what the key's name and the tags of these pieces are made from
abbrev pub tagged_in : List ℕ → List (List ℕ) → List (List ℕ)
tagged_in key pieces = codes "sealed" ∷ tagged_after key (name_of key) pieces

-- from what whoever has the key makes tags to seal these texts
abbrev pub tagged : List ℕ → List (List ℕ) → List (List ℕ)
tagged key texts = flat_map (λ text. tagged_in key (pieces_of text)) texts

-- Nobody forges a tag: as far as the name and the tags of a text are right, whoever sealed these
-- texts made each.
abbrev pub NoneIsForged : List ℕ → List (List ℕ) → List ℕ → Type 0
NoneIsForged key texts input =
    (pieces : List (List ℕ)) (rest : List ℕ) → All IsPiece pieces → input ≡ first_line key ++ (pieces_text key (name_of key) pieces ++ rest)
    → All (Contains (tagged key texts)) (tagged_in key pieces)

-- no two different texts that were tagged have the same tag
abbrev pub TagsTellApart : List ℕ → List (List ℕ) → Type 0
TagsTellApart key texts = (one other : List ℕ) → Contains (tagged key texts) one → Contains (tagged key texts) other → hmac key one ≡ hmac key other → one ≡ other

-- the text is one of these, or a beginning of one
pub record BeginsOneOf (texts : List (List ℕ)) (text : List ℕ) : Type 0 where
  pub whole : List ℕ
  pub is_one : Contains texts whole
  pub cut : List ℕ
  pub is_front : text ++ cut ≡ whole
