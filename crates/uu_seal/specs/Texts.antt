-- The text of a sealed bundle (this project's choice):
--
--     sealed NAME
--     piece SIZE TAG
--     BYTES
--     piece SIZE TAG
--     BYTES
--     ..
--
-- NAME and each TAG are 64 hex digits, and SIZE is the number of BYTES. After them a line ends.
use Rattle.std.specs.Prelude.{ℕ, zero, suc, ◌≤◌, List, [], ◌∷◌, ◌++◌, codes, length, take, drop}
use Rattle.std.specs.Fmt.{decimal}
use Rattle.hex.specs.Hex.{encode_lower}
use Rattle.uu_seal.specs.Hmac.{hmac}

-- ---- tags

-- The name of a key: the tag of the word `sealed`. Who has no key learns from it only which texts
-- are sealed with the same one.
abbrev pub name_of : List ℕ → List ℕ
name_of key = hmac key (codes "sealed")

-- The tag of a piece that comes after this tag, or after this name. So it vouches for all that went
-- before, too.
abbrev pub tag_of : List ℕ → List ℕ → List ℕ → List ℕ
tag_of key before piece = hmac key (before ++ piece)

-- the tag of the last of these pieces, or what is before them if there is none
abbrev pub last_tag : List ℕ → List ℕ → List (List ℕ) → List ℕ
last_tag key before [] = before
last_tag key before (piece ∷ pieces) = last_tag key (tag_of key before piece) pieces

-- ---- texts

abbrev pub first_line : List ℕ → List ℕ
first_line key = codes "sealed " ++ (encode_lower (name_of key) ++ 10 ∷ [])

-- the most bytes of a piece
abbrev pub most_piece : ℕ
most_piece = 4096

pub record IsPiece (piece : List ℕ) : Type 0 where
  pub some : 1 ≤ length piece
  pub most : length piece ≤ most_piece

-- a piece with its line
abbrev pub piece_text : List ℕ → List ℕ → List ℕ
piece_text tag piece = codes "piece " ++ (decimal (length piece) ++ 32 ∷ (encode_lower tag ++ 10 ∷ (piece ++ 10 ∷ [])))

-- pieces, each with its tag
abbrev pub pieces_text : List ℕ → List ℕ → List (List ℕ) → List ℕ
pieces_text key before [] = []
pieces_text key before (piece ∷ pieces) = piece_text (tag_of key before piece) piece ++ pieces_text key (tag_of key before piece) pieces

-- ---- sealing

-- the first bytes of the text, then as many of the rest, and so on, at most so many times
abbrev pub cut_in : ℕ → ℕ → List ℕ → List (List ℕ)
cut_in size zero text = []
cut_in size (suc more) [] = []
cut_in size (suc more) (byte ∷ bytes) = take size (byte ∷ bytes) ∷ cut_in size more (drop size (byte ∷ bytes))

-- the text in pieces of 4,096 bytes, the last of which may have fewer
abbrev pub pieces_of : List ℕ → List (List ℕ)
pieces_of text = cut_in most_piece (length text) text

-- the text, sealed with the key
abbrev pub sealed : List ℕ → List ℕ → List ℕ
sealed key text = first_line key ++ pieces_text key (name_of key) (pieces_of text)
