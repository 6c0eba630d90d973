-- What is opened of any text: the pieces up to the first that is cut off, or whose tag is wrong
-- (this project's choice).
use Rattle.std.specs.Prelude.{◌≡◌, ◌≢◌, ℕ, List, ◌∷◌, ◌++◌, All, ⊤, codes}
use Rattle.std.specs.List.{flat_map}
use Rattle.uu_seal.specs.Texts.{IsPiece, first_line, last_tag, name_of, piece_text, pieces_text, tag_of}
use Rattle.uu_seal.specs.declared.fault.SealFault.{SealFault}
use Rattle.uu_seal.specs.declared.fault.SealFault.TheVariants.{NotSealed, WrongKey, Memory}

-- the text doesn't begin with this
abbrev pub BeginsOtherwise : List ℕ → List ℕ → Type 0
BeginsOtherwise front text = (behind : List ℕ) → text ≢ front ++ behind

-- the text doesn't begin with a whole piece whose tag is right
abbrev pub BeginsWithNoPiece : List ℕ → List ℕ → List ℕ → Type 0
BeginsWithNoPiece key before text = (piece : List ℕ) → IsPiece piece → BeginsOtherwise (piece_text (tag_of key before piece) piece) text

-- pieces, one after the other
abbrev pub joined : List (List ℕ) → List ℕ
joined pieces = flat_map (λ piece. piece) pieces

-- these pieces are at the beginning of the text, each with the right tag, and no further one
pub record AreOpened (key before text : List ℕ) (pieces : List (List ℕ)) : Type 0 where
  pub rest : List ℕ
  pub each : All IsPiece pieces
  pub is_text : text ≡ pieces_text key before pieces ++ rest
  pub longest : BeginsWithNoPiece key (last_tag key before pieces) rest

-- with this key these bytes are opened of the text
pub record IsOpenedWith (key text bytes : List ℕ) : Type 0 where
  pub behind : List ℕ
  pub pieces : List (List ℕ)
  pub is_text : text ≡ first_line key ++ behind
  pub are : AreOpened key (name_of key) behind pieces
  pub bytes_are : bytes ≡ joined pieces

-- with the first of the keys whose name the text has
pub record IsOpened (keys : List (List ℕ)) (text bytes : List ℕ) : Type 0 where
  pub earlier : List (List ℕ)
  pub key : List ℕ
  pub later : List (List ℕ)
  pub keys_are : keys ≡ earlier ++ key ∷ later
  pub others : All (λ other. BeginsOtherwise (first_line other) text) earlier
  pub opened : IsOpenedWith key text bytes

-- why nothing is opened
abbrev pub IsCause : List (List ℕ) → List ℕ → SealFault → Type 0
IsCause keys text NotSealed = BeginsOtherwise (codes "sealed ") text
IsCause keys text WrongKey = All (λ key. BeginsOtherwise (first_line key) text) keys
IsCause keys text Memory = ⊤
