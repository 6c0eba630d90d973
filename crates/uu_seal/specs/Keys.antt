-- The text of a key file (this project's choice): a key on each line, as 64 hex digits.
use Rattle.std.specs.Prelude.{◌≡◌, ◌≢◌, ℕ, List, [], ◌∷◌, ◌++◌, Ok, ⊤}
use Rattle.hex.specs.Hex.{decode_sized}
use Rattle.uu_seal.specs.declared.key.KeyFault.{KeyFault}
use Rattle.uu_seal.specs.declared.key.KeyFault.TheVariants.{NoKey, BadLine, Memory}

-- the line is the digits of this key, of 32 bytes
abbrev pub IsKeyLine : List ℕ → List ℕ → Type 0
IsKeyLine line key = decode_sized line 32 ≡ Ok key

-- the text has a line for each key, and nothing else
abbrev pub AreKeyLines : List ℕ → List (List ℕ) → Type 0
AreKeyLines text [] = text ≡ []
AreKeyLines text (key ∷ keys) = (line : List ℕ) × (behind : List ℕ) × IsKeyLine line key × (text ≡ line ++ 10 ∷ behind) × AreKeyLines behind keys

-- there is at least one
abbrev pub AreKeys : List ℕ → List (List ℕ) → Type 0
AreKeys text keys = (keys ≢ []) × AreKeyLines text keys

-- why no keys are read: the text is empty, or isn't lines of keys
abbrev pub IsKeyCause : List ℕ → KeyFault → Type 0
IsKeyCause text NoKey = text ≡ []
IsKeyCause text BadLine = (keys : List (List ℕ)) → ¬ AreKeyLines text keys
IsKeyCause text Memory = ⊤
