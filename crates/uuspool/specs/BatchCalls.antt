-- The words that ask for a batch. They are this project's choice.
use Rattle.std.specs.Prelude.{◌≡◌, ◌⊎◌, ◌∷◌, ℕ, List, [], codes}

-- `batch`, or `-c FILE batch`, with the path of the settings
abbrev pub IsBatchCall : List (List ℕ) → List ℕ → Type 0
IsBatchCall words file =
    ((words ≡ codes "batch" ∷ []) × (file ≡ codes "uuspool.toml"))
    ⊎ (words ≡ codes "-c" ∷ file ∷ codes "batch" ∷ [])
