-- How the code finds the host that a name means: by a table of the entries that claim each name.
use Rattle.std.specs.Prelude.{◌≡◌, ℕ, suc, ◌==◌, List, [], ◌∷◌, Option, Some, None, if◌then◌else◌, slice_get}
use Rattle.std.specs.Str.{bytes_eq}
use Rattle.uu_map.specs.declared.entry.Entry.{Entry}
use Rattle.uu_routes.specs.declared.claims.Claim.{Claim}
use Rattle.uu_routes.specs.declared.claims.Claim.TheVariants.{By, Several}
use Rattle.uu_routes.specs.Map.{claims}

-- one more claim, by the entry at this place
abbrev pub claim_by : ℕ → Option Claim → Claim
claim_by k None = By k
claim_by k (Some (By j)) = if j == k then By k else Several
claim_by k (Some Several) = Several

-- what is known of a name after one more claim of one
abbrev pub noted : ℕ → List ℕ → (List ℕ → Option Claim) → List ℕ → Option Claim
noted k name known other = if bytes_eq name other then Some (claim_by k (known other)) else known other

-- and after all claims of an entry
abbrev pub noted_all : ℕ → Entry → (List ℕ → Option Claim) → List ℕ → Option Claim
noted_all k entry known other = if claims other entry then Some (claim_by k (known other)) else known other

-- the places of the entries that claim a name
abbrev pub claimers : List ℕ → ℕ → List Entry → List ℕ
claimers name k [] = []
claimers name k (e ∷ es) = if claims name e then k ∷ claimers name (suc k) es else claimers name (suc k) es

abbrev pub claim_among : List ℕ → Option Claim
claim_among [] = None
claim_among (k ∷ []) = Some (By k)
claim_among (k ∷ j ∷ more) = Some Several

abbrev pub AreClaims : List Entry → (List ℕ → Option Claim) → Type 0
AreClaims entries known = (name : List ℕ) → known name ≡ claim_among (claimers name 0 entries)

-- the entry, if only one claims the name
abbrev pub entry_by : List Entry → Option Claim → Option Entry
entry_by entries None = None
entry_by entries (Some (By k)) = slice_get entries k
entry_by entries (Some Several) = None

abbrev pub host_by : List ℕ → Option Entry → List ℕ
host_by name None = name
host_by name (Some entry) = entry.host
