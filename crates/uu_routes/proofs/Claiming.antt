-- The table of the names that entries claim.
use Rattle.std.proofs.Common.{◌≡◌, ℕ, zero, suc, ◌+◌, ◌<◌, ◌==◌, Bool, true, false, cond, ◌||◌, List, [], ◌∷◌, ◌++◌, length, get_or, take, map, filter, slice_get, Option, Some, None, refl, sym, ap, ◌∙◌, arith}
use Rattle.std.specs.Str.{bytes_eq}
use Rattle.std.proofs.lemmas.Bool.Decides.{nat_tests}
use Rattle.std.proofs.lemmas.Slice.Eq.{bytes_eq-Decides}
use Rattle.uu_map.specs.declared.entry.Entry.{Entry}
use Rattle.uu_routes.specs.declared.claims.Claim.{Claim}
use Rattle.uu_routes.specs.declared.claims.Claim.TheVariants.{By, Several}
use Rattle.uu_routes.specs.Map.{claims, claimants, only_or, host_for}
use Rattle.uu_routes.specs.Internal.Claims.{claim_by, claimers, claim_among, entry_by, host_by, noted, AreClaims}

-- ---- one entry

same_number : (k : ℕ) → (k == k) ≡ true
same_number k = grind (arith, nat_tests)

-- a second claim of one entry adds nothing
pub claim_again : (k : ℕ) (known : Option Claim) → claim_by k (Some (claim_by k known)) ≡ claim_by k known
claim_again k None = ap (λ t. cond t (By k) Several) (same_number k)
claim_again k (Some (By j)) = by_test (j == k)
  where
    by_test : (t : Bool) → claim_by k (Some (cond t (By k) Several)) ≡ cond t (By k) Several
    by_test true = ap (λ t. cond t (By k) Several) (same_number k)
    by_test false = refl
claim_again k (Some Several) = refl

-- one more name of the entry
pub noted_more : (k : ℕ) (before same : Bool) (known : Option Claim) → cond same (Some (claim_by k (cond before (Some (claim_by k known)) known))) (cond before (Some (claim_by k known)) known) ≡ cond (before || same) (Some (claim_by k known)) known
noted_more k true true known = ap Some (claim_again k known)
noted_more k true false known = refl
noted_more k false true known = refl
noted_more k false false known = refl

-- ---- one more entry

last_if : Bool → ℕ → List ℕ
last_if t k = cond t (k ∷ []) []

claimers_suc : (name : List ℕ) (k : ℕ) (es : List Entry) (i : ℕ) (d : Entry) → i < length es → claimers name k (take (suc i) es) ≡ claimers name k (take i es) ++ cond (claims name (get_or es i d)) ((k + i) ∷ []) []
claimers_suc name k [] i d h = absurd (omega arith)
claimers_suc name k (e ∷ es) zero d h = ap (λ n. cond (claims name e) (n ∷ []) []) (let same : k ≡ k + 0 = omega arith in same)
claimers_suc name k (e ∷ es) (suc i) d h = by_test (claims name e) (claimers name (suc k) (take (suc i) es)) (claimers name (suc k) (take i es)) (cond (claims name (get_or es i d)) ((k + suc i) ∷ []) []) (claimers_suc name (suc k) es i d (omega arith) ∙ ap (λ n. claimers name (suc k) (take i es) ++ cond (claims name (get_or es i d)) (n ∷ []) []) (let same : suc k + i ≡ k + suc i = omega arith in same))
  where
    by_test : (t : Bool) (ks js ls : List ℕ) → ks ≡ js ++ ls → cond t (k ∷ ks) ks ≡ cond t (k ∷ js) js ++ ls
    by_test true ks js ls h = ap (λ xs. k ∷ xs) h
    by_test false ks js ls h = h

-- a place that is below another isn't that one
below_only : (name : List ℕ) (k : ℕ) (es : List Entry) (i j : ℕ) → claimers name k (take i es) ≡ j ∷ [] → j < k + i
below_only name k [] zero j e = absurd cc
below_only name k [] (suc i) j e = absurd cc
below_only name k (x ∷ es) zero j e = absurd cc
below_only name k (x ∷ es) (suc i) j e = by_test (claims name x) (λ f. below_only name (suc k) es i j f) e
  where
    by_test : (t : Bool) → (claimers name (suc k) (take i es) ≡ j ∷ [] → j < suc k + i) → cond t (k ∷ claimers name (suc k) (take i es)) (claimers name (suc k) (take i es)) ≡ j ∷ [] → j < k + suc i
    by_test true less f = let g : k ≡ j = cc in omega arith
    by_test false less f = let g = less f in omega arith

among_more : (ks : List ℕ) (k : ℕ) → ((j : ℕ) → ks ≡ j ∷ [] → j < k) → claim_among (ks ++ k ∷ []) ≡ Some (claim_by k (claim_among ks))
among_more [] k h = refl
among_more (j ∷ []) k h = let f : (j == k) ≡ false = grind (arith, nat_tests, h j refl) in ap (λ t. Some (cond t (By k) Several)) (sym f)
among_more (j ∷ l ∷ more) k h = refl

append_nothing : (ks : List ℕ) → ks ++ [] ≡ ks
append_nothing [] = refl
append_nothing (k ∷ ks) = ap (λ js. k ∷ js) (append_nothing ks)

pub one_more : (name : List ℕ) (es : List Entry) (i : ℕ) (d : Entry) → i < length es → claim_among (claimers name 0 (take (i + 1) es)) ≡ cond (claims name (get_or es i d)) (Some (claim_by i (claim_among (claimers name 0 (take i es))))) (claim_among (claimers name 0 (take i es)))
one_more name es i d h =
    let e : i + 1 ≡ suc i = omega arith in
    ap (λ n. claim_among (claimers name 0 (take n es))) e
    ∙ (ap claim_among (claimers_suc name 0 es i d h) ∙ by_test (claims name (get_or es i d)))
  where
    by_test : (t : Bool) → claim_among (claimers name 0 (take i es) ++ cond t ((0 + i) ∷ []) []) ≡ cond t (Some (claim_by i (claim_among (claimers name 0 (take i es))))) (claim_among (claimers name 0 (take i es)))
    by_test true =
        ap (λ n. claim_among (claimers name 0 (take i es) ++ n ∷ [])) (let same : 0 + i ≡ i = omega arith in same)
        ∙ among_more (claimers name 0 (take i es)) i (λ j s. let g = below_only name 0 es i j s in omega arith)
    by_test false = ap claim_among (append_nothing (claimers name 0 (take i es)))

-- ---- the host

abbrev host_at : List Entry → Entry → ℕ → List ℕ
host_at es d k = (get_or es k d).host

at_length : (pre : List Entry) (e : Entry) (post : List Entry) (d : Entry) → get_or (pre ++ e ∷ post) (length pre) d ≡ e
at_length [] e post d = refl
at_length (x ∷ pre) e post d = at_length pre e post d

longer : (pre : List Entry) (e : Entry) → length (pre ++ e ∷ []) ≡ suc (length pre)
longer [] e = refl
longer (x ∷ pre) e = ap suc (longer pre e)

regroup : (pre : List Entry) (e : Entry) (post : List Entry) → (pre ++ e ∷ []) ++ post ≡ pre ++ e ∷ post
regroup [] e post = refl
regroup (x ∷ pre) e post = ap (λ es. x ∷ es) (regroup pre e post)

hosts_from : (name : List ℕ) (pre es : List Entry) (d : Entry) → map (host_at (pre ++ es) d) (claimers name (length pre) es) ≡ claimants es name
hosts_from name pre [] d = refl
hosts_from name pre (e ∷ es) d = by_test (claims name e) (
    ap (λ all. map (host_at all d) (claimers name (suc (length pre)) es)) (sym (regroup pre e es))
    ∙ (ap (λ n. map (host_at ((pre ++ e ∷ []) ++ es) d) (claimers name n es)) (sym (longer pre e))
    ∙ hosts_from name (pre ++ e ∷ []) es d))
  where
    by_test : (t : Bool) → map (host_at (pre ++ e ∷ es) d) (claimers name (suc (length pre)) es) ≡ claimants es name → map (host_at (pre ++ e ∷ es) d) (cond t (length pre ∷ claimers name (suc (length pre)) es) (claimers name (suc (length pre)) es)) ≡ map (λ (x : Entry). x.host) (cond t (e ∷ filter (claims name) es) (filter (claims name) es))
    by_test true h = ap (λ x. x.host ∷ map (host_at (pre ++ e ∷ es) d) (claimers name (suc (length pre)) es)) (at_length pre e es d) ∙ ap (λ hs. e.host ∷ hs) h
    by_test false h = h

within : (name : List ℕ) (k : ℕ) (es : List Entry) (j : ℕ) → claimers name k es ≡ j ∷ [] → j < k + length es
within name k [] j e = absurd cc
within name k (x ∷ es) j e = by_test (claims name x) (λ f. within name (suc k) es j f) e
  where
    by_test : (t : Bool) → (claimers name (suc k) es ≡ j ∷ [] → j < suc k + length es) → cond t (k ∷ claimers name (suc k) es) (claimers name (suc k) es) ≡ j ∷ [] → j < k + suc (length es)
    by_test true less f = let g : k ≡ j = cc in omega arith
    by_test false less f = let g = less f in omega arith

pub claimed_within : (es : List Entry) (known : List ℕ → Option Claim) (name : List ℕ) (place : ℕ) → AreClaims es known → known name ≡ Some (By place) → place < length es
claimed_within es known name place are is = go (claimers name 0 es) refl (sym (are name) ∙ is)
  where
    go : (ks : List ℕ) → claimers name 0 es ≡ ks → claim_among ks ≡ Some (By place) → place < length es
    go [] s e = absurd cc
    go (k ∷ []) s e = let g : k ≡ place = cc in let h = within name 0 es k s in omega arith
    go (k ∷ j ∷ more) s e = absurd cc

pub claimed_host : (es : List Entry) (known : List ℕ → Option Claim) (name : List ℕ) (place : ℕ) (d : Entry) → AreClaims es known → known name ≡ Some (By place) → (get_or es place d).host ≡ host_for es name
claimed_host es known name place d are is = go (claimers name 0 es) refl (sym (are name) ∙ is)
  where
    go : (ks : List ℕ) → claimers name 0 es ≡ ks → claim_among ks ≡ Some (By place) → (get_or es place d).host ≡ only_or name (claimants es name)
    go [] s e = absurd cc
    go (k ∷ []) s e = let g : k ≡ place = cc in ap (λ n. (get_or es n d).host) (sym g) ∙ ap (only_or name) (ap (map (host_at es d)) (sym s) ∙ hosts_from name [] es d)
    go (k ∷ j ∷ more) s e = absurd cc

pub unclaimed_host : (es : List Entry) (known : List ℕ → Option Claim) (name : List ℕ) → AreClaims es known → ((place : ℕ) → known name ≡ Some (By place) → ⊥) → name ≡ host_for es name
unclaimed_host [] known name are not_one = refl
unclaimed_host (d ∷ es) known name are not_one = go (claimers name 0 (d ∷ es)) refl (are name)
  where
    go : (ks : List ℕ) → claimers name 0 (d ∷ es) ≡ ks → known name ≡ claim_among ks → name ≡ only_or name (claimants (d ∷ es) name)
    go [] s e = ap (only_or name) (ap (map (host_at (d ∷ es) d)) (sym s) ∙ hosts_from name [] (d ∷ es) d)
    go (k ∷ []) s e = absurd (not_one k e)
    go (k ∷ j ∷ more) s e = ap (only_or name) (ap (map (host_at (d ∷ es) d)) (sym s) ∙ hosts_from name [] (d ∷ es) d)

there : (es : List Entry) (k : ℕ) → k < length es → (d : Entry) × (slice_get es k ≡ Some (get_or es k d))
there [] k h = absurd (omega arith)
there (e ∷ es) zero h = (e, refl)
there (e ∷ es) (suc k) h = there es k (omega arith)

pub host_is : (es : List Entry) (known : List ℕ → Option Claim) (name : List ℕ) → AreClaims es known → host_by name (entry_by es (known name)) ≡ host_for es name
host_is es known name are = go (known name) refl
  where
    go : (o : Option Claim) → known name ≡ o → host_by name (entry_by es o) ≡ host_for es name
    go None e = unclaimed_host es known name are (λ place f. absurd cc)
    go (Some (By place)) e = let (d, s) = there es place (claimed_within es known name place are e) in ap (host_by name) s ∙ claimed_host es known name place d are e
    go (Some Several) e = unclaimed_host es known name are (λ place f. absurd cc)

-- what is under each name once a claim is noted
pub noted_is : (k : ℕ) (name : List ℕ) (known : List ℕ → Option Claim) (other : List ℕ) (claim : Claim) → claim ≡ claim_by k (known name) → cond (bytes_eq name other) (Some claim) (known other) ≡ noted k name known other
noted_is k name known other claim is = go (bytes_eq name other) refl
  where
    go : (t : Bool) → bytes_eq name other ≡ t → cond t (Some claim) (known other) ≡ cond t (Some (claim_by k (known other))) (known other)
    go true e = ap Some (is ∙ ap (λ n. claim_by k (known n)) ((bytes_eq-Decides name other).0 e))
    go false e = refl
