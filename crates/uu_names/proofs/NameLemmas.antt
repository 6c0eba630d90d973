-- What the first byte that does not pass says of a text's form.
use Rattle.std.proofs.Common.{◌≡◌, ℕ, ◌+◌, ◌<◌, ◌≤◌, Bool, true, false, not, cond, ltb, leb, ◌&&◌, List, [], ◌∷◌, length, Some, None, Result, Ok, Err, position, refl, ap, sym, ◌∙◌, inl, inr, ◌⊎◌, arith}
use Rattle.std.specs.Prelude.{is_ok, MatchResult, if◌then◌else◌}
use Rattle.std.specs.List.{list_all, prefix_len}
use Rattle.std.proofs.lemmas.Bool.Decides.{nat_tests}
use Rattle.uu_names.specs.declared.fault.NameFault.{NameFault}
use Rattle.uu_names.specs.declared.fault.NameFault.TheVariants.{TooLong, BadName}
use Rattle.uu_names.specs.Name.{has_form, checked_text, is_site_byte, is_site_name, site_name_of}

prefix_len_not_not : (p : ℕ → Bool) (xs : List ℕ) → prefix_len (λ x. not (not (p x))) xs ≡ prefix_len p xs
prefix_len_not_not p [] = refl
prefix_len_not_not p (x ∷ xs) =
    elim (p x) as (λ b. cond (not (not b)) (1 + prefix_len (λ x. not (not (p x))) xs) 0 ≡ cond b (1 + prefix_len p xs) 0) [
      | true ↦ ap (λ n. 1 + n) (prefix_len_not_not p xs)
      | false ↦ refl
    ]

-- either all pass, or the first that does not is within the list
all_or_first : (p : ℕ → Bool) (xs : List ℕ) → ((list_all p xs ≡ true) × (prefix_len p xs ≡ length xs)) ⊎ ((list_all p xs ≡ false) × (prefix_len p xs < length xs))
all_or_first p [] = inl (refl, refl)
all_or_first p (x ∷ xs) =
    elim (p x) as (λ b. ((b && list_all p xs ≡ true) × (cond b (1 + prefix_len p xs) 0 ≡ length (x ∷ xs))) ⊎ ((b && list_all p xs ≡ false) × (cond b (1 + prefix_len p xs) 0 < length (x ∷ xs)))) [
      | true ↦ elim (all_or_first p xs) [ inl h ↦ inl (h.0, omega arith) | inr h ↦ inr (h.0, omega arith) ]
      | false ↦ inr (refl, omega arith)
    ]

position-not : (p : ℕ → Bool) (xs : List ℕ) → position (λ x. not (p x)) xs ≡ cond (ltb (prefix_len p xs) (length xs)) (Some (prefix_len p xs)) None
position-not p xs = ap (λ n. cond (ltb n (length xs)) (Some n) None) (prefix_len_not_not p xs)

-- the first byte that does not pass is the offset of the fault
pub checked_text-at : (p : ℕ → Bool) (limit : ℕ) (bad_at : ℕ → NameFault) (text : List ℕ) (at : ℕ) → Some at ≡ position (λ x. not (p x)) text → checked_text p limit bad_at text ≡ Err (bad_at at)
checked_text-at p limit bad_at text at e =
    elim (all_or_first p text) [
      | inl h ↦ absurd (none-some at (e ∙ position-not p text ∙ past p text h.1))
      | inr h ↦ refused h.0 (within h.1)
    ]
  where
    none-some : (n : ℕ) → Some n ≡ None → ⊥
    none-some n q = cc

    past : (p : ℕ → Bool) (xs : List ℕ) → prefix_len p xs ≡ length xs → cond (ltb (prefix_len p xs) (length xs)) (Some (prefix_len p xs)) None ≡ None
    past p xs q = grind (arith, nat_tests)

    within : prefix_len p text < length text → at ≡ prefix_len p text
    within l = let f : Some at ≡ cond (ltb (prefix_len p text) (length text)) (Some (prefix_len p text)) None = e ∙ position-not p text in grind (arith, nat_tests)

    refused : list_all p text ≡ false → at ≡ prefix_len p text → checked_text p limit bad_at text ≡ Err (bad_at at)
    refused l q = rw (l, q) (by-form (leb 1 (length text)))
      where
        by-form : (b : Bool) → cond (b && false) (cond (leb (length text) limit) (Ok text) (Err TooLong)) (Err (bad_at (prefix_len p text))) ≡ Err (bad_at (prefix_len p text))
        by-form true = refl
        by-form false = refl

-- if every byte passes, only the length decides
all_pass : (p : ℕ → Bool) (text : List ℕ) → None ≡ position (λ x. not (p x)) text → list_all p text ≡ true
all_pass p text e =
    elim (all_or_first p text) [ inl h ↦ h.0 | inr h ↦ absurd (some-none (e ∙ position-not p text) h.1) ]
  where
    some-none : None ≡ cond (ltb (prefix_len p text) (length text)) (Some (prefix_len p text)) None → prefix_len p text < length text → ⊥
    some-none q l = let t : ltb (prefix_len p text) (length text) ≡ true = grind (arith, nat_tests) in let r = rw t at q in cc

by-length : (p : ℕ → Bool) (limit : ℕ) (bad_at : ℕ → NameFault) (text : List ℕ) (fits : Bool) → None ≡ position (λ x. not (p x)) text → 0 < length text → leb (length text) limit ≡ fits → checked_text p limit bad_at text ≡ cond fits (Ok text) (Err TooLong)
by-length p limit bad_at text fits e some q =
    let t : leb 1 (length text) ≡ true = grind (arith, nat_tests) in
    rw (t, all_pass p text e, q)

pub checked_text_long : (p : ℕ → Bool) (limit : ℕ) (bad_at : ℕ → NameFault) (text : List ℕ) → None ≡ position (λ x. not (p x)) text → 0 < length text → limit < length text → checked_text p limit bad_at text ≡ Err TooLong
checked_text_long p limit bad_at text e some long = by-length p limit bad_at text false e some (grind (arith, nat_tests))

pub checked_text-ok : (p : ℕ → Bool) (limit : ℕ) (bad_at : ℕ → NameFault) (text : List ℕ) → None ≡ position (λ x. not (p x)) text → 0 < length text → length text ≤ limit → checked_text p limit bad_at text ≡ Ok text
checked_text-ok p limit bad_at text e some fits = by-length p limit bad_at text true e some (grind (arith, nat_tests))

-- reading a text as a site name succeeds exactly if it is one
pub is_ok-site_name_of : (text : List ℕ) → is_ok (site_name_of text) ≡ is_site_name text
is_ok-site_name_of text = by-form (has_form is_site_byte text) (leb (length text) 63)
  where
    by-form : (form fits : Bool) → is_ok (if form then (if fits then Ok text else Err TooLong) else Err (BadName (prefix_len is_site_byte text))) ≡ form && fits
    by-form true true = refl
    by-form true false = refl
    by-form false fits = refl

pub name_or_fault : (text : List ℕ) (answer : Result (Unit {0}) NameFault) → MatchResult answer (λ _. site_name_of text ≡ Ok text) (λ fault. site_name_of text ≡ Err fault) → is_ok answer ≡ is_site_name text
name_or_fault text (Ok u) h = sym (ap is_ok h) ∙ is_ok-site_name_of text
name_or_fault text (Err fault) h = sym (ap is_ok h) ∙ is_ok-site_name_of text
