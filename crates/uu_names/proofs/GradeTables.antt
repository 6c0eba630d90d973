-- The table of grades, looked up at each rank and at each byte.
use Rattle.std.proofs.Common.{◌≡◌, ℕ, ◌+◌, ◌-◌, ◌<◌, Bool, true, false, cond, eqb, ltb, Option, Some, None, slice_get, refl, ap, sym, ◌∙◌, arith}
use Rattle.std.proofs.lemmas.Bool.Decides.{nat_tests}
use Rattle.uu_names.specs.Grade.{rank_of, grade_bytes}
use Rattle.uu_names.proofs.Basics.{all_below-at}

abbrev same : Option ℕ → Option ℕ → Bool
same None None = true
same (Some a) (Some b) = eqb a b
same _ _ = false

same-true : (a b : Option ℕ) → same a b ≡ true → a ≡ b
same-true None None e = refl
same-true (Some a) (Some b) e = ap Some (grind (arith, nat_tests))
same-true None (Some b) e = cc
same-true (Some a) None e = cc

-- the letter of a rank, by three ranges
abbrev pub letter_at : ℕ → ℕ
letter_at rank = cond (ltb rank 10) (48 + rank) (cond (ltb rank 36) (65 + (rank - 10)) (97 + (rank - 36)))

-- the rank of a byte, by three ranges
abbrev pub rank_at : ℕ → Option ℕ
rank_at byte = cond (ltb byte 48) None (cond (ltb byte 58) (Some (byte - 48)) (cond (ltb byte 65) None (cond (ltb byte 91) (Some (byte - 65 + 10)) (cond (ltb byte 97) None (cond (ltb byte 123) (Some (byte - 97 + 36)) None)))))

pub grade_bytes_at : (rank : ℕ) → rank < 62 → slice_get grade_bytes rank ≡ Some (letter_at rank)
grade_bytes_at rank h = same-true _ _ (all_below-at (λ k. same (slice_get grade_bytes k) (Some (letter_at k))) 62 refl rank h)

pub rank_of_at : (byte : ℕ) → byte < 256 → rank_of byte ≡ rank_at byte
rank_of_at byte h = same-true _ _ (all_below-at (λ k. same (rank_of k) (rank_at k)) 256 refl byte h)

-- the same, if the rank has another name too
pub grade_bytes_is : (rank value byte : ℕ) → rank ≡ value → rank < 62 → byte ≡ letter_at rank → slice_get grade_bytes value ≡ Some byte
grade_bytes_is rank value byte e h is = ap (slice_get grade_bytes) (sym e) ∙ grade_bytes_at rank h ∙ ap Some (sym is)

pub rank_of_letter : (rank value byte : ℕ) → rank ≡ value → rank < 62 → byte ≡ letter_at rank → rank_of byte ≡ Some value
rank_of_letter rank value byte e h is =
    let fits : byte < 256 = grind (arith, nat_tests) in
    let reads : rank_at byte ≡ Some rank = ap rank_at is ∙ same-true _ _ (all_below-at (λ k. same (rank_at (letter_at k)) (Some k)) 62 refl rank h) in
    rank_of_at byte fits ∙ reads ∙ ap Some e
