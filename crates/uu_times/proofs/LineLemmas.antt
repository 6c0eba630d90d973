-- Lines cut, joined and freed of comments.
use Rattle.std.proofs.Common.{◌≡◌, ℕ, suc, ◌+◌, ◌<◌, true, false, ◌&&◌, List, [], ◌∷◌, ◌++◌, length, drop, get_or, inl, inr, refl, ap, sym, ◌∙◌, arith, drop-cons, append_assoc, append-nil, nat_lt}
use Rattle.std.proofs.lemmas.Bool.{cond_both, cond-true, cond-false, cases_Bool, and_from, both_ways, lt-ltb}
use Rattle.std.specs.Str.{byte}
use Rattle.std.specs.Str.Lines.{lines}
use Rattle.uu_times.specs.Lines.{Numbered, is_continued, without_last, kept_part, joined_onto, joined, uncommented}

-- a front and a line joined to the rest one after the other
joined_onto_twice : (number other : ℕ) (front line : List ℕ) (rest : List Numbered) → joined_onto number front (joined_onto other line rest) ≡ joined_onto number (front ++ line) rest
joined_onto_twice number other front line [] = refl
joined_onto_twice number other front line (next ∷ more) =
    ap (λ text. let first : Numbered = record { number = number; line = text } in first ∷ more) (sym (append_assoc front line next.line))

-- joined lines have the number of the first
pub joined_start : (number : ℕ) (line : List ℕ) (rest : List (List ℕ)) → joined_onto number [] (joined (number + 0) (line ∷ rest)) ≡ joined number (line ∷ rest)
unfolding joined
joined_start number line rest =
    ap (λ n. joined_onto number [] (joined n (line ∷ rest))) (omega arith)
    ∙ cond_both (is_continued line) (joined_onto number (without_last line) (joined (number + 1) rest)) (record { number = number; line = line } ∷ joined (number + 1) rest)
    (λ all. joined_onto number [] all ≡ all)
    (λ on. joined_onto_twice number number [] (without_last line) (joined (number + 1) rest))
    (λ whole. refl)

-- a line that goes on
pub joined-more : (number count : ℕ) (front line : List ℕ) (rest : List (List ℕ)) → is_continued line ≡ true
    → joined_onto number (front ++ kept_part line) (joined (number + (count + 1)) rest) ≡ joined_onto number front (joined (number + count) (line ∷ rest))
unfolding joined
joined-more number count front line rest on =
    ap (λ kept. joined_onto number (front ++ kept) (joined (number + (count + 1)) rest)) (cond-true (is_continued line) (without_last line) line on)
    ∙ ap (λ n. joined_onto number (front ++ without_last line) (joined n rest)) (omega arith)
    ∙ sym (joined_onto_twice number (number + count) front (without_last line) (joined (number + count + 1) rest))
    ∙ ap (joined_onto number front) (sym (cond-true (is_continued line) (joined_onto (number + count) (without_last line) (joined (number + count + 1) rest)) (record { number = number + count; line = line } ∷ joined (number + count + 1) rest) on))

-- and one that doesn't, or has nothing after it
pub joined_last : (number count : ℕ) (front line : List ℕ) (rest : List (List ℕ)) → (is_continued line ≡ true → rest ≡ [])
    → joined_onto number front (joined (number + count) (line ∷ rest)) ≡ record { number = number; line = front ++ kept_part line } ∷ joined (number + (count + 1)) rest
unfolding joined
joined_last number count front line rest last =
    elim (cases_Bool (is_continued line)) [
      | inl on ↦
          ap (joined_onto number front) (cond-true (is_continued line) (joined_onto (number + count) (without_last line) (joined (number + count + 1) rest)) (record { number = number + count; line = line } ∷ joined (number + count + 1) rest) on)
          ∙ ap (λ (r : List (List ℕ)). joined_onto number front (joined_onto (number + count) (without_last line) (joined (number + count + 1) r))) (last on)
          ∙ ap (λ kept. let first : Numbered = record { number = number; line = front ++ kept } in let none : List Numbered = [] in first ∷ none) (sym (cond-true (is_continued line) (without_last line) line on))
          ∙ ap (λ (r : List (List ℕ)). let first : Numbered = record { number = number; line = front ++ kept_part line } in first ∷ joined (number + (count + 1)) r) (sym (last on))
      | inr whole ↦
          ap (joined_onto number front) (cond-false (is_continued line) (joined_onto (number + count) (without_last line) (joined (number + count + 1) rest)) (record { number = number + count; line = line } ∷ joined (number + count + 1) rest) whole)
          ∙ ap (λ n. let first : Numbered = record { number = number; line = front ++ line } in first ∷ joined n rest) (omega arith)
          ∙ ap (λ kept. let first : Numbered = record { number = number; line = front ++ kept } in first ∷ joined (number + (count + 1)) rest) (sym (cond-false (is_continued line) (without_last line) line whole))
    ]

-- nothing is left of a comment
nothing-after : (rest : List ℕ) → uncommented (byte "#" ∷ rest) ≡ []
nothing-after [] = refl
nothing-after (next ∷ more) = refl

-- a comment ends the line
pub uncommented_ends : (clean line : List ℕ) (at : ℕ) (all : List ℕ) → at < length line → get_or line at 0 ≡ byte "#" → clean ++ uncommented (drop at line) ≡ all → clean ≡ all
uncommented_ends clean line at all below hash whole =
    sym (append-nil clean)
    ∙ ap (λ rest. clean ++ rest) (sym (ap uncommented (drop-cons line at 0 below ∙ ap (λ x. x ∷ drop (suc at) line) hash) ∙ nothing-after (drop (suc at) line)))
    ∙ whole

-- a line that isn't joined, though it goes on, has nothing after it
pub free_last : (line rest : List ℕ) → (is_continued line && nat_lt 0 (length rest)) ≡ false → is_continued line ≡ true → lines rest ≡ []
free_last line [] free on = refl
free_last line (letter ∷ letters) free on =
    absurd (both_ways (is_continued line && nat_lt 0 (length (letter ∷ letters))) free (and_from (is_continued line) (nat_lt 0 (length (letter ∷ letters))) on (lt-ltb 0 (length (letter ∷ letters)) (omega arith))))
