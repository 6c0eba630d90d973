-- The arguments of a command as one text.
use Rattle.std.proofs.Common.{◌≡◌, ◌≤◌, ◌<◌, ℕ, zero, suc, List, [], ◌∷◌, ◌++◌, length, take, refl, sym, ap, ◌∙◌, arith, append_assoc}
use Rattle.std.specs.List.{join_with_byte}

-- one word more at the end
pub joined_push : (words : List (List ℕ)) (last : List ℕ) → 1 ≤ length words → join_with_byte 32 (words ++ last ∷ []) ≡ join_with_byte 32 words ++ 32 ∷ last
joined_push [] last h = absurd (omega (arith, h))
joined_push (word ∷ []) last h = refl
joined_push (word ∷ next ∷ words) last h = ap (λ rest. word ++ 32 ∷ rest) (joined_push (next ∷ words) last (omega arith)) ∙ sym (append_assoc word (32 ∷ join_with_byte 32 (next ∷ words)) (32 ∷ last))

-- the first word
pub joined_first : (words : List (List ℕ)) (word : List ℕ) (i : ℕ) → i ≤ 0 → join_with_byte 32 (take i words ++ word ∷ []) ≡ join_with_byte 32 (take i words) ++ word
joined_first words word zero h = refl
joined_first words word (suc i) h = absurd (omega (arith, h))

-- a word after the first
pub joined_more : (words : List (List ℕ)) (word : List ℕ) (i : ℕ) → 1 ≤ i → i < length words → join_with_byte 32 (take i words ++ word ∷ []) ≡ (join_with_byte 32 (take i words) ++ 32 ∷ []) ++ word
joined_more [] word i some h = absurd (omega (arith, h))
joined_more (first ∷ words) word zero some h = absurd (omega (arith, some))
joined_more (first ∷ words) word (suc i) some h = joined_push (first ∷ take i words) word (omega arith) ∙ sym (append_assoc (join_with_byte 32 (first ∷ take i words)) (32 ∷ []) word)
