-- A text is cut one part at a time.
use Rattle.std.proofs.Common.{◌≡◌, ℕ, ◌+◌, ◌<◌, Bool, true, false, not, cond, List, [], ◌∷◌, ◌++◌, length, take, drop, Option, Some, None, option_map, option_and_then, refl, sym, ap, ◌∙◌, append_assoc, arith}
use Rattle.std.proofs.lemmas.List.{append-nil}
use Rattle.std.proofs.Math.Numerals.{one-add}
use Rattle.std.specs.List.{filter, onto_first, position_or_len}
use Rattle.uu_map.specs.Statement.{cut, is_comma, all_blank, elements}
use Rattle.uu_map.specs.Internal.StatementReading.{each_of, list_of}

cut_cons : (p : ℕ → Bool) (b : ℕ) (bs : List ℕ) → cut p (b ∷ bs) ≡ take (position_or_len p (b ∷ bs)) (b ∷ bs) ∷ cut p (drop 1 (drop (position_or_len p (b ∷ bs)) (b ∷ bs)))
cut_cons p b [] = go (p b)
  where
    go : (t : Bool) → cond t ([] ∷ []) (onto_first b []) ≡ take (cond (not t) (1 + 0) 0) (b ∷ []) ∷ cut p (drop 1 (drop (cond (not t) (1 + 0) 0) (b ∷ [])))
    go true = refl
    go false = refl
cut_cons p b (c ∷ cs) = go (p b) (cut_cons p c cs)
  where
    go : (t : Bool) → cut p (c ∷ cs) ≡ take (position_or_len p (c ∷ cs)) (c ∷ cs) ∷ cut p (drop 1 (drop (position_or_len p (c ∷ cs)) (c ∷ cs))) → cond t ([] ∷ cut p (c ∷ cs)) (onto_first b (cut p (c ∷ cs))) ≡ take (cond (not t) (1 + position_or_len p (c ∷ cs)) 0) (b ∷ c ∷ cs) ∷ cut p (drop 1 (drop (cond (not t) (1 + position_or_len p (c ∷ cs)) 0) (b ∷ c ∷ cs)))
    go true ih = refl
    go false ih = ap (onto_first b) ih ∙ ap (λ n. take n (b ∷ c ∷ cs) ∷ cut p (drop 1 (drop n (b ∷ c ∷ cs)))) (sym (one-add (position_or_len p (c ∷ cs))))

pub cut_first : (p : ℕ → Bool) (xs : List ℕ) → 0 < length xs → cut p xs ≡ take (position_or_len p xs) xs ∷ cut p (drop 1 (drop (position_or_len p xs) xs))
cut_first p [] some = absurd (omega arith)
cut_first p (b ∷ bs) some = cut_cons p b bs

pub cut_end : (p : ℕ → Bool) (r : List ℕ) → length r < 1 → cut p (drop 1 r) ≡ cut p r
cut_end p [] e = refl
cut_end p (b ∷ bs) e = absurd (omega arith)

-- ---- a list, one part at a time

module _ {Y : Type 0} (read : List ℕ → Option Y) (text part after : List ℕ) (e : cut is_comma text ≡ part ∷ cut is_comma after) where
  pub list_blank : all_blank part ≡ true → list_of read text ≡ list_of read after
  unfolding list_of
  list_blank blank = ap (λ ps. each_of read (filter (λ x. not (all_blank x)) ps)) e ∙ ap (λ b. each_of read (cond (not b) (part ∷ elements after) (elements after))) blank

  list_part : all_blank part ≡ false → list_of read text ≡ option_and_then (λ y. option_map (λ ys. y ∷ ys) (list_of read after)) (read part)
  unfolding list_of
  list_part blank = ap (λ ps. each_of read (filter (λ x. not (all_blank x)) ps)) e ∙ ap (λ b. each_of read (cond (not b) (part ∷ elements after) (elements after))) blank

  pub list_refused : all_blank part ≡ false → read part ≡ None → list_of read text ≡ None
  list_refused blank none = list_part blank ∙ ap (λ o. option_and_then (λ y. option_map (λ ys. y ∷ ys) (list_of read after)) o) none

  pub list_more : (front : List Y) (y : Y) → all_blank part ≡ false → read part ≡ Some y → option_map (λ more. (front ++ y ∷ []) ++ more) (list_of read after) ≡ option_map (λ more. front ++ more) (list_of read text)
  list_more front y blank some = go (list_of read after) ∙ sym (ap (option_map (λ more. front ++ more)) (list_part blank ∙ ap (λ o. option_and_then (λ y. option_map (λ ys. y ∷ ys) (list_of read after)) o) some))
    where
      go : (o : Option (List Y)) → option_map (λ more. (front ++ y ∷ []) ++ more) o ≡ option_map (λ more. front ++ more) (option_map (λ ys. y ∷ ys) o)
      go None = refl
      go (Some ys) = ap Some (append_assoc front (y ∷ []) ys)

pub list_end : {Y : Type 0} (read : List ℕ → Option Y) (front : List Y) (text : List ℕ) → length text ≡ 0 → option_map (λ more. front ++ more) (list_of read text) ≡ Some front
unfolding list_of
list_end read front [] e = ap Some (append-nil front)
list_end read front (b ∷ bs) e = absurd (omega arith)
