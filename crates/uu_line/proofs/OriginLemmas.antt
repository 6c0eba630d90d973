-- The reading of `SYSTEM!NUMBER[!WORD]`.
use Rattle.std.proofs.Common.{◌≡◌, ◌∙◌, ◌^◌, ◌<◌, ◌≤◌, ◌==◌, ◌&&◌, ap, refl, sym, subst, Bool, true, false, cond, not, ◌+◌, ℕ, List, [], ◌∷◌, drop, length, Some, None, arith}
use Rattle.std.specs.Prelude.{nat_le, nat_lt, slice_index}
use Rattle.std.specs.List.{list_all, list_any, position_or_len}
use Rattle.std.specs.Char.{digit_value}
use Rattle.std.specs.Str.Parse.{AllDigits, IsNumeral, digits_value, without_leading_plus}
use Rattle.std.proofs.lemmas.Bool.{ltb-true, lt-ltb, le-leb, leb-true}
use Rattle.uu_names.specs.Path.{is_bang}
use Rattle.clap.specs.ValueTests.{is_numeral}
use Rattle.clap.specs.Words.{Text}
use Rattle.clap.proofs.WalkLemmas.{both}
use Rattle.uu_line.specs.Lines.{after_bang, handed_number}

digits_pass : (ds : List ℕ) → AllDigits 10 ds → list_all (λ d. nat_lt (digit_value d) 10) ds ≡ true
digits_pass [] h = refl
digits_pass (d ∷ ds) h = rw (lt-ltb (digit_value d) 10 h.0) (digits_pass ds h.1)

digits_are : (ds : List ℕ) → list_all (λ d. nat_lt (digit_value d) 10) ds ≡ true → AllDigits 10 ds
digits_are [] e = tt
digits_are (d ∷ ds) e =
    let parts = both _ _ e in
    (ltb-true _ _ parts.0, digits_are ds parts.1)

-- a text without a plus is read as it is
plain : (text : List ℕ) → (slice_index text 0 == 43) ≡ false → without_leading_plus text ≡ text
plain text none = ap (λ b. drop (cond b 1 0) text) none

-- the number of a text without a plus that was read
pub handed_is : (text : List ℕ) (number : ℕ) → (slice_index text 0 == 43) ≡ false
    → (IsNumeral 10 (without_leading_plus text) × (digits_value 10 (without_leading_plus text) < 2 ^ 32)) × (number ≡ digits_value 10 (without_leading_plus text))
    → 1 ≤ number → number ≤ 4_294_967_294 → Some number ≡ handed_number text
handed_is text number none read low high =
    let numeral : IsNumeral 10 text = subst (IsNumeral 10) (plain text none) read.0.0 in
    let value : number ≡ digits_value 10 text = read.1 ∙ ap (digits_value 10) (plain text none) in
    subst (λ n. Some number ≡ cond (is_numeral text && nat_le 1 n && nat_le n 4_294_967_294) (Some n) None) value
    (rw (lt-ltb _ _ numeral.0, digits_pass _ numeral.1, le-leb 1 number low, le-leb number 4_294_967_294 high) refl)

-- a text without a plus that is not read has no number
pub handed_not : (text : List ℕ) → (slice_index text 0 == 43) ≡ false
    → ¬ (IsNumeral 10 (without_leading_plus text) × (digits_value 10 (without_leading_plus text) < 2 ^ 32)) → None ≡ handed_number text
handed_not text none unread = go (is_numeral text && nat_le 1 (digits_value 10 text) && nat_le (digits_value 10 text) 4_294_967_294) refl
  where
    go : (b : Bool) → (is_numeral text && nat_le 1 (digits_value 10 text) && nat_le (digits_value 10 text) 4_294_967_294) ≡ b → None ≡ cond b (Some (digits_value 10 text)) None
    go false e = refl
    go true e =
        let parts = both _ _ e in
        let digits = both _ _ (both _ _ parts.0).0 in
        let high : digits_value 10 text ≤ 4_294_967_294 = leb-true _ _ parts.1 in
        absurd (unread (subst (λ t. IsNumeral 10 t × (digits_value 10 t < 2 ^ 32)) (sym (plain text none)) ((ltb-true _ _ digits.0, digits_are _ digits.1), omega (arith, high))))

-- a text without a `!` has nothing after one
lacks : (p : ℕ → Bool) (bs : List ℕ) → position_or_len p bs ≡ length bs → list_any p bs ≡ false
lacks p [] e = refl
lacks p (b ∷ bs) e = go (p b) refl (lacks p bs)
  where
    go : (t : Bool) → p b ≡ t → (position_or_len p bs ≡ length bs → list_any p bs ≡ false) → list_any p (b ∷ bs) ≡ false
    go true is later = absurd (omega (arith, ap (λ t. cond (not t) (1 + position_or_len p bs) 0) (sym is) ∙ e))
    go false is later = rw is (later (omega (arith, ap (λ t. cond (not t) (1 + position_or_len p bs) 0) (sym is) ∙ e)))

pub no_bang : (text : Text) → position_or_len is_bang text ≡ length text → None ≡ after_bang text
no_bang text e = rw (lacks is_bang text e) refl
