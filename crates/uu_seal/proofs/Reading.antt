-- The line of a piece.
use Rattle.std.proofs.Common.{◌≡◌, ◌∙◌, ap, sym, refl, ℕ, ◌+◌, ◌<◌, ◌≤◌, ◌^◌, ◌==◌, Bool, true, not, cond, List, [], ◌∷◌, ◌++◌, codes, length, take, drop, append_assoc, length-append, arith}
use Rattle.std.specs.Fmt.{decimal}
use Rattle.std.specs.List.{list_all, position_or_len}
use Rattle.std.specs.Str.{IsAscii, IsUtf8}
use Rattle.std.specs.Str.Parse.{AllDigits}
use Rattle.std.proofs.lemmas.Bool.{and_from, and_parts}
use Rattle.std.proofs.lemmas.Bool.Decides.{nat_tests}
use Rattle.std.proofs.lemmas.Fmt.{decimal_is_IsNumeral}
use Rattle.std.proofs.lemmas.List.{drop_at, take_at}
use Rattle.std.proofs.lemmas.Str.{IsUtf8-from_ascii}
use Rattle.std.proofs.lemmas.Str.Ascii.{IsAscii-cons, IsAscii-nil}
use Rattle.std.proofs.lemmas.Str.Parse.{digit_from_value}
use Rattle.hex.specs.Hex.{encode_lower, lower_digits}
use Rattle.hex.proofs.HexLemmas.{length-encode_with}
use Rattle.uu_seal.specs.Texts.{IsPiece, piece_text}

-- ---- digits

abbrev pub is_space : ℕ → Bool
is_space byte = byte == 32

abbrev pub is_no_space : ℕ → Bool
is_no_space byte = not (byte == 32)

digit_is_no_space : (c : ℕ) → 48 ≤ c → c ≤ 57 → is_no_space c ≡ true
digit_is_no_space c low high = grind (arith, nat_tests)

no_spaces : (digits : List ℕ) → AllDigits 10 digits → list_all is_no_space digits ≡ true
no_spaces [] all = refl
no_spaces (c ∷ digits) all =
    let range = digit_from_value c all.0 in and_from (is_no_space c) (list_all is_no_space digits) (digit_is_no_space c (omega arith) (omega arith)) (no_spaces digits all.1)

digits_are_ascii : (digits : List ℕ) → AllDigits 10 digits → IsAscii digits
digits_are_ascii [] all = IsAscii-nil
digits_are_ascii (c ∷ digits) all = let range = digit_from_value c all.0 in IsAscii-cons c digits (omega arith) (digits_are_ascii digits all.1)

pub decimal_is_utf8 : (n : ℕ) → n < 2 ^ 64 → IsUtf8 (decimal n)
decimal_is_utf8 n small = IsUtf8-from_ascii (decimal n) (digits_are_ascii (decimal n) (decimal_is_IsNumeral n small).0.1)

-- the first space is behind them
space_behind : (digits behind : List ℕ) → list_all is_no_space digits ≡ true → position_or_len is_space (digits ++ 32 ∷ behind) ≡ length digits
space_behind [] behind none = refl
space_behind (c ∷ digits) behind none =
    let parts = and_parts (is_no_space c) (list_all is_no_space digits) none in
    let more = space_behind digits behind parts.1 in
    ap (λ (b : Bool). cond b (1 + position_or_len is_space (digits ++ 32 ∷ behind)) 0) parts.0 ∙ omega (arith, more)

pub space_at : (n : ℕ) (line behind : List ℕ) → n < 2 ^ 64 → line ≡ decimal n ++ 32 ∷ behind → position_or_len is_space line ≡ length (decimal n)
space_at n line behind small is = ap (position_or_len is_space) is ∙ space_behind (decimal n) behind (no_spaces (decimal n) (decimal_is_IsNumeral n small).0.1)

-- ---- two beginnings of one text

pub same_fronts : (a b x y : List ℕ) → length a ≡ length b → a ++ x ≡ b ++ y → (a ≡ b) × (x ≡ y)
same_fronts [] [] x y same e = (refl, e)
same_fronts [] (d ∷ b) x y same e = absurd (omega arith)
same_fronts (c ∷ a) [] x y same e = absurd (omega arith)
same_fronts (c ∷ a) (d ∷ b) x y same e =
    let first : c ≡ d = cc in
    let more = same_fronts a b x y (omega arith) cc in
    (ap (λ h. h ∷ a) first ∙ ap (λ t. d ∷ t) more.0, more.1)

-- two numerals, each before a space
same_numbers : (n m : ℕ) (x y : List ℕ) → n < 2 ^ 64 → m < 2 ^ 64 → decimal n ++ 32 ∷ x ≡ decimal m ++ 32 ∷ y → (n ≡ m) × (x ≡ y)
same_numbers n m x y small also e =
    let long : length (decimal n) ≡ length (decimal m) = sym (space_at n (decimal n ++ 32 ∷ x) x small refl) ∙ space_at m (decimal n ++ 32 ∷ x) y also e in
    let parts = same_fronts (decimal n) (decimal m) (32 ∷ x) (32 ∷ y) long e in
    let one = (decimal_is_IsNumeral n small).1 in
    let other = (decimal_is_IsNumeral m also).1 in (cc, cc)

-- ---- pieces

-- what comes after the word, after the space, and after the line
abbrev pub behind_digits : List ℕ → List ℕ → List ℕ → List ℕ
behind_digits tag piece after = 32 ∷ (encode_lower tag ++ 10 ∷ (piece ++ 10 ∷ after))

pub piece_is : (tag piece after : List ℕ) → piece_text tag piece ++ after ≡ codes "piece " ++ (decimal (length piece) ++ behind_digits tag piece after)
piece_is tag piece after =
    let inner : (encode_lower tag ++ 10 ∷ (piece ++ 10 ∷ [])) ++ after ≡ encode_lower tag ++ 10 ∷ (piece ++ 10 ∷ after) =
    append_assoc (encode_lower tag) (10 ∷ (piece ++ 10 ∷ [])) after ∙ ap (λ t. encode_lower tag ++ 10 ∷ t) (append_assoc piece (10 ∷ []) after) in
    ap (λ t. codes "piece " ++ t) (append_assoc (decimal (length piece)) (32 ∷ (encode_lower tag ++ 10 ∷ (piece ++ 10 ∷ []))) after ∙ ap (λ t. decimal (length piece) ++ 32 ∷ t) inner)

pub line_is : (text line tag piece after : List ℕ) → text ≡ piece_text tag piece ++ after → line ≡ drop 6 text → line ≡ decimal (length piece) ++ behind_digits tag piece after
line_is text line tag piece after is of_line = of_line ∙ ap (drop 6) (is ∙ piece_is tag piece after)

digits_long : (tag : List ℕ) → length tag ≡ 32 → length (encode_lower tag) ≡ 64
digits_long tag long = let twice = length-encode_with lower_digits tag in omega arith

-- the line's end
line_end : (tag : List ℕ) → length tag ≡ 32 → length (32 ∷ (encode_lower tag ++ 10 ∷ [])) ≡ 66
line_end tag long = let digits = digits_long tag long in omega (arith, length-append {A = ℕ} (encode_lower tag) (10 ∷ []))

split_end : (tag piece after : List ℕ) → behind_digits tag piece after ≡ (32 ∷ (encode_lower tag ++ 10 ∷ [])) ++ (piece ++ 10 ∷ after)
split_end tag piece after = ap (λ t. 32 ∷ t) (sym (append_assoc (encode_lower tag) (10 ∷ []) (piece ++ 10 ∷ after)))

pub at_tag : (line on tag piece after : List ℕ) (digits : ℕ) → line ≡ decimal (length piece) ++ behind_digits tag piece after → digits ≡ length (decimal (length piece)) → on ≡ drop digits line → on ≡ behind_digits tag piece after
at_tag line on tag piece after digits is of_digits of_on = of_on ∙ ap (drop digits) is ∙ drop_at (decimal (length piece)) (behind_digits tag piece after) digits (sym of_digits)

pub at_bytes : (on behind tag piece after : List ℕ) → length tag ≡ 32 → on ≡ behind_digits tag piece after → behind ≡ drop 66 on → behind ≡ piece ++ 10 ∷ after
at_bytes on behind tag piece after long is of_behind =
    of_behind ∙ ap (drop 66) (is ∙ split_end tag piece after) ∙ drop_at (32 ∷ (encode_lower tag ++ 10 ∷ [])) (piece ++ 10 ∷ after) 66 (line_end tag long)

pub long_enough : (on tag piece after : List ℕ) → length tag ≡ 32 → on ≡ behind_digits tag piece after → 66 ≤ length on
long_enough on tag piece after long is =
    omega (arith, ap length (is ∙ split_end tag piece after), line_end tag long, length-append {A = ℕ} (32 ∷ (encode_lower tag ++ 10 ∷ [])) (piece ++ 10 ∷ after))

pub bytes_are : (behind found piece after : List ℕ) (size : ℕ) → behind ≡ piece ++ 10 ∷ after → size ≡ length piece → found ≡ take size behind → found ≡ piece
bytes_are behind found piece after size is of_size of_found = of_found ∙ ap (take size) is ∙ take_at piece (10 ∷ after) size (sym of_size)

-- a text begins with one piece at most, if the piece says its tag
pub same_pieces : (f : List ℕ → List ℕ) → ((piece : List ℕ) → length (f piece) ≡ 32) → (p q x y : List ℕ) → IsPiece p → IsPiece q → piece_text (f p) p ++ x ≡ piece_text (f q) q ++ y → (p ≡ q) × (x ≡ y)
same_pieces f long p q x y is_p is_q e =
    let small = is_p.most in
    let also = is_q.most in
    let whole : codes "piece " ++ (decimal (length p) ++ behind_digits (f p) p x) ≡ codes "piece " ++ (decimal (length q) ++ behind_digits (f q) q y) = sym (piece_is (f p) p x) ∙ e ∙ piece_is (f q) q y in
    let lines : decimal (length p) ++ behind_digits (f p) p x ≡ decimal (length q) ++ behind_digits (f q) q y = ap (drop 6) whole in
    let sizes = same_numbers (length p) (length q) (encode_lower (f p) ++ 10 ∷ (p ++ 10 ∷ x)) (encode_lower (f q) ++ 10 ∷ (q ++ 10 ∷ y)) (omega arith) (omega arith) lines in
    let tags = same_fronts (encode_lower (f p)) (encode_lower (f q)) (10 ∷ (p ++ 10 ∷ x)) (10 ∷ (q ++ 10 ∷ y)) (digits_long (f p) (long p) ∙ sym (digits_long (f q) (long q))) sizes.1 in
    let bytes = same_fronts p q (10 ∷ x) (10 ∷ y) sizes.0 (ap (drop 1) tags.1) in
    (bytes.0, ap (drop 1) bytes.1)

pub numeral_is : (n : ℕ) (line numeral behind : List ℕ) (digits : ℕ) → digits ≡ length (decimal n) → line ≡ decimal n ++ 32 ∷ behind → numeral ≡ take digits line → numeral ≡ decimal n
numeral_is n line numeral behind digits of_digits is of_numeral = of_numeral ∙ ap (take digits) is ∙ take_at (decimal n) (32 ∷ behind) digits (sym of_digits)

pub as_long : (behind piece after : List ℕ) → behind ≡ piece ++ 10 ∷ after → length piece ≤ length behind
as_long behind piece after is = omega (arith, ap length is, length-append {A = ℕ} piece (10 ∷ after))
