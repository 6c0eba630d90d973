-- A text that begins with a word, in any case of letters.
use Rattle.std.proofs.Common.{◌≡◌, ℕ, ◌<◌, false, List, [], ◌∷◌, length, take, refl, ap, sym, ◌∙◌, arith, nat_eq}
use Rattle.std.proofs.lemmas.List.{take-map, length-map}
use Rattle.std.proofs.lemmas.Bool.{and_right}
use Rattle.std.specs.Char.{to_ascii_lowercase}
use Rattle.std.specs.List.{starts_with}
use Rattle.std.specs.Str.{bytes_eq}
use Rattle.uu_times.specs.Grammar.{lower}

-- the front is compared in lower case
pub front_lower : (text word : List ℕ) → bytes_eq (lower word) (lower (take (length word) text)) ≡ starts_with nat_eq (lower text) (lower word)
front_lower text word =
    ap (bytes_eq (lower word)) (sym (take-map to_ascii_lowercase (length word) text) ∙ ap (λ n. take n (lower text)) (sym (length-map word to_ascii_lowercase)))

-- a text that is shorter than the word
pub short_lower : (text word : List ℕ) → length text < length word → starts_with nat_eq (lower text) (lower word) ≡ false
short_lower text [] short = absurd (omega arith)
short_lower [] (w ∷ ws) short = refl
short_lower (t ∷ ts) (w ∷ ws) short = and_right (nat_eq (to_ascii_lowercase w) (to_ascii_lowercase t)) (starts_with nat_eq (lower ts) (lower ws)) (short_lower ts ws (omega arith))
