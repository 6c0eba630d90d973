-- Names, words and the text of words are ASCII.
use Rattle.std.proofs.Common.{◌≡◌, ◌<◌, ℕ, zero, suc, Bool, true, List, [], ◌∷◌, IsTrue, IsAscii, arith}
use Rattle.std.specs.List.{All, list_all, join_with_byte}
use Rattle.std.proofs.lemmas.Bool.{and_parts}
use Rattle.std.proofs.lemmas.List.Elements.{All-head, All-tail}
use Rattle.std.proofs.lemmas.Str.{IsAscii-append}
use Rattle.std.proofs.lemmas.Str.Ascii.{IsAscii-nil, IsAscii-cons}
use Rattle.std.specs.Prelude.{nat_le, length}
use Rattle.sqlite.specs.declared.types.Value.TheVariants.{Text}
use Rattle.sqlite.specs.Order.{Row, column}
use Rattle.uu_names.specs.Name.{is_word, is_word_byte, has_form}
use Rattle.uu_names.proofs.Basics.{word_byte_below}

all_ascii : (passes : ℕ → Bool) → ((b : ℕ) → passes b ≡ true → b < 128) → (text : List ℕ) → list_all passes text ≡ true → IsAscii text
all_ascii passes low [] h = IsAscii-nil
all_ascii passes low (b ∷ text) h = let it = and_parts (passes b) (list_all passes text) h in IsAscii-cons b text (low b it.0) (all_ascii passes low text it.1)

form_ascii : (passes : ℕ → Bool) → ((b : ℕ) → passes b ≡ true → b < 128) → (text : List ℕ) → has_form passes text ≡ true → IsAscii text
form_ascii passes low text h = all_ascii passes low text (and_parts (nat_le 1 (length text)) (list_all passes text) h).1

pub word_ascii : (word : List ℕ) → IsTrue (is_word word) → IsAscii word
word_ascii word h = form_ascii is_word_byte word_byte_below word (and_parts (has_form is_word_byte word) (nat_le (length word) 255) h).0

pub words_ascii : (words : List (List ℕ)) → All (λ word. IsTrue (is_word word)) words → IsAscii (join_with_byte 32 words)
words_ascii [] h = IsAscii-nil
words_ascii (word ∷ []) h = word_ascii word (All-head (λ w. IsTrue (is_word w)) word [] h)
words_ascii (word ∷ next ∷ words) h =
    IsAscii-append word (32 ∷ join_with_byte 32 (next ∷ words)) (word_ascii word (All-head (λ w. IsTrue (is_word w)) word (next ∷ words) h))
    (IsAscii-cons 32 (join_with_byte 32 (next ∷ words)) (omega arith) (words_ascii (next ∷ words) (All-tail (λ w. IsTrue (is_word w)) word (next ∷ words) h)))

-- a column that has a text is there
pub text_there : (row : Row) (at : ℕ) (t : List ℕ) → column row at ≡ Text t → at < length row
text_there [] at t h = absurd (cc)
text_there (v ∷ row) zero t h = omega arith
text_there (v ∷ row) (suc at) t h = let it = text_there row at t h in omega (arith, it)
