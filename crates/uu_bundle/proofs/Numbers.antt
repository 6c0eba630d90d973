-- Words read as values.
use Rattle.std.proofs.Common.{◌≡◌, ◌≢◌, ◌∙◌, ◌<◌, ◌≤◌, ◌^◌, ap, sym, refl, arith, ℕ, List, [], ◌∷◌, Option, Some, None, Result, Ok, Err, subst, length, get_or, map, All, IsTrue, Bor, ◌⊎◌, inl, inr}
use Rattle.std.proofs.lemmas.List.{get_or-map, length-map}
use Rattle.std.proofs.lemmas.List.Elements.{All-get_or}
use Rattle.std.proofs.lemmas.Fmt.{decimal_injective}
use Rattle.std.specs.Option.{SomeIff, ok_or}
use Rattle.std.specs.Result.{OkIff, result_ok}
use Rattle.std.specs.Fmt.{decimal}
use Rattle.uu_names.specs.Name.{is_word}
use Rattle.uu_names.specs.Grade.{grade_count, rank_of}
use Rattle.uu_names.specs.declared.fault.NameFault.{NameFault}
use Rattle.uu_names.specs.declared.fault.NameFault.TheVariants.{BadGrade}
use Rattle.uu_bundle.specs.Internal.Forms.{IsReadAs}
use Rattle.uu_bundle.specs.Texts.{grade_text}
use Rattle.uu_bundle.proofs.Plain.{grade_is, letter_is}

-- ---- numbers

-- a number below a limit
pub narrowed : (limit n : ℕ) (text : List ℕ) (o : Option ℕ) → limit ≤ 2 ^ 64 → (text ≡ decimal n) × (n < 2 ^ 64) → SomeIff o (n < limit) n → IsReadAs (λ m. m < limit) decimal text o
narrowed limit n text (Some m) fits is iff = (is.0 ∙ ap decimal (sym iff.1), subst (λ k. k < limit) (sym iff.1) iff.0)
narrowed limit n text None fits is iff = λ m small same. iff (subst (λ k. k < limit) (decimal_injective m n (omega arith) is.1 (sym same ∙ is.0)) small)

pub counted : {E : Type 0} (n : ℕ) (text : List ℕ) (r : Result ℕ E) (o : Option ℕ) → (text ≡ decimal n) × (n < 2 ^ 64) → OkIff r (n < 2 ^ 32) n → o ≡ result_ok r → IsReadAs (λ m. m < 2 ^ 32) decimal text o
counted n text (Ok m) o is iff same = subst (IsReadAs (λ m. m < 2 ^ 32) decimal text) (sym same) (narrowed (2 ^ 32) n text (Some m) (omega arith) is iff)
counted n text (Err e) o is iff same = subst (IsReadAs (λ m. m < 2 ^ 32) decimal text) (sym same) (narrowed (2 ^ 32) n text None (omega arith) is iff)

-- a number within bounds
pub out_of_bounds : (text : List ℕ) (n least most : ℕ) → IsReadAs (λ m. m < 2 ^ 32) decimal text (Some n) → (n < least) ⊎ (most < n) → most < 2 ^ 32 → IsReadAs (λ m. (least ≤ m) × (m ≤ most)) decimal text None
out_of_bounds text n least most is out fits = λ m good same.
    let alike : m ≡ n = decimal_injective m n (omega arith) (omega (arith, is.1)) (sym same ∙ is.0) in
    elim out [ inl below ↦ omega arith | inr above ↦ omega arith ]

-- ---- grades

pub graded : (text bytes : List ℕ) (r : Result ℕ NameFault) (o : Option ℕ) → bytes ≡ text → length bytes ≡ 1 → r ≡ ok_or (rank_of (get_or bytes 0 0)) BadGrade → o ≡ result_ok r
    → IsReadAs (λ grade. grade < grade_count) grade_text text o
graded text [] r o is one read same = absurd (omega arith)
graded text (b ∷ c ∷ bytes) r o is one read same = absurd (omega arith)
graded text (b ∷ []) r o is one read same =
    subst (IsReadAs (λ grade. grade < grade_count) grade_text text) (sym (same ∙ ap result_ok read)) (by (rank_of b) refl)
  where
    by : (rank : Option ℕ) → rank_of b ≡ rank → IsReadAs (λ grade. grade < grade_count) grade_text text (result_ok (ok_or {E = NameFault} rank BadGrade))
    by (Some grade) at = let letter = letter_is b grade at in (sym is ∙ sym letter.0, letter.1)
    by None at = λ grade below written.
        let letter = grade_is grade below in
        let byte : b ∷ [] ≡ letter.0 ∷ [] = is ∙ written ∙ letter.1 in
        let alike : b ≡ letter.0 = cc in
        let found : None ≡ Some grade = sym at ∙ ap rank_of alike ∙ letter.3 in absurd (cc)

pub ungraded : (text bytes : List ℕ) → bytes ≡ text → length bytes ≢ 1 → (grade : ℕ) → grade < grade_count → text ≢ grade_text grade
ungraded text bytes is size grade below written = size (ap length (is ∙ written ∙ (grade_is grade below).1))

-- ---- words

-- one of the texts isn't a word
pub no_words : (texts : List (Bor (List ℕ))) (i : ℕ) (d : Bor (List ℕ)) (read : Option (List ℕ)) (words : List (List ℕ)) → i < length texts
    → IsReadAs (λ word. IsTrue (is_word word)) (λ word. word) (get_or texts i d).now read → read ≡ None → All (λ word. IsTrue (is_word word)) words → map (λ text. text.now) texts ≡ words → ⊥
no_words texts i d (Some word) words within reads none all is = absurd (cc)
no_words texts i d None words within reads none all is =
    let here : get_or words i [] ≡ (get_or texts i d).now = ap (λ ws. get_or ws i []) (sym is) ∙ get_or-map (λ (t : Bor (List ℕ)). t.now) texts i d [] within ∙ refl in
    reads (get_or words i []) (All-get_or (λ word. IsTrue (is_word word)) words i [] (omega (arith, ap length is, length-map texts (λ (t : Bor (List ℕ)). t.now))) all) (sym here)
