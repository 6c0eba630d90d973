-- The lines of the log for the lines of an answer.
use Rattle.std.proofs.Common.{◌≡◌, ◌∙◌, ◌==◌, if◌then◌else◌, ap, refl, ℕ, Bool, true, false, List, [], ◌∷◌, ◌++◌, Result, Ok, Err, length, map, sym}
use Rattle.std.specs.Prelude.{IfOk}
use Rattle.std.specs.List.{flat_map}
use Rattle.uu_report.specs.declared.logged.Change.{Change}
use Rattle.uu_report.specs.Logs.{answered_lines, first_line, lines_of, one_lines, part_lines, parts_lines, words_of}

-- the texts of values that are seen otherwise
pub mapped : {A B : Type 0} (text : B → List ℕ) (seen : A → B) (xs : List A) → flat_map text (map seen xs) ≡ flat_map (λ x. text (seen x)) xs
mapped text seen [] = refl
mapped text seen (x ∷ xs) = ap (λ t. text (seen x) ++ t) (mapped text seen xs)

-- what follows from a property of a value
pub if_ok : {V E : Type 0} (P Q : V → Type 0) (r : Result V E) → ((v : V) → P v → Q v) → IfOk r P → IfOk r Q
if_ok P Q (Ok v) follows is = follows v is
if_ok P Q (Err e) follows is = tt

module _ (moment : List ℕ) (it : Change) (answer : List ℕ) (lines : List (List ℕ)) (parts : List ℕ) (cut : lines ≡ lines_of answer)
    (all : parts ≡ flat_map (part_lines moment it it.form) lines) where
  same : parts ≡ parts_lines moment it answer
  same = all ∙ ap (flat_map (part_lines moment it it.form)) cut

  -- the lines of the parts, if there are any
  pub of_parts : (length parts == 0) ≡ false → parts ≡ answered_lines moment it answer
  of_parts some =
      let is : (length (parts_lines moment it answer) == 0) ≡ false = ap (λ l. length l == 0) (sym same) ∙ some in
      same ∙ ap (λ (b : Bool). if b then one_lines moment it (words_of (first_line it.form (lines_of answer))) else parts_lines moment it answer) (sym is)

  -- or else those of the line for the whole
  pub of_first : (length parts == 0) ≡ true → (words : List (List ℕ)) (text : List ℕ) → words ≡ words_of (first_line it.form lines) → text ≡ one_lines moment it words
      → text ≡ answered_lines moment it answer
  of_first none words text split one =
      let is : (length (parts_lines moment it answer) == 0) ≡ true = ap (λ l. length l == 0) (sym same) ∙ none in
      one ∙ ap (one_lines moment it) (split ∙ ap (λ l. words_of (first_line it.form l)) cut)
      ∙ ap (λ (b : Bool). if b then one_lines moment it (words_of (first_line it.form (lines_of answer))) else parts_lines moment it answer) (sym is)
