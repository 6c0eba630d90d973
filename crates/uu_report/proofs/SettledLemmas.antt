-- The lines of what a neighbour has, with one number more.
use Rattle.std.proofs.Common.{arith, ◌≡◌, ◌∙◌, ap, ℕ, ◌+◌, ◌<◌, List, [], ◌∷◌, ◌++◌, refl, sym, append_assoc, append-nil, length, map}
use Rattle.std.proofs.lemmas.List.{length-append, map-append}
use Rattle.std.proofs.lemmas.List.Concat.{flat_map-append}
use Rattle.std.proofs.lemmas.List.Elements.{All-append, All-cons}
use Rattle.std.proofs.lemmas.List.Folds.{concat-append}
use Rattle.std.specs.Fmt.{decimal}
use Rattle.std.specs.List.{concat, flat_map}
use Rattle.uu_core.specs.State.{most_done}
use Rattle.uu_report.specs.Internal.SettledLines.{AreBegun}
use Rattle.uu_report.specs.Reports.{AreSettledLines, settled_line, settled_words, spaced}
use Rattle.uu_report.proofs.ReportLemmas.{spaced-append}

-- no number yet
pub none_begun : (system text : List ℕ) → text ≡ system → AreBegun system [] 0 text
none_begun system text is = record {
  full = [];
  last = [];
  all = refl;
  full_have = λ k d within. absurd (omega (arith, within));
  last_has = refl;
  within = omega arith;
  some = λ many. absurd (omega (arith, many));
  text_is = is;
}

-- one more on the last line
pub number_begun : (system numbers : List ℕ) (count number : ℕ) (text more : List ℕ) → count < most_done → AreBegun system numbers count text
    → more ≡ text ++ 32 ∷ decimal number → AreBegun system (numbers ++ number ∷ []) (count + 1) more
number_begun system numbers count number text more room begun is = record {
  full = begun.full;
  last = begun.last ++ number ∷ [];
  all = ap (λ t. t ++ number ∷ []) begun.all ∙ append_assoc (concat begun.full) begun.last (number ∷ []);
  full_have = begun.full_have;
  last_has = ap (λ c. c + 1) begun.last_has ∙ sym (length-append begun.last (number ∷ []));
  within = omega (arith, room);
  some = λ many. omega (arith, length-append begun.last (number ∷ []));
  text_is = is ∙ ap (λ t. t ++ 32 ∷ decimal number) begun.text_is
      ∙ append_assoc (flat_map (settled_line system) begun.full) (settled_words system begun.last) (32 ∷ decimal number)
      ∙ ap (λ t. flat_map (settled_line system) begun.full ++ t) (words_with begun.last);
}
  where
    words_with : (last : List ℕ) → settled_words system last ++ 32 ∷ decimal number ≡ settled_words system (last ++ number ∷ [])
    words_with last =
        sym (ap (λ words. spaced (system ∷ words)) (map-append decimal last (number ∷ [])) ∙ spaced-append system (map decimal last) (decimal number))

-- and the first of a new line
pub line_begun : (system numbers : List ℕ) (count number : ℕ) (text more : List ℕ) → count ≡ most_done → AreBegun system numbers count text
    → more ≡ text ++ 10 ∷ (system ++ 32 ∷ decimal number) → AreBegun system (numbers ++ number ∷ []) 1 more
line_begun system numbers count number text more full begun is = record {
  full = begun.full ++ begun.last ∷ [];
  last = number ∷ [];
  all = ap (λ t. t ++ number ∷ []) (begun.all ∙ sym (concat-append begun.full (begun.last ∷ []) ∙ ap (λ t. concat begun.full ++ t) (append-nil begun.last)));
  full_have = All-append (λ (line : List ℕ). length line ≡ most_done) begun.full (begun.last ∷ []) begun.full_have
      (All-cons (λ (line : List ℕ). length line ≡ most_done) begun.last [] (sym begun.last_has ∙ full) (λ k d within. absurd (omega (arith, within))));
  last_has = refl;
  within = omega arith;
  some = λ many. omega arith;
  text_is = is ∙ ap (λ t. t ++ 10 ∷ (system ++ 32 ∷ decimal number)) begun.text_is
      ∙ whole (flat_map (settled_line system) begun.full) (settled_words system begun.last)
      ∙ ap (λ t. t ++ (system ++ 32 ∷ decimal number)) (sym (flat_map-append (settled_line system) begun.full (begun.last ∷ [])
      ∙ ap (λ t. flat_map (settled_line system) begun.full ++ t) (append-nil (settled_line system begun.last))));
}
  where
    whole : (front words : List ℕ) → (front ++ words) ++ 10 ∷ (system ++ 32 ∷ decimal number) ≡ (front ++ (words ++ 10 ∷ [])) ++ (system ++ 32 ∷ decimal number)
    whole front words = simp append_assoc refl

-- the last line ended
pub all_settled : (system numbers : List ℕ) (count : ℕ) (text report : List ℕ) → AreBegun system numbers count text → report ≡ text ++ 10 ∷ [] → AreSettledLines system numbers report
all_settled system numbers count text report begun is = record {
  full = begun.full;
  last = begun.last;
  all = begun.all;
  full_have = begun.full_have;
  last_has = omega (arith, begun.last_has, begun.within);
  some = begun.some;
  report_is = is ∙ ap (λ t. t ++ 10 ∷ []) begun.text_is ∙ append_assoc (flat_map (settled_line system) begun.full) (settled_words system begun.last) (10 ∷ []);
}
