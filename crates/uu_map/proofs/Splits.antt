-- A map text is cut offset by offset.
use Rattle.std.proofs.Common.{◌≡◌, ℕ, suc, ◌+◌, ◌-◌, ◌<◌, true, false, cond, ◌&&◌, ◌||◌, ◌==◌, List, [], ◌∷◌, ◌++◌, length, get_or, drop, Option, Some, None, sym, ap, ◌∙◌, append_assoc, arith}
use Rattle.std.specs.Prelude.{⊤}
use Rattle.std.specs.List.{filter, range_with_len}
use Rattle.std.proofs.lemmas.Bool.Decides.{nat_tests}
use Rattle.std.proofs.lemmas.List.{append-nil}
use Rattle.std.proofs.lemmas.List.Sums.{count_by_more_yes, count_by_more_no}
use Rattle.uu_map.specs.declared.entry.EntryText.{EntryText}
use Rattle.uu_map.specs.declared.splitter.Start.{Start}
use Rattle.uu_map.specs.Split.{is_newline, begins_line, begins_entry, entries_from, line_of}
use Rattle.uu_map.specs.Internal.Splitting.{ended}

-- the offsets from here on at which entries begin
abbrev starts_from : List ℕ → ℕ → List ℕ
starts_from text at = filter (λ k. begins_line text k && begins_entry (drop k text)) (range_with_len at (length text - at))

abbrev start_list : Option Start → List ℕ
start_list None = []
start_list (Some s) = s.at ∷ []

-- an entry that began has the number of its line
abbrev HasItsLine : List ℕ → Option Start → Type 0
HasItsLine text None = ⊤
HasItsLine text (Some s) = s.line ≡ line_of text s.at

-- what was found, and what will be found from here on
pub record FoundUpTo (text : List ℕ) (found : List EntryText) (start : Option Start) (at : ℕ) : Type 0 where
  pub all : found ++ entries_from text (start_list start ++ starts_from text at) ≡ entries_from text (starts_from text 0)
  pub line : HasItsLine text start

starts_step : (text : List ℕ) (at : ℕ) → at < length text → starts_from text at ≡ cond (begins_line text at && begins_entry (drop at text)) (at ∷ starts_from text (at + 1)) (starts_from text (at + 1))
starts_step text at h =
    let e : length text - at ≡ suc (length text - (at + 1)) = omega arith in
    ap (λ n. filter (λ k. begins_line text k && begins_entry (drop k text)) (range_with_len at n)) e

pub found_goes_on : (text : List ℕ) (found : List EntryText) (start : Option Start) (at : ℕ) → at < length text → (begins_line text at && begins_entry (drop at text)) ≡ false → FoundUpTo text found start at → FoundUpTo text found start (at + 1)
found_goes_on text found start at h not_here before =
    let e : starts_from text at ≡ starts_from text (at + 1) = starts_step text at h ∙ ap (λ b. cond b (at ∷ starts_from text (at + 1)) (starts_from text (at + 1))) not_here in
    record {
      all = ap (λ s. found ++ entries_from text (start_list start ++ s)) (sym e) ∙ before.all;
      line = before.line;
    }

pub found_begins : (text : List ℕ) (found : List EntryText) (start : Option Start) (at line : ℕ) → at < length text → (begins_line text at && begins_entry (drop at text)) ≡ true → line ≡ line_of text at → FoundUpTo text found start at → FoundUpTo text (found ++ ended start at) (Some (record { line = line; at = at })) (at + 1)
found_begins text found None at line h here el before =
    let e : starts_from text at ≡ at ∷ starts_from text (at + 1) = starts_step text at h ∙ ap (λ b. cond b (at ∷ starts_from text (at + 1)) (starts_from text (at + 1))) here in
    record {
      all = ap (λ f. f ++ entries_from text (at ∷ starts_from text (at + 1))) (append-nil found) ∙ (ap (λ s. found ++ entries_from text s) (sym e) ∙ before.all);
      line = el;
    }
found_begins text found (Some s) at line h here el before =
    let e : starts_from text at ≡ at ∷ starts_from text (at + 1) = starts_step text at h ∙ ap (λ b. cond b (at ∷ starts_from text (at + 1)) (starts_from text (at + 1))) here in
    record {
      all = append_assoc found (ended (Some s) at) (entries_from text (at ∷ starts_from text (at + 1)))
          ∙ (ap (λ (n : ℕ). found ++ (record { line = n; start = s.at; end = at } ∷ entries_from text (at ∷ starts_from text (at + 1)))) before.line
          ∙ (ap (λ ss. found ++ entries_from text (s.at ∷ ss)) (sym e) ∙ before.all));
      line = el;
    }

pub line_next : (text : List ℕ) (at : ℕ) (line : ℕ) → at < length text → is_newline (get_or text at 0) ≡ true → line ≡ line_of text at → line + 1 ≡ line_of text (at + 1)
line_next text at line h here e = let more = count_by_more_yes is_newline text at 0 h here in omega arith

pub line_same : (text : List ℕ) (at : ℕ) (line : ℕ) → at < length text → is_newline (get_or text at 0) ≡ false → line ≡ line_of text at → line ≡ line_of text (at + 1)
line_same text at line h not_here e = let more = count_by_more_no is_newline text at 0 h not_here in omega arith

pub begins_line_next : (text : List ℕ) (at : ℕ) → is_newline (get_or text at 0) ≡ begins_line text (at + 1)
begins_line_next text at =
    let past : (at + 1 == 0) ≡ false = grind (arith, nat_tests) in
    let back : at + 1 - 1 ≡ at = omega arith in
    sym (ap (λ b. b || is_newline (get_or text (at + 1 - 1) 0)) past ∙ ap (λ k. is_newline (get_or text k 0)) back)
