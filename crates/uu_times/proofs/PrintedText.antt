-- A printed text grows.
use Rattle.std.proofs.Common.{◌≡◌, ℕ, ◌+◌, ◌<◌, ◌≤◌, Bool, true, false, ◌&&◌, cond, Option, None, Some, Result, Ok, Err, List, [], ◌∷◌, ◌++◌, length, map, take, drop, get_or, refl, ap, sym, ◌∙◌, arith, append_assoc, append-nil, OnOk, codes}
use Rattle.std.specs.Prelude.{is_ok}
use Rattle.std.proofs.lemmas.Bool.{cond-true, cond-false}
use Rattle.std.proofs.lemmas.Grind.{flat_map-append}
use Rattle.std.proofs.lemmas.List.{take_more, map-append, length-append}
use Rattle.std.proofs.Math.Seq.{take-append_seam, drop-append-add}
use Rattle.std.specs.Fmt.{decimal}
use Rattle.std.specs.List.{flat_map, filter_map, cons_option}
use Rattle.uu_times.specs.declared.system.Line.{Line}
use Rattle.uu_times.specs.System.{System}
use Rattle.uu_times.specs.Grammar.{DayWord, su, mo, tu, we, th, fr, sa, wk, any}
use Rattle.uu_times.specs.Printed.{behind, on_day, Piece, pieces_on, days_of_week, weekdays_alike, ends_alike, weekdays_and_ends, groups_of, pieces_of, same_range, same_ranges, word_name, piece_text, pieces_text, part_text, time_text, time_words, line_text, system_text}

-- by the text of the next item
pub grow : {X : Type 0} (f : X → List ℕ) (xs : List X) (i : ℕ) (d : X) (start before after : List ℕ) → i < length xs
    → before ≡ start ++ flat_map f (take i xs) → after ≡ before ++ f (get_or xs i d) → after ≡ start ++ flat_map f (take (i + 1) xs)
grow f xs i d start before after inside so_far grown =
    let x = get_or xs i d in
    grown ∙ ap (λ t. t ++ f x) so_far ∙ append_assoc start (flat_map f (take i xs)) (f x)
    ∙ ap (λ t. start ++ t) (sym (ap (flat_map f) (take_more xs i d inside) ∙ flat_map-append f (take i xs) (x ∷ []) ∙ ap (λ t. flat_map f (take i xs) ++ t) (append-nil (f x))))

-- the pieces of a day
one-part : (word : DayWord) (o : Option (ℕ × ℕ)) (rest : List (ℕ × ℕ))
    → behind 44 (map piece_text (map (λ m. (word, m)) (cons_option o rest))) ≡ part_text (word_name word) o ++ behind 44 (map piece_text (map (λ m. (word, m)) rest))
one-part word None rest = refl
one-part word (Some m) rest = refl

pub day-text : (word : DayWord) (day : ℕ) (runs : List (ℕ × ℕ))
    → behind 44 (map piece_text (pieces_on runs (word, day))) ≡ flat_map (λ range. part_text (word_name word) (on_day day range)) runs
day-text word day [] = refl
day-text word day (range ∷ runs) =
    one-part word (on_day day range) (filter_map (on_day day) runs)
    ∙ ap (λ t. part_text (word_name word) (on_day day range) ++ t) (day-text word day runs)

abbrev pub text_on : List (ℕ × ℕ) → DayWord × ℕ → List ℕ
text_on runs day = flat_map (λ range. part_text (word_name day.0) (on_day day.1 range)) runs

days_text : (runs : List (ℕ × ℕ)) (days : List (DayWord × ℕ)) → behind 44 (map piece_text (flat_map (pieces_on runs) days)) ≡ flat_map (text_on runs) days
days_text runs [] = refl
days_text runs (day ∷ days) =
    ap (behind 44) (map-append piece_text (pieces_on runs day) (flat_map (pieces_on runs) days))
    ∙ flat_map-append (λ t. 44 ∷ t) (map piece_text (pieces_on runs day)) (map piece_text (flat_map (pieces_on runs) days))
    ∙ ap (λ t. t ++ behind 44 (map piece_text (flat_map (pieces_on runs) days))) (day-text day.0 day.1 runs)
    ∙ ap (λ t. text_on runs day ++ t) (days_text runs days)

-- the pieces of words
pub one_text : (start a : List ℕ) (runs : List (ℕ × ℕ)) (day : DayWord × ℕ) → a ≡ start ++ text_on runs day → a ≡ start ++ behind 44 (map piece_text (flat_map (pieces_on runs) (day ∷ [])))
one_text start a runs day p = p ∙ ap (λ t. start ++ t) (sym (append-nil (text_on runs day))) ∙ ap (λ t. start ++ t) (sym (days_text runs (day ∷ [])))

pub parts_text : (start a b c : List ℕ) (runs : List (ℕ × ℕ)) → a ≡ start ++ text_on runs (wk, 1) → b ≡ a ++ text_on runs (sa, 6) → c ≡ b ++ text_on runs (su, 0)
    → c ≡ start ++ behind 44 (map piece_text (flat_map (pieces_on runs) weekdays_and_ends))
parts_text start a b c runs p q r =
    r ∙ ap (λ t. t ++ text_on runs (su, 0)) (q ∙ ap (λ t. t ++ text_on runs (sa, 6)) p)
    ∙ three start (text_on runs (wk, 1)) (text_on runs (sa, 6)) (text_on runs (su, 0))
    ∙ ap (λ t. start ++ t) (sym (days_text runs weekdays_and_ends))
  where
    three : (s a b c : List ℕ) → (((s ++ a) ++ b) ++ c) ≡ s ++ (a ++ (b ++ (c ++ [])))
    three s a b c = sym (simp (append_assoc, append-nil) refl)

pub groups_days : (runs : List (ℕ × ℕ)) → weekdays_alike runs ≡ false → groups_of runs ≡ days_of_week
unfolding groups_of
groups_days runs apart = cond-false (weekdays_alike runs) (cond (ends_alike runs) ((any, 0) ∷ []) weekdays_and_ends) days_of_week apart

pub groups_any : (runs : List (ℕ × ℕ)) → weekdays_alike runs ≡ true → ends_alike runs ≡ true → groups_of runs ≡ (any, 0) ∷ []
unfolding groups_of
groups_any runs alike ends =
    cond-true (weekdays_alike runs) (cond (ends_alike runs) ((any, 0) ∷ []) weekdays_and_ends) days_of_week alike ∙ cond-true (ends_alike runs) ((any, 0) ∷ []) weekdays_and_ends ends

pub groups_parts : (runs : List (ℕ × ℕ)) → weekdays_alike runs ≡ true → ends_alike runs ≡ false → groups_of runs ≡ weekdays_and_ends
unfolding groups_of
groups_parts runs alike apart =
    cond-true (weekdays_alike runs) (cond (ends_alike runs) ((any, 0) ∷ []) weekdays_and_ends) days_of_week alike ∙ cond-false (ends_alike runs) ((any, 0) ∷ []) weekdays_and_ends apart

-- the text of pieces, if these are the groups
pub grouped : (start text : List ℕ) (runs : List (ℕ × ℕ)) (days : List (DayWord × ℕ)) → groups_of runs ≡ days
    → text ≡ start ++ behind 44 (map piece_text (flat_map (pieces_on runs) days)) → text ≡ start ++ behind 44 (map piece_text (pieces_of runs))
grouped start text runs days are is = is ∙ ap (λ (ds : List (DayWord × ℕ)). start ++ behind 44 (map piece_text (flat_map (pieces_on runs) ds))) (sym are)

-- the pieces of a week
pub week_text : (start a b c d e f g : List ℕ) (runs : List (ℕ × ℕ)) → a ≡ start ++ text_on runs (su, 0) → b ≡ a ++ text_on runs (mo, 1) → c ≡ b ++ text_on runs (tu, 2)
    → d ≡ c ++ text_on runs (we, 3) → e ≡ d ++ text_on runs (th, 4) → f ≡ e ++ text_on runs (fr, 5) → g ≡ f ++ text_on runs (sa, 6)
    → g ≡ start ++ behind 44 (map piece_text (flat_map (pieces_on runs) days_of_week))
week_text start a b c d e f g runs p0 p1 p2 p3 p4 p5 p6 =
    p6
    ∙ ap (λ t. t ++ text_on runs (sa, 6)) (p5
    ∙ ap (λ t. t ++ text_on runs (fr, 5)) (p4
    ∙ ap (λ t. t ++ text_on runs (th, 4)) (p3
    ∙ ap (λ t. t ++ text_on runs (we, 3)) (p2
    ∙ ap (λ t. t ++ text_on runs (tu, 2)) (p1
    ∙ ap (λ t. t ++ text_on runs (mo, 1)) p0)))))
    ∙ seven start (text_on runs (su, 0)) (text_on runs (mo, 1)) (text_on runs (tu, 2)) (text_on runs (we, 3)) (text_on runs (th, 4)) (text_on runs (fr, 5)) (text_on runs (sa, 6))
    ∙ ap (λ t. start ++ t) (sym (days_text runs days_of_week))
  where
    seven : (s a b c d e f g : List ℕ) → (((((((s ++ a) ++ b) ++ c) ++ d) ++ e) ++ f) ++ g) ≡ s ++ (a ++ (b ++ (c ++ (d ++ (e ++ (f ++ (g ++ [])))))))
    seven s a b c d e f g = sym (simp (append_assoc, append-nil) refl)

-- a set without minutes, and one with some, whose text has a comma before it
never_pieces : (old list : List ℕ) (pieces : List Piece) → list ≡ old ++ behind 44 (map piece_text pieces) → length list ≤ length old → (list ≡ old) × (codes "Never" ≡ pieces_text pieces)
never_pieces old list [] is short = (is ∙ append-nil old, refl)
never_pieces old list (piece ∷ pieces) is short =
    absurd (omega (arith, ap length is, length-append old (behind 44 (map piece_text (piece ∷ pieces)))))

pub never_text : (old list : List ℕ) (runs : List (ℕ × ℕ)) → list ≡ old ++ behind 44 (map piece_text (pieces_of runs)) → length list ≤ length old → (list ≡ old) × (codes "Never" ≡ time_text runs)
unfolding time_text
never_text old list runs is short = never_pieces old list (pieces_of runs) is short

some_pieces : (old list new : List ℕ) (pieces : List Piece) → list ≡ old ++ behind 44 (map piece_text pieces) → length old < length list
    → new ≡ take (length old) list ++ drop (length old + 1) list → new ≡ old ++ pieces_text pieces
some_pieces old list new [] is some cut = absurd (omega (arith, ap length (is ∙ append-nil old)))
some_pieces old list new (piece ∷ pieces) is some cut =
    cut
    ∙ ap (λ (l : List ℕ). take (length old) l ++ drop (length old + 1) l) is
    ∙ ap (λ (front : List ℕ). front ++ drop (length old + 1) (old ++ behind 44 (map piece_text (piece ∷ pieces)))) (take-append_seam old (behind 44 (map piece_text (piece ∷ pieces))))
    ∙ ap (λ (back : List ℕ). old ++ back) (drop-append-add old (behind 44 (map piece_text (piece ∷ pieces))) 1)

pub some-text : (old list new : List ℕ) (runs : List (ℕ × ℕ)) → list ≡ old ++ behind 44 (map piece_text (pieces_of runs)) → length old < length list
    → new ≡ take (length old) list ++ drop (length old + 1) list → new ≡ old ++ time_text runs
unfolding time_text
some-text old list new runs is some cut = some_pieces old list new (pieces_of runs) is some cut

-- a text that was added
pub extended : {E : Type 0} (result : Result (Unit {0}) E) (old new more wanted : List ℕ) → new ≡ cond (is_ok result) (old ++ more) old → more ≡ wanted → OnOk result (new ≡ old ++ wanted)
extended (Ok done) old new more wanted is same = is ∙ ap (λ t. old ++ t) same
extended (Err fault) old new more wanted is same = tt

-- a system's lines
pub times_text : (times : List Line) → flat_map line_text (map time_words times) ≡ flat_map (λ line. line_text (time_words line)) times
times_text [] = refl
times_text (line ∷ times) = ap (λ t. line_text (time_words line) ++ t) (times_text times)

pub system_grown : (system : System) (start a b c d : List ℕ) → a ≡ start ++ line_text (codes "system" ∷ system.name ∷ [])
    → b ≡ a ++ line_text (codes "max-retries" ∷ decimal system.max_retries ∷ []) → c ≡ b ++ line_text (codes "success-wait" ∷ decimal system.success_wait ∷ [])
    → d ≡ c ++ flat_map (λ line. line_text (time_words line)) system.lines → d ≡ start ++ system_text system
system_grown system start a b c d p q r s =
    s ∙ ap (λ t. t ++ flat_map (λ line. line_text (time_words line)) system.lines) (r ∙ ap (λ t. t ++ line_text (codes "success-wait" ∷ decimal system.success_wait ∷ [])) (q ∙ ap (λ t. t ++ line_text (codes "max-retries" ∷ decimal system.max_retries ∷ [])) p))
    ∙ four start (line_text (codes "system" ∷ system.name ∷ [])) (line_text (codes "max-retries" ∷ decimal system.max_retries ∷ [])) (line_text (codes "success-wait" ∷ decimal system.success_wait ∷ []))
    (flat_map (λ line. line_text (time_words line)) system.lines)
    ∙ ap (λ t. start ++ (line_text (codes "system" ∷ system.name ∷ []) ++ (line_text (codes "max-retries" ∷ decimal system.max_retries ∷ []) ++ (line_text (codes "success-wait" ∷ decimal system.success_wait ∷ []) ++ t)))) (sym (times_text system.lines))
  where
    four : (s a b c d : List ℕ) → ((((s ++ a) ++ b) ++ c) ++ d) ≡ s ++ (a ++ (b ++ (c ++ d)))
    four s a b c d = simp append_assoc

-- parts of two days one by one
abbrev pub Parts : Type 0
Parts = List (ℕ × ℕ)

pub alike_more : (a b : ℕ × ℕ) (left right xs ys : Parts) (whole : Bool) → left ≡ a ∷ xs → right ≡ b ∷ ys → same_range a b ≡ true
    → same_ranges left right ≡ whole → same_ranges xs ys ≡ whole
alike_more a b left right xs ys whole l r same is =
    sym (ap (λ t. t && same_ranges xs ys) same) ∙ sym (ap (λ (t : Parts). same_ranges t right) l ∙ ap (λ (t : Parts). same_ranges (a ∷ xs) t) r) ∙ is

pub alike_not : (a b : ℕ × ℕ) (left right xs ys : Parts) (whole : Bool) → left ≡ a ∷ xs → right ≡ b ∷ ys → same_range a b ≡ false
    → same_ranges left right ≡ whole → false ≡ whole
alike_not a b left right xs ys whole l r other is =
    sym (ap (λ t. t && same_ranges xs ys) other) ∙ sym (ap (λ (t : Parts). same_ranges t right) l ∙ ap (λ (t : Parts). same_ranges (a ∷ xs) t) r) ∙ is

pub alike_longer : (a : ℕ × ℕ) (left right xs : Parts) (whole : Bool) → left ≡ a ∷ xs → right ≡ [] → same_ranges left right ≡ whole → false ≡ whole
alike_longer a left right xs whole l r is = sym (ap (λ (t : Parts). same_ranges t right) l ∙ ap (λ (t : Parts). same_ranges (a ∷ xs) t) r) ∙ is

pub alike_ends : (left right : Parts) (whole : Bool) → left ≡ [] → same_ranges left right ≡ whole → same_ranges [] right ≡ whole
alike_ends left right whole l is = sym (ap (λ (t : Parts). same_ranges t right) l) ∙ is
