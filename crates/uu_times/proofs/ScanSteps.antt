-- The steps of a scan.
use Rattle.std.proofs.Common.{◌≡◌, ℕ, ◌+◌, ◌<◌, ◌≤◌, length, drop, get_or, Option, None, Some, Result, Ok, Err, List, [], ◌∷◌, ◌++◌, refl, ap, sym, ◌∙◌, arith, append_assoc, append-nil, drop-cons, add-one, option_to_list}
use Rattle.std.proofs.lemmas.List.{drop_all}
use Rattle.std.specs.Char.{to_ascii_lowercase}
use Rattle.uu_times.specs.declared.days.Simple.{Simple}
use Rattle.uu_times.specs.declared.scan.Place.{Place}
use Rattle.uu_times.specs.declared.scan.Found.{Found}
use Rattle.uu_times.specs.Internal.Scan.{after, step, ending, going_on, simple_at, scan}
use Rattle.uu_times.specs.Grammar.{lower}

-- one byte, and then the rest
pub scan_at : (place : Place) (text : List ℕ) (i : ℕ) → i < length text
    → scan place (lower (drop i text)) ≡ going_on (step place (to_ascii_lowercase (get_or text i 0))) (λ next. scan next (lower (drop (i + 1) text)))
unfolding scan
scan_at place text i below = rw (drop-cons text i 0, add-one) refl

-- at the end nothing is left
pub scan-end : (place : Place) (text : List ℕ) (i : ℕ) → length text ≤ i → scan place (lower (drop i text)) ≡ ending (simple_at place)
unfolding scan
scan-end place text i end = ap (λ rest. scan place (lower rest)) (drop_all i text end)

-- what was found at a byte goes to the end of what was found before
pub after-after : (front : List Simple) (found : Option Simple) (i : ℕ) (rest : Result (List Simple) ℕ)
    → after (front ++ option_to_list found) (i + 1) rest ≡ after front i (after (option_to_list found) 1 rest)
after-after front found i (Ok simples) = ap Ok (append_assoc front (option_to_list found) simples)
after-after front found i (Err at) = ap Err (omega arith)

-- if a byte leads nowhere, the reading fails there
pub stops_at : (front : List Simple) (place : Place) (text : List ℕ) (i letter : ℕ) (all : Result (List Simple) ℕ) → i < length text
    → after front i (scan place (lower (drop i text))) ≡ all → letter ≡ to_ascii_lowercase (get_or text i 0) → None ≡ step place letter → all ≡ Err i
stops_at front place text i letter all below whole is stop =
    sym whole ∙ ap (after front i) (scan_at place text i below
    ∙ ap (λ b. going_on (step place b) (λ next. scan next (lower (drop (i + 1) text)))) (sym is)
    ∙ ap (λ s. going_on s (λ next. scan next (lower (drop (i + 1) text)))) (sym stop))
    ∙ ap Err (omega arith)

-- and else it goes on
pub goes_on : (front : List Simple) (place : Place) (found : Found) (text : List ℕ) (i letter : ℕ) (all : Result (List Simple) ℕ) → i < length text
    → after front i (scan place (lower (drop i text))) ≡ all → letter ≡ to_ascii_lowercase (get_or text i 0) → Some found ≡ step place letter
    → after (front ++ option_to_list found.simple) (i + 1) (scan found.next (lower (drop (i + 1) text))) ≡ all
goes_on front place found text i letter all below whole is go =
    after-after front found.simple i (scan found.next (lower (drop (i + 1) text)))
    ∙ ap (after front i) (sym (scan_at place text i below
    ∙ ap (λ b. going_on (step place b) (λ next. scan next (lower (drop (i + 1) text)))) (sym is)
    ∙ ap (λ s. going_on s (λ next. scan next (lower (drop (i + 1) text)))) (sym go)))
    ∙ whole

-- a text that ends too early
pub ends_without : (front : List Simple) (place : Place) (text : List ℕ) (i : ℕ) (all : Result (List Simple) ℕ) → length text ≤ i → i ≤ length text
    → after front i (scan place (lower (drop i text))) ≡ all → None ≡ simple_at place → all ≡ Err (length text)
ends_without front place text i all end within whole none =
    sym whole ∙ ap (after front i) (scan-end place text i end ∙ ap ending (sym none)) ∙ ap Err (omega arith)

-- a text that ends with a simple string
pub ends_with : (front : List Simple) (place : Place) (text : List ℕ) (i : ℕ) (simple : Simple) (all : Result (List Simple) ℕ) → length text ≤ i
    → after front i (scan place (lower (drop i text))) ≡ all → Some simple ≡ simple_at place → all ≡ Ok (front ++ simple ∷ [])
ends_with front place text i simple all end whole some =
    sym whole ∙ ap (after front i) (scan-end place text i end ∙ ap ending (sym some))

-- the same state under other names
pub resumes : (front items : List Simple) (place next : Place) (count : ℕ) (rest : List ℕ) (all : Result (List Simple) ℕ) → items ≡ front → place ≡ next
    → after front count (scan next rest) ≡ all → after items count (scan place rest) ≡ all
resumes front items place next count rest all same there whole =
    ap (λ (f : List Simple). after f count (scan place rest)) same ∙ ap (λ (p : Place). after front count (scan p rest)) there ∙ whole

-- nothing found, or one simple string
pub kept : (items : List Simple) (found : Option Simple) → found ≡ None → items ≡ items ++ option_to_list found
kept items found none = sym (append-nil items) ∙ ap (λ (f : Option Simple). items ++ option_to_list f) (sym none)

pub pushed : (items : List Simple) (found : Option Simple) (simple : Simple) → found ≡ Some simple → items ++ simple ∷ [] ≡ items ++ option_to_list found
pushed items found simple some = ap (λ (f : Option Simple). items ++ option_to_list f) (sym some)
