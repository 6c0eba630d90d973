-- The places of a map text's entries lie within it.
use Rattle.std.proofs.Common.{◌≡◌, ℕ, zero, suc, ◌+◌, ◌≤◌, Bool, true, false, cond, List, [], ◌∷◌, length, drop, filter, All, ◌&&◌, arith}
use Rattle.std.proofs.lemmas.List.Elements.{All-nil, All-cons}
use Rattle.std.specs.List.{range_with_len}
use Rattle.uu_map.specs.declared.entry.EntryText.{EntryText}
use Rattle.uu_map.specs.Split.{begins_line, begins_entry, entry_starts, entries_from, entries_of}
use Rattle.uu_request.specs.Requests.{IsPlace}

-- an entry at no place, for a place after the last one
abbrev pub nowhere : EntryText
nowhere = record { line = 0; start = 0; end = 0 }

-- offsets that rise from one on, up to another
abbrev Rise : ℕ → ℕ → List ℕ → Type 0
Rise low high [] = low ≤ high
Rise low high (at ∷ more) = (low ≤ at) × Rise at high more

Rise-from : (low from high : ℕ) (offsets : List ℕ) → low ≤ from → Rise from high offsets → Rise low high offsets
Rise-from low from high [] before rise = omega arith
Rise-from low from high (at ∷ more) before rise = let first = rise.0 in (omega arith, rise.1)

Rise_ends : (low high : ℕ) (offsets : List ℕ) → Rise low high offsets → low ≤ high
Rise_ends low high [] rise = rise
Rise_ends low high (at ∷ more) rise = let later = Rise_ends at high more rise.1 in let first = rise.0 in omega arith

passing_one : (test : Bool) (from high : ℕ) (later : List ℕ) → Rise from high later → Rise from high (cond test (from ∷ later) later)
passing_one true from high later rise = (omega arith, rise)
passing_one false from high later rise = rise

-- those of a range that pass a test rise
passing_rise : (passes : ℕ → Bool) (from count high : ℕ) → from + count ≡ high → Rise from high (filter passes (range_with_len from count))
passing_rise passes from zero high is = omega arith
passing_rise passes from (suc count) high is =
    passing_one (passes from) from high (filter passes (range_with_len (from + 1) count))
    (Rise-from from (from + 1) high (filter passes (range_with_len (from + 1) count)) (omega arith) (passing_rise passes (from + 1) count high (omega arith)))

-- entries that begin at offsets that rise lie within the text
rising_within : (text : List ℕ) (low : ℕ) (starts : List ℕ) → Rise low (length text) starts → All (IsPlace text) (entries_from text starts)
rising_within text low [] rise = All-nil (IsPlace text)
rising_within text low (start ∷ []) rise = All-cons (IsPlace text) _ [] (rise.1, omega arith) (All-nil (IsPlace text))
rising_within text low (start ∷ next ∷ more) rise =
    All-cons (IsPlace text) _ (entries_from text (next ∷ more)) (rise.1.0, Rise_ends next (length text) more rise.1.1)
    (rising_within text start (next ∷ more) rise.1)

pub entries_within : (text : List ℕ) → All (IsPlace text) (entries_of text)
entries_within text =
    rising_within text 0 (entry_starts text) (passing_rise (λ at. begins_line text at && begins_entry (drop at text)) 0 (length text) (length text) (omega arith))
