-- Each timetable that is there from the start is read, and found by its name.
use Rattle.std.proofs.Common.{◌≡◌, ℕ, true, false, cond, Option, Some, None, Ok, List, refl, ap, sym, ◌∙◌, codes, All, ◌∷◌, []}
use Rattle.std.proofs.lemmas.Bool.{cond-true, cond-false}
use Rattle.std.specs.Option.{unwrap_or}
use Rattle.std.specs.Str.{bytes_eq}
use Rattle.std.proofs.lemmas.List.Elements.{All-cons, All-nil}
use Rattle.uu_times.specs.declared.days.Simple.{Simple}
use Rattle.uu_times.specs.Internal.Simples.{any_has}
use Rattle.uu_times.specs.Grammar.{lower}
use Rattle.uu_times.specs.Internal.Scan.{scan, list_of}
use Rattle.uu_times.specs.Ranges.{maximal_runs}
use Rattle.uu_times.specs.Tables.{Tables, table_at, predefined_strings, predefined_tables, listed_windows, with_table, IsReadAs}
use Rattle.uu_times.proofs.GrammarReads.{reads_lists}
use Rattle.uu_times.proofs.StringLemmas.{read_minutes}
use Rattle.uu_times.proofs.TableLemmas.{found, found_with}

read_as : (tables : Tables) (name text : List ℕ) (simples : List Simple) → list_of text ≡ Ok simples → table_at tables name ≡ Some (maximal_runs (any_has simples)) → IsReadAs tables (name, text)
read_as tables name text simples read there =
    let found = reads_lists (lower text) simples read in
    (found.spellings, found.spells, there ∙ ap Some (read_minutes simples found.spellings found.are))

evening : IsReadAs predefined_tables (codes "Evening", codes "Wk1705-0755,Sa,Su")
unfolding scan predefined_tables
evening = read_as predefined_tables (codes "Evening") (codes "Wk1705-0755,Sa,Su") _ refl refl

night : IsReadAs predefined_tables (codes "Night", codes "Wk2305-0755,Sa,Su2305-1655")
unfolding scan predefined_tables
night = read_as predefined_tables (codes "Night") (codes "Wk2305-0755,Sa,Su2305-1655") _ refl refl

non_peak : IsReadAs predefined_tables (codes "NonPeak", codes "Wk1805-0655,Sa,Su")
unfolding scan predefined_tables
non_peak = read_as predefined_tables (codes "NonPeak") (codes "Wk1805-0655,Sa,Su") _ refl refl

abbrev last_two : List (List ℕ × List ℕ)
last_two = (codes "Night", codes "Wk2305-0755,Sa,Su2305-1655") ∷ (codes "NonPeak", codes "Wk1805-0655,Sa,Su") ∷ []

abbrev last_one : List (List ℕ × List ℕ)
last_one = (codes "NonPeak", codes "Wk1805-0655,Sa,Su") ∷ []

pub all_read : All (IsReadAs predefined_tables) predefined_strings
all_read =
    let read = IsReadAs predefined_tables in
    All-cons read (codes "Evening", codes "Wk1705-0755,Sa,Su") last_two evening
    (All-cons read (codes "Night", codes "Wk2305-0755,Sa,Su2305-1655") last_one night
    (All-cons read (codes "NonPeak", codes "Wk1805-0655,Sa,Su") [] non_peak (All-nil read)))

-- the runs of a list, if the text is one
abbrev pub runs_in : List ℕ → List (ℕ × ℕ)
runs_in text = unwrap_or (listed_windows text) []

abbrev pub first_table : Tables
first_table = with_table [] (codes "Evening") (runs_in (codes "Wk1705-0755,Sa,Su"))

abbrev pub two_tables : Tables
two_tables = with_table first_table (codes "Night") (runs_in (codes "Wk2305-0755,Sa,Su2305-1655"))

-- what is found for a name among them
abbrev pub in_first : List ℕ → Option (List (ℕ × ℕ))
in_first name = cond (bytes_eq name (lower (codes "Evening"))) (listed_windows (codes "Wk1705-0755,Sa,Su")) None

abbrev pub in_two : List ℕ → Option (List (ℕ × ℕ))
in_two name = cond (bytes_eq name (lower (codes "Night"))) (listed_windows (codes "Wk2305-0755,Sa,Su2305-1655")) (in_first name)

found_predefined : (name : List ℕ) → found predefined_tables name ≡ cond (bytes_eq name (lower (codes "NonPeak"))) (listed_windows (codes "Wk1805-0655,Sa,Su")) (in_two name)
unfolding scan predefined_tables
found_predefined name =
    found_with two_tables (lower (codes "NonPeak")) (runs_in (codes "Wk1805-0655,Sa,Su")) name
    ∙ ap (λ (o : Option (List (ℕ × ℕ))). cond (bytes_eq name (lower (codes "NonPeak"))) (listed_windows (codes "Wk1805-0655,Sa,Su")) o)
    (found_with first_table (lower (codes "Night")) (runs_in (codes "Wk2305-0755,Sa,Su2305-1655")) name
    ∙ ap (λ (o : Option (List (ℕ × ℕ))). cond (bytes_eq name (lower (codes "Night"))) (listed_windows (codes "Wk2305-0755,Sa,Su2305-1655")) o)
    (found_with [] (lower (codes "Evening")) (runs_in (codes "Wk1705-0755,Sa,Su")) name))

pub found_non_peak : (name : List ℕ) → bytes_eq name (lower (codes "NonPeak")) ≡ true → listed_windows (codes "Wk1805-0655,Sa,Su") ≡ found predefined_tables name
found_non_peak name is =
    sym (found_predefined name ∙ cond-true (bytes_eq name (lower (codes "NonPeak"))) (listed_windows (codes "Wk1805-0655,Sa,Su")) (in_two name) is)

-- and if it is another
found_two : (name : List ℕ) → bytes_eq name (lower (codes "NonPeak")) ≡ false → found predefined_tables name ≡ in_two name
found_two name other = found_predefined name ∙ cond-false (bytes_eq name (lower (codes "NonPeak"))) (listed_windows (codes "Wk1805-0655,Sa,Su")) (in_two name) other

pub found_night : (name : List ℕ) → bytes_eq name (lower (codes "NonPeak")) ≡ false → bytes_eq name (lower (codes "Night")) ≡ true
    → listed_windows (codes "Wk2305-0755,Sa,Su2305-1655") ≡ found predefined_tables name
found_night name other is =
    sym (found_two name other ∙ cond-true (bytes_eq name (lower (codes "Night"))) (listed_windows (codes "Wk2305-0755,Sa,Su2305-1655")) (in_first name) is)

found_first : (name : List ℕ) → bytes_eq name (lower (codes "NonPeak")) ≡ false → bytes_eq name (lower (codes "Night")) ≡ false → found predefined_tables name ≡ in_first name
found_first name other another =
    found_two name other ∙ cond-false (bytes_eq name (lower (codes "Night"))) (listed_windows (codes "Wk2305-0755,Sa,Su2305-1655")) (in_first name) another

pub found_evening : (name : List ℕ) → bytes_eq name (lower (codes "NonPeak")) ≡ false → bytes_eq name (lower (codes "Night")) ≡ false → bytes_eq name (lower (codes "Evening")) ≡ true
    → listed_windows (codes "Wk1705-0755,Sa,Su") ≡ found predefined_tables name
found_evening name other another is =
    sym (found_first name other another ∙ cond-true (bytes_eq name (lower (codes "Evening"))) (listed_windows (codes "Wk1705-0755,Sa,Su")) None is)

pub found_none : (name : List ℕ) → bytes_eq name (lower (codes "NonPeak")) ≡ false → bytes_eq name (lower (codes "Night")) ≡ false → bytes_eq name (lower (codes "Evening")) ≡ false
    → None ≡ found predefined_tables name
found_none name other another third =
    sym (found_first name other another ∙ cond-false (bytes_eq name (lower (codes "Evening"))) (listed_windows (codes "Wk1705-0755,Sa,Su")) None third)
