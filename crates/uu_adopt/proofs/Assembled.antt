-- What is assembled from the rows of systems is these systems.
use Rattle.std.proofs.Common.{◌≡◌, ℕ, zero, suc, ◌+◌, ◌<◌, ◌==◌, Bool, true, false, List, [], ◌∷◌, ◌++◌, map, take, drop, flat_map, refl, sym, ap, subst, ◌∙◌, arith, map-id}
use Rattle.std.specs.List.{AllByRecursion}
use Rattle.std.proofs.lemmas.Bool.Decides.{nat_tests}
use Rattle.std.proofs.lemmas.List.{map-append}
use Rattle.std.proofs.lemmas.Grind.{flat_map-append}
use Rattle.std.proofs.Math.Seq.{take-append_seam, drop-append_seam}
use Rattle.std.proofs.Math.Bool.{and-false}
use Rattle.sqlite.specs.Tree.{IsAscending}
use Rattle.sqlite_keyed.proofs.ListLemmas.{map-map}
use Rattle.uu_names.proofs.Basics.{later_other, text_to, all_append}
use Rattle.uu_check.proofs.Walks.{own_front}
use Rattle.uu_times.specs.declared.system.Line.{Line}
use Rattle.uu_core.specs.declared.system.SystemRow.{SystemRow}
use Rattle.uu_core.specs.State.{ComesBefore, same_text}
use Rattle.uu_tables.specs.declared.earlier.LineColumns.{LineColumns}
use Rattle.uu_tables.specs.declared.earlier.RangeColumns.{RangeColumns}
use Rattle.uu_tables.specs.declared.earlier.WaitColumns.{WaitColumns}
use Rattle.uu_tables.specs.Tables.{call_columns, system_columns}
use Rattle.uu_tables.specs.Earlier.{PlacedLine, bare_system, placed, placed_from, line_columns, range_columns, ranges_of, waits_from, waits_of}
use Rattle.uu_adopt.specs.Assembly.{is_line_of, is_range_of, is_wait_of, is_range_of_line, own_rows, rows_behind, range_of, lines_from, wait_from, system_from, systems_from}

-- ---- the front of a list

module _ {P C : Type 0} (owns : P → C → Bool) (owner : P) (xs rest : List C) (all : AllByRecursion (λ c. owns owner c ≡ true) xs) (none : AllByRecursion (λ c. owns owner c ≡ false) rest) where
  pub own_is : own_rows owns owner (xs ++ rest) ≡ xs
  own_is = ap (λ n. take n (xs ++ rest)) (own_front (owns owner) xs rest all none) ∙ take-append_seam xs rest

  pub others_are : rows_behind owns owner (xs ++ rest) ≡ rest
  others_are = ap (λ n. drop n (xs ++ rest)) (own_front (owns owner) xs rest all none) ∙ drop-append_seam xs rest

-- ---- the lines of a system

-- each range of a line passes the test, if the line's system and place do
ranges_pass : (p : RangeColumns → Bool) (t : Bool) (name : List ℕ) (place : ℕ) (windows : List (ℕ × ℕ)) → ((w : ℕ × ℕ) → p (range_columns name place w) ≡ t) → AllByRecursion (λ r. p r ≡ t) (map (range_columns name place) windows)
ranges_pass p t name place [] h = tt
ranges_pass p t name place (w ∷ windows) h = (h w, ranges_pass p t name place windows h)

windows_back : (name : List ℕ) (place : ℕ) (windows : List (ℕ × ℕ)) → map range_of (map (range_columns name place) windows) ≡ windows
windows_back name place windows = map-map range_of (range_columns name place) windows ∙ map-id windows

later_ranges : (name : List ℕ) (l : LineColumns) (place : ℕ) (lines : List Line) → l.place < place → AllByRecursion (λ r. is_range_of_line l r ≡ false) (flat_map ranges_of (placed_from name place lines))
later_ranges name l place [] below = tt
later_ranges name l place (line ∷ lines) below =
    all_append _ (map (range_columns name place) line.windows) (flat_map ranges_of (placed_from name (place + 1) lines))
    (ranges_pass (is_range_of_line l) false name place line.windows (λ w. let other : (place == l.place) ≡ false = grind (arith, nat_tests) in rw other (and-false (same_text name l.system))))
    (later_ranges name l (place + 1) lines (omega (arith, below)))

lines_back : (name : List ℕ) (place : ℕ) (lines : List Line) → lines_from (map line_columns (placed_from name place lines)) (flat_map ranges_of (placed_from name place lines)) ≡ lines
lines_back name place [] = refl
lines_back name place (line ∷ lines) =
    let p : PlacedLine = record { system = name; place = place; line = line } in
    let l = line_columns p in
    let rest = flat_map ranges_of (placed_from name (place + 1) lines) in
    let here : (place == place) ≡ true = grind (arith, nat_tests) in
    let mine = ranges_pass (is_range_of_line l) true name place line.windows (λ w. rw (text_to name, here) refl) in
    let none = later_ranges name l (place + 1) lines (omega arith) in
    let windows : map range_of (own_rows is_range_of_line l (ranges_of p ++ rest)) ≡ line.windows = ap (map range_of) (own_is is_range_of_line l (ranges_of p) rest mine none) ∙ windows_back name place line.windows in
    let more : lines_from (map line_columns (placed_from name (place + 1) lines)) (rows_behind is_range_of_line l (ranges_of p ++ rest)) ≡ lines =
    ap (lines_from (map line_columns (placed_from name (place + 1) lines))) (others_are is_range_of_line l (ranges_of p) rest mine none) ∙ lines_back name (place + 1) lines in
    λ i. record line { windows = windows i } ∷ more i

-- ---- the success wait of a system

wait_back : (name : List ℕ) (seconds : ℕ) → wait_from (waits_from name seconds) ≡ seconds
wait_back name zero = refl
wait_back name (suc n) = refl

-- the row of a system's wait, if there is one, passes a test that its name does
wait_passes : (p : WaitColumns → Bool) (t : Bool) (name : List ℕ) (seconds : ℕ) → ((w : WaitColumns) → w.system ≡ name → p w ≡ t) → AllByRecursion (λ w. p w ≡ t) (waits_from name seconds)
wait_passes p t name zero h = tt
wait_passes p t name (suc n) h = (h _ refl, tt)

-- ---- systems

-- each line, and each of its ranges, is of the system whose it is
lines_pass : (p : LineColumns → Bool) (t : Bool) (name : List ℕ) (place : ℕ) (lines : List Line) → ((l : LineColumns) → l.system ≡ name → p l ≡ t) → AllByRecursion (λ l. p l ≡ t) (map line_columns (placed_from name place lines))
lines_pass p t name place [] h = tt
lines_pass p t name place (line ∷ lines) h = (h _ refl, lines_pass p t name (place + 1) lines h)

all_ranges_pass : (p : RangeColumns → Bool) (t : Bool) (name : List ℕ) (place : ℕ) (lines : List Line) → ((r : RangeColumns) → r.system ≡ name → p r ≡ t) → AllByRecursion (λ r. p r ≡ t) (flat_map ranges_of (placed_from name place lines))
all_ranges_pass p t name place [] h = tt
all_ranges_pass p t name place (line ∷ lines) h =
    all_append _ (map (range_columns name place) line.windows) (flat_map ranges_of (placed_from name (place + 1) lines)) (ranges_pass p t name place line.windows (λ w. h _ refl)) (all_ranges_pass p t name (place + 1) lines h)

abbrev lines_table : List SystemRow → List LineColumns
lines_table rows = map line_columns (flat_map placed rows)

abbrev ranges_table : List SystemRow → List RangeColumns
ranges_table rows = flat_map ranges_of (flat_map placed rows)

abbrev waits_table : List SystemRow → List WaitColumns
waits_table rows = flat_map waits_of rows

lines_split : (row : SystemRow) (rows : List SystemRow) → lines_table (row ∷ rows) ≡ map line_columns (placed row) ++ lines_table rows
lines_split row rows = map-append line_columns (placed row) (flat_map placed rows)

ranges_split : (row : SystemRow) (rows : List SystemRow) → ranges_table (row ∷ rows) ≡ flat_map ranges_of (placed row) ++ ranges_table rows
ranges_split row rows = flat_map-append ranges_of (placed row) (flat_map placed rows)

other_lines : (row : SystemRow) (rows : List SystemRow) → AllByRecursion (λ (r : SystemRow). ComesBefore row.def.name r.def.name) rows → AllByRecursion (λ l. is_line_of (bare_system row) l ≡ false) (lines_table rows)
other_lines row [] h = tt
other_lines row (r ∷ rows) h =
    subst (AllByRecursion (λ l. is_line_of (bare_system row) l ≡ false)) (sym (lines_split r rows))
    (all_append _ (map line_columns (placed r)) (lines_table rows) (lines_pass (is_line_of (bare_system row)) false r.def.name 0 r.def.lines (λ l e. ap (λ n. same_text n row.def.name) e ∙ later_other row.def.name r.def.name h.0)) (other_lines row rows h.1))

other_ranges : (row : SystemRow) (rows : List SystemRow) → AllByRecursion (λ (r : SystemRow). ComesBefore row.def.name r.def.name) rows → AllByRecursion (λ l. is_range_of (bare_system row) l ≡ false) (ranges_table rows)
other_ranges row [] h = tt
other_ranges row (r ∷ rows) h =
    subst (AllByRecursion (λ l. is_range_of (bare_system row) l ≡ false)) (sym (ranges_split r rows))
    (all_append _ (flat_map ranges_of (placed r)) (ranges_table rows) (all_ranges_pass (is_range_of (bare_system row)) false r.def.name 0 r.def.lines (λ l e. ap (λ n. same_text n row.def.name) e ∙ later_other row.def.name r.def.name h.0)) (other_ranges row rows h.1))

other_waits : (row : SystemRow) (rows : List SystemRow) → AllByRecursion (λ (r : SystemRow). ComesBefore row.def.name r.def.name) rows → AllByRecursion (λ w. is_wait_of (bare_system row) w ≡ false) (waits_table rows)
other_waits row [] h = tt
other_waits row (r ∷ rows) h =
    all_append _ (waits_of r) (waits_table rows) (wait_passes (is_wait_of (bare_system row)) false r.def.name r.def.success_wait (λ w e. ap (λ n. same_text n row.def.name) e ∙ later_other row.def.name r.def.name h.0)) (other_waits row rows h.1)

abbrev Rises : List SystemRow → Type 0
Rises rows = IsAscending (λ (a b : SystemRow). ComesBefore a.def.name b.def.name) rows

-- the rows of the first system, and those after them
module _ (row : SystemRow) (rows : List SystemRow) (up : AllByRecursion (λ (r : SystemRow). ComesBefore row.def.name r.def.name) rows) where
  own_lines : own_rows is_line_of (bare_system row) (lines_table (row ∷ rows)) ≡ map line_columns (placed row)
  own_lines =
      ap (own_rows is_line_of (bare_system row)) (lines_split row rows)
      ∙ own_is is_line_of (bare_system row) (map line_columns (placed row)) (lines_table rows) (lines_pass (is_line_of (bare_system row)) true row.def.name 0 row.def.lines (λ l e. ap (λ n. same_text n row.def.name) e ∙ text_to row.def.name)) (other_lines row rows up)

  own_ranges : own_rows is_range_of (bare_system row) (ranges_table (row ∷ rows)) ≡ flat_map ranges_of (placed row)
  own_ranges =
      ap (own_rows is_range_of (bare_system row)) (ranges_split row rows)
      ∙ own_is is_range_of (bare_system row) (flat_map ranges_of (placed row)) (ranges_table rows) (all_ranges_pass (is_range_of (bare_system row)) true row.def.name 0 row.def.lines (λ r e. ap (λ n. same_text n row.def.name) e ∙ text_to row.def.name)) (other_ranges row rows up)

  first_lines : lines_from (own_rows is_line_of (bare_system row) (lines_table (row ∷ rows))) (own_rows is_range_of (bare_system row) (ranges_table (row ∷ rows))) ≡ row.def.lines
  first_lines = (λ i. lines_from (own_lines i) (own_ranges i)) ∙ lines_back row.def.name 0 row.def.lines

  own_wait : AllByRecursion (λ w. is_wait_of (bare_system row) w ≡ true) (waits_of row)
  own_wait = wait_passes (is_wait_of (bare_system row)) true row.def.name row.def.success_wait (λ w e. ap (λ n. same_text n row.def.name) e ∙ text_to row.def.name)

  first_wait : wait_from (own_rows is_wait_of (bare_system row) (waits_table (row ∷ rows))) ≡ row.def.success_wait
  first_wait = ap wait_from (own_is is_wait_of (bare_system row) (waits_of row) (waits_table rows) own_wait (other_waits row rows up)) ∙ wait_back row.def.name row.def.success_wait

  first_system :
      system_from (bare_system row) (own_rows is_line_of (bare_system row) (lines_table (row ∷ rows))) (own_rows is_range_of (bare_system row) (ranges_table (row ∷ rows))) (wait_from (own_rows is_wait_of (bare_system row) (waits_table (row ∷ rows)))) ≡ system_columns row
  first_system = λ i. record { def = record { name = row.def.name; lines = first_lines i; max_retries = row.def.max_retries; success_wait = first_wait i }; call = call_columns row.call }

  lines_behind : rows_behind is_line_of (bare_system row) (lines_table (row ∷ rows)) ≡ lines_table rows
  lines_behind =
      ap (rows_behind is_line_of (bare_system row)) (lines_split row rows)
      ∙ others_are is_line_of (bare_system row) (map line_columns (placed row)) (lines_table rows) (lines_pass (is_line_of (bare_system row)) true row.def.name 0 row.def.lines (λ l e. ap (λ n. same_text n row.def.name) e ∙ text_to row.def.name)) (other_lines row rows up)

  ranges_behind : rows_behind is_range_of (bare_system row) (ranges_table (row ∷ rows)) ≡ ranges_table rows
  ranges_behind =
      ap (rows_behind is_range_of (bare_system row)) (ranges_split row rows)
      ∙ others_are is_range_of (bare_system row) (flat_map ranges_of (placed row)) (ranges_table rows) (all_ranges_pass (is_range_of (bare_system row)) true row.def.name 0 row.def.lines (λ r e. ap (λ n. same_text n row.def.name) e ∙ text_to row.def.name)) (other_ranges row rows up)

  waits_behind : rows_behind is_wait_of (bare_system row) (waits_table (row ∷ rows)) ≡ waits_table rows
  waits_behind = others_are is_wait_of (bare_system row) (waits_of row) (waits_table rows) own_wait (other_waits row rows up)

pub assembled : (rows : List SystemRow) → Rises rows → systems_from (map bare_system rows) (lines_table rows) (ranges_table rows) (waits_table rows) ≡ map system_columns rows
assembled [] up = refl
assembled (row ∷ rows) up =
    let rest = (λ i. systems_from (map bare_system rows) (lines_behind row rows up.0 i) (ranges_behind row rows up.0 i) (waits_behind row rows up.0 i)) ∙ assembled rows up.1 in
    λ i. first_system row rows up.0 i ∷ rest i
