-- A sys file read line by line says what its definition says.
use Rattle.std.proofs.Common.{◌≡◌, inl, inr, ℕ, Bool, true, false, ◌||◌, Option, None, Some, Result, Ok, Err, List, [], ◌∷◌, ◌++◌, length, nat_le, refl, ap, sym, ◌∙◌, append_assoc, append-nil}
use Rattle.std.proofs.lemmas.Bool.{cases_Bool, cond-true, cond-false}
use Rattle.std.proofs.lemmas.Map.Text.{is_eq-slice_cmp}
use Rattle.std.proofs.lemmas.List.Elements.{filter_map-append}
use Rattle.std.specs.BTreeMap.{insert_entry}
use Rattle.std.specs.Cmp.Lexicographic.{slice_cmp}
use Rattle.std.specs.List.{filter_map, cons_option, list_any, last_or}
use Rattle.std.specs.Ordering.{nat_cmp, match_ordering}
use Rattle.std.specs.Str.{bytes_eq}
use Rattle.std.specs.Str.Lines.{lines}
use Rattle.std.specs.declared.cmp.Ordering.{Ordering}
use Rattle.std.specs.declared.cmp.Ordering.TheVariants.{Less, Equal, Greater}
use Rattle.std.proofs.lemmas.Map.Lookups.{exact_bytes}
use Rattle.uu_times.specs.declared.directive.Directive.{Directive}
use Rattle.uu_times.specs.declared.directive.Directive.TheVariants.{Begin, Time, Retries, SuccessWait, Table, Skip}
use Rattle.uu_times.specs.declared.fault.TimeFault.{TimeFault}
use Rattle.uu_times.specs.declared.fault.TimeFault.TheVariants.{SystemTwice, TableTwice, TooManyLines}
use Rattle.uu_times.specs.declared.system.Line.{Line}
use Rattle.uu_times.specs.declared.system.SysFile.{SysFile}
use Rattle.uu_times.specs.Directives.{◌>>=◌, line_says}
use Rattle.uu_times.specs.Lines.{Numbered, joined}
use Rattle.uu_times.specs.Internal.Reading.{Reading, Seen, has_seen, with_seen, no_reading, absorbed, absorbed_if, line_read, lines_read, file_of, file_read}
use Rattle.uu_times.specs.Internal.Section.{Parts, no_part, no_parts, all_systems, begin_part, with_line, with_retries, with_success_wait}
use Rattle.uu_times.specs.SysFile.{Part, system_of, time_in, number_in, success_wait_in, name_in, table_in, skip_in, known, section, present, part_of, systems_of, checked, checked_if, directives_of, file_with, sys_file_of}
use Rattle.uu_times.specs.System.{System}
use Rattle.uu_times.specs.Tables.{Tables, predefined_tables}

-- names that were seen
twice : (b c : Bool) → (b || c) ≡ (b || (b || c))
twice true c = refl
twice false c = refl

swapped : (a b c : Bool) → (a || (b || c)) ≡ (b || (a || c))
swapped true true c = refl
swapped true false c = refl
swapped false true c = refl
swapped false false c = refl

seen-cons : (n first : List ℕ) (seen : Seen) → has_seen (first ∷ seen) n ≡ (bytes_eq n first || has_seen seen n)
seen-cons n first seen = ap (λ b. b || has_seen seen n) (is_eq-slice_cmp n first)

seen_with_by : (first : List ℕ) (seen : Seen) (m n : List ℕ) (order : Ordering) → slice_cmp nat_cmp m first ≡ order
    → has_seen (with_seen seen m) n ≡ (bytes_eq n m || has_seen seen n)
    → has_seen (with_seen (first ∷ seen) m) n ≡ (bytes_eq n m || has_seen (first ∷ seen) n)
seen_with_by first seen m n Less is later =
    ap (λ o. has_seen (match_ordering o (m ∷ first ∷ seen) (first ∷ seen) (first ∷ with_seen seen m)) n) is
    ∙ seen-cons n m (first ∷ seen)
seen_with_by first seen m n Equal is later =
    ap (λ o. has_seen (match_ordering o (m ∷ first ∷ seen) (first ∷ seen) (first ∷ with_seen seen m)) n) is
    ∙ seen-cons n first seen
    ∙ twice (bytes_eq n first) (has_seen seen n)
    ∙ ap (λ k. bytes_eq n k || (bytes_eq n first || has_seen seen n)) (sym (exact_bytes m first is))
    ∙ ap (λ b. bytes_eq n m || b) (sym (seen-cons n first seen))
seen_with_by first seen m n Greater is later =
    ap (λ o. has_seen (match_ordering o (m ∷ first ∷ seen) (first ∷ seen) (first ∷ with_seen seen m)) n) is
    ∙ seen-cons n first (with_seen seen m)
    ∙ ap (λ b. bytes_eq n first || b) later
    ∙ swapped (bytes_eq n first) (bytes_eq n m) (has_seen seen n)
    ∙ ap (λ b. bytes_eq n m || b) (sym (seen-cons n first seen))

pub seen_with : (seen : Seen) (m n : List ℕ) → has_seen (with_seen seen m) n ≡ (bytes_eq n m || has_seen seen n)
seen_with [] m n = seen-cons n m []
seen_with (first ∷ seen) m n = seen_with_by first seen m n (slice_cmp nat_cmp m first) refl (seen_with seen m n)

-- one line more
known_more : (tables : Tables) (directives : List Directive) (directive : Directive) → known tables (directives ++ directive ∷ []) ≡ known (known tables directives) (directive ∷ [])
known_more tables [] directive = refl
known_more tables (Table name windows ∷ directives) directive = known_more (insert_entry (slice_cmp nat_cmp) tables name windows) directives directive
known_more tables (Begin name ∷ directives) directive = known_more tables directives directive
known_more tables (Time line ∷ directives) directive = known_more tables directives directive
known_more tables (Retries number ∷ directives) directive = known_more tables directives directive
known_more tables (SuccessWait seconds ∷ directives) directive = known_more tables directives directive
known_more tables (Skip line ∷ directives) directive = known_more tables directives directive

-- a test that one more element may pass
any-more : (name : List ℕ) (names : List (List ℕ)) (more : List ℕ) → list_any (bytes_eq name) (names ++ more ∷ []) ≡ (bytes_eq name more || list_any (bytes_eq name) names)
any-more name [] more = refl
any-more name (first ∷ names) more =
    ap (λ b. bytes_eq name first || b) (any-more name names more) ∙ swapped (bytes_eq name first) (bytes_eq name more) (list_any (bytes_eq name) names)

-- the sections that lines leave
abbrev pub run : Parts → List Directive → Parts
run parts [] = parts
run parts (Begin name ∷ directives) = run (begin_part parts name) directives
run parts (Time line ∷ directives) = run (with_line parts line) directives
run parts (Retries number ∷ directives) = run (with_retries parts number) directives
run parts (SuccessWait seconds ∷ directives) = run (with_success_wait parts seconds) directives
run parts (Table name windows ∷ directives) = run parts directives
run parts (Skip line ∷ directives) = run parts directives

run-more : (parts : Parts) (directives : List Directive) (directive : Directive) → run parts (directives ++ directive ∷ []) ≡ run (run parts directives) (directive ∷ [])
run-more parts [] directive = refl
run-more parts (Begin name ∷ directives) directive = run-more (begin_part parts name) directives directive
run-more parts (Time line ∷ directives) directive = run-more (with_line parts line) directives directive
run-more parts (Retries number ∷ directives) directive = run-more (with_retries parts number) directives directive
run-more parts (SuccessWait seconds ∷ directives) directive = run-more (with_success_wait parts seconds) directives directive
run-more parts (Table name windows ∷ directives) directive = run-more parts directives directive
run-more parts (Skip line ∷ directives) directive = run-more parts directives directive

-- the time lines of the present section
times_more : (before : List Directive) (directive : Directive) → filter_map time_in (before ++ directive ∷ []) ≡ filter_map time_in before ++ filter_map time_in (directive ∷ [])
times_more before directive = filter_map-append time_in before (directive ∷ [])

run-present : (parts : Parts) (before directives : List Directive) → parts.part.lines ≡ filter_map time_in before → (run parts directives).part.lines ≡ filter_map time_in (present before directives)
run-present parts before [] same = same
run-present parts before (Begin name ∷ directives) same = run-present (begin_part parts name) [] directives refl
run-present parts before (Time line ∷ directives) same =
    run-present (with_line parts line) (before ++ Time line ∷ []) directives (ap (λ lines. lines ++ line ∷ []) same ∙ sym (times_more before (Time line)))
run-present parts before (Retries number ∷ directives) same =
    run-present (with_retries parts number) (before ++ Retries number ∷ []) directives (same ∙ sym (append-nil (filter_map time_in before)) ∙ sym (times_more before (Retries number)))
run-present parts before (SuccessWait seconds ∷ directives) same =
    run-present (with_success_wait parts seconds) (before ++ SuccessWait seconds ∷ []) directives (same ∙ sym (append-nil (filter_map time_in before)) ∙ sym (times_more before (SuccessWait seconds)))
run-present parts before (Table name windows ∷ directives) same =
    run-present parts (before ++ Table name windows ∷ []) directives (same ∙ sym (append-nil (filter_map time_in before)) ∙ sym (times_more before (Table name windows)))
run-present parts before (Skip line ∷ directives) same =
    run-present parts (before ++ Skip line ∷ []) directives (same ∙ sym (append-nil (filter_map time_in before)) ∙ sym (times_more before (Skip line)))

-- a section that goes on
abbrev pub going_on : Part → List Directive → Part
going_on part directives = record {
  lines = part.lines ++ filter_map time_in directives;
  max_retries = last_or part.max_retries (filter_map number_in directives);
  success_wait = last_or part.success_wait (filter_map success_wait_in directives);
}

-- a section with other lines
abbrev with-lines : Part → List Line → Part
with-lines part lines = record part { lines = lines }

going_nothing : (part : Part) → going_on part [] ≡ part
going_nothing part = ap (with-lines part) (append-nil part.lines)

going_first : (directives : List Directive) → going_on no_part directives ≡ part_of directives
going_first directives = refl

going_time : (part : Part) (line : Line) (directives : List Directive) → going_on (record part { lines = part.lines ++ line ∷ [] }) directives ≡ going_on part (Time line ∷ directives)
going_time part line directives = ap (with-lines (going_on part directives)) (append_assoc part.lines (line ∷ []) (filter_map time_in directives))

going_retries : (part : Part) (number : ℕ) (directives : List Directive) → going_on (record part { max_retries = Some number }) directives ≡ going_on part (Retries number ∷ directives)
going_retries part number directives = refl

going_waits : (part : Part) (seconds : ℕ) (directives : List Directive) → going_on (record part { success_wait = Some seconds }) directives ≡ going_on part (SuccessWait seconds ∷ directives)
going_waits part seconds directives = refl

-- the systems of a run
abbrev pub systems_in : Parts → List System
systems_in parts = all_systems parts.done parts.name parts.part parts.defaults

abbrev pub the_parts : List System → Option (List ℕ) → Part → Part → Parts
the_parts done name part defaults = record { done = done; name = name; part = part; defaults = defaults }

run_named : (done : List System) (name : List ℕ) (part defaults : Part) (directives : List Directive)
    → systems_in (run (the_parts done (Some name) part defaults) directives) ≡ done ++ system_of name (going_on part (section directives)) defaults ∷ systems_of defaults directives
run_named done name part defaults [] = ap (λ (p : Part). done ++ system_of name p defaults ∷ []) (sym (going_nothing part))
run_named done name part defaults (Begin next ∷ directives) =
    run_named (done ++ system_of name part defaults ∷ []) next no_part defaults directives
    ∙ ap (λ (p : Part). (done ++ system_of name part defaults ∷ []) ++ system_of next p defaults ∷ systems_of defaults directives) (going_first (section directives))
    ∙ append_assoc done (system_of name part defaults ∷ []) (system_of next (part_of (section directives)) defaults ∷ systems_of defaults directives)
    ∙ ap (λ (p : Part). done ++ system_of name p defaults ∷ system_of next (part_of (section directives)) defaults ∷ systems_of defaults directives) (sym (going_nothing part))
run_named done name part defaults (Time line ∷ directives) =
    run_named done name (record part { lines = part.lines ++ line ∷ [] }) defaults directives
    ∙ ap (λ (p : Part). done ++ system_of name p defaults ∷ systems_of defaults directives) (going_time part line (section directives))
run_named done name part defaults (Retries number ∷ directives) =
    run_named done name (record part { max_retries = Some number }) defaults directives
    ∙ ap (λ (p : Part). done ++ system_of name p defaults ∷ systems_of defaults directives) (going_retries part number (section directives))
run_named done name part defaults (SuccessWait seconds ∷ directives) =
    run_named done name (record part { success_wait = Some seconds }) defaults directives
    ∙ ap (λ (p : Part). done ++ system_of name p defaults ∷ systems_of defaults directives) (going_waits part seconds (section directives))
run_named done name part defaults (Table table windows ∷ directives) = run_named done name part defaults directives
run_named done name part defaults (Skip line ∷ directives) = run_named done name part defaults directives

run_unnamed : (part defaults : Part) (directives : List Directive)
    → systems_in (run (the_parts [] None part defaults) directives) ≡ systems_of (going_on part (section directives)) directives
run_unnamed part defaults [] = refl
run_unnamed part defaults (Begin next ∷ directives) =
    run_named [] next no_part part directives
    ∙ ap (λ (p : Part). system_of next p part ∷ systems_of part directives) (going_first (section directives))
    ∙ ap (λ (d : Part). system_of next (part_of (section directives)) d ∷ systems_of d directives) (sym (going_nothing part))
run_unnamed part defaults (Time line ∷ directives) =
    run_unnamed (record part { lines = part.lines ++ line ∷ [] }) defaults directives
    ∙ ap (λ (p : Part). systems_of p directives) (going_time part line (section directives))
run_unnamed part defaults (Retries number ∷ directives) =
    run_unnamed (record part { max_retries = Some number }) defaults directives
    ∙ ap (λ (p : Part). systems_of p directives) (going_retries part number (section directives))
run_unnamed part defaults (SuccessWait seconds ∷ directives) =
    run_unnamed (record part { success_wait = Some seconds }) defaults directives
    ∙ ap (λ (p : Part). systems_of p directives) (going_waits part seconds (section directives))
run_unnamed part defaults (Table table windows ∷ directives) = run_unnamed part defaults directives
run_unnamed part defaults (Skip line ∷ directives) = run_unnamed part defaults directives

-- the systems of all lines
pub run_systems : (directives : List Directive) → systems_in (run no_parts directives) ≡ systems_of (part_of (section directives)) directives
run_systems directives = run_unnamed no_part no_part directives ∙ ap (λ (p : Part). systems_of p directives) (going_first (section directives))

-- what is kept while reading is what the lines so far said
pub record Holds (reading : Reading) (before : List Directive) : Type 0 where
  pub tables : reading.tables ≡ known predefined_tables before
  pub tabled : (name : List ℕ) → has_seen reading.tabled name ≡ list_any (bytes_eq name) (filter_map table_in before)
  pub named : (name : List ℕ) → has_seen reading.named name ≡ list_any (bytes_eq name) (filter_map name_in before)
  pub parts : reading.parts ≡ run no_parts before
  pub skipped : reading.skipped ≡ filter_map skip_in before

pub holds_nothing : Holds no_reading []
holds_nothing = record { tables = refl; tabled = λ name. refl; named = λ name. refl; parts = refl; skipped = refl }

-- a line that leaves a list as it was
same-names : (pick : Directive → Option (List ℕ)) (before : List Directive) (directive : Directive) → pick directive ≡ None → filter_map pick (before ++ directive ∷ []) ≡ filter_map pick before
same-names pick before directive none =
    filter_map-append pick before (directive ∷ []) ∙ ap (λ (o : Option (List ℕ)). filter_map pick before ++ cons_option o []) none ∙ append-nil (filter_map pick before)

same_skips : (before : List Directive) (directive : Directive) → skip_in directive ≡ None → filter_map skip_in (before ++ directive ∷ []) ≡ filter_map skip_in before
same_skips before directive none =
    filter_map-append skip_in before (directive ∷ []) ∙ ap (λ (o : Option ℕ). filter_map skip_in before ++ cons_option o []) none ∙ append-nil (filter_map skip_in before)

-- and one that adds to it
new_name : (pick : Directive → Option (List ℕ)) (before : List Directive) (directive : Directive) (seen : Seen) (added name : List ℕ) → pick directive ≡ Some added
    → ((other : List ℕ) → has_seen seen other ≡ list_any (bytes_eq other) (filter_map pick before))
    → has_seen (with_seen seen added) name ≡ list_any (bytes_eq name) (filter_map pick (before ++ directive ∷ []))
new_name pick before directive seen added name some same =
    seen_with seen added name
    ∙ ap (λ b. bytes_eq name added || b) (same name)
    ∙ sym (any-more name (filter_map pick before) added)
    ∙ ap (list_any (bytes_eq name)) (sym (filter_map-append pick before (directive ∷ []) ∙ ap (λ (o : Option (List ℕ)). filter_map pick before ++ cons_option o []) some))

-- what taking a line in gives: a fault, or the line and what is kept then
pub data Outcome (reading : Reading) (before : List Directive) (line : ℕ) (directive : Directive) : Type 0 where
  fault : (f : TimeFault) → absorbed reading line directive ≡ Err f → checked before line directive ≡ Err f → Outcome reading before line directive
  taken : (next : Reading) → absorbed reading line directive ≡ Ok next → checked before line directive ≡ Ok directive → Holds next (before ++ directive ∷ []) → Outcome reading before line directive

run_step : (reading : Reading) (before : List Directive) (directive : Directive) (next : Parts) → reading.parts ≡ run no_parts before → next ≡ run reading.parts (directive ∷ []) → next ≡ run no_parts (before ++ directive ∷ [])
run_step reading before directive next parts is = is ∙ ap (λ (p : Parts). run p (directive ∷ [])) parts ∙ sym (run-more no_parts before directive)

known_step : (reading : Reading) (before : List Directive) (directive : Directive) (next : Tables) → reading.tables ≡ known predefined_tables before → next ≡ known reading.tables (directive ∷ []) → next ≡ known predefined_tables (before ++ directive ∷ [])
known_step reading before directive next tables is = is ∙ ap (λ (t : Tables). known t (directive ∷ [])) tables ∙ sym (known_more predefined_tables before directive)

-- each line in turn
outcome : (reading : Reading) (before : List Directive) (line : ℕ) (directive : Directive) → Holds reading before → Outcome reading before line directive
outcome reading before line (Begin name) holds =
    let next : Reading = record { tables = reading.tables; tabled = reading.tabled; named = with_seen reading.named name; parts = begin_part reading.parts name; skipped = reading.skipped } in
    elim (cases_Bool (has_seen reading.named name)) [
      | inl seen ↦ fault (SystemTwice line)
          (cond-true (has_seen reading.named name) (Err (SystemTwice line)) (Ok next) seen)
          (cond-true (list_any (bytes_eq name) (filter_map name_in before)) (Err (SystemTwice line)) (Ok (Begin name)) (sym (holds.named name) ∙ seen))
      | inr new ↦ taken next
          (cond-false (has_seen reading.named name) (Err (SystemTwice line)) (Ok next) new)
          (cond-false (list_any (bytes_eq name) (filter_map name_in before)) (Err (SystemTwice line)) (Ok (Begin name)) (sym (holds.named name) ∙ new))
          (record {
            tables = known_step reading before (Begin name) reading.tables holds.tables refl;
            tabled = λ other. holds.tabled other ∙ ap (list_any (bytes_eq other)) (sym (same-names table_in before (Begin name) refl));
            named = λ other. new_name name_in before (Begin name) reading.named name other refl holds.named;
            parts = run_step reading before (Begin name) (begin_part reading.parts name) holds.parts refl;
            skipped = holds.skipped ∙ sym (same_skips before (Begin name) refl);
          })
    ]
outcome reading before line (Time time) holds =
    let next : Reading = record { tables = reading.tables; tabled = reading.tabled; named = reading.named; parts = with_line reading.parts time; skipped = reading.skipped } in
    let same : reading.parts.part.lines ≡ filter_map time_in (present [] before) = ap (λ (p : Parts). p.part.lines) holds.parts ∙ run-present no_parts [] before refl in
    let full : nat_le 32 (length reading.parts.part.lines) ≡ nat_le 32 (length (filter_map time_in (present [] before))) = ap (λ (ls : List Line). nat_le 32 (length ls)) same in
    elim (cases_Bool (nat_le 32 (length reading.parts.part.lines))) [
      | inl many ↦ fault (TooManyLines line)
          (cond-true (nat_le 32 (length reading.parts.part.lines)) (Err (TooManyLines line)) (Ok next) many)
          (cond-true (nat_le 32 (length (filter_map time_in (present [] before)))) (Err (TooManyLines line)) (Ok (Time time)) (sym full ∙ many))
      | inr room ↦ taken next
          (cond-false (nat_le 32 (length reading.parts.part.lines)) (Err (TooManyLines line)) (Ok next) room)
          (cond-false (nat_le 32 (length (filter_map time_in (present [] before)))) (Err (TooManyLines line)) (Ok (Time time)) (sym full ∙ room))
          (record {
            tables = known_step reading before (Time time) reading.tables holds.tables refl;
            tabled = λ other. holds.tabled other ∙ ap (list_any (bytes_eq other)) (sym (same-names table_in before (Time time) refl));
            named = λ other. holds.named other ∙ ap (list_any (bytes_eq other)) (sym (same-names name_in before (Time time) refl));
            parts = run_step reading before (Time time) (with_line reading.parts time) holds.parts refl;
            skipped = holds.skipped ∙ sym (same_skips before (Time time) refl);
          })
    ]
outcome reading before line (Retries number) holds =
    let next : Reading = record { tables = reading.tables; tabled = reading.tabled; named = reading.named; parts = with_retries reading.parts number; skipped = reading.skipped } in
    taken next refl refl (record {
      tables = known_step reading before (Retries number) reading.tables holds.tables refl;
      tabled = λ other. holds.tabled other ∙ ap (list_any (bytes_eq other)) (sym (same-names table_in before (Retries number) refl));
      named = λ other. holds.named other ∙ ap (list_any (bytes_eq other)) (sym (same-names name_in before (Retries number) refl));
      parts = run_step reading before (Retries number) (with_retries reading.parts number) holds.parts refl;
      skipped = holds.skipped ∙ sym (same_skips before (Retries number) refl);
    })
outcome reading before line (SuccessWait seconds) holds =
    let next : Reading = record { tables = reading.tables; tabled = reading.tabled; named = reading.named; parts = with_success_wait reading.parts seconds; skipped = reading.skipped } in
    taken next refl refl (record {
      tables = known_step reading before (SuccessWait seconds) reading.tables holds.tables refl;
      tabled = λ other. holds.tabled other ∙ ap (list_any (bytes_eq other)) (sym (same-names table_in before (SuccessWait seconds) refl));
      named = λ other. holds.named other ∙ ap (list_any (bytes_eq other)) (sym (same-names name_in before (SuccessWait seconds) refl));
      parts = run_step reading before (SuccessWait seconds) (with_success_wait reading.parts seconds) holds.parts refl;
      skipped = holds.skipped ∙ sym (same_skips before (SuccessWait seconds) refl);
    })
outcome reading before line (Table name windows) holds =
    let tables = insert_entry (slice_cmp nat_cmp) reading.tables name windows in
    let next : Reading = record { tables = tables; tabled = with_seen reading.tabled name; named = reading.named; parts = reading.parts; skipped = reading.skipped } in
    elim (cases_Bool (has_seen reading.tabled name)) [
      | inl seen ↦ fault (TableTwice line)
          (cond-true (has_seen reading.tabled name) (Err (TableTwice line)) (Ok next) seen)
          (cond-true (list_any (bytes_eq name) (filter_map table_in before)) (Err (TableTwice line)) (Ok (Table name windows)) (sym (holds.tabled name) ∙ seen))
      | inr new ↦ taken next
          (cond-false (has_seen reading.tabled name) (Err (TableTwice line)) (Ok next) new)
          (cond-false (list_any (bytes_eq name) (filter_map table_in before)) (Err (TableTwice line)) (Ok (Table name windows)) (sym (holds.tabled name) ∙ new))
          (record {
            tables = known_step reading before (Table name windows) tables holds.tables refl;
            tabled = λ other. new_name table_in before (Table name windows) reading.tabled name other refl holds.tabled;
            named = λ other. holds.named other ∙ ap (list_any (bytes_eq other)) (sym (same-names name_in before (Table name windows) refl));
            parts = run_step reading before (Table name windows) reading.parts holds.parts refl;
            skipped = holds.skipped ∙ sym (same_skips before (Table name windows) refl);
          })
    ]
outcome reading before line (Skip number) holds =
    let next : Reading = record { tables = reading.tables; tabled = reading.tabled; named = reading.named; parts = reading.parts; skipped = reading.skipped ++ number ∷ [] } in
    taken next refl refl (record {
      tables = known_step reading before (Skip number) reading.tables holds.tables refl;
      tabled = λ other. holds.tabled other ∙ ap (list_any (bytes_eq other)) (sym (same-names table_in before (Skip number) refl));
      named = λ other. holds.named other ∙ ap (list_any (bytes_eq other)) (sym (same-names name_in before (Skip number) refl));
      parts = run_step reading before (Skip number) reading.parts holds.parts refl;
      skipped = ap (λ (s : List ℕ). s ++ number ∷ []) holds.skipped ∙ sym (filter_map-append skip_in before (Skip number ∷ []));
    })

-- the answer, once all lines are read
abbrev pub answer_read : Result Reading TimeFault → Result SysFile TimeFault
answer_read read = read >>= λ reading. Ok (file_of reading)

abbrev pub answer_said : Result (List Directive) TimeFault → Result SysFile TimeFault
answer_said said = said >>= λ directives. Ok (file_with directives)

file_same : (systems others : List System) (skipped other : List ℕ) → systems ≡ others → skipped ≡ other
    → let one : SysFile = record { systems = systems; skipped = skipped } in let two : SysFile = record { systems = others; skipped = other } in one ≡ two
file_same systems others skipped other same equal =
    ap (λ (s : List System). let f : SysFile = record { systems = s; skipped = skipped } in f) same ∙ ap (λ (n : List ℕ). let f : SysFile = record { systems = others; skipped = n } in f) equal

file_held : (reading : Reading) (before : List Directive) → Holds reading before → file_of reading ≡ file_with before
file_held reading before holds =
    file_same (systems_in reading.parts) (systems_of (part_of (section before)) before) reading.skipped (filter_map skip_in before)
    (ap systems_in holds.parts ∙ run_systems before) holds.skipped

-- what follows a line
abbrev pub bind_file : Result Reading TimeFault → (Reading → Result SysFile TimeFault) → Result SysFile TimeFault
bind_file read more = read >>= more

abbrev pub bind_said : Result (List Directive) TimeFault → (List Directive → Result SysFile TimeFault) → Result SysFile TimeFault
bind_said said rest = said >>= rest

-- what a line says, taken in and checked, if the rest agrees
with_directive : (reading : Reading) (before : List Directive) (line : ℕ) (directive : Directive) (more : Reading → Result SysFile TimeFault) (rest : List Directive → Result SysFile TimeFault)
    → Outcome reading before line directive → ((next : Reading) (directives : List Directive) → Holds next directives → more next ≡ rest directives)
    → (bind_file (absorbed reading line directive) more) ≡ bind_said (checked_if before line (Some directive)) rest
with_directive reading before line directive more rest (fault f absorbs checks) agrees =
    ap (λ (r : Result Reading TimeFault). bind_file r more) absorbs
    ∙ sym (ap (λ (r : Result Directive TimeFault). bind_said (r >>= λ said. Ok (before ++ said ∷ [])) rest) checks)
with_directive reading before line directive more rest (taken next absorbs checks holds) agrees =
    ap (λ (r : Result Reading TimeFault). bind_file r more) absorbs
    ∙ agrees next (before ++ directive ∷ []) holds
    ∙ sym (ap (λ (r : Result Directive TimeFault). bind_said (r >>= λ said. Ok (before ++ said ∷ [])) rest) checks)

with_said : (reading : Reading) (before : List Directive) (line : ℕ) (said : Result (Option Directive) TimeFault) (more : Reading → Result SysFile TimeFault) (rest : List Directive → Result SysFile TimeFault)
    → Holds reading before → ((next : Reading) (directives : List Directive) → Holds next directives → more next ≡ rest directives)
    → bind_file (said >>= λ s. absorbed_if reading line s) more ≡ bind_said (said >>= λ s. checked_if before line s) rest
with_said reading before line (Err f) more rest holds agrees = refl
with_said reading before line (Ok None) more rest holds agrees = agrees reading before holds
with_said reading before line (Ok (Some directive)) more rest holds agrees = with_directive reading before line directive more rest (outcome reading before line directive holds) agrees

bind_assoc_read : (read : Result Reading TimeFault) (lines : List Numbered) → answer_read (read >>= λ next. lines_read next lines) ≡ bind_file read (λ next. answer_read (lines_read next lines))
bind_assoc_read (Ok reading) lines = refl
bind_assoc_read (Err f) lines = refl

bind_assoc_said : (said : Result (List Directive) TimeFault) (lines : List Numbered) → answer_said (said >>= λ directives. directives_of directives lines) ≡ bind_said said (λ directives. answer_said (directives_of directives lines))
bind_assoc_said (Ok directives) lines = refl
bind_assoc_said (Err f) lines = refl

-- lines read one after the other say what they say all together
pub lines_agree : (lines : List Numbered) (reading : Reading) (before : List Directive) → Holds reading before → answer_read (lines_read reading lines) ≡ answer_said (directives_of before lines)
unfolding lines_read directives_of
lines_agree [] reading before holds = ap Ok (file_held reading before holds)
lines_agree (line ∷ more) reading before holds =
    bind_assoc_read (line_read reading line.number line.line) more
    ∙ ap (λ (t : Tables). bind_file (line_says t line.number line.line >>= λ s. absorbed_if reading line.number s) (λ next. answer_read (lines_read next more))) holds.tables
    ∙ with_said reading before line.number (line_says (known predefined_tables before) line.number line.line) (λ next. answer_read (lines_read next more)) (λ directives. answer_said (directives_of directives more))
    holds (λ next directives held. lines_agree more next directives held)
    ∙ sym (bind_assoc_said (line_says (known predefined_tables before) line.number line.line >>= λ s. checked_if before line.number s) more)

pub file_agrees : (text : List ℕ) → file_read text ≡ sys_file_of text
file_agrees text = lines_agree (joined 1 (lines text)) no_reading [] holds_nothing
