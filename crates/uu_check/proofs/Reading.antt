-- The rows of a state in earlier versions fit the types in which they are read.
use Rattle.std.proofs.Common.{◌≡◌, ℕ, zero, suc, ◌+◌, ◌<◌, ◌≤◌, Bool, true, false, cond, List, [], ◌∷◌, map, length, drop, IsTrue, IfSome, Option, None, Some, Ok, Err, find, refl, sym, subst, arith}
use Rattle.std.specs.Prelude.{nat_lt}
use Rattle.std.specs.Str.Lines.{lines}
use Rattle.std.specs.List.{AllByRecursion, flat_map}
use Rattle.std.proofs.lemmas.Bool.Decides.{nat_tests}
use Rattle.std.proofs.lemmas.List.{length-take}
use Rattle.std.proofs.lemmas.List.Elements.{recursion_from_All}
use Rattle.uu_names.specs.Name.{is_site_name, is_word}
use Rattle.uu_names.proofs.Basics.{text_from, all_weaker, all_mapped}
use Rattle.uu_map.specs.declared.fault.MapFault.TheVariants.{BadHost, TooLarge}
use Rattle.uu_map.specs.Text.{host_of, host_by, as_host, named_by, is_name_line}
use Rattle.uu_times.specs.declared.system.Line.{Line}
use Rattle.uu_times.specs.Ranges.{AreRunsFrom}
use Rattle.uu_core.specs.declared.system.Outcome.{Outcome}
use Rattle.uu_core.specs.declared.system.Outcome.TheVariants.{Never, Failed, Done}
use Rattle.uu_core.specs.declared.system.CallState.{CallState}
use Rattle.uu_core.specs.declared.system.SystemRow.{SystemRow}
use Rattle.uu_core.specs.State.{State, Job, MapEntry, Link, IsLink, IsJob, IsCall, IsOutcome, IsDefinition, IsWellFormed, head_of, numbers_end}
use Rattle.uu_core.specs.declared.custody.Taken.{Taken}
use Rattle.uu_core.specs.Marks.{marks_end}
use Rattle.uu_core.specs.State.{same_text}
use Rattle.uu_tables.specs.Earlier.{waits_from, waits_of, PlacedLine, earlier_tables_of, bare_system, line_columns, range_columns, placed, placed_from, ranges_of, pieces_of, piece_count}
use Rattle.uu_tables.specs.Tables.{links_from, links_of, taken_columns, taken_rows, entry_columns, outcome_number, reason_of}
use Rattle.uu_check.specs.Readable.{IsLinkRow, IsTakenRow, IsWaitRow, IsBareRow, IsLineRow, IsRangeRow, IsJobRow, IsPieceRow, IsEntryRow, AreEarlierReadable}
use Rattle.uu_check.proofs.Lists.{both, all_flat_of}
use Rattle.uu_check.proofs.Cuts.{pieces_from, as_from}
use Rattle.uu_check.proofs.Heads.{job_to}
use Rattle.uu_check.proofs.Lines.{IsGoodLine}
use Rattle.uu_check.proofs.LinkRows.{knows, known_later}
use Rattle.uu_check.proofs.Verdict.{good_lines}

-- ---- systems

pub few_outcomes : (it : Outcome) → outcome_number it ≤ 2
few_outcomes Never = omega arith
few_outcomes (Failed why) = omega arith
few_outcomes Done = omega arith

pub why_word : (it : Outcome) (call : CallState) → IsOutcome it call → IfSome (reason_of it) (λ why. IsTrue (is_word why))
why_word Never call good = tt
why_word (Failed why) call good = good
why_word Done call good = tt

system_row : (row : SystemRow) → IsDefinition row.def × IsCall row.call → IsBareRow (bare_system row)
system_row row good = record {
  name = good.0.name;
  max_retries = good.0.limits.2;
  last = good.1.last;
  failures = good.1.failures;
  wait = good.1.wait;
  outcome = few_outcomes row.call.outcome;
  why = why_word row.call.outcome row.call good.1.outcome;
}

wait_rows : (row : SystemRow) → IsDefinition row.def × IsCall row.call → AllByRecursion IsWaitRow (waits_of row)
wait_rows row good = go row.def.success_wait good.0.limits.3
  where
    go : (n : ℕ) → n ≤ 31536000 → AllByRecursion IsWaitRow (waits_from row.def.name n)
    go zero few = tt
    go (suc n) few = (record { system = good.0.name; wait = few }, tt)

-- ---- lines and ranges

pub record IsPlaced (p : PlacedLine) : Type 0 where
  pub system : IsTrue (is_site_name p.system)
  pub place : p.place < 32
  pub good : IsGoodLine p

are_placed : (name : List ℕ) → IsTrue (is_site_name name) → (place : ℕ) (lines : List Line) → place + length lines ≤ 32 → AllByRecursion IsGoodLine (placed_from name place lines) → AllByRecursion IsPlaced (placed_from name place lines)
are_placed name site place [] few good = tt
are_placed name site place (line ∷ lines) few good = (record { system = site; place = omega (arith, few); good = good.0 }, are_placed name site (place + 1) lines (omega (arith, few)) good.1)

placed_lines : (row : SystemRow) → IsDefinition row.def × IsCall row.call → AllByRecursion IsPlaced (placed row)
placed_lines row good = let few = good.0.limits.0 in are_placed row.def.name good.0.name 0 row.def.lines (omega (arith, few)) (good_lines row good)

line_row : (p : PlacedLine) → IsPlaced p → IsLineRow (line_columns p)
line_row p good = record { system = good.system; place = good.place; grade = good.good.0.0; retry = good.good.1 }

range_rows : (system : List ℕ) (place : ℕ) → IsTrue (is_site_name system) → place < 32 → (start : ℕ) (ranges : List (ℕ × ℕ)) → AreRunsFrom start ranges → AllByRecursion IsRangeRow (map (range_columns system place) ranges)
range_rows system place site low start [] runs = tt
range_rows system place site low start (range ∷ ranges) runs = let a = runs.1 in let b = runs.2 in
    (record { system = site; place = low; low = omega (arith, a, b); high = b }, range_rows system place site low (range.1 + 2) ranges runs.3)

line_ranges : (p : PlacedLine) → IsPlaced p → AllByRecursion IsRangeRow (ranges_of p)
line_ranges p good = range_rows p.system p.place good.system good.place 0 p.line.windows good.good.0.1

-- ---- jobs and pieces

piece_rows : (job : ℕ) → job < numbers_end → (place n : ℕ) (bytes : List ℕ) → place + n ≤ 64 → AllByRecursion IsPieceRow (pieces_from job place n bytes)
piece_rows job low place zero bytes few = tt
piece_rows job low place (suc n) bytes few =
    (record { job = low; place = omega (arith, few); length = (let e = length-take 16384 bytes in omega (arith, e)) }, piece_rows job low (place + 1) n (drop 16384 bytes) (omega (arith, few)))

few_pieces : (size : ℕ) → size ≤ 1048576 → piece_count size ≤ 64
few_pieces size h = omega (arith, h)

job_pieces : (j : Job) → IsJob j × (j.number < numbers_end) → AllByRecursion IsPieceRow (pieces_of j)
job_pieces j good =
    let few = few_pieces (length j.bytes) good.0.bytes in
    subst (AllByRecursion IsPieceRow) (sym (as_from j.number j.bytes 0 (piece_count (length j.bytes)))) (piece_rows j.number good.1 0 (piece_count (length j.bytes)) j.bytes (omega (arith, few)))

-- ---- entries

host_named : (name host : List ℕ) → as_host name ≡ Ok host → IsTrue (is_site_name host)
host_named [] host h = absurd (cc)
host_named (b ∷ bs) host h = go (is_site_name (b ∷ bs)) refl h
  where
    same : {a c : List ℕ} → a ≡ c → is_site_name a ≡ true → is_site_name c ≡ true
    same e k = subst (λ n. is_site_name n ≡ true) e k

    go : (t : Bool) → is_site_name (b ∷ bs) ≡ t → cond t (Ok (b ∷ bs)) (Err BadHost) ≡ Ok host → IsTrue (is_site_name host)
    go true e k = let it : (b ∷ bs) ≡ host = cc in same it e
    go false e k = absurd (cc)

host_found : (line : Option (List ℕ)) (host : List ℕ) → host_by line ≡ Ok host → IsTrue (is_site_name host)
host_found None host h = absurd (cc)
host_found (Some line) host h = host_named (named_by line) host h

pub entry_row : (e : MapEntry) → host_of e.bytes ≡ Ok e.host → IsEntryRow (entry_columns e)
entry_row e h = go (nat_lt 65536 (length e.bytes)) refl h
  where
    small : (n : ℕ) → nat_lt 65536 n ≡ false → n ≤ 65536
    small n k = grind (arith, nat_tests, k)

    go : (t : Bool) → nat_lt 65536 (length e.bytes) ≡ t → cond t (Err TooLarge) (host_by (find is_name_line (lines e.bytes))) ≡ Ok e.host → IsEntryRow (entry_columns e)
    go true k is = absurd (cc)
    go false k is = record { host = host_found (find is_name_line (lines e.bytes)) e.host is; size = small (length e.bytes) k }

-- ---- links

-- a name that is known is one of a system
pub known_name : (rows : List SystemRow) → AllByRecursion (λ (row : SystemRow). IsDefinition row.def) rows → (name : List ℕ) → IsTrue (knows rows name) → IsTrue (is_site_name name)
known_name [] h name k = absurd (let no : IsTrue false = k in cc)
known_name (x ∷ xs) h name k = by_test (same_text x.def.name name) refl (known_name xs h.1 name)
  where
    by_test : (t : Bool) → same_text x.def.name name ≡ t → (IsTrue (knows xs name) → IsTrue (is_site_name name)) → IsTrue (is_site_name name)
    by_test true e rest = subst (λ n. IsTrue (is_site_name n)) (text_from x.def.name name e) h.0.name
    by_test false e rest = rest (known_later x xs name e k)

pub record IsNamed (next : ℕ) (l : Link) : Type 0 where
  pub name : IsTrue (is_site_name l.name)
  pub good : IsLink l
  pub given : AllByRecursion (λ (t : Taken). t.job < next) l.taken

pub link_rows : (next : ℕ) (l : Link) → IsNamed next l → AllByRecursion IsLinkRow (links_of l)
link_rows next l it = go l.below it.good.below
  where
    go : (n : ℕ) → n ≤ numbers_end → AllByRecursion IsLinkRow (links_from l.name n)
    go zero few = tt
    go (suc n) few = (record { system = it.name; below = few }, tt)

pub taken_in_rows : (next : ℕ) → next ≤ numbers_end → (l : Link) → IsNamed next l → AllByRecursion IsTakenRow (taken_rows l)
taken_in_rows next last l it = go l.taken (recursion_from_All _ l.taken it.good.numbers) it.given
  where
    go : (ts : List Taken) → AllByRecursion (λ (t : Taken). (t.number ≤ numbers_end) × (t.mark < marks_end) × (1 ≤ t.job)) ts → AllByRecursion (λ (t : Taken). t.job < next) ts → AllByRecursion IsTakenRow (map (taken_columns l.name) ts)
    go [] h k = tt
    go (t ∷ ts) h k = (record { system = it.name; number = h.0.0; mark = h.0.1; some_job = h.0.2; job = (let low = k.0 in omega (arith, low, last)) }, go ts h.1 k.1)

-- ---- all of them

pub readable : (s : State) → IsWellFormed s → AreEarlierReadable (earlier_tables_of s)
readable s good =
    let rows = both (λ (row : SystemRow). IsDefinition row.def) (λ (row : SystemRow). IsCall row.call) (λ (row : SystemRow). IsDefinition row.def × IsCall row.call) (λ row h k. (h, k)) s.systems (recursion_from_All _ s.systems good.definitions) (recursion_from_All _ s.systems good.calls) in
    let last = good.next in
    let jobs = both IsJob (λ (j : Job). j.number < s.next) (λ (j : Job). IsJob j × (j.number < numbers_end)) (λ j h k. (h, omega (arith, k, last))) s.jobs (recursion_from_All IsJob s.jobs good.jobs) (recursion_from_All (λ (j : Job). j.number < s.next) s.jobs good.below_next) in
    let names = both (λ (l : Link). IsTrue (knows s.systems l.name)) IsLink (λ (l : Link). IsTrue (is_site_name l.name) × IsLink l) (λ l k g. (known_name s.systems (recursion_from_All _ s.systems good.definitions) l.name k, g)) s.links (recursion_from_All _ s.links good.linked) (recursion_from_All IsLink s.links good.links) in
    let named = both (λ (l : Link). IsTrue (is_site_name l.name) × IsLink l) (λ (l : Link). AllByRecursion (λ (t : Taken). t.job < s.next) l.taken) (IsNamed s.next) (λ l p g. record { name = p.0; good = p.1; given = g }) s.links names (all_weaker _ _ (λ (l : Link) h. recursion_from_All _ l.taken h) s.links (recursion_from_All _ s.links good.taken)) in
    let fine = all_flat_of IsPlaced _ placed placed_lines s.systems rows in
    record {
      next = good.next;
      systems = all_mapped IsBareRow bare_system s.systems (all_weaker _ _ system_row s.systems rows);
      lines = all_mapped IsLineRow line_columns (flat_map placed s.systems) (all_weaker _ _ line_row (flat_map placed s.systems) fine);
      ranges = all_flat_of IsRangeRow IsPlaced ranges_of line_ranges (flat_map placed s.systems) fine;
      jobs = all_mapped IsJobRow head_of s.jobs (all_weaker _ _ (λ j h. record { number = h.1; good = job_to j h.0 }) s.jobs jobs);
      pieces = all_flat_of IsPieceRow _ pieces_of job_pieces s.jobs jobs;
      success_waits = all_flat_of IsWaitRow _ waits_of wait_rows s.systems rows;
      links = all_flat_of IsLinkRow _ links_of (link_rows s.next) s.links named;
      taken = all_flat_of IsTakenRow _ taken_rows (taken_in_rows s.next last) s.links named;
      entries = all_mapped IsEntryRow entry_columns s.entries (all_weaker _ _ entry_row s.entries (recursion_from_All (λ (e : MapEntry). host_of e.bytes ≡ Ok e.host) s.entries good.hosts));
    }
