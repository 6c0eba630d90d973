-- The tables of a state in earlier versions are in the order of their keys.
use Rattle.std.proofs.Common.{◌≡◌, ℕ, zero, suc, ◌+◌, ◌<◌, true, List, [], ◌∷◌, map, length, take, drop, Less, Equal, refl, sym, ap, ◌∙◌, subst, arith}
use Rattle.std.specs.List.{AllByRecursion, flat_map}
use Rattle.std.specs.declared.cmp.Ordering.{Ordering}
use Rattle.std.specs.declared.cmp.Ordering.TheVariants.{Greater}
use Rattle.std.specs.Ordering.{is_lt, nat_cmp, ordering_then}
use Rattle.std.proofs.lemmas.Cmp.{nat_list_cmp_total, nat_cmp_total, tied_itself}
use Rattle.std.proofs.lemmas.List.{map-id}
use Rattle.std.proofs.lemmas.List.Elements.{recursion_from_All}
use Rattle.uu_names.proofs.Basics.{less_is, pairs_by_recursion, all_weaker, AllPairsByRecursion, lt-nat_cmp}
use Rattle.uu_times.specs.declared.system.Line.{Line}
use Rattle.uu_times.specs.Ranges.{AreRunsFrom}
use Rattle.uu_core.specs.declared.job.JobHead.{JobHead}
use Rattle.uu_core.specs.declared.system.SystemRow.{SystemRow}
use Rattle.uu_core.specs.State.{State, Job, MapEntry, IsLink, IsCall, IsDefinition, IsWellFormed, ComesBefore, head_of}
use Rattle.uu_tables.specs.declared.earlier.RangeColumns.{RangeColumns}
use Rattle.uu_tables.specs.declared.earlier.WaitColumns.{WaitColumns}
use Rattle.uu_core.specs.declared.custody.Taken.{Taken}
use Rattle.uu_tables.specs.declared.earlier.BareSystem.{BareSystem}
use Rattle.uu_tables.specs.declared.rows.LinkColumns.{LinkColumns}
use Rattle.uu_tables.specs.declared.rows.TakenColumns.{TakenColumns}
use Rattle.uu_tables.specs.declared.earlier.Piece.{Piece}
use Rattle.uu_tables.specs.Earlier.{waits_from, waits_of, PlacedLine, earlier_tables_of, bare_system, line_columns, range_columns, placed, placed_from, ranges_of, pieces_of, piece_count}
use Rattle.uu_tables.specs.Tables.{links_from, links_of, taken_columns, taken_rows, entry_columns}
use Rattle.uu_tables.specs.Order.{line_cmp, range_cmp, piece_cmp, taken_cmp}
use Rattle.uu_check.specs.Order.{AreEarlierInOrder}
use Rattle.uu_check.specs.Walk.{walk, rises}
use Rattle.uu_check.specs.Tests.{owns_link, fits_link, link_before, system_before}
use Rattle.uu_check.proofs.Walks.{items_of}
use Rattle.uu_check.proofs.Lists.{pairs_by_place, weaker_pairs, both, flat_pairs, Across, mapped_pairs, risen, does_rise, all_flat_of}
use Rattle.uu_check.proofs.Cuts.{pieces_from, as_from}
use Rattle.uu_check.proofs.Lines.{IsGoodLine}
use Rattle.uu_check.proofs.LinkRows.{LinkBefore, IsBelow, below_head, below_rows, below_of_rows, BelowBefore}
use Rattle.uu_check.proofs.Verdict.{good_lines}

-- ---- lines

abbrev LineBefore : PlacedLine → PlacedLine → Type 0
LineBefore a b = line_cmp (line_columns a) (line_columns b) ≡ Less

later_lines : (name : List ℕ) (line : Line) (here place : ℕ) (lines : List Line) → here < place → AllByRecursion (LineBefore (record { system = name; place = here; line = line })) (placed_from name place lines)
later_lines name line here place [] below = tt
later_lines name line here place (next ∷ lines) below = (rw (tied_itself nat_list_cmp_total name) (lt-nat_cmp here place below), later_lines name line here (place + 1) lines (omega (arith, below)))

own_lines : (name : List ℕ) (place : ℕ) (lines : List Line) → AllPairsByRecursion LineBefore (placed_from name place lines)
own_lines name place [] = tt
own_lines name place (line ∷ lines) = (later_lines name line place (place + 1) lines (omega arith), own_lines name (place + 1) lines)

other_lines : (a : PlacedLine) (name : List ℕ) (place : ℕ) (lines : List Line) → ComesBefore a.system name → AllByRecursion (LineBefore a) (placed_from name place lines)
other_lines a name place [] h = tt
other_lines a name place (line ∷ lines) h = (rw h refl, other_lines a name (place + 1) lines h)

across_lines : (x y : SystemRow) → ComesBefore x.def.name y.def.name → Across LineBefore (placed x) (placed y)
across_lines x y before = go 0 x.def.lines
  where
    go : (place : ℕ) (lines : List Line) → Across LineBefore (placed_from x.def.name place lines) (placed y)
    go place [] = tt
    go place (line ∷ lines) = (other_lines (record { system = x.def.name; place = place; line = line }) y.def.name 0 y.def.lines before, go (place + 1) lines)

-- ---- ranges

abbrev RangeBefore : RangeColumns → RangeColumns → Type 0
RangeBefore a b = range_cmp a b ≡ Less

later_ranges : (system : List ℕ) (place : ℕ) (range : ℕ × ℕ) (start : ℕ) (ranges : List (ℕ × ℕ)) → range.0 < start → AreRunsFrom start ranges → AllByRecursion (RangeBefore (range_columns system place range)) (map (range_columns system place) ranges)
later_ranges system place range start [] below runs = tt
later_ranges system place range start (next ∷ ranges) below runs =
    (rw (tied_itself nat_list_cmp_total system, tied_itself nat_cmp_total place) (lt-nat_cmp range.0 next.0 (omega (arith, below, runs.0))), later_ranges system place range (next.1 + 2) ranges (omega (arith, below, runs.0, runs.1)) runs.3)

own_ranges : (system : List ℕ) (place start : ℕ) (ranges : List (ℕ × ℕ)) → AreRunsFrom start ranges → AllPairsByRecursion RangeBefore (map (range_columns system place) ranges)
own_ranges system place start [] runs = tt
own_ranges system place start (range ∷ ranges) runs = (later_ranges system place range (range.1 + 2) ranges (omega (arith, runs.1)) runs.3, own_ranges system place (range.1 + 2) ranges runs.3)

across_ranges : (a b : PlacedLine) → LineBefore a b → Across RangeBefore (ranges_of a) (ranges_of b)
across_ranges a b before = go a.line.windows
  where
    then_less : (p q r : Ordering) → ordering_then p q ≡ Less → ordering_then p (ordering_then q r) ≡ Less
    then_less Less q r h = refl
    then_less Equal Less r h = refl
    then_less Equal Equal r h = absurd (cc)
    then_less Equal Greater r h = absurd (cc)
    then_less Greater q r h = absurd (cc)

    inner : (low : ℕ × ℕ) (ranges : List (ℕ × ℕ)) → AllByRecursion (RangeBefore (range_columns a.system a.place low)) (map (range_columns b.system b.place) ranges)
    inner low [] = tt
    inner low (range ∷ ranges) = (then_less _ _ (nat_cmp low.0 range.0) before, inner low ranges)

    go : (ranges : List (ℕ × ℕ)) → Across RangeBefore (map (range_columns a.system a.place) ranges) (ranges_of b)
    go [] = tt
    go (range ∷ ranges) = (inner range b.line.windows, go ranges)

-- ---- pieces

abbrev PieceBefore : Piece → Piece → Type 0
PieceBefore a b = piece_cmp a b ≡ Less

abbrev first : ℕ → ℕ → List ℕ → Piece
first job place bytes = record { job = job; place = place; bytes = take 16384 bytes }

later_pieces : (p : Piece) (place n : ℕ) (bytes : List ℕ) → p.place < place → AllByRecursion (PieceBefore p) (pieces_from p.job place n bytes)
later_pieces p place zero bytes below = tt
later_pieces p place (suc n) bytes below = (rw (tied_itself nat_cmp_total p.job) (lt-nat_cmp p.place place below), later_pieces p (place + 1) n _ (omega (arith, below)))

own_pieces : (job place n : ℕ) (bytes : List ℕ) → AllPairsByRecursion PieceBefore (pieces_from job place n bytes)
own_pieces job place zero bytes = tt
own_pieces job place (suc n) bytes = (later_pieces (first job place bytes) (place + 1) n (drop 16384 bytes) (omega arith), own_pieces job (place + 1) n (drop 16384 bytes))

other_pieces : (p : Piece) (job place n : ℕ) (bytes : List ℕ) → p.job < job → AllByRecursion (PieceBefore p) (pieces_from job place n bytes)
other_pieces p job place zero bytes below = tt
other_pieces p job place (suc n) bytes below = (rw (lt-nat_cmp p.job job below) refl, other_pieces p job (place + 1) n _ below)

across_from : (low place n : ℕ) (bytes : List ℕ) (job m : ℕ) (others : List ℕ) → low < job → Across PieceBefore (pieces_from low place n bytes) (pieces_from job 0 m others)
across_from low place zero bytes job m others below = tt
across_from low place (suc n) bytes job m others below = (other_pieces (first low place bytes) job 0 m others below, across_from low (place + 1) n (drop 16384 bytes) job m others below)

pub as_pieces : (j : Job) → pieces_of j ≡ pieces_from j.number 0 (piece_count (length j.bytes)) j.bytes
as_pieces j = as_from j.number j.bytes 0 (piece_count (length j.bytes))

across_pieces : (x y : Job) → x.number < y.number → Across PieceBefore (pieces_of x) (pieces_of y)
across_pieces x y below = rw (as_pieces x, as_pieces y) (across_from x.number 0 (piece_count (length x.bytes)) x.bytes y.number (piece_count (length y.bytes)) y.bytes below)

-- ---- success waits

abbrev WaitBefore : WaitColumns → WaitColumns → Type 0
WaitBefore a b = ComesBefore a.system b.system

own_wait : (name : List ℕ) (n : ℕ) → AllPairsByRecursion WaitBefore (waits_from name n)
own_wait name zero = tt
own_wait name (suc n) = (tt, tt)

across_waits : (a b : List ℕ) (n m : ℕ) → ComesBefore a b → Across WaitBefore (waits_from a n) (waits_from b m)
across_waits a b zero m before = tt
across_waits a b (suc n) zero before = (tt, tt)
across_waits a b (suc n) (suc m) before = ((before, tt), tt)

-- ---- links, and what was taken by them

abbrev pub RowBefore : LinkColumns → LinkColumns → Type 0
RowBefore a b = ComesBefore a.system b.system

pub own_link : (name : List ℕ) (n : ℕ) → AllPairsByRecursion RowBefore (links_from name n)
own_link name zero = tt
own_link name (suc n) = (tt, tt)

pub across_links : (a b : List ℕ) (n m : ℕ) → ComesBefore a b → Across RowBefore (links_from a n) (links_from b m)
across_links a b zero m before = tt
across_links a b (suc n) zero before = (tt, tt)
across_links a b (suc n) (suc m) before = ((before, tt), tt)

-- links that belong to systems in order are in order
pub links_rise : (systems : List BareSystem) (links : List LinkColumns) → rises system_before systems ≡ true → walk owns_link fits_link systems links ≡ true → rises link_before links ≡ true
links_rise systems links up h =
    let low = items_of owns_link fits_link below_head below_rows IsBelow below_of_rows systems links h in
    let order = risen below_head system_before BelowBefore (λ x y. less_is _) (λ x y z. nat_list_cmp_total.trans x.columns.name y.columns.name z.columns.name) low.items (ap (rises system_before) low.heads ∙ up) in
    let rows = flat_pairs RowBefore below_rows IsBelow (λ b g. own_link b.columns.name b.below) low.items low.good (weaker_pairs BelowBefore _ (λ x y before. across_links x.columns.name y.columns.name x.below y.below before) low.items order) in
    sym (ap (rises link_before) (map-id links)) ∙ does_rise (λ l. l) link_before RowBefore (λ x y. ap is_lt) links (subst (AllPairsByRecursion RowBefore) low.children rows)

abbrev pub TakenBefore : TakenColumns → TakenColumns → Type 0
TakenBefore a b = taken_cmp a b ≡ Less

pub own_taken : (name : List ℕ) (ts : List Taken) → AllPairsByRecursion (λ (a b : Taken). a.number < b.number) ts → AllPairsByRecursion TakenBefore (map (taken_columns name) ts)
own_taken name ts rise = mapped_pairs TakenBefore (taken_columns name) ts (weaker_pairs (λ (a b : Taken). a.number < b.number) (λ a b. TakenBefore (taken_columns name a) (taken_columns name b)) (λ a b below. rw (tied_itself nat_list_cmp_total name) (lt-nat_cmp a.number b.number below)) ts rise)

pub across_taken : (a b : List ℕ) (ts us : List Taken) → ComesBefore a b → Across TakenBefore (map (taken_columns a) ts) (map (taken_columns b) us)
across_taken a b [] us before = tt
across_taken a b (t ∷ ts) us before = (each us, across_taken a b ts us before)
  where
    each : (us : List Taken) → AllByRecursion (TakenBefore (taken_columns a t)) (map (taken_columns b) us)
    each [] = tt
    each (u ∷ us) = (rw before refl, each us)

-- ---- all of them

pub in_order : (s : State) → IsWellFormed s → AreEarlierInOrder (earlier_tables_of s)
in_order s good =
    let names = pairs_by_recursion (λ (a b : SystemRow). ComesBefore a.def.name b.def.name) s.systems good.by_name in
    let numbers = pairs_by_recursion (λ (a b : Job). a.number < b.number) s.jobs good.rising in
    let rows = both (λ (row : SystemRow). IsDefinition row.def) (λ (row : SystemRow). IsCall row.call) (λ (row : SystemRow). IsDefinition row.def × IsCall row.call) (λ row h k. (h, k)) s.systems (recursion_from_All _ s.systems good.definitions) (recursion_from_All _ s.systems good.calls) in
    let lines = flat_pairs LineBefore placed (λ _. Unit {0}) (λ x g. own_lines x.def.name 0 x.def.lines) s.systems (all_weaker _ _ (λ x h. tt) s.systems rows) (weaker_pairs _ _ across_lines s.systems names) in
    let fine = all_flat_of IsGoodLine _ placed good_lines s.systems rows in
    record {
      systems = pairs_by_place _ (map bare_system s.systems) (mapped_pairs (λ a b. ComesBefore a.name b.name) bare_system s.systems names);
      lines = pairs_by_place _ (map line_columns (flat_map placed s.systems)) (mapped_pairs (λ a b. line_cmp a b ≡ Less) line_columns (flat_map placed s.systems) lines);
      ranges = pairs_by_place _ (flat_map ranges_of (flat_map placed s.systems)) (flat_pairs RangeBefore ranges_of IsGoodLine (λ p g. own_ranges p.system p.place 0 p.line.windows g.0.1) (flat_map placed s.systems) fine (weaker_pairs _ _ across_ranges (flat_map placed s.systems) lines));
      jobs = pairs_by_place _ (map head_of s.jobs) (mapped_pairs (λ (a b : JobHead). a.number < b.number) head_of s.jobs numbers);
      pieces = pairs_by_place _ (flat_map pieces_of s.jobs) (flat_pairs PieceBefore pieces_of (λ _. Unit {0}) (λ j g. subst (AllPairsByRecursion PieceBefore) (sym (as_pieces j)) (own_pieces j.number 0 _ j.bytes)) s.jobs (all_weaker _ _ (λ x h. tt) s.jobs (recursion_from_All (λ _. Unit {0}) s.jobs (λ k d inside. tt))) (weaker_pairs _ _ across_pieces s.jobs numbers));
      success_waits = pairs_by_place _ (flat_map waits_of s.systems) (flat_pairs WaitBefore waits_of (λ _. Unit {0}) (λ x g. own_wait x.def.name x.def.success_wait) s.systems (all_weaker _ _ (λ x h. tt) s.systems rows) (weaker_pairs _ _ (λ x y before. across_waits x.def.name y.def.name x.def.success_wait y.def.success_wait before) s.systems names));
      links = pairs_by_place _ (flat_map links_of s.links) (flat_pairs RowBefore links_of IsLink (λ l g. own_link l.name l.below) s.links (recursion_from_All IsLink s.links good.links) (weaker_pairs LinkBefore _ (λ x y before. across_links x.name y.name x.below y.below before) s.links (pairs_by_recursion LinkBefore s.links good.by_link)));
      taken = pairs_by_place _ (flat_map taken_rows s.links) (flat_pairs TakenBefore taken_rows IsLink (λ l g. own_taken l.name l.taken (pairs_by_recursion _ l.taken g.rising)) s.links (recursion_from_All IsLink s.links good.links) (weaker_pairs LinkBefore _ (λ x y before. across_taken x.name y.name x.taken y.taken before) s.links (pairs_by_recursion LinkBefore s.links good.by_link)));
      entries = pairs_by_place _ (map entry_columns s.entries) (mapped_pairs (λ a b. ComesBefore a.host b.host) entry_columns s.entries (pairs_by_recursion (λ (a b : MapEntry). ComesBefore a.host b.host) s.entries good.by_host));
    }
