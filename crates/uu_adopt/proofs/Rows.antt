-- The tables of a well-formed state can be read, each in the strict order of its key, and no key
-- occurs twice.
use Rattle.std.proofs.Common.{◌≡◌, ℕ, ◌<◌, List, Less, Equal, Ordering, Option, None, Some, IfSome, refl, ap, arith}
use Rattle.std.proofs.lemmas.Cmp.{tied_itself, nat_list_cmp_total, nat_cmp_total}
use Rattle.std.specs.List.{AllByRecursion}
use Rattle.sqlite.specs.Order.{Row}
use Rattle.sqlite.specs.Tree.{IsAscending}
use Rattle.sqlite_keyed.proofs.ListLemmas.{ascending_weaker, all_weaker}
use Rattle.uu_times.specs.System.{IsRetry}
use Rattle.uu_core.specs.State.{State, IsWellFormed}
use Rattle.uu_core.specs.declared.job.JobHead.{JobHead}
use Rattle.uu_tables.specs.declared.rows.SystemColumns.{SystemColumns}
use Rattle.uu_tables.specs.declared.earlier.LineColumns.{LineColumns}
use Rattle.uu_tables.specs.declared.earlier.RangeColumns.{RangeColumns}
use Rattle.uu_tables.specs.declared.rows.EntryColumns.{EntryColumns}
use Rattle.uu_tables.specs.declared.earlier.WaitColumns.{WaitColumns}
use Rattle.uu_tables.specs.declared.rows.LinkColumns.{LinkColumns}
use Rattle.uu_tables.specs.declared.rows.TakenColumns.{TakenColumns}
use Rattle.uu_tables.specs.declared.rows.Body.{Body}
use Rattle.uu_tables.specs.declared.earlier.BareSystem.{BareSystem}
use Rattle.uu_tables.specs.declared.earlier.Piece.{Piece}
use Rattle.uu_tables.specs.Tables.{tables_of, size_of}
use Rattle.uu_tables.specs.Earlier.{earlier_tables_of}
use Rattle.uu_check.specs.Order.{AreInOrder as AreTablesInOrder, AreEarlierInOrder}
use Rattle.uu_check.specs.Readable.{AreReadable, AreEarlierReadable, IsSystemRow, IsBodyRow, IsEntryRow, IsLinkRow, IsTakenRow, IsBareRow, IsLineRow, IsRangeRow, IsPieceRow, IsWaitRow}
use Rattle.uu_check.proofs.WholeState.{in_order, readable}
use Rattle.uu_check.proofs.Rising.{in_order as earlier_in_order}
use Rattle.uu_check.proofs.Reading.{readable as earlier_readable}
use Rattle.uu_schema.specs.Keyed.{Keyed}
use Rattle.uu_schema.specs.Held.{system_key, job_key, body_key, entry_key, link_key, taken_key}
use Rattle.uu_schema.specs.HeldEarlier.{bare_key, line_key, range_key, piece_key, wait_key}
use Rattle.uu_rows.specs.Readable.{IsSmall, IsTypedSystem, IsTypedHead, IsTypedSize, IsTypedEntry, IsTypedLink, IsTypedTaken, IsTypedBare, IsTypedLine, IsTypedRange, IsTypedPiece, IsTypedWait}
use Rattle.uu_tables.specs.Order.{system_cmp, head_cmp, body_cmp, entry_cmp, link_cmp, taken_cmp, bare_system_cmp, line_cmp, range_cmp, piece_cmp, wait_cmp}
use Rattle.uu_adopt.specs.Reading.{AreInOrder, AreRows}
use Rattle.uu_rows.proofs.Heads.{heads_good}
use Rattle.uu_rows.proofs.InOrder.{ascending_pairs}

-- ---- what a state has can be read

system_read : (c : SystemColumns) → IsSystemRow c → IsTypedSystem c
system_read c h = record {
  def = (h.def.name, h.def.limits, h.def.lines);
  last = (let k = h.last in omega (arith, k));
  failures = (let k = h.failures in omega (arith, k));
  wait = (let k = h.wait in omega (arith, k));
  outcome = (let k = h.outcome in omega (arith, k));
  why = h.why;
}

bare_read : (c : BareSystem) → IsBareRow c → IsTypedBare c
bare_read c h = record {
  name = h.name;
  max_retries = (let k = h.max_retries in omega (arith, k));
  last = (let k = h.last in omega (arith, k));
  failures = (let k = h.failures in omega (arith, k));
  wait = (let k = h.wait in omega (arith, k));
  outcome = (let k = h.outcome in omega (arith, k));
  why = h.why;
}

retry_small : (retry : Option ℕ) → IfSome retry IsRetry → IfSome retry IsSmall
retry_small None h = tt
retry_small (Some minutes) h = let k = h.1 in omega (arith, k)

line_read : (l : LineColumns) → IsLineRow l → IsTypedLine l
line_read l h = record { system = h.system; place = (let k = h.place in omega (arith, k)); grade = h.grade; retry = retry_small l.retry h.retry }

range_read : (r : RangeColumns) → IsRangeRow r → IsTypedRange r
range_read r h = record { system = h.system; place = (let k = h.place in omega (arith, k)); low = (let k = h.low in omega (arith, k)); high = (let k = h.high in omega (arith, k)) }

size_read : (b : Body) → IsBodyRow b → IsTypedSize (size_of b)
size_read b h = record { job = (let k = h.job in omega (arith, k)); length = (let k = h.length in omega (arith, k)) }

piece_read : (p : Piece) → IsPieceRow p → IsTypedPiece p
piece_read p h = record { job = (let k = h.job in omega (arith, k)); place = (let k = h.place in omega (arith, k)) }

entry_read : (e : EntryColumns) → IsEntryRow e → IsTypedEntry e
entry_read e h = record { host = h.host }

wait_read : (w : WaitColumns) → IsWaitRow w → IsTypedWait w
wait_read w h = record { system = h.system; wait = (let k = h.wait in omega (arith, k)) }

link_read : (l : LinkColumns) → IsLinkRow l → IsTypedLink l
link_read l h = record { system = h.system; below = (let k = h.below in omega (arith, k)) }

taken_read : (t : TakenColumns) → IsTakenRow t → IsTypedTaken t
taken_read t h = record { system = h.system; number = (let k = h.number in omega (arith, k)); mark = h.mark; job = (let k = h.job in omega (arith, k)) }

-- ---- keys in strict order differ

less_not_equal : (r : Ordering) → r ≡ Less → r ≡ Equal → ⊥
less_not_equal r h k = absurd (cc)

pub systems_apart : (a b : SystemColumns) → system_cmp a b ≡ Less → system_key a ≡ system_key b → ⊥
systems_apart a b h e = less_not_equal _ h (rw e (tied_itself nat_list_cmp_total b.def.name))

pub bare_apart : (a b : BareSystem) → bare_system_cmp a b ≡ Less → bare_key a ≡ bare_key b → ⊥
bare_apart a b h e = less_not_equal _ h (rw e (tied_itself nat_list_cmp_total b.name))

pub bodies_apart : (a b : Body) → body_cmp a b ≡ Less → body_key a ≡ body_key b → ⊥
bodies_apart a b h e = less_not_equal _ h (rw e (tied_itself nat_cmp_total b.job))

pub lines_apart : (a b : LineColumns) → line_cmp a b ≡ Less → line_key a ≡ line_key b → ⊥
lines_apart a b h e =
    let name : a.system ≡ b.system = ap (λ (k : List ℕ × ℕ). k.0) e in
    let place : a.place ≡ b.place = ap (λ (k : List ℕ × ℕ). k.1) e in
    less_not_equal _ h (rw (name, place, tied_itself nat_list_cmp_total b.system, tied_itself nat_cmp_total b.place) refl)

pub ranges_apart : (a b : RangeColumns) → range_cmp a b ≡ Less → range_key a ≡ range_key b → ⊥
ranges_apart a b h e =
    let name : a.system ≡ b.system = ap (λ (k : List ℕ × ℕ × ℕ). k.0) e in
    let place : a.place ≡ b.place = ap (λ (k : List ℕ × ℕ × ℕ). k.1) e in
    let low : a.low ≡ b.low = ap (λ (k : List ℕ × ℕ × ℕ). k.2) e in
    less_not_equal _ h (rw (name, place, low, tied_itself nat_list_cmp_total b.system, tied_itself nat_cmp_total b.place, tied_itself nat_cmp_total b.low) refl)

pub heads_apart : (a b : JobHead) → head_cmp a b ≡ Less → job_key a ≡ job_key b → ⊥
heads_apart a b h e = less_not_equal _ h (rw e (tied_itself nat_cmp_total b.number))

pub pieces_apart : (a b : Piece) → piece_cmp a b ≡ Less → piece_key a ≡ piece_key b → ⊥
pieces_apart a b h e =
    let job : a.job ≡ b.job = ap (λ (k : ℕ × ℕ). k.0) e in
    let place : a.place ≡ b.place = ap (λ (k : ℕ × ℕ). k.1) e in
    less_not_equal _ h (rw (job, place, tied_itself nat_cmp_total b.job, tied_itself nat_cmp_total b.place) refl)

pub entries_apart : (a b : EntryColumns) → entry_cmp a b ≡ Less → entry_key a ≡ entry_key b → ⊥
entries_apart a b h e = less_not_equal _ h (rw e (tied_itself nat_list_cmp_total b.host))

pub waits_apart : (a b : WaitColumns) → wait_cmp a b ≡ Less → wait_key a ≡ wait_key b → ⊥
waits_apart a b h e = less_not_equal _ h (rw e (tied_itself nat_list_cmp_total b.system))

pub links_apart : (a b : LinkColumns) → link_cmp a b ≡ Less → link_key a ≡ link_key b → ⊥
links_apart a b h e = less_not_equal _ h (rw e (tied_itself nat_list_cmp_total b.system))

pub taken_apart : (a b : TakenColumns) → taken_cmp a b ≡ Less → taken_key a ≡ taken_key b → ⊥
taken_apart a b h e =
    let name : a.system ≡ b.system = ap (λ (k : List ℕ × ℕ). k.0) e in
    let number : a.taken.number ≡ b.taken.number = ap (λ (k : List ℕ × ℕ). k.1) e in
    less_not_equal _ h (rw (name, number, tied_itself nat_list_cmp_total b.system, tied_itself nat_cmp_total b.taken.number) refl)

-- rows of a list in strict order show it by its key
pub keyed : {K X : Type 0} (key : X → K) (cells : X → Row) (places : List ℕ) (cmp : X → X → Ordering) (xs : List X) (rows : List Row) → ((a b : X) → cmp a b ≡ Less → key a ≡ key b → ⊥)
    → IsAscending (λ a b. cmp a b ≡ Less) xs → AreRows cells places xs rows → Keyed key cells places xs rows
keyed key cells places cmp xs rows apart rise h = record { same = h.same; numbered = h.numbered; once = h.once; apart = ascending_weaker _ _ apart xs rise }

-- ---- a state's tables

below : (a b : JobHead) → a.number < b.number → head_cmp a b ≡ Less
below a b h = search (arith, h)

body_below : (a b : Body) → a.job < b.job → body_cmp a b ≡ Less
body_below a b h = search (arith, h)

module _ (s : State) (good : IsWellFormed s) where
  order : AreTablesInOrder (tables_of s)
  order = in_order s good

  fits : AreReadable (tables_of s)
  fits = readable s good

  pub next_small : IsSmall s.next
  next_small = let k = fits.next in omega (arith, k)

  pub systems_in_order : AreInOrder IsTypedSystem system_cmp (tables_of s).systems
  systems_in_order = record { readable = all_weaker _ _ system_read _ fits.systems; rise = ascending_pairs _ _ order.systems }

  pub heads_in_order : AreInOrder IsTypedHead head_cmp (tables_of s).jobs
  heads_in_order = record { readable = heads_good s good; rise = ascending_weaker _ _ below _ (ascending_pairs _ _ order.jobs) }

  pub sizes_good : AllByRecursion (λ b. IsTypedSize (size_of b)) (tables_of s).bodies
  sizes_good = all_weaker _ _ size_read _ fits.bodies

  pub bodies_in_order : IsAscending (λ a b. body_cmp a b ≡ Less) (tables_of s).bodies
  bodies_in_order = ascending_weaker _ _ body_below _ (ascending_pairs _ _ order.bodies)

  pub entries_in_order : AreInOrder IsTypedEntry entry_cmp (tables_of s).entries
  entries_in_order = record { readable = all_weaker _ _ entry_read _ fits.entries; rise = ascending_pairs _ _ order.entries }

  pub links_in_order : AreInOrder IsTypedLink link_cmp (tables_of s).links
  links_in_order = record { readable = all_weaker _ _ link_read _ fits.links; rise = ascending_pairs _ _ order.links }

  pub taken_in_order : AreInOrder IsTypedTaken taken_cmp (tables_of s).taken
  taken_in_order = record { readable = all_weaker _ _ taken_read _ fits.taken; rise = ascending_pairs _ _ order.taken }

  -- ---- in earlier versions

  earlier_order : AreEarlierInOrder (earlier_tables_of s)
  earlier_order = earlier_in_order s good

  earlier_fits : AreEarlierReadable (earlier_tables_of s)
  earlier_fits = earlier_readable s good

  pub bare_in_order : AreInOrder IsTypedBare bare_system_cmp (earlier_tables_of s).systems
  bare_in_order = record { readable = all_weaker _ _ bare_read _ earlier_fits.systems; rise = ascending_pairs _ _ earlier_order.systems }

  pub lines_in_order : AreInOrder IsTypedLine line_cmp (earlier_tables_of s).lines
  lines_in_order = record { readable = all_weaker _ _ line_read _ earlier_fits.lines; rise = ascending_pairs _ _ earlier_order.lines }

  pub ranges_in_order : AreInOrder IsTypedRange range_cmp (earlier_tables_of s).ranges
  ranges_in_order = record { readable = all_weaker _ _ range_read _ earlier_fits.ranges; rise = ascending_pairs _ _ earlier_order.ranges }

  pub pieces_in_order : AreInOrder IsTypedPiece piece_cmp (earlier_tables_of s).pieces
  pieces_in_order = record { readable = all_weaker _ _ piece_read _ earlier_fits.pieces; rise = ascending_pairs _ _ earlier_order.pieces }

  pub waits_in_order : AreInOrder IsTypedWait wait_cmp (earlier_tables_of s).success_waits
  waits_in_order = record { readable = all_weaker _ _ wait_read _ earlier_fits.success_waits; rise = ascending_pairs _ _ earlier_order.success_waits }
