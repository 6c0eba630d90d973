-- Lines and their ranges.
use Rattle.std.proofs.Common.{◌≡◌, ℕ, ◌+◌, Bool, true, ◌==◌, List, [], ◌∷◌, map, IfSome, Option, None, Some, refl}
use Rattle.std.specs.Prelude.{◌&&◌}
use Rattle.std.specs.List.{AllByRecursion}
use Rattle.std.proofs.lemmas.Bool.{and_parts, leb-true, le-leb, ltb-true, lt-ltb, eqb-true, eq-eqb}
use Rattle.uu_names.proofs.Basics.{text_from, text_to}
use Rattle.uu_times.specs.Ranges.{AreRunsFrom}
use Rattle.uu_times.specs.System.{IsRetry}
use Rattle.uu_core.specs.State.{IsLine, same_text}
use Rattle.uu_tables.specs.declared.earlier.LineColumns.{LineColumns}
use Rattle.uu_tables.specs.declared.earlier.RangeColumns.{RangeColumns}
use Rattle.uu_tables.specs.Earlier.{PlacedLine, line_columns, range_columns, ranges_of}
use Rattle.uu_check.specs.Tests.{are_ranges, is_retry, owns_range, fits_line}
use Rattle.uu_check.proofs.Walks.{Item}

abbrev pub IsGoodLine : PlacedLine → Type 0
IsGoodLine p = IsLine p.line × IfSome p.line.retry IsRetry

retry_from : (retry : Option ℕ) → is_retry retry ≡ true → IfSome retry IsRetry
retry_from None h = tt
retry_from (Some minutes) h = let it = and_parts _ _ h in (leb-true _ _ it.0, leb-true _ _ it.1)

retry_to : (retry : Option ℕ) → IfSome retry IsRetry → is_retry retry ≡ true
retry_to None h = refl
retry_to (Some minutes) h = rw (le-leb 1 minutes h.0, le-leb minutes 525600 h.1) refl

abbrev pub range_of : RangeColumns → ℕ × ℕ
range_of r = (r.low, r.high)

runs_from : (start : ℕ) (rs : List RangeColumns) → are_ranges start rs ≡ true → AreRunsFrom start (map range_of rs)
runs_from start [] h = tt
runs_from start (r ∷ rs) h =
    let c = and_parts _ _ h in let b = and_parts _ _ c.0 in let a = and_parts _ _ b.0 in
    (leb-true _ _ a.0, leb-true _ _ a.1, ltb-true _ _ b.1, runs_from (r.high + 2) rs c.1)

runs_to : (system : List ℕ) (place start : ℕ) (ranges : List (ℕ × ℕ)) → AreRunsFrom start ranges → are_ranges start (map (range_columns system place) ranges) ≡ true
runs_to system place start [] h = refl
runs_to system place start (range ∷ ranges) h =
    rw (le-leb start range.0 h.0, le-leb range.0 range.1 h.1, lt-ltb range.1 10080 h.2) (runs_to system place (range.1 + 2) ranges h.3)

back : (l : LineColumns) (rs : List RangeColumns) → AllByRecursion (λ r. owns_range l r ≡ true) rs → map (range_columns l.system l.place) (map range_of rs) ≡ rs
back l [] own = refl
back l (r ∷ rs) own =
    let parts = and_parts _ _ own.0 in
    let system : l.system ≡ r.system = text_from _ _ parts.0 in
    let place : l.place ≡ r.place = eqb-true _ _ parts.1 in
    λ i. record { system = system i; place = place i; low = r.low; high = r.high } ∷ back l rs own.1 i

pub line_of_rows : (l : LineColumns) (rs : List RangeColumns) → AllByRecursion (λ r. owns_range l r ≡ true) rs → fits_line l rs ≡ true → Item owns_range fits_line line_columns ranges_of IsGoodLine l rs
line_of_rows l rs own test =
    let b = and_parts _ _ test in let a = and_parts _ _ b.0 in record {
      item = record { system = l.system; place = l.place; line = record { grade = l.grade; windows = map range_of rs; retry = l.retry } };
      good = ((ltb-true _ _ a.0, runs_from 0 rs b.1), retry_from l.retry a.1);
      row = refl;
      children = back l rs own;
    }

pub line_fits : (p : PlacedLine) → IsGoodLine p → fits_line (line_columns p) (ranges_of p) ≡ true
line_fits p good = rw (lt-ltb p.line.grade 62 good.0.0, retry_to p.line.retry good.1) (runs_to p.system p.place 0 p.line.windows good.0.1)

-- ranges are those of one line
pub ranges_owned : (l : LineColumns) (p : PlacedLine) (t : Bool) → (same_text l.system p.system && (l.place == p.place)) ≡ t → AllByRecursion (λ r. owns_range l r ≡ t) (ranges_of p)
ranges_owned l p t h = go p.line.windows
  where
    go : (ranges : List (ℕ × ℕ)) → AllByRecursion (λ r. owns_range l r ≡ t) (map (range_columns p.system p.place) ranges)
    go [] = tt
    go (range ∷ ranges) = (h, go ranges)

pub ranges_own : (p : PlacedLine) → AllByRecursion (λ r. owns_range (line_columns p) r ≡ true) (ranges_of p)
ranges_own p = ranges_owned (line_columns p) p true (rw (text_to p.system, eq-eqb p.place p.place refl) refl)
