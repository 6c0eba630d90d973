-- Two states with the same tables in earlier versions are one.
use Rattle.std.proofs.Common.{◌≡◌, ℕ, zero, suc, ◌+◌, ◌*◌, ◌<◌, ◌≤◌, Bool, true, false, List, [], ◌∷◌, ◌++◌, map, length, take, drop, IsTrue, subst, Option, None, Some, refl, sym, ap, ◌∙◌, arith}
use Rattle.std.specs.List.{AllByRecursion, flat_map, prefix_len}
use Rattle.std.proofs.lemmas.List.{length-drop, take-append-drop}
use Rattle.std.proofs.lemmas.Bool.{eq-eqb}
use Rattle.std.proofs.lemmas.List.Elements.{recursion_from_All}
use Rattle.std.proofs.Math.Seq.{take-append_seam, drop-append_seam}
use Rattle.uu_names.proofs.Basics.{earlier_other, text_to, pairs_by_recursion, all_weaker, all_flat, AllPairsByRecursion, all_unit}
use Rattle.uu_times.specs.declared.system.Line.{Line}
use Rattle.uu_core.specs.declared.system.Outcome.{Outcome}
use Rattle.uu_core.specs.declared.system.Outcome.TheVariants.{Never, Failed, Done}
use Rattle.uu_core.specs.declared.system.SystemRow.{SystemRow}
use Rattle.uu_core.specs.State.{State, Job, MapEntry, Link, IsLink, says_nothing, IsJob, IsWellFormed, ComesBefore, head_of}
use Rattle.uu_tables.specs.Earlier.{EarlierTables, PlacedLine, earlier_tables_of, bare_system, line_columns, range_columns, placed, placed_from, ranges_of, waits_from, waits_of, pieces_of, piece_count}
use Rattle.uu_tables.specs.Tables.{entry_columns, outcome_number, reason_of}
use Rattle.uu_tables.specs.declared.rows.EntryColumns.{EntryColumns}
use Rattle.uu_tables.specs.declared.earlier.WaitColumns.{WaitColumns}
use Rattle.uu_tables.specs.declared.earlier.BareSystem.{BareSystem}
use Rattle.uu_check.specs.Tests.{owns_piece, fits_job, owns_range, fits_line, owns_wait, fits_wait}
use Rattle.uu_check.proofs.Walks.{Apart, own_front, same_items}
use Rattle.uu_check.proofs.Lists.{weaker_pairs, flat_pairs}
use Rattle.uu_check.proofs.Meanings.{eq_not}
use Rattle.uu_check.proofs.Cuts.{pieces_from, as_from, bytes_of}
use Rattle.uu_check.proofs.Heads as job
use Rattle.uu_check.proofs.Lines as line
use Rattle.uu_check.proofs.Callers as system
use Rattle.uu_check.proofs.Waits as wait
use Rattle.uu_check.proofs.LinkRows as link

-- the rows that belong to each item are the same, if the rows of all are
module _ {X P C : Type 0} (owns : P → C → Bool) (fits : P → List C → Bool) (head : X → P) (kids : X → List C) (Good : X → Type 0) (own : (x : X) → AllByRecursion (λ c. owns (head x) c ≡ true) (kids x)) where
  pub waits_in : (xs ys : List X) → AllPairsByRecursion (Apart owns fits head kids Good) xs → AllPairsByRecursion (Apart owns fits head kids Good) ys → map head xs ≡ map head ys → flat_map kids xs ≡ flat_map kids ys → map kids xs ≡ map kids ys
  waits_in [] [] up vp heads children = refl
  waits_in [] (y ∷ ys) up vp heads children = absurd (cc)
  waits_in (x ∷ xs) [] up vp heads children = absurd (cc)
  waits_in (x ∷ xs) (y ∷ ys) up vp heads children =
      let row : head x ≡ head y = cc in
      let rows : map head xs ≡ map head ys = cc in
      let n = own_front (owns (head x)) (kids x) (flat_map kids xs) (own x) (all_flat _ kids xs up.0) in
      let m = own_front (owns (head y)) (kids y) (flat_map kids ys) (own y) (all_flat _ kids ys vp.0) in
      let mine : kids x ≡ kids y = sym (ap (λ k. take k (kids x ++ flat_map kids xs)) n ∙ take-append_seam (kids x) (flat_map kids xs)) ∙ (λ i. take (prefix_len (owns (row i)) (children i)) (children i)) ∙ (ap (λ k. take k (kids y ++ flat_map kids ys)) m ∙ take-append_seam (kids y) (flat_map kids ys)) in
      let others : flat_map kids xs ≡ flat_map kids ys = sym (ap (λ k. drop k (kids x ++ flat_map kids xs)) n ∙ drop-append_seam (kids x) (flat_map kids xs)) ∙ (λ i. drop (prefix_len (owns (row i)) (children i)) (children i)) ∙ (ap (λ k. drop k (kids y ++ flat_map kids ys)) m ∙ drop-append_seam (kids y) (flat_map kids ys)) in
      let more = waits_in xs ys up.1 vp.1 rows others in
      λ i. mine i ∷ more i

pub mapped_back : {X Y : Type 0} (f : X → Y) (back : Y → X) → ((x : X) → back (f x) ≡ x) → (xs : List X) → map back (map f xs) ≡ xs
mapped_back f back h [] = refl
mapped_back f back h (x ∷ xs) = λ i. h x i ∷ mapped_back f back h xs i

-- ---- systems

windows_back : (p : PlacedLine) → map line.range_of (ranges_of p) ≡ p.line.windows
windows_back p = mapped_back (range_columns p.system p.place) line.range_of (λ w. refl) p.line.windows

same_line : (p q : PlacedLine) → line_columns p ≡ line_columns q → ranges_of p ≡ ranges_of q → p ≡ q
same_line p q row ranges =
    let windows : p.line.windows ≡ q.line.windows = sym (windows_back p) ∙ ap (map line.range_of) ranges ∙ windows_back q in
    λ i. record { system = (row i).system; place = (row i).place; line = record { grade = (row i).grade; windows = windows i; retry = (row i).retry } }

abbrev pub outcome_from : ℕ → Option (List ℕ) → Outcome
outcome_from number (Some why) = Failed why
outcome_from zero None = Never
outcome_from (suc number) None = Done

pub outcome_back : (o : Outcome) → outcome_from (outcome_number o) (reason_of o) ≡ o
outcome_back Never = refl
outcome_back (Failed why) = refl
outcome_back Done = refl

lines_back : (name : List ℕ) (place : ℕ) (lines : List Line) → map system.line_in (placed_from name place lines) ≡ lines
lines_back name place [] = refl
lines_back name place (line ∷ lines) = ap (λ l. line ∷ l) (lines_back name (place + 1) lines)

same_system : (x y : SystemRow) → (bare_system x ≡ bare_system y) × (x.def.success_wait ≡ y.def.success_wait) → placed x ≡ placed y → x ≡ y
same_system x y both lines =
    let row = both.0 in
    let all : x.def.lines ≡ y.def.lines = sym (lines_back x.def.name 0 x.def.lines) ∙ ap (map system.line_in) lines ∙ lines_back y.def.name 0 y.def.lines in
    let outcome : x.call.outcome ≡ y.call.outcome = sym (outcome_back x.call.outcome) ∙ (λ i. outcome_from (row i).call.outcome (row i).call.why) ∙ outcome_back y.call.outcome in
    λ i. record {
      def = record { name = (row i).name; lines = all i; max_retries = (row i).max_retries; success_wait = both.1 i };
      call = record { last = (row i).call.last; failures = (row i).call.failures; wait = (row i).call.wait; outcome = outcome i };
    }

abbrev NameBefore : SystemRow → SystemRow → Type 0
NameBefore a b = ComesBefore a.def.name b.def.name

-- no line has the ranges of another
lines_apart : (rows : List SystemRow) → AllPairsByRecursion NameBefore rows → AllPairsByRecursion (Apart owns_range fits_line line_columns ranges_of line.IsGoodLine) (flat_map placed rows)
lines_apart rows rise =
    weaker_pairs system.Differ (Apart owns_range fits_line line_columns ranges_of line.IsGoodLine) (λ p q differ. line.ranges_owned (line_columns p) q false differ) (flat_map placed rows)
    (flat_pairs system.Differ placed (λ _. Unit {0}) (λ row g. system.lines_differ row) rows (all_unit rows) (weaker_pairs NameBefore _ system.systems_differ rows rise))

-- no system has the lines of another
systems_apart : (rows : List SystemRow) → AllPairsByRecursion NameBefore rows → AllPairsByRecursion (Apart system.owns system.fits bare_system placed system.IsGoodSystem) rows
systems_apart rows rise =
    weaker_pairs NameBefore (Apart system.owns system.fits bare_system placed system.IsGoodSystem) (λ x y before. system.lines_owned x.def.name y.def.name false (earlier_other x.def.name y.def.name before) 0 y.def.lines) rows rise

-- no system has the success wait of another
waits_apart : (rows : List SystemRow) → AllPairsByRecursion NameBefore rows → AllPairsByRecursion (Apart owns_wait fits_wait bare_system waits_of (λ _. Unit {0})) rows
waits_apart rows rise =
    weaker_pairs NameBefore (Apart owns_wait fits_wait bare_system waits_of (λ _. Unit {0})) (λ x y before. wait.wait_owned (bare_system x) y.def.name y.def.success_wait false (earlier_other x.def.name y.def.name before)) rows rise

seconds_of : List WaitColumns → ℕ
seconds_of [] = 0
seconds_of (w ∷ more) = w.wait

seconds_back : (name : List ℕ) (n : ℕ) → seconds_of (waits_from name n) ≡ n
unfolding seconds_of
seconds_back name zero = refl
seconds_back name (suc n) = refl

abbrev owns_of : BareSystem × ℕ → PlacedLine → Bool
owns_of h p = system.owns h.0 p

abbrev fits_of : BareSystem × ℕ → List PlacedLine → Bool
fits_of h ps = system.fits h.0 ps

abbrev waited_of : SystemRow → BareSystem × ℕ
waited_of row = (bare_system row, row.def.success_wait)

each_same : (rows others : List SystemRow) → map bare_system rows ≡ map bare_system others → map waits_of rows ≡ map waits_of others → map waited_of rows ≡ map waited_of others
each_same [] [] heads kids = refl
each_same [] (y ∷ others) heads kids = absurd (cc)
each_same (x ∷ rows) [] heads kids = absurd (cc)
each_same (x ∷ rows) (y ∷ others) heads kids =
    let row : bare_system x ≡ bare_system y = cc in
    let own : waits_of x ≡ waits_of y = cc in
    let more : map bare_system rows ≡ map bare_system others = cc in
    let rest : map waits_of rows ≡ map waits_of others = cc in
    let seconds : x.def.success_wait ≡ y.def.success_wait = sym (seconds_back x.def.name x.def.success_wait) ∙ ap seconds_of own ∙ seconds_back y.def.name y.def.success_wait in
    λ i. (row i, seconds i) ∷ each_same rows others more rest i

same_systems : (rows others : List SystemRow) → AllPairsByRecursion NameBefore rows → AllPairsByRecursion NameBefore others → map bare_system rows ≡ map bare_system others
    → map line_columns (flat_map placed rows) ≡ map line_columns (flat_map placed others) → flat_map ranges_of (flat_map placed rows) ≡ flat_map ranges_of (flat_map placed others) → flat_map waits_of rows ≡ flat_map waits_of others → rows ≡ others
same_systems rows others rise up systems lines ranges waits =
    let placed_lines = same_items owns_range fits_line line_columns ranges_of line.IsGoodLine line.ranges_own same_line (flat_map placed rows) (flat_map placed others) (lines_apart rows rise) (lines_apart others up) lines ranges in
    let seconds = same_waits rows others rise up systems waits in
    same_items owns_of fits_of waited_of placed system.IsGoodSystem (λ x. system.lines_owned x.def.name x.def.name true (text_to x.def.name) 0 x.def.lines) (λ x y heads. same_system x y (ap (λ h. h.0) heads, ap (λ h. h.1) heads)) rows others (systems_apart rows rise) (systems_apart others up) seconds placed_lines
  where
    same_waits : (rows others : List SystemRow) → AllPairsByRecursion NameBefore rows → AllPairsByRecursion NameBefore others → map bare_system rows ≡ map bare_system others → flat_map waits_of rows ≡ flat_map waits_of others → map waited_of rows ≡ map waited_of others
    same_waits rows others rise up heads kids =
        each_same rows others heads (waits_in owns_wait fits_wait bare_system waits_of (λ _. Unit {0}) (λ x. wait.wait_owned (bare_system x) x.def.name x.def.success_wait true (text_to x.def.name)) rows others (waits_apart rows rise) (waits_apart others up) heads kids)

-- ---- jobs

all_bytes : (number place n : ℕ) (bytes : List ℕ) → length bytes ≤ n * 16384 → bytes_of (pieces_from number place n bytes) ≡ bytes
all_bytes number place zero [] few = refl
all_bytes number place zero (b ∷ bytes) few = absurd (omega (arith, few))
all_bytes number place (suc n) bytes few =
    let fewer : length (drop 16384 bytes) ≤ n * 16384 = simp length-drop (omega (arith, few)) in
    ap (λ l. take 16384 bytes ++ l) (all_bytes number (place + 1) n (drop 16384 bytes) fewer) ∙ take-append-drop 16384 bytes

enough : (size : ℕ) → size ≤ piece_count size * 16384
enough size = omega arith

pub bytes_back : (j : Job) → bytes_of (pieces_of j) ≡ j.bytes
bytes_back j =
    let n = piece_count (length j.bytes) in
    ap bytes_of (as_from j.number j.bytes 0 n) ∙ all_bytes j.number 0 n j.bytes (enough (length j.bytes))

same_job : (j k : Job) → head_of j ≡ head_of k → pieces_of j ≡ pieces_of k → j ≡ k
same_job j k head pieces =
    let bytes : j.bytes ≡ k.bytes = sym (bytes_back j) ∙ ap bytes_of pieces ∙ bytes_back k in
    λ i. record { number = (head i).number; system = (head i).system; grade = (head i).grade; user = (head i).user; kind = (head i).kind; queued = (head i).queued; bytes = bytes i }

abbrev NumberBefore : Job → Job → Type 0
NumberBefore a b = a.number < b.number

jobs_apart : (jobs : List Job) → AllPairsByRecursion NumberBefore jobs → AllPairsByRecursion (Apart owns_piece fits_job head_of pieces_of IsJob) jobs
jobs_apart jobs rise = weaker_pairs NumberBefore (Apart owns_piece fits_job head_of pieces_of IsJob) (λ x y low. job.pieces_numbered y x.number false (eq_not x.number y.number low)) jobs rise

same_jobs : (jobs others : List Job) → AllPairsByRecursion NumberBefore jobs → AllPairsByRecursion NumberBefore others → map head_of jobs ≡ map head_of others → flat_map pieces_of jobs ≡ flat_map pieces_of others → jobs ≡ others
same_jobs jobs others rise up heads pieces =
    same_items owns_piece fits_job head_of pieces_of IsJob (λ x. job.pieces_numbered x x.number true (eq-eqb x.number x.number refl)) same_job jobs others (jobs_apart jobs rise) (jobs_apart others up) heads pieces

-- ---- all of them

abbrev pub entry_from : EntryColumns → MapEntry
entry_from e = record { host = e.host; bytes = e.bytes }

pub of_systems : (s : State) → IsWellFormed s → (rows : List SystemRow) (up : AllPairsByRecursion NameBefore rows) → s.systems ≡ rows → link.Good rows up s.links
of_systems s good rows up same = record {
  rise = pairs_by_recursion link.LinkBefore s.links good.by_link;
  known = subst (λ rows. AllByRecursion (λ (l : Link). IsTrue (link.knows rows l.name)) s.links) same (recursion_from_All _ s.links good.linked);
  says = all_weaker IsLink (λ l. says_nothing l ≡ false) (λ l h. h.says) s.links (recursion_from_All _ s.links good.links);
}

pub good_links : (s : State) (good : IsWellFormed s) → link.Good s.systems (pairs_by_recursion NameBefore s.systems good.by_name) s.links
good_links s good = of_systems s good s.systems (pairs_by_recursion NameBefore s.systems good.by_name) refl

pub one_state : (s t : State) → IsWellFormed s → IsWellFormed t → earlier_tables_of s ≡ earlier_tables_of t → s ≡ t
one_state s t good fine same =
    let systems = same_systems s.systems t.systems (pairs_by_recursion NameBefore s.systems good.by_name) (pairs_by_recursion NameBefore t.systems fine.by_name)
    (ap (λ (r : EarlierTables). r.systems) same) (ap (λ (r : EarlierTables). r.lines) same) (ap (λ (r : EarlierTables). r.ranges) same) (ap (λ (r : EarlierTables). r.success_waits) same) in
    let jobs = same_jobs s.jobs t.jobs (pairs_by_recursion NumberBefore s.jobs good.rising) (pairs_by_recursion NumberBefore t.jobs fine.rising) (ap (λ (r : EarlierTables). r.jobs) same) (ap (λ (r : EarlierTables). r.pieces) same) in
    let entries : s.entries ≡ t.entries = sym (mapped_back entry_columns entry_from (λ e. refl) s.entries) ∙ ap (λ (r : EarlierTables). map entry_from r.entries) same ∙ mapped_back entry_columns entry_from (λ e. refl) t.entries in
    let mine = good_links s good in
    let other : link.Good s.systems (pairs_by_recursion NameBefore s.systems good.by_name) t.links = of_systems t fine s.systems (pairs_by_recursion NameBefore s.systems good.by_name) (sym systems) in
    let links = link.same_links s.systems (pairs_by_recursion NameBefore s.systems good.by_name) s.links t.links mine other (ap (λ (r : EarlierTables). r.links) same) (ap (λ (r : EarlierTables). r.taken) same) in
    λ i. record { jobs = jobs i; systems = systems i; entries = entries i; next = (same i).next; links = links i }
