-- Rows of an earlier version that pass are those of a state, and the rows of a state pass.
use Rattle.std.proofs.Common.{◌≡◌, ℕ, ◌+◌, ◌<◌, ◌≤◌, Bool, true, false, List, [], ◌∷◌, map, IsTrue, Result, Ok, Err, refl, sym, ap, subst, ◌∙◌, arith}
use Rattle.std.specs.Prelude.{◌↔◌, IfOk}
use Rattle.std.specs.List.{AllByRecursion, flat_map, list_all, list_any}
use Rattle.std.specs.Ordering.{is_lt}
use Rattle.std.proofs.lemmas.Bool.{and_parts, leb-true, le-leb, ltb-true, lt-ltb, eq-eqb}
use Rattle.std.proofs.lemmas.Cmp.{nat_list_cmp_total}
use Rattle.std.proofs.lemmas.List.Elements.{recursion_from_All, All-from_recursion}
use Rattle.uu_names.proofs.Basics.{earlier_other, less_is, text_from, text_to, pairs_by_recursion, all_weaker, AllPairsByRecursion}
use Rattle.uu_times.specs.System.{HasRetry, most_success_wait}
use Rattle.uu_times.specs.declared.system.Line.{Line}
use Rattle.uu_core.specs.declared.job.JobHead.{JobHead}
use Rattle.uu_core.specs.declared.system.SystemRow.{SystemRow}
use Rattle.uu_core.specs.State.{State, Job, MapEntry, Link, IsLink, IsJob, IsLine, IsCall, IsDefinition, IsWellFormed, ComesBefore, head_of, same_text, numbers_end}
use Rattle.uu_tables.specs.declared.earlier.BareSystem.{BareSystem}
use Rattle.uu_tables.specs.declared.rows.EntryColumns.{EntryColumns}
use Rattle.uu_tables.specs.declared.earlier.WaitColumns.{WaitColumns}
use Rattle.uu_map.specs.declared.fault.MapFault.{MapFault}
use Rattle.uu_map.specs.Text.{host_of}
use Rattle.uu_tables.specs.declared.earlier.LineColumns.{LineColumns}
use Rattle.uu_tables.specs.declared.earlier.RangeColumns.{RangeColumns}
use Rattle.uu_check.specs.Walk.{walk, rises}
use Rattle.uu_check.specs.declared.earlier.EarlierRows.{EarlierRows}
use Rattle.uu_tables.specs.declared.earlier.Piece.{Piece}
use Rattle.uu_tables.specs.Earlier.{EarlierTables, PlacedLine, earlier_tables_of, bare_system, line_columns, placed, placed_from, ranges_of, waits_of, pieces_of}
use Rattle.uu_tables.specs.Tables.{entry_columns}
use Rattle.uu_check.specs.OfState.{AreEarlierTables, AreEarlierRowsOf}
use Rattle.uu_check.specs.Tests.{is_earlier_spool, are_systems, are_jobs, are_links, is_below, is_known, job_before, system_before, owns_line, fits_system, owns_wait, fits_wait, owns_range, fits_line, owns_piece, fits_job, is_host, is_entry, entry_before, are_entries}
use Rattle.uu_check.proofs.Walks.{items_of, walked, walk_mapped, Apart}
use Rattle.uu_check.proofs.Lists.{pairs_by_place, weaker_pairs, both, unflat, flat_pairs, risen, does_rise, all_flat_of}
use Rattle.uu_check.proofs.Meanings.{eq_not}
use Rattle.uu_check.proofs.Heads as job
use Rattle.uu_check.proofs.Lines as line
use Rattle.uu_check.proofs.Callers as system
use Rattle.uu_check.proofs.Waits as wait
use Rattle.uu_check.proofs.LinkRows as link

-- ---- tests of each

abbrev pub Before : SystemRow → SystemRow → Type 0
Before a b = ComesBefore a.def.name b.def.name

abbrev pub Lower : Job → Job → Type 0
Lower a b = a.number < b.number

pub below_from : (next : ℕ) (jobs : List Job) → list_all (is_below next) (map head_of jobs) ≡ true → AllByRecursion (λ (j : Job). j.number < next) jobs
below_from next [] h = tt
below_from next (j ∷ jobs) h = let it = and_parts _ _ h in (ltb-true _ _ it.0, below_from next jobs it.1)

pub below_to : (next : ℕ) (jobs : List Job) → AllByRecursion (λ (j : Job). j.number < next) jobs → list_all (is_below next) (map head_of jobs) ≡ true
below_to next [] h = refl
below_to next (j ∷ jobs) h = rw (lt-ltb j.number next h.0, below_to next jobs h.1) refl

-- whether a name is known
abbrev pub knows : List SystemRow → List ℕ → Bool
knows rows name = list_any (λ (row : SystemRow). same_text row.def.name name) rows

knows_mapped : (rows : List SystemRow) (h : JobHead) → is_known (map bare_system rows) h ≡ knows rows h.system
knows_mapped [] h = refl
knows_mapped (row ∷ rows) h = rw (knows_mapped rows h) refl

pub known_from : (rows : List SystemRow) (jobs : List Job) → list_all (is_known (map bare_system rows)) (map head_of jobs) ≡ true → AllByRecursion (λ (j : Job). IsTrue (knows rows j.system)) jobs
known_from rows [] h = tt
known_from rows (j ∷ jobs) h = let it = and_parts _ _ h in (sym (knows_mapped rows (head_of j)) ∙ it.0, known_from rows jobs it.1)

pub known_to : (rows : List SystemRow) (jobs : List Job) → AllByRecursion (λ (j : Job). IsTrue (knows rows j.system)) jobs → list_all (is_known (map bare_system rows)) (map head_of jobs) ≡ true
known_to rows [] h = refl
known_to rows (j ∷ jobs) h = rw (knows_mapped rows (head_of j) ∙ h.0, known_to rows jobs h.1) refl

-- ---- systems

-- the systems whose rows these are
pub record Systems (systems : List BareSystem) (lines : List LineColumns) (ranges : List RangeColumns) (waits : List WaitColumns) : Type 0 where
  pub items : List SystemRow
  pub good : AllByRecursion (λ (row : SystemRow). IsDefinition row.def × IsCall row.call) items
  pub rise : AllPairsByRecursion Before items
  pub systems_are : map bare_system items ≡ systems
  pub lines_are : map line_columns (flat_map placed items) ≡ lines
  pub ranges_are : flat_map ranges_of (flat_map placed items) ≡ ranges
  pub waits_are : flat_map waits_of items ≡ waits

unplaced : (P : PlacedLine → Type 0) (Q : Line → Type 0) → ((p : PlacedLine) → P p → Q p.line) → (name : List ℕ) (place : ℕ) (lines : List Line) → AllByRecursion P (placed_from name place lines) → AllByRecursion Q lines
unplaced P Q step name place [] h = tt
unplaced P Q step name place (l ∷ lines) h = (step _ h.0, unplaced P Q step name (place + 1) lines h.1)

replaced : (P : PlacedLine → Type 0) (Q : Line → Type 0) → ((p : PlacedLine) → Q p.line → P p) → (name : List ℕ) (place : ℕ) (lines : List Line) → AllByRecursion Q lines → AllByRecursion P (placed_from name place lines)
replaced P Q step name place [] h = tt
replaced P Q step name place (l ∷ lines) h = (step _ h.0, replaced P Q step name (place + 1) lines h.1)

-- what the rows of a system and of its lines say, with any success wait
record IsAlmost (row : SystemRow) : Type 0 where
  good : system.IsGoodSystem row
  lines : AllByRecursion line.IsGoodLine (placed row)

whole : (row : SystemRow) (seconds : ℕ) → seconds ≤ most_success_wait → IsAlmost row → IsDefinition (wait.with_seconds row seconds).def × IsCall row.call
whole row seconds few it = (
  record {
    name = it.good.name;
    lines = All-from_recursion IsLine row.def.lines (unplaced line.IsGoodLine IsLine (λ p h. h.0) row.def.name 0 row.def.lines it.lines);
    limits = (it.good.few, All-from_recursion HasRetry row.def.lines (unplaced line.IsGoodLine HasRetry (λ p h. h.1) row.def.name 0 row.def.lines it.lines), it.good.most, few);
  },
  it.good.call,
)

pub systems_from : (systems : List BareSystem) (lines : List LineColumns) (ranges : List RangeColumns) (waits : List WaitColumns) → are_systems systems lines ranges waits ≡ true → Systems systems lines ranges waits
systems_from systems lines ranges waits h =
    let c = and_parts _ _ h in
    let b = and_parts _ _ c.0 in
    let a = and_parts _ _ b.0 in
    let low = items_of owns_range fits_line line_columns ranges_of line.IsGoodLine line.line_of_rows lines ranges b.1 in
    let over : walk system.owns system.fits systems low.items ≡ true = sym (walk_mapped owns_line fits_system line_columns systems low.items) ∙ ap (walk owns_line fits_system systems) low.heads ∙ a.1 in
    let high = items_of system.owns system.fits bare_system placed system.IsGoodSystem system.system_of_rows systems low.items over in
    let good = unflat line.IsGoodLine placed high.items (subst (AllByRecursion line.IsGoodLine) (sym high.children) low.good) in
    let waited = items_of owns_wait fits_wait wait.head wait.kids wait.IsGood wait.wait_of_rows systems waits c.1 in
    let same = waited.heads ∙ sym high.heads in
    let rise = risen bare_system system_before Before (λ x y. less_is _) (λ x y z. nat_list_cmp_total.trans x.def.name y.def.name z.def.name) high.items (ap (rises system_before) high.heads ∙ a.0) in
    record {
      items = wait.waiting high.items waited.items;
      good = wait.each_waiting IsAlmost (λ row. IsDefinition row.def × IsCall row.call) whole high.items waited.items same
          (both system.IsGoodSystem (λ row. AllByRecursion line.IsGoodLine (placed row)) IsAlmost (λ row g l. record { good = g; lines = l }) high.items high.good good) waited.good;
      rise = wait.still_apart high.items waited.items rise;
      systems_are = wait.columns_stay high.items waited.items ∙ high.heads;
      lines_are = ap (map line_columns) (wait.placed_stay high.items waited.items ∙ high.children) ∙ low.heads;
      ranges_are = ap (flat_map ranges_of) (wait.placed_stay high.items waited.items ∙ high.children) ∙ low.children;
      waits_are = wait.waits_are high.items waited.items same ∙ waited.children;
    }

split : (row : SystemRow) → IsDefinition row.def × IsCall row.call → system.IsGoodSystem row
split row good = record { name = good.0.name; most = good.0.limits.2; few = good.0.limits.0; call = good.1 }

pub good_lines : (row : SystemRow) → IsDefinition row.def × IsCall row.call → AllByRecursion line.IsGoodLine (placed row)
good_lines row good =
    replaced line.IsGoodLine (λ l. IsLine l × HasRetry l) (λ p h. h) row.def.name 0 row.def.lines
    (both IsLine HasRetry (λ l. IsLine l × HasRetry l) (λ l h k. (h, k)) row.def.lines (recursion_from_All IsLine row.def.lines good.0.lines) (recursion_from_All HasRetry row.def.lines good.0.limits.1))

abbrev Few : SystemRow → Type 0
Few row = row.def.success_wait ≤ most_success_wait

pub systems_to : (rows : List SystemRow) → AllByRecursion (λ (row : SystemRow). IsDefinition row.def × IsCall row.call) rows → AllPairsByRecursion Before rows
    → are_systems (map bare_system rows) (map line_columns (flat_map placed rows)) (flat_map ranges_of (flat_map placed rows)) (flat_map waits_of rows) ≡ true
systems_to rows good rise =
    let lines = flat_map placed rows in
    let a : rises system_before (map bare_system rows) ≡ true = does_rise bare_system system_before Before (λ x y. ap is_lt) rows rise in
    let apart = weaker_pairs Before (Apart system.owns system.fits bare_system placed system.IsGoodSystem) (λ x y before. system.lines_owned x.def.name y.def.name false (earlier_other x.def.name y.def.name before) 0 y.def.lines) rows rise in
    let own : (x : SystemRow) → AllByRecursion (λ c. system.owns (bare_system x) c ≡ true) (placed x) = λ x. system.lines_owned x.def.name x.def.name true (text_to x.def.name) 0 x.def.lines in
    let over = walked system.owns system.fits bare_system placed system.IsGoodSystem system.system_fits own rows (all_weaker _ system.IsGoodSystem split rows good) apart in
    let b : walk owns_line fits_system (map bare_system rows) (map line_columns lines) ≡ true = walk_mapped owns_line fits_system line_columns (map bare_system rows) lines ∙ over in
    let differ : AllPairsByRecursion system.Differ lines = flat_pairs system.Differ placed _ (λ row g. system.lines_differ row) rows good (weaker_pairs Before _ system.systems_differ rows rise) in
    let apart_lines = weaker_pairs system.Differ (Apart owns_range fits_line line_columns ranges_of line.IsGoodLine) (λ p q differs. line.ranges_owned (line_columns p) q false differs) lines differ in
    let c : walk owns_range fits_line (map line_columns lines) (flat_map ranges_of lines) ≡ true = walked owns_range fits_line line_columns ranges_of line.IsGoodLine line.line_fits line.ranges_own lines (all_flat_of line.IsGoodLine _ placed good_lines rows good) apart_lines in
    let waits_apart = weaker_pairs Before (Apart owns_wait fits_wait bare_system waits_of Few) (λ x y before. wait.wait_owned (bare_system x) y.def.name y.def.success_wait false (earlier_other x.def.name y.def.name before)) rows rise in
    let d : walk owns_wait fits_wait (map bare_system rows) (flat_map waits_of rows) ≡ true = walked owns_wait fits_wait bare_system waits_of Few (λ x few. wait.wait_fits x.def.name (bare_system x) x.def.success_wait few)
    (λ x. wait.wait_owned (bare_system x) x.def.name x.def.success_wait true (text_to x.def.name)) rows (all_weaker _ Few (λ row g. g.0.limits.3) rows good) waits_apart in
    rw (a, b, c, d) refl

-- ---- jobs

-- the jobs whose rows these are
pub record Jobs (next : ℕ) (rows : List SystemRow) (heads : List JobHead) (pieces : List Piece) : Type 0 where
  pub items : List Job
  pub good : AllByRecursion IsJob items
  pub rise : AllPairsByRecursion Lower items
  pub below : AllByRecursion (λ (j : Job). j.number < next) items
  pub known : AllByRecursion (λ (j : Job). IsTrue (knows rows j.system)) items
  pub heads_are : map head_of items ≡ heads
  pub pieces_are : flat_map pieces_of items ≡ pieces

pub jobs_from : (next : ℕ) (rows : List SystemRow) (heads : List JobHead) (pieces : List Piece) → are_jobs next (map bare_system rows) heads pieces ≡ true → Jobs next rows heads pieces
jobs_from next rows heads pieces h =
    let c = and_parts _ _ h in
    let b = and_parts _ _ c.0 in
    let a = and_parts _ _ b.0 in
    let it = items_of owns_piece fits_job head_of pieces_of IsJob job.job_of_rows heads pieces c.1 in
    record {
      items = it.items;
      good = it.good;
      rise = risen head_of job_before Lower (λ x y. ltb-true _ _) (λ x y z p q. omega (arith, p, q)) it.items (ap (rises job_before) it.heads ∙ a.0);
      below = below_from next it.items (ap (list_all (is_below next)) it.heads ∙ a.1);
      known = known_from rows it.items (ap (list_all (is_known (map bare_system rows))) it.heads ∙ b.1);
      heads_are = it.heads;
      pieces_are = it.children;
    }

pub jobs_to : (next : ℕ) (rows : List SystemRow) (jobs : List Job) → AllByRecursion IsJob jobs → AllPairsByRecursion Lower jobs → AllByRecursion (λ (j : Job). j.number < next) jobs → AllByRecursion (λ (j : Job). IsTrue (knows rows j.system)) jobs
    → are_jobs next (map bare_system rows) (map head_of jobs) (flat_map pieces_of jobs) ≡ true
jobs_to next rows jobs good rise below known =
    let a : rises job_before (map head_of jobs) ≡ true = does_rise head_of job_before Lower (λ x y. lt-ltb x.number y.number) jobs rise in
    let apart = weaker_pairs Lower (Apart owns_piece fits_job head_of pieces_of IsJob) (λ x y low. job.pieces_numbered y x.number false (eq_not x.number y.number low)) jobs rise in
    let own : (x : Job) → AllByRecursion (λ c. owns_piece (head_of x) c ≡ true) (pieces_of x) = λ x. job.pieces_numbered x x.number true (eq-eqb x.number x.number refl) in
    let b : walk owns_piece fits_job (map head_of jobs) (flat_map pieces_of jobs) ≡ true = walked owns_piece fits_job head_of pieces_of IsJob job.job_fits own jobs good apart in
    rw (a, b, below_to next jobs below, known_to rows jobs known) refl

-- ---- entries

abbrev pub Names : MapEntry → Type 0
Names e = host_of e.bytes ≡ Ok e.host

abbrev pub HostBefore : MapEntry → MapEntry → Type 0
HostBefore a b = ComesBefore a.host b.host

abbrev entry_in : EntryColumns → MapEntry
entry_in e = record { host = e.host; bytes = e.bytes }

names_from : (r : Result (List ℕ) MapFault) (host : List ℕ) → is_host r host ≡ true → r ≡ Ok host
names_from (Ok name) host h = ap Ok (text_from name host h)
names_from (Err fault) host h = absurd (cc)

-- the entries whose rows these are
pub record Entries (rows : List EntryColumns) : Type 0 where
  pub items : List MapEntry
  pub hosts : AllByRecursion Names items
  pub rise : AllPairsByRecursion HostBefore items
  pub rows_are : map entry_columns items ≡ rows

back : (rows : List EntryColumns) → map entry_columns (map entry_in rows) ≡ rows
back [] = refl
back (e ∷ rows) = ap (λ l. e ∷ l) (back rows)

each_named : (rows : List EntryColumns) → list_all is_entry rows ≡ true → AllByRecursion Names (map entry_in rows)
each_named [] h = tt
each_named (e ∷ rows) h = let it = and_parts _ _ h in (names_from (host_of e.bytes) e.host it.0, each_named rows it.1)

pub entries_from : (rows : List EntryColumns) → are_entries rows ≡ true → Entries rows
entries_from rows h = let it = and_parts _ _ h in record {
  items = map entry_in rows;
  hosts = each_named rows it.1;
  rise = risen entry_columns entry_before HostBefore (λ x y. less_is _) (λ x y z. nat_list_cmp_total.trans x.host y.host z.host) (map entry_in rows) (ap (rises entry_before) (back rows) ∙ it.0);
  rows_are = back rows;
}

named_each : (entries : List MapEntry) → AllByRecursion Names entries → list_all is_entry (map entry_columns entries) ≡ true
named_each [] h = refl
named_each (e ∷ entries) h = rw (h.0, text_to e.host, named_each entries h.1) refl

pub entries_to : (entries : List MapEntry) → AllByRecursion Names entries → AllPairsByRecursion HostBefore entries → are_entries (map entry_columns entries) ≡ true
entries_to entries hosts rise = rw (does_rise entry_columns entry_before HostBefore (λ x y. ap is_lt) entries rise, named_each entries hosts) refl

-- ---- the whole

abbrev pub passes : EarlierTables → Bool
passes t = is_earlier_spool t.next t.systems t.lines t.ranges t.success_waits t.jobs (t.pieces) t.entries t.links t.taken

pub tables_from : (t : EarlierTables) → passes t ≡ true → AreEarlierTables t
tables_from t h =
    let d = and_parts _ _ h in
    let f = and_parts _ _ d.0 in
    let c = and_parts _ _ f.0 in
    let b = and_parts _ _ c.0 in
    let a = and_parts _ _ b.0 in
    let s = systems_from t.systems t.lines t.ranges t.success_waits b.1 in
    let j = jobs_from t.next s.items t.jobs t.pieces (ap (λ l. are_jobs t.next l t.jobs (t.pieces)) s.systems_are ∙ c.1) in
    let rises_systems = and_parts _ _ (and_parts _ _ (and_parts _ _ b.1).0).0 in
    let l = link.links_from_rows t.next s.items t.links t.taken (ap (rises system_before) s.systems_are ∙ rises_systems.0) (ap (λ rows. are_links t.next rows t.links t.taken) s.systems_are ∙ f.1) in
    let e = entries_from t.entries d.1 in
    record {
      state = record { jobs = j.items; systems = s.items; entries = e.items; next = t.next; links = l.items };
      good = record {
        some_next = leb-true _ _ a.0;
        next = leb-true _ _ a.1;
        jobs = All-from_recursion IsJob j.items j.good;
        rising = pairs_by_place Lower j.items j.rise;
        below_next = All-from_recursion (λ (job : Job). job.number < t.next) j.items j.below;
        placed = All-from_recursion (λ (job : Job). IsTrue (knows s.items job.system)) j.items j.known;
        definitions = All-from_recursion (λ (row : SystemRow). IsDefinition row.def) s.items (all_weaker _ _ (λ row good. good.0) s.items s.good);
        calls = All-from_recursion (λ (row : SystemRow). IsCall row.call) s.items (all_weaker _ _ (λ row good. good.1) s.items s.good);
        by_name = pairs_by_place Before s.items s.rise;
        hosts = All-from_recursion Names e.items e.hosts;
        by_host = pairs_by_place HostBefore e.items e.rise;
        links = All-from_recursion IsLink l.items l.good;
        linked = All-from_recursion (λ (k : Link). IsTrue (knows s.items k.name)) l.items l.known;
        taken = All-from_recursion _ l.items l.given;
        by_link = pairs_by_place link.LinkBefore l.items l.rise;
      };
      same = λ i. record { next = t.next; systems = s.systems_are i; lines = s.lines_are i; ranges = s.ranges_are i; jobs = j.heads_are i; pieces = j.pieces_are i; entries = e.rows_are i; success_waits = s.waits_are i; links = l.links_are i; taken = l.taken_are i };
    }

pub tables_to : (s : State) → IsWellFormed s → passes (earlier_tables_of s) ≡ true
tables_to s good =
    let both_good = both (λ (row : SystemRow). IsDefinition row.def) (λ (row : SystemRow). IsCall row.call) (λ (row : SystemRow). IsDefinition row.def × IsCall row.call) (λ row h k. (h, k)) s.systems (recursion_from_All _ s.systems good.definitions) (recursion_from_All _ s.systems good.calls) in
    let systems = systems_to s.systems both_good (pairs_by_recursion Before s.systems good.by_name) in
    let jobs = jobs_to s.next s.systems s.jobs (recursion_from_All IsJob s.jobs good.jobs) (pairs_by_recursion Lower s.jobs good.rising) (recursion_from_All (λ (j : Job). j.number < s.next) s.jobs good.below_next) (recursion_from_All (λ (j : Job). IsTrue (knows s.systems j.system)) s.jobs good.placed) in
    let links = link.links_to_rows s.next s.systems s.links (pairs_by_recursion Before s.systems good.by_name) (pairs_by_recursion link.LinkBefore s.links good.by_link) (recursion_from_All (λ (k : Link). IsTrue (knows s.systems k.name)) s.links good.linked) (recursion_from_All IsLink s.links good.links)
    (all_weaker _ _ (λ (k : Link) h. recursion_from_All _ k.taken h) s.links (recursion_from_All _ s.links good.taken)) in
    let entries = entries_to s.entries (recursion_from_All Names s.entries good.hosts) (pairs_by_recursion HostBefore s.entries good.by_host) in
    rw (le-leb 1 s.next good.some_next, le-leb s.next numbers_end good.next, systems, jobs, links, entries) refl

pub passes_to : (t : EarlierTables) → AreEarlierTables t → passes t ≡ true
passes_to t it = ap passes (sym it.same) ∙ tables_to it.state it.good

pub same_test : (rows : EarlierRows) (t : EarlierTables) → AreEarlierRowsOf rows t → is_earlier_spool rows.next rows.systems.now rows.lines.now rows.ranges.now rows.success_waits.now rows.jobs.now rows.pieces.now rows.entries.now rows.links.now rows.taken.now ≡ passes t
same_test rows t h = λ i. is_earlier_spool (h.next i) (h.systems i) (h.lines i) (h.ranges i) (h.success_waits i) (h.jobs i) (h.pieces i) (h.entries i) (h.links i) (h.taken i)

pub told : {E : Type 0} (r : Result Bool E) (rows : EarlierRows) (t : EarlierTables) → AreEarlierRowsOf rows t
    → IfOk r (λ good. good ≡ is_earlier_spool rows.next rows.systems.now rows.lines.now rows.ranges.now rows.success_waits.now rows.jobs.now rows.pieces.now rows.entries.now rows.links.now rows.taken.now) → IfOk r (λ good. (good ≡ true) ↔ AreEarlierTables t)
told (Ok good) rows t are h = let same = h ∙ same_test rows t are in (λ yes. tables_from t (sym same ∙ yes), λ it. same ∙ passes_to t it)
told (Err fault) rows t are h = tt
