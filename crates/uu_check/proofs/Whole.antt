-- Rows that pass are those of a state, and the rows of a state pass.
use Rattle.std.proofs.Common.{◌≡◌, ℕ, ◌<◌, Bool, true, List, [], ◌∷◌, map, length, All, IsTrue, Result, Ok, Err, refl, sym, ap, subst, ◌∙◌, arith}
use Rattle.std.specs.Prelude.{◌↔◌, ◌==◌, IfOk}
use Rattle.std.specs.List.{AllByRecursion, flat_map, list_all}
use Rattle.std.specs.Ordering.{is_lt}
use Rattle.std.proofs.lemmas.Bool.{and_parts, leb-true, le-leb, ltb-true, lt-ltb, eq-eqb, eqb-true}
use Rattle.std.proofs.lemmas.Cmp.{nat_list_cmp_total}
use Rattle.std.proofs.lemmas.List.Elements.{recursion_from_All, All-from_recursion}
use Rattle.uu_names.proofs.Basics.{less_is, pairs_by_recursion, all_weaker, AllPairsByRecursion}
use Rattle.uu_core.specs.declared.job.JobHead.{JobHead}
use Rattle.uu_core.specs.declared.system.SystemRow.{SystemRow}
use Rattle.uu_core.specs.State.{State, Job, Link, IsLink, IsJob, IsCall, IsDefinition, IsWellFormed, head_of, last_second, most_failures, most_wait, numbers_end}
use Rattle.uu_tables.specs.declared.rows.SystemColumns.{SystemColumns}
use Rattle.uu_tables.specs.declared.rows.Body.{Body}
use Rattle.uu_tables.specs.Tables.{Tables, tables_of, system_columns, body_of, size_of}
use Rattle.uu_tables.specs.Earlier.{bare_system}
use Rattle.uu_check.specs.declared.spool.Rows.{Rows}
use Rattle.uu_check.specs.OfState.{AreTables, AreRowsOf}
use Rattle.uu_check.specs.Walk.{walk, rises}
use Rattle.uu_check.specs.Tests.{bare_of, is_call, is_head, is_spool, have_bodies, are_links, is_below, is_known, owns_body, fits_body, job_before, system_before}
use Rattle.uu_check.proofs.Walks.{Item, items_of, walked, walk_mapped, Apart}
use Rattle.uu_check.proofs.Lists.{pairs_by_place, weaker_pairs, both, risen, does_rise}
use Rattle.uu_check.proofs.Meanings.{eq_not}
use Rattle.uu_check.proofs.Heads.{job_from, job_to}
use Rattle.uu_check.proofs.Callers.{shown, outcome_fits}
use Rattle.uu_check.proofs.Verdict.{Before, Lower, Names, HostBefore, knows, below_from, below_to, known_from, known_to, entries_from, entries_to}
use Rattle.uu_check.proofs.LinkRows as link

-- ---- systems

abbrev IsGood : SystemRow → Type 0
IsGood row = IsDefinition row.def × IsCall row.call

-- the system of a row
record One (s : SystemColumns) : Type 0 where
  row : SystemRow
  good : IsGood row
  is : system_columns row ≡ s

one_from : (s : SystemColumns) → IsDefinition s.def → is_call (bare_of s) ≡ true → One s
one_from s defined test =
    let z = and_parts _ _ test in
    let y = and_parts _ _ z.0 in
    let x = and_parts _ _ y.0 in
    let o = shown s.call.why s.call.outcome s.call.last s.call.failures s.call.wait z.1 in
    record {
      row = record { def = s.def; call = record { last = s.call.last; failures = s.call.failures; wait = s.call.wait; outcome = o.it } };
      good = (defined, record { last = leb-true _ _ x.0; failures = leb-true _ _ x.1; wait = leb-true _ _ y.1; outcome = o.good });
      is = λ i. record s { call = record s.call { outcome = o.number i; why = o.reason i } };
    }

-- those of several rows
record Some (systems : List SystemColumns) : Type 0 where
  items : List SystemRow
  good : AllByRecursion IsGood items
  are : map system_columns items ≡ systems

some_from : (systems : List SystemColumns) → AllByRecursion (λ (s : SystemColumns). IsDefinition s.def) systems → list_all is_call (map bare_of systems) ≡ true → Some systems
some_from [] defined test = record { items = []; good = tt; are = refl }
some_from (s ∷ systems) defined test =
    let parts = and_parts (is_call (bare_of s)) (list_all is_call (map bare_of systems)) test in
    let first = one_from s defined.0 parts.0 in
    let rest = some_from systems defined.1 parts.1 in
    record { items = first.row ∷ rest.items; good = (first.good, rest.good); are = λ i. first.is i ∷ rest.are i }

-- a row without its definition is the same as that of an earlier version
bare_rows : (rows : List SystemRow) → map bare_of (map system_columns rows) ≡ map bare_system rows
bare_rows [] = refl
bare_rows (row ∷ rows) = ap (λ l. bare_system row ∷ l) (bare_rows rows)

call_to : (row : SystemRow) → IsGood row → is_call (bare_system row) ≡ true
call_to row good = rw (le-leb row.call.last last_second good.1.last, le-leb row.call.failures most_failures good.1.failures, le-leb row.call.wait most_wait good.1.wait) (outcome_fits row.call.outcome row.call good.1.outcome)

calls_to : (rows : List SystemRow) → AllByRecursion IsGood rows → list_all is_call (map bare_system rows) ≡ true
calls_to [] good = refl
calls_to (row ∷ rows) good = rw (call_to row good.0, calls_to rows good.1) refl

-- ---- jobs

abbrev owns : JobHead → Body → Bool
owns h b = owns_body h (size_of b)

abbrev fits : JobHead → List Body → Bool
fits h bs = fits_body h (map size_of bs)

abbrev only : Job → List Body
only j = body_of j ∷ []

each_only : (jobs : List Job) → flat_map only jobs ≡ map body_of jobs
each_only [] = refl
each_only (j ∷ jobs) = ap (λ l. body_of j ∷ l) (each_only jobs)

job_of_body : (h : JobHead) (bs : List Body) → AllByRecursion (λ b. owns h b ≡ true) bs → fits h bs ≡ true → Item owns fits head_of only IsJob h bs
job_of_body h [] own test = absurd (cc)
job_of_body h (b ∷ []) own test =
    let parts = and_parts (is_head h) (length b.bytes == h.size) test in
    let size : length b.bytes ≡ h.size = eqb-true _ _ parts.1 in
    let number : h.number ≡ b.job = sym (eqb-true b.job h.number own.0) in
    let job : Job = record { number = h.number; system = h.system; grade = h.grade; user = h.user; kind = h.kind; queued = h.queued; bytes = b.bytes } in
    let row : head_of job ≡ h = ap (λ n. record h { size = n }) size in
    record { item = job; good = job_from job (ap is_head row ∙ parts.0); row = row; children = λ i. record { job = number i; bytes = b.bytes } ∷ [] }
job_of_body h (b ∷ other ∷ more) own test = absurd (cc)

body_fits : (j : Job) → IsJob j → fits (head_of j) (only j) ≡ true
body_fits j good = rw (job_to j good, eq-eqb (length j.bytes) (length j.bytes) refl) refl

-- the jobs whose rows these are
record Jobs (next : ℕ) (rows : List SystemRow) (heads : List JobHead) (bodies : List Body) : Type 0 where
  items : List Job
  good : AllByRecursion IsJob items
  rise : AllPairsByRecursion Lower items
  below : AllByRecursion (λ (j : Job). j.number < next) items
  known : AllByRecursion (λ (j : Job). IsTrue (knows rows j.system)) items
  heads_are : map head_of items ≡ heads
  bodies_are : map body_of items ≡ bodies

jobs_from : (next : ℕ) (rows : List SystemRow) (heads : List JobHead) (bodies : List Body) → have_bodies next (map bare_system rows) heads (map size_of bodies) ≡ true → Jobs next rows heads bodies
jobs_from next rows heads bodies h =
    let c = and_parts _ _ h in
    let b = and_parts _ _ c.0 in
    let a = and_parts _ _ b.0 in
    let over : walk owns fits heads bodies ≡ true = sym (walk_mapped owns_body fits_body size_of heads bodies) ∙ c.1 in
    let it = items_of owns fits head_of only IsJob job_of_body heads bodies over in
    record {
      items = it.items;
      good = it.good;
      rise = risen head_of job_before Lower (λ x y. ltb-true _ _) (λ x y z p q. omega (arith, p, q)) it.items (ap (rises job_before) it.heads ∙ a.0);
      below = below_from next it.items (ap (list_all (is_below next)) it.heads ∙ a.1);
      known = known_from rows it.items (ap (list_all (is_known (map bare_system rows))) it.heads ∙ b.1);
      heads_are = it.heads;
      bodies_are = sym (each_only it.items) ∙ it.children;
    }

jobs_to : (next : ℕ) (rows : List SystemRow) (jobs : List Job) → AllByRecursion IsJob jobs → AllPairsByRecursion Lower jobs → AllByRecursion (λ (j : Job). j.number < next) jobs → AllByRecursion (λ (j : Job). IsTrue (knows rows j.system)) jobs
    → have_bodies next (map bare_system rows) (map head_of jobs) (map size_of (map body_of jobs)) ≡ true
jobs_to next rows jobs good rise below known =
    let a : rises job_before (map head_of jobs) ≡ true = does_rise head_of job_before Lower (λ x y. lt-ltb x.number y.number) jobs rise in
    let apart = weaker_pairs Lower (Apart owns fits head_of only IsJob) (λ x y low. (eq_not x.number y.number low, tt)) jobs rise in
    let over = walked owns fits head_of only IsJob body_fits (λ x. (eq-eqb x.number x.number refl, tt)) jobs good apart in
    let b : walk owns_body fits_body (map head_of jobs) (map size_of (map body_of jobs)) ≡ true = ap (λ bs. walk owns_body fits_body (map head_of jobs) (map size_of bs)) (sym (each_only jobs)) ∙ walk_mapped owns_body fits_body size_of (map head_of jobs) (flat_map only jobs) ∙ over in
    rw (a, b, below_to next jobs below, known_to rows jobs known) refl

-- ---- the whole

abbrev pub passes : Tables → Bool
passes t = is_spool t.next (map bare_of t.systems) t.jobs (map size_of t.bodies) t.entries t.links t.taken

pub tables_from : (t : Tables) → AllByRecursion (λ (s : SystemColumns). IsDefinition s.def) t.systems → passes t ≡ true → AreTables t
tables_from t defined h =
    let d = and_parts _ _ h in
    let f = and_parts _ _ d.0 in
    let c = and_parts _ _ f.0 in
    let b = and_parts _ _ c.0 in
    let a = and_parts _ _ b.0 in
    let called = and_parts (rises system_before (map bare_of t.systems)) (list_all is_call (map bare_of t.systems)) b.1 in
    let s = some_from t.systems defined called.1 in
    let bare : map bare_system s.items ≡ map bare_of t.systems = sym (bare_rows s.items) ∙ ap (map bare_of) s.are in
    let up : rises system_before (map bare_system s.items) ≡ true = ap (rises system_before) bare ∙ called.0 in
    let rise = risen bare_system system_before Before (λ x y. less_is _) (λ x y z. nat_list_cmp_total.trans x.def.name y.def.name z.def.name) s.items up in
    let j = jobs_from t.next s.items t.jobs t.bodies (ap (λ l. have_bodies t.next l t.jobs (map size_of t.bodies)) bare ∙ c.1) in
    let l = link.links_from_rows t.next s.items t.links t.taken up (ap (λ rows. are_links t.next rows t.links t.taken) bare ∙ f.1) in
    let e = entries_from t.entries d.1 in
    record {
      state = record { jobs = j.items; systems = s.items; entries = e.items; next = t.next; links = l.items };
      good = record {
        some_next = leb-true _ _ a.0;
        next = leb-true _ _ a.1;
        jobs = All-from_recursion IsJob j.items j.good;
        rising = pairs_by_place Lower j.items j.rise;
        below_next = All-from_recursion (λ (job : Job). job.number < t.next) j.items j.below;
        placed = All-from_recursion (λ (job : Job). IsTrue (knows s.items job.system)) j.items j.known;
        definitions = All-from_recursion (λ (row : SystemRow). IsDefinition row.def) s.items (all_weaker _ _ (λ row good. good.0) s.items s.good);
        calls = All-from_recursion (λ (row : SystemRow). IsCall row.call) s.items (all_weaker _ _ (λ row good. good.1) s.items s.good);
        by_name = pairs_by_place Before s.items rise;
        hosts = All-from_recursion Names e.items e.hosts;
        by_host = pairs_by_place HostBefore e.items e.rise;
        links = All-from_recursion IsLink l.items l.good;
        linked = All-from_recursion (λ (k : Link). IsTrue (knows s.items k.name)) l.items l.known;
        taken = All-from_recursion _ l.items l.given;
        by_link = pairs_by_place link.LinkBefore l.items l.rise;
      };
      same = λ i. record { next = t.next; systems = s.are i; jobs = j.heads_are i; bodies = j.bodies_are i; entries = e.rows_are i; links = l.links_are i; taken = l.taken_are i };
    }

pub tables_to : (s : State) → IsWellFormed s → passes (tables_of s) ≡ true
tables_to s good =
    let both_good = both (λ (row : SystemRow). IsDefinition row.def) (λ (row : SystemRow). IsCall row.call) IsGood (λ row h k. (h, k)) s.systems (recursion_from_All _ s.systems good.definitions) (recursion_from_All _ s.systems good.calls) in
    let names = pairs_by_recursion Before s.systems good.by_name in
    let rise : rises system_before (map bare_system s.systems) ≡ true = does_rise bare_system system_before Before (λ x y. ap is_lt) s.systems names in
    let jobs = jobs_to s.next s.systems s.jobs (recursion_from_All IsJob s.jobs good.jobs) (pairs_by_recursion Lower s.jobs good.rising) (recursion_from_All (λ (j : Job). j.number < s.next) s.jobs good.below_next) (recursion_from_All (λ (j : Job). IsTrue (knows s.systems j.system)) s.jobs good.placed) in
    let links = link.links_to_rows s.next s.systems s.links names (pairs_by_recursion link.LinkBefore s.links good.by_link) (recursion_from_All (λ (k : Link). IsTrue (knows s.systems k.name)) s.links good.linked) (recursion_from_All IsLink s.links good.links)
    (all_weaker _ _ (λ (k : Link) h. recursion_from_All _ k.taken h) s.links (recursion_from_All _ s.links good.taken)) in
    let entries = entries_to s.entries (recursion_from_All Names s.entries good.hosts) (pairs_by_recursion HostBefore s.entries good.by_host) in
    rw (bare_rows s.systems, le-leb 1 s.next good.some_next, le-leb s.next numbers_end good.next, rise, calls_to s.systems both_good, jobs, links, entries) refl

pub passes_to : (t : Tables) → AreTables t → passes t ≡ true
passes_to t it = ap passes (sym it.same) ∙ tables_to it.state it.good

pub same_test : (rows : Rows) (t : Tables) → AreRowsOf rows t → is_spool rows.next (map bare_of rows.systems.now) rows.jobs.now rows.bodies.now rows.entries.now rows.links.now rows.taken.now ≡ passes t
same_test rows t h = λ i. is_spool (h.next i) (map bare_of (h.systems i)) (h.jobs i) (h.bodies i) (h.entries i) (h.links i) (h.taken i)

pub told : {E : Type 0} (r : Result Bool E) (rows : Rows) (t : Tables) → All (λ (s : SystemColumns). IsDefinition s.def) rows.systems.now → AreRowsOf rows t
    → IfOk r (λ good. good ≡ is_spool rows.next (map bare_of rows.systems.now) rows.jobs.now rows.bodies.now rows.entries.now rows.links.now rows.taken.now) → IfOk r (λ good. (good ≡ true) ↔ AreTables t)
told (Ok good) rows t sound are h =
    let same = h ∙ same_test rows t are in
    let defined = recursion_from_All _ t.systems (subst (All (λ (s : SystemColumns). IsDefinition s.def)) are.systems sound) in
    (λ yes. tables_from t defined (sym same ∙ yes), λ it. same ∙ passes_to t it)
told (Err fault) rows t sound are h = tt
