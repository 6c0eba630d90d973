-- The tables of a state: in the order of their keys, within the limits of their types, and those of no
-- other state.
use Rattle.std.proofs.Common.{◌≡◌, ◌<◌, List, [], ◌∷◌, map, IsTrue, refl, sym, ap, ◌∙◌, arith}
use Rattle.std.specs.List.{AllByRecursion, flat_map}
use Rattle.std.proofs.lemmas.List.Elements.{recursion_from_All}
use Rattle.uu_names.specs.Name.{is_site_name}
use Rattle.uu_names.proofs.Basics.{pairs_by_recursion, all_weaker, all_mapped}
use Rattle.uu_map.specs.Text.{host_of}
use Rattle.std.specs.Prelude.{Ok}
use Rattle.uu_core.specs.declared.custody.Taken.{Taken}
use Rattle.uu_core.specs.declared.job.JobHead.{JobHead}
use Rattle.uu_core.specs.declared.system.SystemRow.{SystemRow}
use Rattle.uu_core.specs.State.{State, Job, MapEntry, Link, IsLink, IsJob, IsCall, IsDefinition, IsWellFormed, ComesBefore, head_of, numbers_end}
use Rattle.uu_tables.specs.declared.rows.SystemColumns.{SystemColumns}
use Rattle.uu_tables.specs.declared.rows.Body.{Body}
use Rattle.uu_tables.specs.Tables.{Tables, tables_of, system_columns, body_of, entry_columns, links_of, taken_rows}
use Rattle.uu_check.specs.Order.{AreInOrder}
use Rattle.uu_check.specs.Readable.{IsSystemRow, IsJobRow, IsBodyRow, IsEntryRow, IsLinkRow, IsTakenRow, AreReadable}
use Rattle.uu_check.proofs.Lists.{pairs_by_place, weaker_pairs, both, flat_pairs, mapped_pairs, all_flat_of}
use Rattle.uu_check.proofs.Heads.{job_to}
use Rattle.uu_check.proofs.LinkRows as link
use Rattle.uu_check.proofs.Rising.{RowBefore, TakenBefore, own_link, across_links, own_taken, across_taken}
use Rattle.uu_check.proofs.Reading.{IsNamed, few_outcomes, why_word, entry_row, known_name, link_rows, taken_in_rows}
use Rattle.uu_check.proofs.OneState.{outcome_from, outcome_back, mapped_back, entry_from, of_systems, good_links}

-- ---- in order

pub in_order : (s : State) → IsWellFormed s → AreInOrder (tables_of s)
in_order s good =
    let names = pairs_by_recursion (λ (a b : SystemRow). ComesBefore a.def.name b.def.name) s.systems good.by_name in
    let numbers = pairs_by_recursion (λ (a b : Job). a.number < b.number) s.jobs good.rising in
    let links = pairs_by_recursion link.LinkBefore s.links good.by_link in
    let fine = recursion_from_All IsLink s.links good.links in
    record {
      systems = pairs_by_place _ (map system_columns s.systems) (mapped_pairs (λ a b. ComesBefore a.def.name b.def.name) system_columns s.systems names);
      jobs = pairs_by_place _ (map head_of s.jobs) (mapped_pairs (λ (a b : JobHead). a.number < b.number) head_of s.jobs numbers);
      bodies = pairs_by_place _ (map body_of s.jobs) (mapped_pairs (λ (a b : Body). a.job < b.job) body_of s.jobs numbers);
      entries = pairs_by_place _ (map entry_columns s.entries) (mapped_pairs (λ a b. ComesBefore a.host b.host) entry_columns s.entries (pairs_by_recursion (λ (a b : MapEntry). ComesBefore a.host b.host) s.entries good.by_host));
      links = pairs_by_place _ (flat_map links_of s.links) (flat_pairs RowBefore links_of IsLink (λ l g. own_link l.name l.below) s.links fine (weaker_pairs link.LinkBefore _ (λ x y before. across_links x.name y.name x.below y.below before) s.links links));
      taken = pairs_by_place _ (flat_map taken_rows s.links) (flat_pairs TakenBefore taken_rows IsLink (λ l g. own_taken l.name l.taken (pairs_by_recursion _ l.taken g.rising)) s.links fine (weaker_pairs link.LinkBefore _ (λ x y before. across_taken x.name y.name x.taken y.taken before) s.links links));
    }

-- ---- within limits

system_row : (row : SystemRow) → IsDefinition row.def × IsCall row.call → IsSystemRow (system_columns row)
system_row row good = record {
  def = good.0;
  last = good.1.last;
  failures = good.1.failures;
  wait = good.1.wait;
  outcome = few_outcomes row.call.outcome;
  why = why_word row.call.outcome row.call good.1.outcome;
}

pub readable : (s : State) → IsWellFormed s → AreReadable (tables_of s)
readable s good =
    let rows = both (λ (row : SystemRow). IsDefinition row.def) (λ (row : SystemRow). IsCall row.call) (λ (row : SystemRow). IsDefinition row.def × IsCall row.call) (λ row h k. (h, k)) s.systems (recursion_from_All _ s.systems good.definitions) (recursion_from_All _ s.systems good.calls) in
    let last = good.next in
    let jobs = both IsJob (λ (j : Job). j.number < s.next) (λ (j : Job). IsJob j × (j.number < numbers_end)) (λ j h k. (h, omega (arith, k, last))) s.jobs (recursion_from_All IsJob s.jobs good.jobs) (recursion_from_All (λ (j : Job). j.number < s.next) s.jobs good.below_next) in
    let names = both (λ (l : Link). IsTrue (link.knows s.systems l.name)) IsLink (λ (l : Link). IsTrue (is_site_name l.name) × IsLink l) (λ l k g. (known_name s.systems (recursion_from_All _ s.systems good.definitions) l.name k, g)) s.links (recursion_from_All _ s.links good.linked) (recursion_from_All IsLink s.links good.links) in
    let named = both (λ (l : Link). IsTrue (is_site_name l.name) × IsLink l) (λ (l : Link). AllByRecursion (λ (t : Taken). t.job < s.next) l.taken) (IsNamed s.next) (λ l p g. record { name = p.0; good = p.1; given = g }) s.links names (all_weaker _ _ (λ (l : Link) h. recursion_from_All _ l.taken h) s.links (recursion_from_All _ s.links good.taken)) in
    record {
      next = good.next;
      systems = all_mapped IsSystemRow system_columns s.systems (all_weaker _ _ system_row s.systems rows);
      jobs = all_mapped IsJobRow head_of s.jobs (all_weaker _ _ (λ j h. record { number = h.1; good = job_to j h.0 }) s.jobs jobs);
      bodies = all_mapped IsBodyRow body_of s.jobs (all_weaker _ _ (λ j h. record { job = h.1; length = h.0.bytes }) s.jobs jobs);
      entries = all_mapped IsEntryRow entry_columns s.entries (all_weaker _ _ entry_row s.entries (recursion_from_All (λ (e : MapEntry). host_of e.bytes ≡ Ok e.host) s.entries good.hosts));
      links = all_flat_of IsLinkRow _ links_of (link_rows s.next) s.links named;
      taken = all_flat_of IsTakenRow _ taken_rows (taken_in_rows s.next last) s.links named;
    }

-- ---- those of no other state

row_from : SystemColumns → SystemRow
row_from s = record { def = s.def; call = record { last = s.call.last; failures = s.call.failures; wait = s.call.wait; outcome = outcome_from s.call.outcome s.call.why } }

row_back : (row : SystemRow) → row_from (system_columns row) ≡ row
unfolding row_from
row_back row = ap (λ outcome. record row { call = record row.call { outcome = outcome } }) (outcome_back row.call.outcome)

same_job : (j k : Job) → head_of j ≡ head_of k → body_of j ≡ body_of k → j ≡ k
same_job j k head body =
    λ i. record { number = (head i).number; system = (head i).system; grade = (head i).grade; user = (head i).user; kind = (head i).kind; queued = (head i).queued; bytes = (body i).bytes }

same_jobs : (jobs others : List Job) → map head_of jobs ≡ map head_of others → map body_of jobs ≡ map body_of others → jobs ≡ others
same_jobs [] [] heads bodies = refl
same_jobs [] (k ∷ others) heads bodies = absurd (cc)
same_jobs (j ∷ jobs) [] heads bodies = absurd (cc)
same_jobs (j ∷ jobs) (k ∷ others) heads bodies =
    let head : head_of j ≡ head_of k = cc in
    let body : body_of j ≡ body_of k = cc in
    let more : map head_of jobs ≡ map head_of others = cc in
    let rest : map body_of jobs ≡ map body_of others = cc in
    λ i. same_job j k head body i ∷ same_jobs jobs others more rest i

pub one_state : (s t : State) → IsWellFormed s → IsWellFormed t → tables_of s ≡ tables_of t → s ≡ t
one_state s t good fine same =
    let systems : s.systems ≡ t.systems = sym (mapped_back system_columns row_from row_back s.systems) ∙ ap (λ (r : Tables). map row_from r.systems) same ∙ mapped_back system_columns row_from row_back t.systems in
    let jobs = same_jobs s.jobs t.jobs (ap (λ (r : Tables). r.jobs) same) (ap (λ (r : Tables). r.bodies) same) in
    let entries : s.entries ≡ t.entries = sym (mapped_back entry_columns entry_from (λ e. refl) s.entries) ∙ ap (λ (r : Tables). map entry_from r.entries) same ∙ mapped_back entry_columns entry_from (λ e. refl) t.entries in
    let names = pairs_by_recursion (λ (a b : SystemRow). ComesBefore a.def.name b.def.name) s.systems good.by_name in
    let mine = good_links s good in
    let other : link.Good s.systems names t.links = of_systems t fine s.systems names (sym systems) in
    let links = link.same_links s.systems names s.links t.links mine other (ap (λ (r : Tables). r.links) same) (ap (λ (r : Tables). r.taken) same) in
    λ i. record { jobs = jobs i; systems = systems i; entries = entries i; next = (same i).next; links = links i }
