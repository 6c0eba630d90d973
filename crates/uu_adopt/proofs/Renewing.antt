-- Rows in the order of their keys, each written after the one before it, are these rows.
use Rattle.std.proofs.Common.{◌≡◌, ℕ, ◌<◌, Bool, true, false, not, List, [], ◌∷◌, ◌++◌, filter, drop, length, get_or, ◌+◌, refl, sym, ap, subst, ◌∙◌, append_assoc, append-nil, Less, nat_cmp}
use Rattle.std.specs.List.{AllByRecursion}
use Rattle.std.specs.declared.cmp.Ordering.{Ordering}
use Rattle.std.specs.Cmp.{IsTotalOrder}
use Rattle.std.specs.Cmp.Lexicographic.{slice_cmp}
use Rattle.std.specs.Ordering.{is_lt, ordering_reverse}
use Rattle.std.proofs.lemmas.Cmp.{nat_list_cmp_total, nat_cmp_total, then_total, on_total}
use Rattle.std.proofs.lemmas.List.{map-append, drop_more}
use Rattle.uu_names.proofs.Basics.{AllPairsByRecursion, pairs_by_recursion, all_weaker, earlier_other, text_to}
use Rattle.uu_core.specs.declared.job.JobHead.{JobHead}
use Rattle.uu_core.specs.State.{State, IsWellFormed, ComesBefore}
use Rattle.uu_core.specs.After.{is_before}
use Rattle.uu_tables.specs.declared.rows.SystemColumns.{SystemColumns}
use Rattle.uu_tables.specs.declared.rows.Body.{Body}
use Rattle.uu_tables.specs.declared.rows.EntryColumns.{EntryColumns}
use Rattle.uu_tables.specs.declared.rows.LinkColumns.{LinkColumns}
use Rattle.uu_tables.specs.declared.rows.TakenColumns.{TakenColumns}
use Rattle.uu_tables.specs.Tables.{Tables, tables_of}
use Rattle.uu_tables.specs.Changes.{alter, has_name, new_system, insert_by}
use Rattle.uu_tables.specs.Order.{taken_cmp}
use Rattle.uu_tables.proofs.InsertLemmas.{kept_none, kept_all}
use Rattle.uu_check.specs.Order.{AreInOrder}
use Rattle.uu_check.proofs.WholeState.{in_order}
use Rattle.uu_adopt.specs.Renewal.{add_system, add_job, add_body, add_entry, add_link, add_taken, set_next, each, written}

-- ---- one row after others

-- what holds of each holds of what comes after others
behind : {X : Type 0} (P : X → Type 0) (xs : List X) (x : X) (rest : List X) → AllByRecursion P (xs ++ x ∷ rest) → P x
behind P [] x rest h = h.0
behind P (y ∷ xs) x rest h = behind P xs x rest h.1

module _ {V : Type 0} (lt : V → V → Bool) where
  -- the row, after those of its own key and of keys before it
  abbrev pub put : V → List V → List V
  put row rows = filter (λ other. not (lt row other)) rows ++ row ∷ filter (λ other. lt row other) rows

  abbrev pub NotBack : V → V → Type 0
  NotBack a b = lt b a ≡ false

  pub at_end : (row : V) (rows : List V) → AllByRecursion (λ x. NotBack x row) rows → put row rows ≡ rows ++ row ∷ []
  at_end row rows low = λ i. kept_all (λ x. not (lt row x)) rows (all_weaker (λ x. NotBack x row) (λ x. not (lt row x) ≡ true) (λ x e. ap not e) rows low) i ++ row ∷ kept_none (lt row) rows low i

  pub in_front : (front : List V) (row : V) (rows : List V) → AllPairsByRecursion NotBack (front ++ row ∷ rows) → AllByRecursion (λ x. NotBack x row) front
  in_front [] row rows up = tt
  in_front (x ∷ front) row rows up = (behind (NotBack x) front row rows up.0, in_front front row rows up.1)

  -- rows in order, put one after the other
  abbrev pub put_each : List V → List V → List V
  put_each [] front = front
  put_each (row ∷ rows) front = put_each rows (put row front)

  pub put_in_order : (rows front : List V) → AllPairsByRecursion NotBack (front ++ rows) → put_each rows front ≡ front ++ rows
  put_in_order [] front up = sym (append-nil front)
  put_in_order (row ∷ rows) front up =
      ap (put_each rows) (at_end row front (in_front front row rows up)) ∙ put_in_order rows (front ++ row ∷ []) (subst (AllPairsByRecursion NotBack) (sym (append_assoc front (row ∷ []) rows)) up)
      ∙ append_assoc front (row ∷ []) rows

not_back : {V : Type 0} (cmp : V → V → Ordering) → IsTotalOrder cmp → (a b : V) → cmp a b ≡ Less → is_lt (cmp b a) ≡ false
not_back cmp total a b less = ap is_lt (total.antisymm b a ∙ ap ordering_reverse less)

pairs_weaker : {V : Type 0} (R S : V → V → Type 0) → ((a b : V) → R a b → S a b) → (xs : List V) → AllPairsByRecursion R xs → AllPairsByRecursion S xs
pairs_weaker R S step [] up = tt
pairs_weaker R S step (x ∷ xs) up = (all_weaker (R x) (S x) (step x) xs up.0, pairs_weaker R S step xs up.1)

-- ---- the tables by name

names_back : (a b : List ℕ) → ComesBefore a b → is_lt (slice_cmp nat_cmp b a) ≡ false
names_back a b = not_back (slice_cmp nat_cmp) nat_list_cmp_total a b

entries_put : (rows : List EntryColumns) (t : Tables) → each add_entry rows t ≡ record t { entries = put_each (is_before (λ (row : EntryColumns). row.host)) rows t.entries }
entries_put [] t = refl
entries_put (row ∷ rows) t = entries_put rows (add_entry row t)

links_put : (rows : List LinkColumns) (t : Tables) → each add_link rows t ≡ record t { links = put_each (is_before (λ (row : LinkColumns). row.system)) rows t.links }
links_put [] t = refl
links_put (row ∷ rows) t = links_put rows (add_link row t)

taken_total : IsTotalOrder taken_cmp
taken_total = then_total (on_total (λ (t : TakenColumns). t.system) nat_list_cmp_total) (on_total (λ (t : TakenColumns). t.taken.number) nat_cmp_total)

taken_put : (rows : List TakenColumns) (t : Tables) → each add_taken rows t ≡ record t { taken = put_each (λ a b. is_lt (taken_cmp a b)) rows t.taken }
taken_put [] t = refl
taken_put (row ∷ rows) t = taken_put rows (add_taken row t)

-- ---- systems, each added and then called

abbrev by_name : SystemColumns → SystemColumns → Bool
by_name = is_before (λ (row : SystemColumns). row.def.name)

abbrev system_each : List SystemColumns → List SystemColumns → List SystemColumns
system_each [] front = front
system_each (system ∷ systems) front = system_each systems (alter (has_name system.def.name) (λ row. record row { call = system.call }) (insert_by (λ row. row.def.name) (new_system system.def) front))

abbrev Named : SystemColumns → SystemColumns → Type 0
Named a b = ComesBefore a.def.name b.def.name

named_front : (front : List SystemColumns) (row : SystemColumns) (rows : List SystemColumns) → AllPairsByRecursion Named (front ++ row ∷ rows) → AllByRecursion (λ x. Named x row) front
named_front [] row rows up = tt
named_front (x ∷ front) row rows up = (behind (Named x) front row rows up.0, named_front front row rows up.1)

others_stay : (p : SystemColumns → Bool) (c : SystemColumns → SystemColumns) (xs : List SystemColumns) → AllByRecursion (λ x. p x ≡ false) xs → alter p c xs ≡ xs
others_stay p c [] h = refl
others_stay p c (x ∷ xs) h = rw h.0 (ap (λ l. x ∷ l) (others_stay p c xs h.1))

one_system : (system : SystemColumns) (front : List SystemColumns) → AllByRecursion (λ x. Named x system) front
    → alter (has_name system.def.name) (λ row. record row { call = system.call }) (insert_by (λ row. row.def.name) (new_system system.def) front) ≡ front ++ system ∷ []
one_system system front before =
    let p : SystemColumns → Bool = has_name system.def.name in
    let c : SystemColumns → SystemColumns = λ row. record row { call = system.call } in
    let new = new_system system.def in
    let low = all_weaker (λ x. Named x system) (λ x. by_name new x ≡ false) (λ x less. names_back x.def.name system.def.name less) front before in
    let others = all_weaker (λ x. Named x system) (λ x. p x ≡ false) (λ x less. earlier_other x.def.name system.def.name less) front before in
    let own : alter p c (new ∷ []) ≡ system ∷ [] = rw (text_to system.def.name) refl in
    ap (alter p c) (at_end by_name new front low) ∙ map-append _ front (new ∷ []) ∙ (λ i. others_stay p c front others i ++ own i)

systems_in_order : (systems front : List SystemColumns) → AllPairsByRecursion Named (front ++ systems) → system_each systems front ≡ front ++ systems
systems_in_order [] front up = sym (append-nil front)
systems_in_order (system ∷ systems) front up =
    ap (system_each systems) (one_system system front (named_front front system systems up)) ∙ systems_in_order systems (front ++ system ∷ []) (subst (AllPairsByRecursion Named) (sym (append_assoc front (system ∷ []) systems)) up)
    ∙ append_assoc front (system ∷ []) systems

systems_put : (rows : List SystemColumns) (t : Tables) → each add_system rows t ≡ record t { systems = system_each rows t.systems }
systems_put [] t = refl
systems_put (row ∷ rows) t = systems_put rows (add_system row t)

-- ---- jobs and their bytes

jobs_put : (rows : List JobHead) (t : Tables) → each add_job rows t ≡ record t { jobs = t.jobs ++ rows }
jobs_put [] t = λ i. record t { jobs = sym (append-nil t.jobs) i }
jobs_put (row ∷ rows) t = jobs_put rows (add_job row t) ∙ (λ i. record t { jobs = append_assoc t.jobs (row ∷ []) rows i })

bodies_put : (rows : List Body) (t : Tables) → each add_body rows t ≡ record t { bodies = t.bodies ++ rows }
bodies_put [] t = λ i. record t { bodies = sym (append-nil t.bodies) i }
bodies_put (row ∷ rows) t = bodies_put rows (add_body row t) ∙ (λ i. record t { bodies = append_assoc t.bodies (row ∷ []) rows i })

-- ---- all tables

pub written_is : (t : Tables) → AreInOrder t → written t ≡ t
written_is t order =
    let systems = systems_in_order t.systems [] (pairs_by_recursion Named t.systems order.systems) in
    let entries = put_in_order (is_before (λ (row : EntryColumns). row.host)) t.entries [] (pairs_weaker _ _ (λ a b less. names_back a.host b.host less) t.entries (pairs_by_recursion (λ (a b : EntryColumns). ComesBefore a.host b.host) t.entries order.entries)) in
    let links = put_in_order (is_before (λ (row : LinkColumns). row.system)) t.links [] (pairs_weaker _ _ (λ a b less. names_back a.system b.system less) t.links (pairs_by_recursion (λ (a b : LinkColumns). ComesBefore a.system b.system) t.links order.links)) in
    let taken = put_in_order (λ a b. is_lt (taken_cmp a b)) t.taken [] (pairs_weaker _ _ (not_back taken_cmp taken_total) t.taken (pairs_by_recursion (λ a b. taken_cmp a b ≡ Less) t.taken order.taken)) in
    let first = systems_put t.systems _ in
    let second = ap (each add_job t.jobs) first ∙ jobs_put t.jobs _ in
    let third = ap (each add_body t.bodies) second ∙ bodies_put t.bodies _ in
    let fourth = ap (each add_entry t.entries) third ∙ entries_put t.entries _ in
    let fifth = ap (each add_link t.links) fourth ∙ links_put t.links _ in
    let sixth = ap (each add_taken t.taken) fifth ∙ taken_put t.taken _ in
    ap (set_next t.next) sixth ∙ (λ i. record { next = t.next; systems = systems i; jobs = t.jobs; bodies = t.bodies; entries = entries i; links = links i; taken = taken i })

pub state_written : (s : State) → IsWellFormed s → written (tables_of s) ≡ tables_of s
state_written s good = written_is (tables_of s) (in_order s good)

-- ---- a loop that adds rows

-- the row at a place was added to what was made of those before it
pub next_row : {X : Type 0} (add : X → Tables → Tables) (rows : List X) (i : ℕ) (row : X) → i < length rows → row ≡ get_or rows i row → {old new whole : Tables} → new ≡ add row old → each add (drop i rows) old ≡ whole → each add (drop (i + 1) rows) new ≡ whole
next_row add rows i row within here {old} {new} {whole} added done =
    let left : drop i rows ≡ row ∷ drop (i + 1) rows = drop_more rows i row within ∙ ap (λ x. x ∷ drop (i + 1) rows) (sym here) in
    ap (each add (drop (i + 1) rows)) added ∙ ap (λ l. each add l old) (sym left) ∙ done
