-- A database holds at most one state's tables.
use Rattle.std.proofs.Common.{◌≡◌, inl, inr, ℕ, ◌<◌, List, [], ◌∷◌, map, AllPairs, Ordering, Less, refl, sym, ap, subst, ◌∙◌, arith}
use Rattle.std.specs.List.{AllByRecursion}
use Rattle.std.specs.List.Sorted.{IsPermutation}
use Rattle.std.specs.Cmp.{IsTotalOrder}
use Rattle.std.specs.Ordering.{ordering_reverse}
use Rattle.std.proofs.lemmas.Cmp.{nat_list_cmp_total, nat_cmp_total, on_total, then_total}
use Rattle.std.proofs.lemmas.List.Sorted.{IsPermutation-sym, IsPermutation-trans}
use Rattle.uu_names.proofs.Basics.{all_unit}
use Rattle.uu_rows.proofs.InOrder.{ascending_pairs}
use Rattle.sqlite.specs.Order.{Row}
use Rattle.sqlite.specs.Tree.{Trees, IsAscending}
use Rattle.sqlite_rules.specs.Lists.{Has}
use Rattle.sqlite_rules.proofs.ListLemmas.{all_has}
use Rattle.sqlite_rules.proofs.ProbeLemmas.{has_mapped, mapped_has}
use Rattle.uu_schema.proofs.Rowids.{has_moved}
use Rattle.uu_core.specs.declared.job.JobHead.{JobHead}
use Rattle.uu_core.specs.State.{State, IsWellFormed, ComesBefore}
use Rattle.uu_tables.specs.declared.rows.SystemColumns.{SystemColumns}
use Rattle.uu_tables.specs.declared.earlier.LineColumns.{LineColumns}
use Rattle.uu_tables.specs.declared.earlier.RangeColumns.{RangeColumns}
use Rattle.uu_tables.specs.declared.rows.EntryColumns.{EntryColumns}
use Rattle.uu_tables.specs.declared.earlier.WaitColumns.{WaitColumns}
use Rattle.uu_tables.specs.declared.rows.LinkColumns.{LinkColumns}
use Rattle.uu_tables.specs.declared.rows.TakenColumns.{TakenColumns}
use Rattle.uu_tables.specs.declared.rows.Body.{Body}
use Rattle.uu_tables.specs.declared.earlier.BareSystem.{BareSystem}
use Rattle.uu_tables.specs.declared.earlier.Piece.{Piece}
use Rattle.uu_tables.specs.Tables.{Tables, tables_of}
use Rattle.uu_tables.specs.Earlier.{EarlierTables, earlier_tables_of}
use Rattle.uu_tables.specs.Order.{line_cmp, range_cmp, piece_cmp, taken_cmp}
use Rattle.uu_check.specs.Order.{AreInOrder, AreEarlierInOrder}
use Rattle.uu_check.specs.Readable.{IsJobRow, IsSystemRow, AreReadable, AreEarlierReadable}
use Rattle.uu_schema.specs.declared.version.Version.{Version}
use Rattle.uu_schema.specs.declared.version.Version.TheVariants.{First, Second, Third, Fourth}
use Rattle.uu_schema.specs.Made.{spool_row_of}
use Rattle.uu_schema.specs.Schema.{spool}
use Rattle.uu_schema.specs.Earlier.{IsEarlierVersion}
use Rattle.uu_schema.specs.Held.{Holds}
use Rattle.uu_schema.specs.HeldEarlier.{HoldsEarlier, AreWaitsOf, AreLinksOf, AreTakenOf}
use Rattle.uu_schema.specs.Cells.{system_cells, job_cells, body_cells, entry_cells, link_cells, taken_cells, bare_cells, line_cells, range_cells, piece_cells, wait_cells}
use Rattle.uu_schema.specs.Encoded.{HoldsStateAs}
use Rattle.uu_store.proofs.CellsTell.{same_system, same_job, same_body, same_entry, same_link, same_taken, same_bare, same_line, same_range, same_piece, same_wait}

-- ---- lists in one strict order with the same members

module _ {X : Type 0} (R : X → X → Type 0) where
  module _ (never : (a b : X) → R a b → R b a → ⊥) where
    later : (x y : X) (xs : List X) → IsAscending R (x ∷ xs) → Has xs y → R x y
    later x y xs up there = all_has (R x) xs y up.0 there

    first_is : (x y : X) (xs ys : List X) → IsAscending R (x ∷ xs) → IsAscending R (y ∷ ys) → Has (y ∷ ys) x → Has (x ∷ xs) y → x ≡ y
    first_is x y xs ys up vp (inl same) k = same
    first_is x y xs ys up vp (inr h) (inl same) = sym same
    first_is x y xs ys up vp (inr h) (inr k) = absurd (never x y (later x y xs up k) (later y x ys vp h))

    tail_has : (x y a : X) (xs ys : List X) → x ≡ y → IsAscending R (x ∷ xs) → Has xs a → Has (y ∷ ys) a → Has ys a
    tail_has x y a xs ys same up there (inl at) = let below = later x a xs up there in absurd (never x x (subst (R x) (at ∙ sym same) below) (subst (R x) (at ∙ sym same) below))
    tail_has x y a xs ys same up there (inr h) = h

    same_members : (xs ys : List X) → IsAscending R xs → IsAscending R ys → ((a : X) → Has xs a → Has ys a) → ((a : X) → Has ys a → Has xs a) → xs ≡ ys
    same_members [] [] up vp to from = refl
    same_members [] (y ∷ ys) up vp to from = absurd (from y (inl refl))
    same_members (x ∷ xs) [] up vp to from = absurd (to x (inl refl))
    same_members (x ∷ xs) (y ∷ ys) up vp to from =
        let same = first_is x y xs ys up vp (to x (inl refl)) (from y (inl refl)) in
        let rest = same_members xs ys up.1 vp.1 (λ a h. tail_has x y a xs ys same up h (to a (inr h))) (λ a h. tail_has y x a ys xs (sym same) vp h (from a (inr h))) in
        λ i. same i ∷ rest i

    -- the typed rows that one table's rows show, if the cells determine the typed row
    module _ (cells : X → Row) (Good : X → Type 0) (told : (x y : X) → Good x → Good y → cells x ≡ cells y → x ≡ y) where
      moved : (xs ys : List X) → AllByRecursion Good xs → AllByRecursion Good ys → IsPermutation (map cells xs) (map cells ys) → (x : X) → Has xs x → Has ys x
      moved xs ys good fine same x there =
          let row = has_moved (map cells xs) (map cells ys) (cells x) same (mapped_has cells xs x there) in
          let y = has_mapped cells ys (cells x) row in
          subst (Has ys) (sym (told x y.0 (all_has Good xs x good there) (all_has Good ys y.0 fine y.1) y.2)) y.1

      same_rows : (xs ys : List X) (rows : List Row) → AllPairs R xs → AllPairs R ys → AllByRecursion Good xs → AllByRecursion Good ys → IsPermutation (map cells xs) rows → IsPermutation (map cells ys) rows → xs ≡ ys
      same_rows xs ys rows up vp good fine h k =
          let same = IsPermutation-trans _ _ _ h (IsPermutation-sym _ _ k) in
          same_members xs ys (ascending_pairs R xs up) (ascending_pairs R ys vp) (moved xs ys good fine same) (moved ys xs fine good (IsPermutation-sym _ _ same))

-- ---- orders

never_both : {K : Type 0} {cmp : K → K → Ordering} → IsTotalOrder cmp → (a b : K) → cmp a b ≡ Less → cmp b a ≡ Less → ⊥
never_both total a b h k = turned (sym h ∙ total.antisymm a b ∙ ap ordering_reverse k)
  where
    turned : Less ≡ ordering_reverse Less → ⊥
    turned e = cc

lines_total : IsTotalOrder line_cmp
lines_total = then_total (on_total (λ (l : LineColumns). l.system) nat_list_cmp_total) (on_total (λ (l : LineColumns). l.place) nat_cmp_total)

ranges_total : IsTotalOrder range_cmp
ranges_total = then_total (on_total (λ (r : RangeColumns). r.system) nat_list_cmp_total) (then_total (on_total (λ (r : RangeColumns). r.place) nat_cmp_total) (on_total (λ (r : RangeColumns). r.low) nat_cmp_total))

taken_total : IsTotalOrder taken_cmp
taken_total = then_total (on_total (λ (t : TakenColumns). t.system) nat_list_cmp_total) (on_total (λ (t : TakenColumns). t.taken.number) nat_cmp_total)

pieces_total : IsTotalOrder piece_cmp
pieces_total = then_total (on_total (λ (p : Piece). p.job) nat_cmp_total) (on_total (λ (p : Piece). p.place) nat_cmp_total)

-- ---- tables

-- the one row of `spool` tells the version
same_version : (v w : Version) (n m : ℕ) → ◌≡◌ {A = List Row} (spool_row_of v n ∷ []) (spool_row_of w m ∷ []) → v ≡ w
same_version First First n m h = refl
same_version First Second n m h = absurd (let e : ◌≡◌ {A = ℕ} 1 2 = cc in omega (arith, e))
same_version First Third n m h = absurd (let e : ◌≡◌ {A = ℕ} 1 3 = cc in omega (arith, e))
same_version First Fourth n m h = absurd (let e : ◌≡◌ {A = ℕ} 1 4 = cc in omega (arith, e))
same_version Second First n m h = absurd (let e : ◌≡◌ {A = ℕ} 2 1 = cc in omega (arith, e))
same_version Second Second n m h = refl
same_version Second Third n m h = absurd (let e : ◌≡◌ {A = ℕ} 2 3 = cc in omega (arith, e))
same_version Second Fourth n m h = absurd (let e : ◌≡◌ {A = ℕ} 2 4 = cc in omega (arith, e))
same_version Third First n m h = absurd (let e : ◌≡◌ {A = ℕ} 3 1 = cc in omega (arith, e))
same_version Third Second n m h = absurd (let e : ◌≡◌ {A = ℕ} 3 2 = cc in omega (arith, e))
same_version Third Third n m h = refl
same_version Third Fourth n m h = absurd (let e : ◌≡◌ {A = ℕ} 3 4 = cc in omega (arith, e))
same_version Fourth First n m h = absurd (let e : ◌≡◌ {A = ℕ} 4 1 = cc in omega (arith, e))
same_version Fourth Second n m h = absurd (let e : ◌≡◌ {A = ℕ} 4 2 = cc in omega (arith, e))
same_version Fourth Third n m h = absurd (let e : ◌≡◌ {A = ℕ} 4 3 = cc in omega (arith, e))
same_version Fourth Fourth n m h = refl

-- ---- those of this version

module _ (trees : Trees) (t u : Tables) (order : AreInOrder t) (other_order : AreInOrder u) (readable : AreReadable t) (other_readable : AreReadable u) (holds : Holds trees t) (other_holds : Holds trees u) where
  next_is : t.next ≡ u.next
  next_is = let same = sym holds.spool ∙ other_holds.spool in cc

  systems_are : t.systems ≡ u.systems
  systems_are = same_rows (λ (a b : SystemColumns). ComesBefore a.def.name b.def.name) (λ a b. never_both nat_list_cmp_total a.def.name b.def.name) system_cells IsSystemRow same_system t.systems u.systems _
      order.systems other_order.systems readable.systems other_readable.systems holds.systems.same other_holds.systems.same

  jobs_are : t.jobs ≡ u.jobs
  jobs_are = same_rows (λ (a b : JobHead). a.number < b.number) (λ a b h k. omega (arith, h, k)) job_cells IsJobRow same_job t.jobs u.jobs _
      order.jobs other_order.jobs readable.jobs other_readable.jobs holds.jobs.same other_holds.jobs.same

  bodies_are : t.bodies ≡ u.bodies
  bodies_are = same_rows (λ (a b : Body). a.job < b.job) (λ a b h k. omega (arith, h, k)) body_cells (λ _. Unit {0}) (λ a b g f. same_body a b) t.bodies u.bodies _
      order.bodies other_order.bodies (all_unit t.bodies) (all_unit u.bodies) holds.bodies.same other_holds.bodies.same

  entries_are : t.entries ≡ u.entries
  entries_are = same_rows (λ (a b : EntryColumns). ComesBefore a.host b.host) (λ a b. never_both nat_list_cmp_total a.host b.host) entry_cells (λ _. Unit {0}) (λ a b g f. same_entry a b) t.entries u.entries _
      order.entries other_order.entries (all_unit t.entries) (all_unit u.entries) holds.entries.same other_holds.entries.same

  links_are : t.links ≡ u.links
  links_are = same_rows (λ (a b : LinkColumns). ComesBefore a.system b.system) (λ a b. never_both nat_list_cmp_total a.system b.system) link_cells (λ _. Unit {0}) (λ a b g f. same_link a b) t.links u.links _
      order.links other_order.links (all_unit t.links) (all_unit u.links) holds.links.same other_holds.links.same

  taken_are : t.taken ≡ u.taken
  taken_are = same_rows (λ a b. taken_cmp a b ≡ Less) (never_both taken_total) taken_cells (λ _. Unit {0}) (λ a b g f. same_taken a b) t.taken u.taken _
      order.taken other_order.taken (all_unit t.taken) (all_unit u.taken) holds.taken.same other_holds.taken.same

  same_tables : t ≡ u
  same_tables = λ i. record { next = next_is i; systems = systems_are i; jobs = jobs_are i; bodies = bodies_are i; entries = entries_are i; links = links_are i; taken = taken_are i }

-- ---- those of earlier versions

module _ (v : Version) (old : IsEarlierVersion v) (trees : Trees) (t u : EarlierTables) (order : AreEarlierInOrder t) (other_order : AreEarlierInOrder u) (readable : AreEarlierReadable t) (other_readable : AreEarlierReadable u) (holds : HoldsEarlier v trees t) (other_holds : HoldsEarlier v trees u) where
  earlier_next_is : t.next ≡ u.next
  earlier_next_is = let same = sym holds.spool ∙ other_holds.spool in cc

  bare_are : t.systems ≡ u.systems
  bare_are = same_rows (λ (a b : BareSystem). ComesBefore a.name b.name) (λ a b. never_both nat_list_cmp_total a.name b.name) bare_cells (λ _. Unit {0}) (λ a b g f. same_bare a b) t.systems u.systems _
      order.systems other_order.systems (all_unit t.systems) (all_unit u.systems) holds.systems.same other_holds.systems.same

  lines_are : t.lines ≡ u.lines
  lines_are = same_rows (λ a b. line_cmp a b ≡ Less) (never_both lines_total) line_cells (λ _. Unit {0}) (λ a b g f. same_line a b) t.lines u.lines _
      order.lines other_order.lines (all_unit t.lines) (all_unit u.lines) holds.lines.same other_holds.lines.same

  ranges_are : t.ranges ≡ u.ranges
  ranges_are = same_rows (λ a b. range_cmp a b ≡ Less) (never_both ranges_total) range_cells (λ _. Unit {0}) (λ a b g f. same_range a b) t.ranges u.ranges _
      order.ranges other_order.ranges (all_unit t.ranges) (all_unit u.ranges) holds.ranges.same other_holds.ranges.same

  earlier_jobs_are : t.jobs ≡ u.jobs
  earlier_jobs_are = same_rows (λ (a b : JobHead). a.number < b.number) (λ a b h k. omega (arith, h, k)) job_cells IsJobRow same_job t.jobs u.jobs _
      order.jobs other_order.jobs readable.jobs other_readable.jobs holds.jobs.same other_holds.jobs.same

  pieces_are : t.pieces ≡ u.pieces
  pieces_are = same_rows (λ a b. piece_cmp a b ≡ Less) (never_both pieces_total) piece_cells (λ _. Unit {0}) (λ a b g f. same_piece a b) t.pieces u.pieces _
      order.pieces other_order.pieces (all_unit t.pieces) (all_unit u.pieces) holds.pieces.same other_holds.pieces.same

  earlier_entries_are : t.entries ≡ u.entries
  earlier_entries_are = same_rows (λ (a b : EntryColumns). ComesBefore a.host b.host) (λ a b. never_both nat_list_cmp_total a.host b.host) entry_cells (λ _. Unit {0}) (λ a b g f. same_entry a b) t.entries u.entries _
      order.entries other_order.entries (all_unit t.entries) (all_unit u.entries) holds.entries.same other_holds.entries.same

  waits_of : (v : Version) → IsEarlierVersion v → AreWaitsOf v t.success_waits trees → AreWaitsOf v u.success_waits trees → t.success_waits ≡ u.success_waits
  waits_of First old h k = h ∙ sym k
  waits_of Second old h k = same_rows (λ (a b : WaitColumns). ComesBefore a.system b.system) (λ a b. never_both nat_list_cmp_total a.system b.system) wait_cells (λ _. Unit {0}) (λ a b g f. same_wait a b) t.success_waits u.success_waits _
      order.success_waits other_order.success_waits (all_unit t.success_waits) (all_unit u.success_waits) h.same k.same
  waits_of Third old h k = same_rows (λ (a b : WaitColumns). ComesBefore a.system b.system) (λ a b. never_both nat_list_cmp_total a.system b.system) wait_cells (λ _. Unit {0}) (λ a b g f. same_wait a b) t.success_waits u.success_waits _
      order.success_waits other_order.success_waits (all_unit t.success_waits) (all_unit u.success_waits) h.same k.same
  waits_of Fourth old h k = absurd old

  links_of : (v : Version) → IsEarlierVersion v → AreLinksOf v t.links trees → AreLinksOf v u.links trees → t.links ≡ u.links
  links_of First old h k = h ∙ sym k
  links_of Second old h k = h ∙ sym k
  links_of Third old h k = same_rows (λ (a b : LinkColumns). ComesBefore a.system b.system) (λ a b. never_both nat_list_cmp_total a.system b.system) link_cells (λ _. Unit {0}) (λ a b g f. same_link a b) t.links u.links _
      order.links other_order.links (all_unit t.links) (all_unit u.links) h.same k.same
  links_of Fourth old h k = absurd old

  taken_of : (v : Version) → IsEarlierVersion v → AreTakenOf v t.taken trees → AreTakenOf v u.taken trees → t.taken ≡ u.taken
  taken_of First old h k = h ∙ sym k
  taken_of Second old h k = h ∙ sym k
  taken_of Third old h k = same_rows (λ a b. taken_cmp a b ≡ Less) (never_both taken_total) taken_cells (λ _. Unit {0}) (λ a b g f. same_taken a b) t.taken u.taken _
      order.taken other_order.taken (all_unit t.taken) (all_unit u.taken) h.same k.same
  taken_of Fourth old h k = absurd old

  same_earlier_tables : t ≡ u
  same_earlier_tables = λ i. record {
    next = earlier_next_is i;
    systems = bare_are i;
    lines = lines_are i;
    ranges = ranges_are i;
    jobs = earlier_jobs_are i;
    pieces = pieces_are i;
    entries = earlier_entries_are i;
    success_waits = waits_of v old holds.success_waits other_holds.success_waits i;
    links = links_of v old holds.links other_holds.links i;
    taken = taken_of v old holds.taken other_holds.taken i;
  }

-- ---- states, by what the laws of the tables say

-- what the tables of a version tell of a state
pub record Tells {T : Type 0} (tables : State → T) (IsInOrder IsReadable : T → Type 0) : Type 0 where
  pub in_order : (s : State) → IsWellFormed s → IsInOrder (tables s)
  pub readable : (s : State) → IsWellFormed s → IsReadable (tables s)
  pub one : (s t : State) → IsWellFormed s → IsWellFormed t → tables s ≡ tables t → s ≡ t

module _ (this : Tells tables_of AreInOrder AreReadable) (earlier : Tells earlier_tables_of AreEarlierInOrder AreEarlierReadable) where
  of_earlier : (v : Version) → IsEarlierVersion v → (trees : Trees) (one other : State) → IsWellFormed one → IsWellFormed other → HoldsEarlier v trees (earlier_tables_of one) → HoldsEarlier v trees (earlier_tables_of other) → one ≡ other
  of_earlier v old trees one other good fine h k =
      earlier.one one other good fine
      (same_earlier_tables v old trees (earlier_tables_of one) (earlier_tables_of other) (earlier.in_order one good) (earlier.in_order other fine) (earlier.readable one good) (earlier.readable other fine) h k)

  of_version : (v : Version) (trees : Trees) (one other : State) → HoldsStateAs v trees one → HoldsStateAs v trees other → one ≡ other
  of_version First trees one other h k = of_earlier First tt trees one other h.good k.good h.tables k.tables
  of_version Second trees one other h k = of_earlier Second tt trees one other h.good k.good h.tables k.tables
  of_version Third trees one other h k = of_earlier Third tt trees one other h.good k.good h.tables k.tables
  of_version Fourth trees one other h k =
      this.one one other h.good k.good
      (same_tables trees (tables_of one) (tables_of other) (this.in_order one h.good) (this.in_order other k.good) (this.readable one h.good) (this.readable other k.good) h.tables k.tables)

  row_of : (v : Version) (trees : Trees) (s : State) → HoldsStateAs v trees s → trees spool.tree ≡ spool_row_of v s.next ∷ []
  row_of First trees s holds = holds.tables.spool
  row_of Second trees s holds = holds.tables.spool
  row_of Third trees s holds = holds.tables.spool
  row_of Fourth trees s holds = holds.tables.spool

  pub one_state : (v w : Version) (trees : Trees) (one other : State) → HoldsStateAs v trees one → HoldsStateAs w trees other → one ≡ other
  one_state v w trees one other h k =
      let same : w ≡ v = same_version w v other.next one.next (sym (row_of w trees other k) ∙ row_of v trees one h) in
      of_version v trees one other h (subst (λ x. HoldsStateAs x trees other) same k)
