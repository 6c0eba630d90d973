-- The rows of links: what a key makes of them, and a neighbour that won't ask for some numbers again.
use Rattle.std.proofs.Common.{◌≡◌, ◌≤◌, ◌<◌, ℕ, zero, suc, max, List, [], ◌∷◌, ◌++◌, length, Bool, true, false, not, cond, ◌&&◌, ◌==◌, filter, find, map, Option, Some, None, IfSome, All, unwrap_or, nat_cmp, inl, inr, append_assoc, append-nil, refl, sym, ap, ◌∙◌, arith, length-append}
use Rattle.std.specs.Prelude.{nat_lt, nat_le}
use Rattle.std.specs.declared.cmp.Ordering.{Ordering}
use Rattle.std.specs.Ordering.{is_lt, ordering_then, ordering_reverse}
use Rattle.std.specs.Cmp.Lexicographic.{slice_cmp, bytes_decides}
use Rattle.std.specs.List.{AllByRecursion, flat_map, list_any}
use Rattle.std.proofs.lemmas.Bool.{cases_Bool, and_parts}
use Rattle.std.proofs.lemmas.Bool.Decides.{nat_tests}
use Rattle.std.proofs.lemmas.Cmp.{nat_list_cmp_total, tied_itself}
use Rattle.std.proofs.lemmas.List.{map-append}
use Rattle.std.proofs.lemmas.List.Concat.{flat_map-append}
use Rattle.std.proofs.lemmas.List.Elements.{filter-append, recursion_from_All}
use Rattle.uu_names.proofs.Basics.{pairs_by_recursion, AllPairsByRecursion, all_weaker, later_other, not_before_itself, find_none, found_has, all_kept, less_is, all_flat, is_lt-nat_cmp}
use Rattle.uu_core.specs.declared.command.Command.TheVariants.{Forget}
use Rattle.uu_core.specs.declared.custody.HandIn.TheVariants.{First, Again}
use Rattle.uu_core.specs.declared.custody.Key.{Key}
use Rattle.uu_core.specs.declared.custody.Taken.{Taken}
use Rattle.uu_core.specs.declared.job.NewJob.{NewJob}
use Rattle.uu_core.specs.declared.refusal.Refusal.TheVariants.{TooLarge, NoSystem, NumbersOut, Stale, Differs}
use Rattle.uu_core.specs.Refusal.{first_reason}
use Rattle.uu_core.specs.State.{State, Link, IsWellFormed, is_link, is_taken, new_link, link_of, says_nothing, same_text}
use Rattle.uu_core.specs.Verdict.{taken_of, fresh_reasons, once_reasons}
use Rattle.uu_core.specs.After.{accept, put_by, put_link, with_taken, with_key, with_job, forgotten, hand_in_of}
use Rattle.uu_tables.specs.declared.rows.TakenColumns.{TakenColumns}
use Rattle.uu_tables.specs.Tables.{tables_of, links_from, links_of, taken_columns, taken_rows}
use Rattle.uu_tables.specs.Order.{taken_cmp}
use Rattle.uu_tables.specs.Changes.{alter, without, insert_by, insert_at, is_link_of, is_forgotten, new_below}
use Rattle.uu_tables.specs.Parts.{with_new_job, with_new_key}
use Rattle.uu_tables.proofs.RowLemmas.{none_go, each_made}
use Rattle.uu_tables.proofs.OrderLemmas.{before, found, none_passes}
use Rattle.uu_tables.proofs.InsertLemmas.{ahead, behind, is_behind_key, kept_none, kept_all, kept_mapped, kept_ahead, kept_behind, found_none, others_are, changed_is, each_between}
use Rattle.uu_tables.proofs.SystemLemmas.{each_link, links_without}
use Rattle.uu_tables.proofs.JobLemmas.{queued}

-- ---- lists

altered_none : {X : Type 0} (p : X → Bool) (xs : List X) → alter p (λ x. x) xs ≡ xs
altered_none p [] = refl
altered_none p (x ∷ xs) = λ i. one (p x) i ∷ altered_none p xs i
  where
    one : (b : Bool) → cond b x x ≡ x
    one true = refl
    one false = refl

kept_same : {X : Type 0} (p q : X → Bool) (xs : List X) → AllByRecursion (λ x. p x ≡ q x) xs → filter p xs ≡ filter q xs
kept_same p q [] h = refl
kept_same p q (x ∷ xs) h = λ i. cond (h.0 i) (x ∷ kept_same p q xs h.1 i) (kept_same p q xs h.1 i)

-- a text before another is not the same
other_text : (a b : List ℕ) → is_lt (slice_cmp nat_cmp a b) ≡ true → same_text a b ≡ false
other_text a b e = by_test (same_text a b) refl
  where
    by_test : (t : Bool) → same_text a b ≡ t → t ≡ false
    by_test false q = refl
    by_test true q = absurd (not_before_itself b (ap (λ n. slice_cmp nat_cmp n b) (sym ((bytes_decides a b).0 q)) ∙ less_is _ e))

-- one more row, between those before it and those after it
put_between : {V : Type 0} (order : V → V → Ordering) (row : V) (front own low high back : List V) → AllByRecursion (λ r. is_lt (order row r) ≡ false) front → AllByRecursion (λ r. is_lt (order row r) ≡ true) back
    → filter (λ r. not (is_lt (order row r))) own ≡ low → filter (λ r. is_lt (order row r)) own ≡ high → insert_at order row (front ++ (own ++ back)) ≡ front ++ ((low ++ row ∷ high) ++ back)
put_between {V} order row front own low high back f b l h =
    (λ i. first i ++ row ∷ second i) ∙ append_assoc front low (row ∷ (high ++ back)) ∙ ap (λ rows. front ++ rows) (sym (append_assoc low (row ∷ high) back))
  where
    above : V → Bool
    above r = is_lt (order row r)

    first : filter (λ r. not (above r)) (front ++ (own ++ back)) ≡ front ++ low
    first = filter-append (λ r. not (above r)) front (own ++ back)
        ∙ ap (λ rows. rows ++ filter (λ r. not (above r)) (own ++ back)) (kept_all (λ r. not (above r)) front (all_weaker (λ r. above r ≡ false) (λ r. not (above r) ≡ true) (λ r e. ap not e) front f))
        ∙ ap (λ rows. front ++ rows) (filter-append (λ r. not (above r)) own back
        ∙ ap (λ rows. filter (λ r. not (above r)) own ++ rows) (kept_none (λ r. not (above r)) back (all_weaker (λ r. above r ≡ true) (λ r. not (above r) ≡ false) (λ r e. ap not e) back b))
        ∙ append-nil (filter (λ r. not (above r)) own) ∙ l)

    second : filter above (front ++ (own ++ back)) ≡ high ++ back
    second = filter-append above front (own ++ back) ∙ ap (λ rows. rows ++ filter above (own ++ back)) (kept_none above front f)
        ∙ filter-append above own back ∙ ap (λ rows. rows ++ filter above back) h ∙ ap (λ rows. high ++ rows) (kept_all above back b)

-- ---- the rows of links, those of a name between those before and those after

module _ (name : List ℕ) (links : List Link) (ordered : AllPairsByRecursion (before (λ (l : Link). l.name)) links) where
  abbrev its : Link
  its = unwrap_or (find (is_link name) links) (new_link name)

  abbrev front : List Link
  front = filter (ahead (λ l. l.name) (new_link name)) links

  abbrev back : List Link
  back = filter (behind (λ l. l.name) (new_link name)) links

  its_name : its.name ≡ name
  its_name = elim (cases_Bool (list_any (is_link name) links)) [
    | inl here ↦ let it = found (is_link name) links here in ap (λ o. (unwrap_or o (new_link name)).name) it.1 ∙ (bytes_decides it.0.name name).0 it.2
    | inr missing ↦ ap (λ o. (unwrap_or o (new_link name)).name) (found_none (is_link name) links (none_passes (is_link name) links missing))
  ]

  rows_are : {Y : Type 0} (f : Link → List Y) → f (new_link name) ≡ [] → flat_map f links ≡ flat_map f front ++ (f its ++ flat_map f back)
  rows_are f none = elim (cases_Bool (list_any (is_link name) links)) [
    | inl here ↦
        let it = found (is_link name) links here in
        ap (flat_map f) (sym (altered_none (is_link name) links) ∙ changed_is (λ (l : Link). l.name) (new_link name) (λ l. l) it.0 links ordered it.1) ∙ flat_map-append f front (it.0 ∷ back)
        ∙ ap (λ o. flat_map f front ++ (f (unwrap_or o (new_link name)) ++ flat_map f back)) (sym it.1)
    | inr missing ↦
        let others = none_passes (is_link name) links missing in
        ap (flat_map f) (sym (none_go (is_link name) links others) ∙ others_are (λ (l : Link). l.name) (new_link name) links ordered) ∙ flat_map-append f front back
        ∙ ap (λ rows. flat_map f front ++ (rows ++ flat_map f back)) (sym (ap (λ o. f (unwrap_or o (new_link name))) (found_none (is_link name) links others) ∙ none))
  ]

  put_rows : {Y : Type 0} (f : Link → List Y) (item : Link) → item.name ≡ name → f (new_link name) ≡ [] → (says_nothing item ≡ true → f its ≡ f item) → flat_map f (put_link item links) ≡ flat_map f front ++ (f item ++ flat_map f back)
  put_rows f item named none quiet = by_test (says_nothing item) refl
    where
      placed : put_by (λ (l : Link). l.name) item links ≡ front ++ item ∷ back
      placed = ap (λ n. filter (λ (l : Link). is_lt (slice_cmp nat_cmp l.name n)) links ++ item ∷ filter (λ (l : Link). is_lt (slice_cmp nat_cmp n l.name)) links) named

      by_test : (b : Bool) → says_nothing item ≡ b → flat_map f (cond b links (put_by (λ (l : Link). l.name) item links)) ≡ flat_map f front ++ (f item ++ flat_map f back)
      by_test true e = rows_are f none ∙ ap (λ rows. flat_map f front ++ (rows ++ flat_map f back)) (quiet e)
      by_test false e = ap (flat_map f) placed ∙ flat_map-append f front (item ∷ back)

  -- what is true of each link is true of each row that was taken
  of_taken : (P : List ℕ → Type 0) (ls : List Link) → AllByRecursion (λ l. P l.name) ls → AllByRecursion (λ r. P r.system) (flat_map taken_rows ls)
  of_taken P ls h = all_flat (λ r. P r.system) taken_rows ls (all_weaker (λ l. P l.name) (λ l. AllByRecursion (λ r. P r.system) (taken_rows l)) (λ l e. each_made (λ r. P r.system) (taken_columns l.name) (λ taken. e) l.taken) ls h)

  of_links : (P : List ℕ → Type 0) (ls : List Link) → AllByRecursion (λ l. P l.name) ls → AllByRecursion (λ r. P r.system) (flat_map links_of ls)
  of_links P ls h = all_flat (λ r. P r.system) links_of ls (all_weaker (λ l. P l.name) (λ l. AllByRecursion (λ r. P r.system) (links_of l)) (λ l e. each_link (λ r. P r.system) l.name (λ below. e) l.below) ls h)

  ahead_of : AllByRecursion (λ r. is_lt (slice_cmp nat_cmp r.system name) ≡ true) (flat_map taken_rows front)
  ahead_of = of_taken (λ n. is_lt (slice_cmp nat_cmp n name) ≡ true) front (all_kept (ahead (λ (l : Link). l.name) (new_link name)) links)

  behind_of : AllByRecursion (λ r. is_lt (slice_cmp nat_cmp name r.system) ≡ true) (flat_map taken_rows back)
  behind_of = of_taken (λ n. is_lt (slice_cmp nat_cmp name n) ≡ true) back (all_kept (behind (λ (l : Link). l.name) (new_link name)) links)

  its_rows : (ts : List Taken) (item : Link) → item.name ≡ name → item.taken ≡ ts → taken_rows item ≡ map (taken_columns name) ts
  its_rows ts item named is = ap (λ n. map (taken_columns n) item.taken) named ∙ ap (map (taken_columns name)) is

  -- ---- one more that was taken

  module _ (row : Taken) (free : find (is_taken row.number) its.taken ≡ None) where
    abbrev new : TakenColumns
    new = taken_columns name row

    abbrev above : TakenColumns → Bool
    above r = is_lt (taken_cmp new r)

    front_below : (r : TakenColumns) → is_lt (slice_cmp nat_cmp r.system name) ≡ true → above r ≡ false
    front_below r e = ap (λ o. is_lt (ordering_then o (nat_cmp row.number r.taken.number))) (nat_list_cmp_total.antisymm name r.system ∙ ap ordering_reverse (less_is _ e))

    back_above : (r : TakenColumns) → is_lt (slice_cmp nat_cmp name r.system) ≡ true → above r ≡ true
    back_above r e = ap (λ o. is_lt (ordering_then o (nat_cmp row.number r.taken.number))) (less_is _ e)

    own_above : (t : Taken) → above (taken_columns name t) ≡ is_lt (nat_cmp row.number t.number)
    own_above t = ap (λ o. is_lt (ordering_then o (nat_cmp row.number t.number))) (tied_itself nat_list_cmp_total name)

    is_high : (t : Taken) → (t.number == row.number) ≡ false → above (taken_columns name t) ≡ nat_lt row.number t.number
    is_high t e = own_above t ∙ is_lt-nat_cmp row.number t.number

    is_low : (t : Taken) → (t.number == row.number) ≡ false → not (above (taken_columns name t)) ≡ nat_lt t.number row.number
    is_low t e = ap not (own_above t) ∙ numbers row.number t.number e
      where
        numbers : (m n : ℕ) → (n == m) ≡ false → not (is_lt (nat_cmp m n)) ≡ nat_lt n m
        numbers m n e = grind (arith, nat_tests)

    others : AllByRecursion (λ t. (t.number == row.number) ≡ false) its.taken
    others = none_passes (is_taken row.number) its.taken (find_none (is_taken row.number) its.taken free)

    low_rows : filter (λ r. not (above r)) (map (taken_columns name) its.taken) ≡ map (taken_columns name) (filter (λ t. nat_lt t.number row.number) its.taken)
    low_rows = kept_mapped (taken_columns name) (λ r. not (above r)) its.taken ∙ ap (map (taken_columns name)) (kept_same _ _ its.taken (all_weaker (λ t. (t.number == row.number) ≡ false) (λ t. not (above (taken_columns name t)) ≡ nat_lt t.number row.number) is_low its.taken others))

    high_rows : filter above (map (taken_columns name) its.taken) ≡ map (taken_columns name) (filter (λ t. nat_lt row.number t.number) its.taken)
    high_rows = kept_mapped (taken_columns name) above its.taken ∙ ap (map (taken_columns name)) (kept_same _ _ its.taken (all_weaker (λ t. (t.number == row.number) ≡ false) (λ t. above (taken_columns name t) ≡ nat_lt row.number t.number) is_high its.taken others))

    abbrev more : Link
    more = with_taken row its

    loud : says_nothing more ≡ true → ⊥
    loud h = long (and_parts (its.below == 0) _ h).1
      where
        long : (length (filter (λ (t : Taken). nat_lt t.number row.number) its.taken ++ row ∷ filter (λ (t : Taken). nat_lt row.number t.number) its.taken) == 0) ≡ true → ⊥
        long e = grind (arith, nat_tests, length-append)

    taken_put : insert_at taken_cmp new (flat_map taken_rows links) ≡ flat_map taken_rows (put_link more links)
    taken_put =
        let lows = filter (λ (t : Taken). nat_lt t.number row.number) its.taken in
        let highs = filter (λ (t : Taken). nat_lt row.number t.number) its.taken in
        ap (insert_at taken_cmp new) (rows_are taken_rows refl ∙ ap (λ rows. flat_map taken_rows front ++ (rows ++ flat_map taken_rows back)) (its_rows its.taken its its_name refl))
        ∙ put_between taken_cmp new (flat_map taken_rows front) (map (taken_columns name) its.taken) (map (taken_columns name) lows) (map (taken_columns name) highs) (flat_map taken_rows back)
        (all_weaker _ _ front_below (flat_map taken_rows front) ahead_of) (all_weaker _ _ back_above (flat_map taken_rows back) behind_of) low_rows high_rows
        ∙ ap (λ rows. flat_map taken_rows front ++ (rows ++ flat_map taken_rows back)) (sym (map-append (taken_columns name) lows (row ∷ highs)) ∙ sym (its_rows (lows ++ row ∷ highs) more its_name refl))
        ∙ sym (put_rows taken_rows more its_name refl (λ q. absurd (loud q)))

    links_stay : flat_map links_of links ≡ flat_map links_of (put_link more links)
    links_stay = rows_are links_of refl ∙ sym (put_rows links_of more its_name refl (λ q. refl))

  -- ---- a neighbour that won't ask for some numbers again

  module _ (below : ℕ) where
    abbrev less : Link
    less = forgotten below its

    -- it said so before
    module _ (said : below ≤ its.below) (least : AllByRecursion (λ t. its.below ≤ t.number) its.taken) where
      same_link : less ≡ its
      same_link = λ i. record its { below = most i; taken = all i }
        where
          most : max its.below below ≡ its.below
          most = omega arith

          at_least : (t : Taken) → its.below ≤ t.number → nat_le below t.number ≡ true
          at_least t h = let k : below ≤ t.number = omega arith in grind (arith, nat_tests)

          all : filter (λ (t : Taken). nat_le below t.number) its.taken ≡ its.taken
          all = kept_all (λ (t : Taken). nat_le below t.number) its.taken (all_weaker _ _ at_least its.taken least)

      rows_stay : {Y : Type 0} (f : Link → List Y) → f (new_link name) ≡ [] → flat_map f links ≡ flat_map f (put_link less links)
      rows_stay f none = rows_are f none ∙ ap (λ l. flat_map f front ++ (f l ++ flat_map f back)) (sym same_link) ∙ sym (put_rows f less its_name none (λ q. ap f (sym same_link)))

    -- it never said so before
    module _ (first : its.below < below) where
      most : max its.below below ≡ below
      most = omega arith

      heard : says_nothing less ≡ true → ⊥
      heard h = let e = (and_parts (max its.below below == 0) _ h).0 in none e
        where
          none : (max its.below below == 0) ≡ true → ⊥
          none e = let z : max its.below below ≡ 0 = grind (arith, nat_tests) in omega (arith, z, most)

      one_link : (n : List ℕ) (b : ℕ) → 1 ≤ b → links_from n b ≡ new_below n b ∷ []
      one_link n zero h = absurd (omega (arith, h))
      one_link n (suc b) h = refl

      its_row : links_of less ≡ new_below name below ∷ []
      its_row = ap (links_from its.name) most ∙ ap (λ n. links_from n below) its_name ∙ one_link name below (omega (arith, first))

      links_change : insert_by (λ r. r.system) (new_below name below) (without (is_link_of name) (flat_map links_of links)) ≡ flat_map links_of (put_link less links)
      links_change =
          ap (insert_by (λ r. r.system) (new_below name below)) (links_without name links ∙ ap (flat_map links_of) (others_are (λ (l : Link). l.name) (new_link name) links ordered) ∙ flat_map-append links_of front back)
          ∙ each_between (λ r. r.system) name (new_below name below ∷ []) (flat_map links_of front) (flat_map links_of back) (refl, tt)
          (of_links (λ n. is_behind_key name n ≡ false) front (kept_ahead (λ l. l.name) (new_link name) links))
          (of_links (λ n. is_behind_key name n ≡ true) back (kept_behind (λ l. l.name) (new_link name) links))
          ∙ ap (λ rows. flat_map links_of front ++ (rows ++ flat_map links_of back)) (sym its_row)
          ∙ sym (put_rows links_of less its_name refl (λ q. absurd (heard q)))

      not_its : (r : TakenColumns) → same_text r.system name ≡ false → not (is_forgotten name below r) ≡ true
      not_its r e = ap (λ b. not (b && nat_lt r.taken.number below)) e

      stays : (t : Taken) → not (is_forgotten name below (taken_columns name t)) ≡ nat_le below t.number
      stays t = ap (λ b. not (b && nat_lt t.number below)) ((bytes_decides name name).1 refl) ∙ numbers t.number below
        where
          numbers : (m n : ℕ) → not (nat_lt m n) ≡ nat_le n m
          numbers m n = grind (arith, nat_tests)

      own_stay : filter (λ r. not (is_forgotten name below r)) (map (taken_columns name) its.taken) ≡ map (taken_columns name) (filter (λ t. nat_le below t.number) its.taken)
      own_stay = kept_mapped (taken_columns name) (λ r. not (is_forgotten name below r)) its.taken ∙ ap (map (taken_columns name)) (kept_same _ _ its.taken (all_so its.taken))
        where
          all_so : (ts : List Taken) → AllByRecursion (λ t. not (is_forgotten name below (taken_columns name t)) ≡ nat_le below t.number) ts
          all_so [] = tt
          all_so (t ∷ ts) = (stays t, all_so ts)

      taken_change : without (is_forgotten name below) (flat_map taken_rows links) ≡ flat_map taken_rows (put_link less links)
      taken_change =
          let p : TakenColumns → Bool = λ r. not (is_forgotten name below r) in
          let fronts = flat_map taken_rows front in
          let backs = flat_map taken_rows back in
          let own = map (taken_columns name) its.taken in
          let kept = filter (λ (t : Taken). nat_le below t.number) its.taken in
          ap (filter p) (rows_are taken_rows refl ∙ ap (λ rows. fronts ++ (rows ++ backs)) (its_rows its.taken its its_name refl))
          ∙ filter-append p fronts (own ++ backs)
          ∙ ap (λ rows. rows ++ filter p (own ++ backs)) (kept_all p fronts (all_weaker _ _ (λ r e. not_its r (other_text r.system name e)) fronts ahead_of))
          ∙ ap (λ rows. fronts ++ rows) (filter-append p own backs ∙ ap (λ rows. rows ++ filter p backs) own_stay ∙ ap (λ rows. map (taken_columns name) kept ++ rows) (kept_all p backs (all_weaker _ _ (λ r e. not_its r (later_other name r.system (less_is _ e))) backs behind_of)))
          ∙ ap (λ rows. fronts ++ (rows ++ backs)) (sym (its_rows kept less its_name refl))
          ∙ sym (put_rows taken_rows less its_name refl (λ q. absurd (heard q)))

-- ---- a state

by_name : (s : State) → IsWellFormed s → AllPairsByRecursion (before (λ (l : Link). l.name)) s.links
by_name s good = pairs_by_recursion (before (λ (l : Link). l.name)) s.links good.by_link

pub keyed : (s : State) → IsWellFormed s → (key : Key) (job : NewJob) → taken_of s key ≡ None → with_new_key key s.next (with_new_job s.next job (tables_of s)) ≡ tables_of (with_key key s.next (with_job job s))
keyed s good key job free =
    let row : Taken = record { number = key.number; mark = key.mark; job = s.next } in
    ap (with_new_key key s.next) (queued s job)
    ∙ (λ i. record (tables_of (with_job job s)) { links = links_stay key.from s.links (by_name s good) row free i; taken = taken_put key.from s.links (by_name s good) row free i })

its_least : (name : List ℕ) (o : Option Link) → IfSome o (λ l. All (λ t. l.below ≤ t.number) l.taken) → AllByRecursion (λ t. (unwrap_or o (new_link name)).below ≤ t.number) (unwrap_or o (new_link name)).taken
its_least name None h = tt
its_least name (Some l) h = recursion_from_All (λ t. l.below ≤ t.number) l.taken h

pub forgets_nothing : (s : State) → IsWellFormed s → (name : List ℕ) (below : ℕ) → below ≤ (link_of s name).below → tables_of s ≡ tables_of (accept s (Forget name below))
forgets_nothing s good name below said =
    let least = its_least name (find (is_link name) s.links) (found_has (λ l. All (λ t. l.below ≤ t.number) l.taken) (is_link name) s.links (λ i d h. (good.links i d h).at_least)) in
    λ i. record (tables_of s) { links = rows_stay name s.links (by_name s good) below said least links_of refl i; taken = rows_stay name s.links (by_name s good) below said least taken_rows refl i }

pub forgets : (s : State) → IsWellFormed s → (name : List ℕ) (below : ℕ) → (link_of s name).below < below
    → record (tables_of s) { links = insert_by (λ r. r.system) (new_below name below) (without (is_link_of name) (flat_map links_of s.links)); taken = without (is_forgotten name below) (flat_map taken_rows s.links) } ≡ tables_of (accept s (Forget name below))
forgets s good name below first = λ i. record (tables_of s) { links = links_change name s.links (by_name s good) below first i; taken = taken_change name s.links (by_name s good) below first i }

-- ---- what is decided on a key

-- a job that comes for the first time is accepted only if none was taken under its number
pub first_is : (known : Bool) (next below : ℕ) (taken : Option Taken) (key : Key) (job : NewJob) (number : ℕ) → hand_in_of taken key next ≡ First number → first_reason (once_reasons known next below taken key job) ≡ None → (taken ≡ None) × (next ≡ number)
first_is known next below None key job number e none = (refl, cc)
first_is known next below (Some taken) key job number e none = by_test (taken.mark == key.mark) e none
  where
    differs : (large unknown full stale : Bool) → first_reason ((large, TooLarge) ∷ (unknown, NoSystem) ∷ (full, NumbersOut) ∷ (stale, Stale) ∷ (true, Differs) ∷ []) ≡ None → ⊥
    differs true unknown full stale h = cc
    differs false true full stale h = cc
    differs false false true stale h = cc
    differs false false false true h = cc
    differs false false false false h = cc

    by_test : (t : Bool) → cond t (Again taken.job) (First next) ≡ First number → first_reason (cond t [] (fresh_reasons known next below (not t) key job)) ≡ None → (Some taken ≡ None) × (next ≡ number)
    by_test true e none = absurd (cc)
    by_test false e none = absurd (differs _ _ _ _ none)
