-- What a command makes of the link of one neighbour.
use Rattle.std.proofs.Common.{◌≡◌, ℕ, suc, max, Bool, true, false, not, cond, leb, ltb, ◌==◌, List, [], ◌∷◌, ◌++◌, filter, find, length, Option, Some, None, unwrap_or, nat_cmp, refl, ap, sym, ◌∙◌, arith}
use Rattle.std.specs.Option.{option_or}
use Rattle.std.specs.declared.cmp.Ordering.{Ordering}
use Rattle.std.specs.declared.cmp.Ordering.TheVariants.{Less, Equal, Greater}
use Rattle.std.specs.Ordering.{is_lt, ordering_reverse}
use Rattle.std.specs.Cmp.Lexicographic.{slice_cmp, bytes_decides}
use Rattle.std.proofs.lemmas.Bool.{eqb-true}
use Rattle.std.proofs.lemmas.Bool.Decides.{nat_tests}
use Rattle.std.proofs.lemmas.Cmp.{nat_list_cmp_total}
use Rattle.std.proofs.lemmas.Map.Lookups.{exact_bytes}
use Rattle.std.proofs.lemmas.List.Folds.{find-append}
use Rattle.uu_names.proofs.Basics.{not_before_itself, and_first, and_second}
use Rattle.uu_core.specs.declared.custody.Taken.{Taken}
use Rattle.uu_core.specs.State.{State, Link, same_text, is_link, link_of, new_link, says_nothing}
use Rattle.uu_core.specs.After.{is_before, put_by, put_link, with_taken, forgotten}
use Rattle.uu_core.proofs.WellFormedLemmas.{link_named}

-- ---- names

same_itself : (name : List ℕ) → same_text name name ≡ true
same_itself name = (bytes_decides name name).1 refl

pub differ_turned : (a b : List ℕ) → same_text a b ≡ false → same_text b a ≡ false
differ_turned a b e = by-test (same_text b a) refl
  where
    by-test : (t : Bool) → same_text b a ≡ t → t ≡ false
    by-test false q = refl
    by-test true q =
        let same : b ≡ a = (bytes_decides b a).0 q in
        let itself : same_text a b ≡ true = ap (same_text a) same ∙ same_itself a in
        absurd (cc)

-- ---- what is found

pub option_or-none : {X : Type 0} (o : Option X) → option_or o None ≡ o
option_or-none None = refl
option_or-none (Some x) = refl

-- a filter that keeps all that the search finds
pub find_keeps : {X : Type 0} (p q : X → Bool) (xs : List X) → ((x : X) → p x ≡ true → q x ≡ true) → find p (filter q xs) ≡ find p xs
find_keeps p q [] h = refl
find_keeps p q (x ∷ xs) h = by-test (q x) (p x) refl refl (find_keeps p q xs h)
  where
    by-test : (s t : Bool) → q x ≡ s → p x ≡ t → find p (filter q xs) ≡ find p xs → find p (cond s (x ∷ filter q xs) (filter q xs)) ≡ cond t (Some x) (find p xs)
    by-test true t e f again = rw f (ap (λ o. cond t (Some x) o) again)
    by-test false true e f again = absurd (let k : q x ≡ true = h x f in cc)
    by-test false false e f again = again

-- one that drops all that it finds
pub find_drops : {X : Type 0} (p q : X → Bool) (xs : List X) → ((x : X) → p x ≡ true → q x ≡ false) → find p (filter q xs) ≡ None
find_drops p q [] h = refl
find_drops p q (x ∷ xs) h = by-test (q x) (p x) refl refl (find_drops p q xs h)
  where
    by-test : (s t : Bool) → q x ≡ s → p x ≡ t → find p (filter q xs) ≡ None → find p (cond s (x ∷ filter q xs) (filter q xs)) ≡ None
    by-test false t e f again = again
    by-test true true e f again = absurd (let k : q x ≡ false = h x f in cc)
    by-test true false e f again = rw f again

-- ---- an item put in its place

module _ (item : Link) (links : List Link) where
  abbrev name : Link → List ℕ
  name link = link.name

  abbrev earlier : Link → Bool
  earlier link = is_before name link item

  abbrev later : Link → Bool
  later link = is_before name item link

  find_split : (p : Link → Bool) → find p (put_by name item links) ≡ option_or (find p (filter earlier links)) (cond (p item) (Some item) (find p (filter later links)))
  find_split p = find-append p (filter earlier links) (item ∷ filter later links)

  -- the item is found under its name
  find_own : (other : List ℕ) → item.name ≡ other → find (is_link other) (put_by name item links) ≡ Some item
  find_own other own =
      find_split (is_link other)
      ∙ ap (λ o. option_or o (cond (is_link other item) (Some item) (find (is_link other) (filter later links)))) (find_drops (is_link other) earlier links none)
      ∙ ap (λ t. cond t (Some item) (find (is_link other) (filter later links))) (ap (λ n. same_text n other) own ∙ same_itself other)
    where
      none : (link : Link) → is_link other link ≡ true → earlier link ≡ false
      none link e =
          let same : link.name ≡ item.name = (bytes_decides link.name other).0 e ∙ sym own in
          by-order (slice_cmp nat_cmp link.name item.name) refl same
        where
          by-order : (o : Ordering) → slice_cmp nat_cmp link.name item.name ≡ o → link.name ≡ item.name → is_lt o ≡ false
          by-order Less q same = absurd (not_before_itself item.name (ap (λ n. slice_cmp nat_cmp n item.name) (sym same) ∙ q))
          by-order Equal q same = refl
          by-order Greater q same = refl

  -- and under another what was there
  find-other : (other : List ℕ) → same_text item.name other ≡ false → find (is_link other) (put_by name item links) ≡ find (is_link other) links
  find-other other differs = by-order (slice_cmp nat_cmp item.name other) refl
    where
      p : Link → Bool
      p = is_link other

      rest : Option Link
      rest = find (is_link other) (filter later links)

      passed : find (is_link other) (put_by name item links) ≡ option_or (find (is_link other) (filter earlier links)) (find (is_link other) (filter later links))
      passed = find_split (is_link other) ∙ ap (λ t. option_or (find (is_link other) (filter earlier links)) (cond t (Some item) (find (is_link other) (filter later links)))) differs

      named : (link : Link) → is_link other link ≡ true → link.name ≡ other
      named link e = (bytes_decides link.name other).0 e

      after : (o : Ordering) → slice_cmp nat_cmp item.name other ≡ o → (link : Link) → is_link other link ≡ true → later link ≡ is_lt o
      after o q link e = ap (λ n. is_lt (slice_cmp nat_cmp item.name n)) (named link e) ∙ ap is_lt q

      before : (o : Ordering) → slice_cmp nat_cmp item.name other ≡ o → (link : Link) → is_link other link ≡ true → earlier link ≡ is_lt (ordering_reverse o)
      before o q link e = ap (λ n. is_lt (slice_cmp nat_cmp n item.name)) (named link e) ∙ ap is_lt (nat_list_cmp_total.antisymm other item.name) ∙ ap (λ r. is_lt (ordering_reverse r)) q

      by-order : (o : Ordering) → slice_cmp nat_cmp item.name other ≡ o → find (is_link other) (put_by name item links) ≡ find (is_link other) links
      by-order Less q =
          passed
          ∙ ap (λ o. option_or o (find (is_link other) (filter later links))) (find_drops (is_link other) earlier links (before Less q))
          ∙ find_keeps (is_link other) later links (after Less q)
      by-order Greater q =
          passed
          ∙ ap (λ o. option_or (find (is_link other) (filter earlier links)) o) (find_drops (is_link other) later links (after Greater q))
          ∙ option_or-none (find (is_link other) (filter earlier links))
          ∙ find_keeps (is_link other) earlier links (before Greater q)
      by-order Equal q = absurd (let t : same_text item.name other ≡ true = (bytes_decides item.name other).1 (exact_bytes item.name other q) in cc)

-- ---- the link of a name after one was put in its place

pub link_own : (state : State) (name : List ℕ) (link : Link) → link.name ≡ name → (says_nothing link ≡ true → link ≡ link_of state name) → link_of (record state { links = put_link link state.links }) name ≡ link
link_own state name link own silent = by-test (says_nothing link) refl
  where
    by-test : (t : Bool) → says_nothing link ≡ t → unwrap_or (find (is_link name) (cond t state.links (put_by (λ (other : Link). other.name) link state.links))) (new_link name) ≡ link
    by-test true e = sym (silent e)
    by-test false e = ap (λ o. unwrap_or o (new_link name)) (find_own link state.links name own)

pub link_other : (state : State) (name : List ℕ) (link : Link) → same_text link.name name ≡ false → link_of (record state { links = put_link link state.links }) name ≡ link_of state name
link_other state name link differs = by-test (says_nothing link)
  where
    by-test : (t : Bool) → unwrap_or (find (is_link name) (cond t state.links (put_by (λ (other : Link). other.name) link state.links))) (new_link name) ≡ link_of state name
    by-test true = refl
    by-test false = ap (λ o. unwrap_or o (new_link name)) (find-other link state.links name differs)

pub link_kept : (state : State) (name gone : List ℕ) → same_text gone name ≡ false → unwrap_or (find (is_link name) (filter (λ (link : Link). not (is_link gone link)) state.links)) (new_link name) ≡ link_of state name
link_kept state name gone differs = ap (λ o. unwrap_or o (new_link name)) (find_keeps (is_link name) (λ (link : Link). not (is_link gone link)) state.links stays)
  where
    stays : (link : Link) → is_link name link ≡ true → not (is_link gone link) ≡ true
    stays link e = ap (λ n. not (same_text n gone)) ((bytes_decides link.name name).0 e) ∙ ap not (differ_turned gone name differs)

-- ---- what says nothing

-- a link with something taken says something
pub taken_says : (taken : Taken) (link : Link) → says_nothing (with_taken taken link) ≡ true → ⊥
taken_says taken link e = apart (filter (λ (other : Taken). ltb other.number taken.number) link.taken) (filter (λ (other : Taken). ltb taken.number other.number) link.taken) (and_second (link.below == 0) _ e)
  where
    apart : (first rest : List Taken) → length (first ++ taken ∷ rest) == 0 ≡ true → ⊥
    apart [] rest e = let h : suc (length rest) ≡ 0 = eqb-true _ 0 e in omega arith
    apart (x ∷ first) rest e = let h : suc (length (first ++ taken ∷ rest)) ≡ 0 = eqb-true _ 0 e in omega arith

keeps_all : (rows : List Taken) → filter (λ (row : Taken). leb 0 row.number) rows ≡ rows
keeps_all [] = refl
keeps_all (row ∷ rows) = ap (λ t. cond t (row ∷ filter (λ (r : Taken). leb 0 r.number) rows) (filter (λ (r : Taken). leb 0 r.number) rows)) (zero row.number) ∙ ap (λ rest. row ∷ rest) (keeps_all rows)
  where
    zero : (n : ℕ) → leb 0 n ≡ true
    zero n = grind (arith, nat_tests)

-- if a link says nothing after the neighbour said what it won't ask for, this changed nothing
pub forgotten_says : (below : ℕ) (link : Link) → says_nothing (forgotten below link) ≡ true → forgotten below link ≡ link
forgotten_says below link e = by-zero below (zeros link.below below (and_first (max link.below below == 0) _ e)).1 (zeros link.below below (and_first (max link.below below == 0) _ e)).0
  where
    zeros : (a b : ℕ) → max a b == 0 ≡ true → (a ≡ 0) × (b ≡ 0)
    zeros a b e = let h : max a b ≡ 0 = eqb-true _ 0 e in (omega arith, omega arith)

    by-zero : (n : ℕ) → n ≡ 0 → link.below ≡ 0 → forgotten n link ≡ link
    by-zero n z b =
        let most : max link.below n ≡ link.below = omega arith in
        ap (λ m. record link { below = m; taken = filter (λ (row : Taken). leb n row.number) link.taken }) most
        ∙ ap (λ m. record link { taken = filter (λ (row : Taken). leb m row.number) link.taken }) z
        ∙ ap (λ rows. record link { taken = rows }) (keeps_all link.taken)

pub name_is : (state : State) (name : List ℕ) → (link_of state name).name ≡ name
name_is state name = link_named state.links name
