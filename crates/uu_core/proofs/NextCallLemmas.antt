-- The first second at which a system can be called, and the calls in their order.
use Rattle.std.proofs.Common.{◌≡◌, ◌≢◌, ℕ, zero, suc, ◌+◌, ◌*◌, ◌/◌, ◌%◌, ◌<◌, ◌≤◌, Bool, true, false, not, cond, leb, ltb, ◌&&◌, ◌||◌, ◌==◌, min, max, List, [], ◌∷◌, ◌++◌, length, map, filter, take, get_or, Option, Some, None, IfSome, All, AllPairs, Contains, IsPermutation, refl, ap, sym, ◌∙◌, subst, arith, ◌⊎◌, inl, inr}
use Rattle.std.specs.List.{list_any, IsDistinct}
use Rattle.std.specs.List.Sorted.{IsSortedBy, ties}
use Rattle.std.specs.Int.{div_ceil}
use Rattle.std.specs.Ordering.{nat_cmp, is_lt, ordering_then, ordering_reverse}
use Rattle.std.specs.declared.cmp.Ordering.{Ordering}
use Rattle.std.specs.declared.cmp.Ordering.TheVariants.{Less, Equal}
use Rattle.std.specs.Cmp.Lexicographic.{slice_cmp, bytes_decides}
use Rattle.std.proofs.lemmas.Bool.{eqb-true, ltb-true, leb-true, both_ways, or_cases}
use Rattle.std.proofs.lemmas.Bool.Decides.{nat_tests}
use Rattle.std.specs.Cmp.{IsTotalOrder}
use Rattle.std.proofs.lemmas.Cmp.{nat_cmp_total, nat_list_cmp_total, nat_list_eq_equiv, on_total, then_total, tied_itself}
use Rattle.std.proofs.lemmas.List.{length-map, map-append, take_more, get_or-map}
use Rattle.std.proofs.lemmas.List.Elements.{All-contains, All-map, All-weaker, Contains-get_or, filter_more}
use Rattle.std.proofs.lemmas.List.Kept.{AllPairs-cons, AllPairs-filter}
use Rattle.std.proofs.lemmas.List.Sorted.{sorted_far, ranks_by, IsPermutation-map, All-permutation, Contains-permutation}
use Rattle.std.proofs.lemmas.Map.Keys.{IsDistinct-IsPermutation, IsDistinct-from_apart, apart_from_distinct}
use Rattle.std.proofs.Math.Bool.{and-true, and-false}
use Rattle.uu_names.proofs.Basics.{in_filter, in_map, and_first, and_second, any_from_reduce_max}
use Rattle.uu_times.specs.Moment.{last_second}
use Rattle.uu_times.specs.Ranges.{holds}
use Rattle.uu_times.specs.declared.system.Line.{Line}
use Rattle.uu_times.specs.declared.zone.Zone.{Zone}
use Rattle.uu_core.specs.declared.job.JobHead.{JobHead}
use Rattle.uu_core.specs.declared.next_call.NextCall.{NextCall}
use Rattle.uu_core.specs.declared.next_call.NextPoll.{NextPoll}
use Rattle.uu_core.specs.declared.system.SystemRow.{SystemRow}
use Rattle.uu_core.specs.State.{same_text, ComesBefore}
use Rattle.uu_core.specs.Order.{AreByName}
use Rattle.uu_core.specs.Queues.{jobs_for}
use Rattle.uu_core.specs.Waiting.{lines_at, limit_at, is_held}
use Rattle.uu_core.specs.Due.{is_within}
use Rattle.uu_core.specs.NextCalls.{limit_in, week_at, looked_ahead, free_from, is_looked_at, is_callable, IsLeast, IsFirstOpen, is_sooner_at, is_sooner, is_polled_sooner, turn_at, turn_of, poll_turn_at, poll_turn, IsAhead, IsPollAhead, IsNextCall, IsNextPoll, AreNextCalls, AreNextPolls}

-- ---- lines that are for a grade

any_open : (lines : List Line) (week grade : ℕ) → list_any (leb grade) (map (λ (line : Line). line.grade) (lines_at lines week)) ≡ list_any (λ line. leb grade line.grade && holds line.windows week) lines
any_open [] week grade = refl
any_open (line ∷ lines) week grade = by-test (holds line.windows week) ∙ ap (λ b. (leb grade line.grade && holds line.windows week) || b) (any_open lines week grade)
  where
    rest : Bool
    rest = list_any (leb grade) (map (λ (l : Line). l.grade) (lines_at lines week))

    by-test : (t : Bool) → list_any (leb grade) (map (λ (l : Line). l.grade) (cond t (line ∷ lines_at lines week) (lines_at lines week))) ≡ (leb grade line.grade && t) || rest
    by-test true = ap (λ b. b || rest) (sym (and-true (leb grade line.grade)))
    by-test false = ap (λ b. b || rest) (sym (and-false (leb grade line.grade)))

-- the limit reaches a grade if an open line is for it
pub reached_by_one : (lines : List Line) (week grade : ℕ) → list_any (λ line. leb grade line.grade && holds line.windows week) lines ≡ is_within (limit_at lines week) grade
reached_by_one lines week grade = sym (any_from_reduce_max grade (λ o. is_within o grade) refl (λ m. refl) (map (λ (line : Line). line.grade) (lines_at lines week)) ∙ any_open lines week grade)

-- ---- the first second

module _ (zone : Zone) (row : SystemRow) (grade now free last from : ℕ) where
  abbrev test : ℕ → Bool
  test minute = is_within (limit_in zone row (60 * minute)) grade

  -- the first minute that is looked at
  abbrev pub first_looked_at : Bool → ℕ
  first_looked_at held = cond held (max (now / 60 + 1) (div_ceil free 60)) (now / 60 + 1)

  -- it isn't before the next minute
  next_first : (held : Bool) → from ≡ first_looked_at held → now / 60 + 1 ≤ from
  next_first true e = omega arith
  next_first false e = omega arith

  -- a second at which the system may be called, and that isn't the first one, is a minute of those
  -- that are looked through
  later_minute : is_within (limit_in zone row now) grade ≡ false → free ≡ min (free_from row.call now) last_second → last ≡ min (free + looked_ahead) last_second
      → from ≡ first_looked_at (is_held row.call now) → (other : ℕ) → is_callable zone row grade now other ≡ true
      → (k : ℕ) × (other ≡ 60 * k) × (from ≤ k) × (k < last / 60 + 1) × (test k ≡ true)
  later_minute not_now free_is last_is from_is other callable =
      let looked = and_first (is_looked_at row.call now other) (is_within (limit_in zone row other) grade) callable in
      let may = and_second (is_looked_at row.call now other) (is_within (limit_in zone row other) grade) callable in
      let near = and_first ((other == now || (ltb now other && other % 60 == 0)) && leb other (free_from row.call now + looked_ahead)) (leb other last_second) looked in
      let past = and_second ((other == now || (ltb now other && other % 60 == 0)) && leb other (free_from row.call now + looked_ahead)) (leb other last_second) looked in
      let place = and_first (other == now || (ltb now other && other % 60 == 0)) (leb other (free_from row.call now + looked_ahead)) near in
      let ahead = and_second (other == now || (ltb now other && other % 60 == 0)) (leb other (free_from row.call now + looked_ahead)) near in
      by-place may (leb-true other (free_from row.call now + looked_ahead) ahead) (leb-true other last_second past) (or_cases (other == now) (ltb now other && other % 60 == 0) place)
    where
      by_held : (held : Bool) → is_held row.call now ≡ held → from ≡ first_looked_at held → now < other → other ≡ 60 * (other / 60) → other / 60 < from → is_held row.call other ≡ true
      by_held false e first later whole before = absurd (omega arith)
      by_held true e first later whole before =
          let within : other < row.call.last + row.call.wait = omega arith in
          grind (arith, nat_tests)

      by-place : is_within (limit_in zone row other) grade ≡ true → other ≤ free_from row.call now + looked_ahead → other ≤ last_second
          → (other == now ≡ true) ⊎ (ltb now other && other % 60 == 0 ≡ true) → (k : ℕ) × (other ≡ 60 * k) × (from ≤ k) × (k < last / 60 + 1) × (test k ≡ true)
      by-place may ahead past (inl same) = absurd (both_ways _ not_now (ap (λ s. is_within (limit_in zone row s) grade) (sym (eqb-true other now same)) ∙ may))
      by-place may ahead past (inr later) =
          let after : now < other = ltb-true now other (and_first (ltb now other) (other % 60 == 0) later) in
          let whole : other % 60 ≡ 0 = eqb-true (other % 60) 0 (and_second (ltb now other) (other % 60 == 0) later) in
          let is : other ≡ 60 * (other / 60) = omega arith in
          by_from after is (leb from (other / 60)) refl
        where
          by_from : now < other → other ≡ 60 * (other / 60) → (t : Bool) → leb from (other / 60) ≡ t → (k : ℕ) × (other ≡ 60 * k) × (from ≤ k) × (k < last / 60 + 1) × (test k ≡ true)
          by_from after is true e = (other / 60, is, leb-true from (other / 60) e, omega arith, ap (λ s. is_within (limit_in zone row s) grade) (sym is) ∙ may)
          by_from after is false e =
              let before : other / 60 < from = grind (arith, nat_tests) in
              let held = by_held (is_held row.call now) refl from_is after is before in
              absurd (both_ways _ (ap (λ h. is_within (cond h None (limit_at row.def.lines (week_at zone other))) grade) held) may)

  pub first_second : is_within (limit_in zone row now) grade ≡ false → free ≡ min (free_from row.call now) last_second → last ≡ min (free + looked_ahead) last_second
      → from ≡ first_looked_at (is_held row.call now) → (found : Option ℕ) → IsFirstOpen test from (last / 60 + 1) found → IsLeast (is_callable zone row grade now) found
  first_second not_now free_is last_is from_is None none = λ other. by-test other (is_callable zone row grade now other) refl
    where
      by-test : (other : ℕ) (t : Bool) → is_callable zone row grade now other ≡ t → t ≡ false
      by-test other false e = refl
      by-test other true e =
          let later = later_minute not_now free_is last_is from_is other e in
          absurd (both_ways _ (none later.0 later.2 later.3) later.4)
  first_second not_now free_is last_is from_is (Some second) (minute, is, reached, within, may, none) = (here, least)
    where
      may_at : is_within (limit_in zone row second) grade ≡ true
      may_at = ap (λ s. is_within (limit_in zone row s) grade) is ∙ may

      looked : is_looked_at row.call now second ≡ true
      looked =
          let next = next_first (is_held row.call now) from_is in
          let after : now < second = omega (arith, next) in
          let whole : second % 60 ≡ 0 = omega arith in
          let ahead : second ≤ free_from row.call now + looked_ahead = omega arith in
          let past : second ≤ last_second = omega arith in
          grind (arith, nat_tests)

      here : is_callable zone row grade now second ≡ true
      here = rw (looked, may_at) refl

      least : (other : ℕ) → is_callable zone row grade now other ≡ true → second ≤ other
      least other callable =
          let later = later_minute not_now free_is last_is from_is other callable in
          by-order later (leb minute later.0) refl
        where
          by-order : (later : (k : ℕ) × (other ≡ 60 * k) × (from ≤ k) × (k < last / 60 + 1) × (test k ≡ true)) → (t : Bool) → leb minute later.0 ≡ t → second ≤ other
          by-order later true e = let order = leb-true minute later.0 e in omega (arith, later.1)
          by-order later false e = absurd (both_ways _ (none later.0 later.2 (grind (arith, nat_tests))) later.4)

-- the end of a wait that was cut off at a bound past the last moment
pub capped : (free end most : ℕ) → free ≡ min end most → last_second ≤ most → min free last_second ≡ min end last_second
capped free end most e past = omega arith

-- ---- lines that are never open

-- if no line for the grade has a minute, none is open for it
none_open : (lines : List Line) (week grade : ℕ) → list_any (λ line. leb grade line.grade && not (length line.windows == 0)) lines ≡ false
    → list_any (λ line. leb grade line.grade && holds line.windows week) lines ≡ false
none_open [] week grade e = refl
none_open (line ∷ lines) week grade e =
    by_windows line.windows refl (none_open lines week grade (right-false (leb grade line.grade && not (length line.windows == 0)) _ e))
  where
    right-false : (a b : Bool) → a || b ≡ false → b ≡ false
    right-false true b f = absurd (cc)
    right-false false b f = f

    closed : leb grade line.grade && not (length line.windows == 0) ≡ false
    closed = left-false _ (list_any (λ (l : Line). leb grade l.grade && not (length l.windows == 0)) lines) e
      where
        left-false : (a b : Bool) → a || b ≡ false → a ≡ false
        left-false true b f = f
        left-false false b f = refl

    by_windows : (windows : List (ℕ × ℕ)) → line.windows ≡ windows → list_any (λ (l : Line). leb grade l.grade && holds l.windows week) lines ≡ false
        → (leb grade line.grade && holds line.windows week) || list_any (λ (l : Line). leb grade l.grade && holds l.windows week) lines ≡ false
    by_windows [] is others = rw (is, others) (by_grade (leb grade line.grade))
      where
        by_grade : (b : Bool) → (b && false) || false ≡ false
        by_grade true = refl
        by_grade false = refl
    by_windows (range ∷ ranges) is others =
        let some : (length (range ∷ ranges) == 0) ≡ false = grind (arith, nat_tests) in
        let higher : leb grade line.grade ≡ false = by_grade (leb grade line.grade) (ap (λ (b : Bool). leb grade line.grade && not b) (sym some) ∙ ap (λ (w : List (ℕ × ℕ)). leb grade line.grade && not (length w == 0)) (sym is) ∙ closed) in
        rw (higher, others) refl
      where
        by_grade : (b : Bool) → b && true ≡ false → b ≡ false
        by_grade true f = f
        by_grade false f = refl

-- and the system can never be called for it
pub never_open : (zone : Zone) (row : SystemRow) (grade now : ℕ) → list_any (λ line. leb grade line.grade && not (length line.windows == 0)) row.def.lines ≡ false
    → IsLeast (is_callable zone row grade now) None
never_open zone row grade now none other = by_looked (is_looked_at row.call now other)
  where
    closed : is_within (limit_at row.def.lines (week_at zone other)) grade ≡ false
    closed = sym (reached_by_one row.def.lines (week_at zone other) grade) ∙ none_open row.def.lines (week_at zone other) grade none

    by_held : (held : Bool) → is_within (cond held None (limit_at row.def.lines (week_at zone other))) grade ≡ false
    by_held true = refl
    by_held false = closed

    by_looked : (looked : Bool) → looked && is_within (limit_in zone row other) grade ≡ false
    by_looked true = by_held (is_held row.call other)
    by_looked false = refl

-- ---- the order

-- by second, grade and number
abbrev pub cmp_turns : ℕ × ℕ × ℕ → ℕ × ℕ × ℕ → Ordering
cmp_turns a b = ordering_then (ordering_then (nat_cmp a.0 b.0) (nat_cmp a.1 b.1)) (nat_cmp a.2 b.2)

abbrev pub turns_before : NextCall → NextCall → Bool
turns_before a b = is_lt (cmp_turns (turn_of a) (turn_of b))

cmp_turns_total : IsTotalOrder cmp_turns
cmp_turns_total = then_total (then_total (on_total (λ (t : ℕ × ℕ × ℕ). t.0) nat_cmp_total) (on_total (λ (t : ℕ × ℕ × ℕ). t.1) nat_cmp_total)) (on_total (λ (t : ℕ × ℕ × ℕ). t.2) nat_cmp_total)

-- what isn't before by the turn isn't sooner, if names decide on those that never come
not_sooner_at : (s t : Option ℕ) (g h n m : ℕ) (by_name : Bool) → is_lt (cmp_turns (turn_at t h m) (turn_at s g n)) ≡ false → IfSome t (λ second. second ≤ last_second)
    → (s ≡ None → t ≡ None → by_name ≡ false) → is_sooner_at t s (ltb h g || (h == g && ltb m n)) by_name ≡ false
not_sooner_at (Some s) (Some t) g h n m by_name e ahead last = grind (arith, nat_tests)
not_sooner_at (Some s) None g h n m by_name e ahead last = refl
not_sooner_at None (Some t) g h n m by_name e ahead last = absurd (both_ways _ e (grind (arith, nat_tests)))
not_sooner_at None None g h n m by_name e ahead last = last refl refl

never_ties : (s t : Option ℕ) (g h n m : ℕ) → s ≡ None → t ≡ None
    → (not (is_lt (cmp_turns (turn_at s g n) (turn_at t h m))) && not (is_lt (cmp_turns (turn_at t h m) (turn_at s g n)))) ≡ true
never_ties s t g h n m e f = rw (e, f) refl

-- two elements of a list that pass a test are a pair among those that pass
pairs-kept : {X : Type 0} (R : X → X → Type 0) (p : X → Bool) (xs : List X) → AllPairs R (filter p xs) → (i j : ℕ) (d : X) → i < j → j < length xs → p (get_or xs i d) ≡ true → p (get_or xs j d) ≡ true → R (get_or xs i d) (get_or xs j d)
pairs-kept R p [] pairs i j d below within at_i at_j = absurd (omega arith)
pairs-kept R p (x ∷ xs) pairs i zero d below within at_i at_j = absurd (omega arith)
pairs-kept {X} R p (x ∷ xs) pairs zero (suc j) d below within at_i at_j =
    let whole : AllPairs R (x ∷ filter p xs) = subst (λ (t : Bool). AllPairs R (cond t (x ∷ filter p xs) (filter p xs))) at_i pairs in
    let first : All (R x) (filter p xs) = λ k e h. whole 0 (suc k) e (omega arith) (omega arith) in
    All-contains (R x) (filter p xs) (get_or xs j d) first (in_filter p xs (get_or xs j d) (Contains-get_or xs j d (omega arith)) at_j)
pairs-kept {X} R p (x ∷ xs) pairs (suc i) (suc j) d below within at_i at_j =
    pairs-kept R p xs (by-test (p x) pairs) i j d (omega arith) (omega arith) at_i at_j
  where
    by-test : (t : Bool) → AllPairs R (cond t (x ∷ filter p xs) (filter p xs)) → AllPairs R (filter p xs)
    by-test true h = λ a b e l m. h (suc a) (suc b) e (omega arith) (omega arith)
    by-test false h = h

comes_back : (a b : List ℕ) → ComesBefore a b → is_lt (slice_cmp nat_cmp b a) ≡ false
comes_back a b h = ap is_lt (nat_list_cmp_total.antisymm b a ∙ ap ordering_reverse h)

pub not_same : (a b : List ℕ) → ComesBefore a b → same_text a b ≡ false
not_same a b h = by-test (same_text a b) refl
  where
    apart : Less ≡ Equal → ⊥
    apart q = cc

    by-test : (t : Bool) → same_text a b ≡ t → t ≡ false
    by-test false e = refl
    by-test true e =
        let same : a ≡ b = (bytes_decides a b).0 e in
        absurd (apart (sym h ∙ ap (λ n. slice_cmp nat_cmp n b) same ∙ tied_itself nat_list_cmp_total b))

abbrev ByName : NextCall → NextCall → Type 0
ByName a b = ComesBefore a.system b.system

calls_in_order : (before after : List NextCall) → AllPairs ByName before → IsSortedBy turns_before after
    → ((call : NextCall) → filter (ties turns_before call) after ≡ filter (ties turns_before call) before) → All (λ (call : NextCall). IfSome call.second (λ second. second ≤ last_second)) after
    → AllPairs (λ a b. is_sooner b a ≡ false) after
calls_in_order before after names sorted stable ahead i j d below within =
    not_sooner_at a.second b.second a.grade b.grade a.number b.number _ (sorted_far turns_before (ranks_by cmp_turns_total turn_of) after sorted i j d (omega arith) within) (ahead j d within)
    (λ e f. comes_back a.system b.system (pairs-kept ByName (ties turns_before a) after
    (subst (AllPairs ByName) (sym (stable a)) (AllPairs-filter ByName (ties turns_before a) before names)) i j d below within
    (never_ties a.second a.second a.grade a.grade a.number a.number e e) (never_ties a.second b.second a.grade b.grade a.number b.number e f)))
  where
    a : NextCall
    a = get_or after i d

    b : NextCall
    b = get_or after j d

pairs_of_map : {X Y : Type 0} (f : X → Y) (R : Y → Y → Type 0) (xs : List X) → AllPairs (λ a b. R (f a) (f b)) xs → AllPairs R (map f xs)
pairs_of_map f R [] h = λ i j d below within. absurd (omega arith)
pairs_of_map f R (x ∷ xs) h =
    AllPairs-cons R (f x) (map f xs) (All-map (R (f x)) f xs (λ k e l. h 0 (suc k) e (omega arith) (omega arith)))
    (pairs_of_map f R xs (λ i j e below within. h (suc i) (suc j) e (omega arith) (omega arith)))

pairs_from_map : {X Y : Type 0} (f : X → Y) (R : Y → Y → Type 0) (xs : List X) → AllPairs R (map f xs) → AllPairs (λ a b. R (f a) (f b)) xs
pairs_from_map f R xs h i j d below within =
    let count : length (map f xs) ≡ length xs = length-map xs f in
    let pair = h i j (f d) below (omega arith) in
    rw (get_or-map f xs i d (f d) (omega arith), get_or-map f xs j d (f d) within) at pair

abbrev called : NextCall → List ℕ
called call = call.system

abbrev row_name : SystemRow → List ℕ
row_name row = row.def.name

in_time : (now : ℕ) (second : Option ℕ) → IfSome second (λ s. (now ≤ s) × (s ≤ last_second)) → IfSome second (λ s. s ≤ last_second)
in_time now None h = tt
in_time now (Some s) h = h.1

-- the calls of the systems that have jobs, put in order
pub calls_are : (zone : Zone) (rows : List SystemRow) (jobs : List JobHead) (now : ℕ) (has : SystemRow → Bool) (before after : List NextCall) → AreByName row_name rows
    → map called before ≡ map row_name (filter has rows) → ((row : SystemRow) → jobs_for row.def.name jobs ≢ [] → has row ≡ true)
    → All (IsNextCall zone rows jobs now) before → IsPermutation before after → IsSortedBy turns_before after
    → ((call : NextCall) → filter (ties turns_before call) after ≡ filter (ties turns_before call) before) → All (IsAhead now) after → AreNextCalls zone rows jobs now after
calls_are zone rows jobs now has before after by_name names has_jobs sound same sorted stable ahead = record {
  sound = All-permutation (IsNextCall zone rows jobs now) before after same sound;
  each = λ row there some. Contains-permutation (map called before) (map called after) row.def.name (IsPermutation-map called before after same)
      (subst (λ (l : List (List ℕ)). Contains l row.def.name) (sym names) (in_map row_name (filter has rows) row (in_filter has rows row there (has_jobs row some))));
  once = λ i j d below within.
      let count : length (map called after) ≡ length after = length-map after called in
      let apart = apart_from_distinct same_text (map called after) i j d.system distinct below (omega arith) in
      rw (get_or-map called after i d d.system (omega arith), get_or-map called after j d d.system within) at apart;
  in_order = calls_in_order before after ordered sorted stable (All-weaker (IsAhead now) (λ (call : NextCall). IfSome call.second (λ second. second ≤ last_second)) (λ call h. in_time now call.second h) after ahead);
}
  where
    named : AllPairs ComesBefore (map called before)
    named = subst (AllPairs ComesBefore) (sym names) (pairs_of_map row_name ComesBefore (filter has rows) (AllPairs-filter (λ (a b : SystemRow). ComesBefore a.def.name b.def.name) has rows by_name))

    ordered : AllPairs ByName before
    ordered = pairs_from_map called ComesBefore before named

    distinct : IsDistinct same_text (map called after)
    distinct = IsDistinct-IsPermutation same_text nat_list_eq_equiv.symm (map called before) (map called after) (IsPermutation-map called before after same)
        (IsDistinct-from_apart same_text (map called before) (λ i j d below within. not_same (get_or (map called before) i d) (get_or (map called before) j d) (named i j d below within)))

-- ---- one more system

-- the names of those systems that pass a test
pub names_more : (rows : List SystemRow) (i : ℕ) (row : SystemRow) (has : SystemRow → Bool) (names : List (List ℕ)) (t : Bool) → i < length rows → row ≡ get_or rows i row
    → names ≡ map row_name (filter has (take i rows)) → has row ≡ t → names ++ cond t (row.def.name ∷ []) [] ≡ map row_name (filter has (take (i + 1) rows))
names_more rows i row has names t within is same passes =
    ap (λ (l : List (List ℕ)). l ++ cond t (row.def.name ∷ []) []) same ∙ by-test t ∙ sym (map-append row_name (filter has (take i rows)) (cond t (row ∷ []) []))
    ∙ ap (map row_name) (ap (λ (b : Bool). filter has (take i rows) ++ cond b (row ∷ []) []) (sym passes)
    ∙ ap (λ (r : SystemRow). filter has (take i rows) ++ cond (has r) (r ∷ []) []) is ∙ sym (filter_more has rows i row within))
  where
    by-test : (b : Bool) → map row_name (filter has (take i rows)) ++ cond b (row.def.name ∷ []) [] ≡ map row_name (filter has (take i rows)) ++ map row_name (cond b (row ∷ []) [])
    by-test true = refl
    by-test false = refl

-- the first second isn't before the second of the question, nor past the last moment
pub ahead_of : (zone : Zone) (row : SystemRow) (grade now : ℕ) (second : Option ℕ) → IsLeast (is_callable zone row grade now) second → IfSome second (λ s. (now ≤ s) × (s ≤ last_second))
ahead_of zone row grade now None least = tt
ahead_of zone row grade now (Some second) (callable, least) =
    let looked = and_first (is_looked_at row.call now second) (is_within (limit_in zone row second) grade) callable in
    let near = and_first ((second == now || (ltb now second && second % 60 == 0)) && leb second (free_from row.call now + looked_ahead)) (leb second last_second) looked in
    let past = and_second ((second == now || (ltb now second && second % 60 == 0)) && leb second (free_from row.call now + looked_ahead)) (leb second last_second) looked in
    let place = and_first (second == now || (ltb now second && second % 60 == 0)) (leb second (free_from row.call now + looked_ahead)) near in
    (by-place (or_cases (second == now) (ltb now second && second % 60 == 0) place), leb-true second last_second past)
  where
    by-place : (second == now ≡ true) ⊎ (ltb now second && second % 60 == 0 ≡ true) → now ≤ second
    by-place (inl same) = let e = eqb-true second now same in omega (arith, e)
    by-place (inr later) = let l = ltb-true now second (and_first (ltb now second) (second % 60 == 0) later) in omega (arith, l)

-- ---- polls

abbrev pub polls_before : NextPoll → NextPoll → Bool
polls_before a b = is_lt (nat_cmp (poll_turn a) (poll_turn b))

abbrev polled : NextPoll → List ℕ
polled poll = poll.system

abbrev PollsByName : NextPoll → NextPoll → Type 0
PollsByName a b = ComesBefore a.system b.system

-- what isn't before by the second isn't sooner, if names decide in one second
not_polled_sooner : (s t : Option ℕ) (by_name : Bool) → is_lt (nat_cmp (poll_turn_at t) (poll_turn_at s)) ≡ false → IfSome t (λ second. second ≤ last_second)
    → (s ≡ t → by_name ≡ false) → is_sooner_at t s by_name by_name ≡ false
not_polled_sooner (Some s) (Some t) by_name e ahead last = by-test (t == s) refl
  where
    by-test : (same : Bool) → t == s ≡ same → ltb t s || (t == s && by_name) ≡ false
    by-test true q =
        let none : by_name ≡ false = last (ap Some (sym (eqb-true t s q))) in
        grind (arith, nat_tests)
    by-test false q = grind (arith, nat_tests)
not_polled_sooner (Some s) None by_name e ahead last = refl
not_polled_sooner None (Some t) by_name e ahead last = absurd (both_ways _ e (grind (arith, nat_tests)))
not_polled_sooner None None by_name e ahead last = last refl

same_ties : (s t : ℕ) → s ≡ t → (not (is_lt (nat_cmp s t)) && not (is_lt (nat_cmp t s))) ≡ true
same_ties s t e = grind (arith, nat_tests)

polls_in_order : (before after : List NextPoll) → AllPairs PollsByName before → IsSortedBy polls_before after
    → ((poll : NextPoll) → filter (ties polls_before poll) after ≡ filter (ties polls_before poll) before) → All (λ (poll : NextPoll). IfSome poll.second (λ second. second ≤ last_second)) after
    → AllPairs (λ a b. is_polled_sooner b a ≡ false) after
polls_in_order before after names sorted stable ahead i j d below within =
    not_polled_sooner a.second b.second _ (sorted_far polls_before (ranks_by nat_cmp_total poll_turn) after sorted i j d (omega arith) within) (ahead j d within)
    (λ e. comes_back a.system b.system (pairs-kept PollsByName (ties polls_before a) after
    (subst (AllPairs PollsByName) (sym (stable a)) (AllPairs-filter PollsByName (ties polls_before a) before names)) i j d below within
    (same_ties (poll_turn a) (poll_turn a) refl) (same_ties (poll_turn a) (poll_turn b) (ap poll_turn_at e))))
  where
    a : NextPoll
    a = get_or after i d

    b : NextPoll
    b = get_or after j d

-- the polls of the systems, put in order
pub polls_are : (zone : Zone) (rows : List SystemRow) (now : ℕ) (before after : List NextPoll) → AreByName row_name rows
    → map polled before ≡ map row_name rows → All (IsNextPoll zone rows now) before → IsPermutation before after → IsSortedBy polls_before after
    → ((poll : NextPoll) → filter (ties polls_before poll) after ≡ filter (ties polls_before poll) before) → All (IsPollAhead now) after → AreNextPolls zone rows now after
polls_are zone rows now before after by_name names sound same sorted stable ahead = record {
  sound = All-permutation (IsNextPoll zone rows now) before after same sound;
  each = λ row there. Contains-permutation (map polled before) (map polled after) row.def.name (IsPermutation-map polled before after same)
      (subst (λ (l : List (List ℕ)). Contains l row.def.name) (sym names) (in_map row_name rows row there));
  once = λ i j d below within.
      let count : length (map polled after) ≡ length after = length-map after polled in
      let apart = apart_from_distinct same_text (map polled after) i j d.system distinct below (omega arith) in
      rw (get_or-map polled after i d d.system (omega arith), get_or-map polled after j d d.system within) at apart;
  in_order = polls_in_order before after ordered sorted stable (All-weaker (IsPollAhead now) (λ (poll : NextPoll). IfSome poll.second (λ second. second ≤ last_second)) (λ poll h. in_time now poll.second h) after ahead);
}
  where
    named : AllPairs ComesBefore (map polled before)
    named = subst (AllPairs ComesBefore) (sym names) (pairs_of_map row_name ComesBefore rows by_name)

    ordered : AllPairs PollsByName before
    ordered = pairs_from_map polled ComesBefore before named

    distinct : IsDistinct same_text (map polled after)
    distinct = IsDistinct-IsPermutation same_text nat_list_eq_equiv.symm (map polled before) (map polled after) (IsPermutation-map polled before after same)
        (IsDistinct-from_apart same_text (map polled before) (λ i j d below within. not_same (get_or (map polled before) i d) (get_or (map polled before) j d) (named i j d below within)))

-- the names of the systems up to one more
pub names_on : (rows : List SystemRow) (i : ℕ) (row : SystemRow) (names : List (List ℕ)) (name : List ℕ) → i < length rows → row ≡ get_or rows i row
    → names ≡ map row_name (take i rows) → name ≡ row.def.name → names ++ name ∷ [] ≡ map row_name (take (i + 1) rows)
names_on rows i row names name within is same named =
    ap (λ (l : List (List ℕ)). l ++ name ∷ []) same ∙ ap (λ (n : List ℕ). map row_name (take i rows) ++ n ∷ []) (named ∙ ap row_name is)
    ∙ sym (map-append row_name (take i rows) (get_or rows i row ∷ [])) ∙ ap (map row_name) (sym (take_more rows i row within))
