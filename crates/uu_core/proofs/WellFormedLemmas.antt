-- Each command keeps a state well-formed.
use Rattle.std.proofs.Common.{◌≡◌, ℕ, ◌+◌, ◌<◌, ◌≤◌, ◌*◌, max, Bool, true, false, not, cond, leb, ltb, ◌==◌, List, [], ◌∷◌, ◌++◌, map, filter, find, length, All, AllPairs, Contains, IfSome, IsTrue, Option, Some, None, Result, Ok, Err, get_or, option_and_then, unwrap_or, nat_cmp, refl, ap, sym, ◌∙◌, subst, arith}
use Rattle.std.specs.List.{list_any}
use Rattle.std.specs.declared.cmp.Ordering.{Ordering}
use Rattle.std.specs.declared.cmp.Ordering.TheVariants.{Less, Equal, Greater}
use Rattle.std.specs.Ordering.{is_lt, ordering_reverse}
use Rattle.std.specs.Cmp.Lexicographic.{slice_cmp, bytes_decides}
use Rattle.std.proofs.lemmas.Bool.{cond_both, ltb-true, not-false, or_parts, and_parts, ltb-false, both_ways}
use Rattle.std.proofs.lemmas.Bool.Decides.{nat_tests}
use Rattle.std.proofs.lemmas.Cmp.{nat_list_cmp_total}
use Rattle.std.proofs.lemmas.Map.Lookups.{exact_bytes}
use Rattle.std.proofs.lemmas.List.Kept.{AllPairs-cons, AllPairs-filter}
use Rattle.std.proofs.lemmas.List.Elements.{All-nil, All-cons, All-head, All-tail, All-weaker, All-map, All-push, All-append, All-filter, All-contains_itself, filter_passes, Contains-append_left, Contains-append_right}
use Rattle.uu_names.proofs.Basics.{first_of, later_of, in_filter, in_map, some_passes, passing_one, pairs_first, pairs_rest, less_is, found_has, and_then_has, cond_none}
use Rattle.uu_map.specs.Text.{host_of}
use Rattle.uu_map.specs.declared.fault.MapFault.{MapFault}
use Rattle.uu_times.specs.System.{System, HasRetry, IsRetry}
use Rattle.uu_times.specs.declared.moment.Moment.{Moment}
use Rattle.uu_times.specs.declared.system.Line.{Line}
use Rattle.uu_core.specs.declared.command.Command.{Command}
use Rattle.uu_core.specs.declared.command.Command.TheVariants.{Define, Remove, Queue, QueueOnce, Kill, Regrade, Rejuvenate, Failed, Done, Release, Entry, Forget}
use Rattle.uu_core.specs.declared.custody.HandIn.TheVariants.{First, Again}
use Rattle.uu_core.specs.declared.custody.Key.{Key}
use Rattle.uu_core.specs.declared.custody.Taken.{Taken}
use Rattle.uu_core.specs.declared.job.Kind.{Kind}
use Rattle.uu_core.specs.declared.job.Kind.TheVariants.{Send, Request, Execute}
use Rattle.uu_core.specs.declared.job.NewJob.{NewJob}
use Rattle.uu_core.specs.declared.refusal.Refusal.{Refusal}
use Rattle.uu_core.specs.declared.system.CallState.{CallState}
use Rattle.uu_core.specs.declared.system.SystemRow.{SystemRow}
use Rattle.uu_core.specs.Marks.{marks_end}
use Rattle.uu_core.specs.Refusal.{first_reason}
use Rattle.uu_core.specs.State.{State, Job, MapEntry, Link, IsLink, is_link, link_of, new_link, says_nothing, IsWellFormed, IsJob, IsKind, IsCall, IsDefinition, ComesBefore, same_text, has_system, is_waiting, is_system, system_at, is_job, numbers_end, most_bytes, empty}
use Rattle.uu_core.specs.Waiting.{one_more, lines_at, limit_at, line_at, retry_minutes, growing_minutes, wait_after}
use Rattle.uu_core.specs.Verdict.{verdict, is_too_large, has_many_arguments, are_known, taken_of, once_reasons, fresh_reasons}
use Rattle.uu_core.specs.After.{after, after_verdict, accept, with_job_once, hand_in_of, with_job, with_taken, forgotten, put_link, is_before, put_by, put_system, call_of, change_job, change_call, job_of, failed_call, done_call, keep_entry, is_among, is_released}
use Rattle.uu_core.specs.Run.{state_after}
use Rattle.uu_core.specs.WellFormed.{IsCommand, IsKey, IsNewJob, HasWords}

-- ---- pairs of a list

module _ {X : Type 0} (R : X → X → Type 0) where
  pub pairs_nil : AllPairs R []
  pairs_nil i j d below within = absurd (omega (arith, within))

  pairs_map : (f : X → X) → ((a b : X) → R a b → R (f a) (f b)) → (xs : List X) → AllPairs R xs → AllPairs R (map f xs)
  pairs_map f keeps [] h = pairs_nil
  pairs_map f keeps (x ∷ xs) h =
      AllPairs-cons R (f x) (map f xs) (All-map (R (f x)) f xs (All-weaker (R x) (λ y. R (f x) (f y)) (λ y. keeps x y) xs (pairs_first R x xs h))) (pairs_map f keeps xs (pairs_rest R x xs h))

  pub pairs_push : (xs : List X) (y : X) → All (λ x. R x y) xs → AllPairs R xs → AllPairs R (xs ++ y ∷ [])
  pairs_push [] y below h = AllPairs-cons R y [] (All-nil (R y)) pairs_nil
  pairs_push (x ∷ xs) y below h =
      AllPairs-cons R x (xs ++ y ∷ []) (All-push (R x) xs y (pairs_first R x xs h) (All-head (λ z. R z y) x xs below)) (pairs_push xs y (All-tail (λ z. R z y) x xs below) (pairs_rest R x xs h))

  pub pairs_append : (xs ys : List X) → AllPairs R xs → AllPairs R ys → All (λ x. All (R x) ys) xs → AllPairs R (xs ++ ys)
  pairs_append [] ys h k across = k
  pairs_append (x ∷ xs) ys h k across =
      AllPairs-cons R x (xs ++ ys) (All-append (R x) xs ys (pairs_first R x xs h) (All-head (λ z. All (R z) ys) x xs across))
      (pairs_append xs ys (pairs_rest R x xs h) k (All-tail (λ z. All (R z) ys) x xs across))

-- ---- an item put in its place

module _ {V : Type 0} (name : V → List ℕ) (item : V) where
  abbrev earlier : List V → List V
  earlier xs = filter (λ x. is_before name x item) xs

  abbrev later : List V → List V
  later xs = filter (λ x. is_before name item x) xs

  put_all : (P : V → Type 0) (xs : List V) → P item → All P xs → All P (put_by name item xs)
  put_all P xs p h =
      All-append P (earlier xs) (item ∷ later xs) (All-filter (λ x. is_before name x item) P xs h)
      (All-cons P item (later xs) p (All-filter (λ x. is_before name item x) P xs h))

  pub put_in_order : (xs : List V) → AllPairs (λ a b. ComesBefore (name a) (name b)) xs → AllPairs (λ a b. ComesBefore (name a) (name b)) (put_by name item xs)
  put_in_order xs h =
      pairs_append R (earlier xs) (item ∷ later xs)
      (AllPairs-filter R (λ x. is_before name x item) xs h)
      (AllPairs-cons R item (later xs) after (AllPairs-filter R (λ x. is_before name item x) xs h))
      (All-weaker (λ x. is_before name x item ≡ true) (λ x. All (R x) (item ∷ later xs)) before (earlier xs) (filter_passes (λ x. is_before name x item) xs))
    where
      R : V → V → Type 0
      R a b = ComesBefore (name a) (name b)

      after : All (R item) (later xs)
      after = All-weaker (λ x. is_before name item x ≡ true) (R item) (λ x e. less_is _ e) (later xs) (filter_passes (λ x. is_before name item x) xs)

      before : (x : V) → is_before name x item ≡ true → All (R x) (item ∷ later xs)
      before x e =
          All-cons (R x) item (later xs) (less_is _ e)
          (All-weaker (R item) (R x) (λ y l. nat_list_cmp_total.trans (name x) (name item) (name y) (less_is _ e) l) (later xs) after)

  -- a test that looks at the name alone still passes for one of them
  put_any : (p : List ℕ → Bool) (xs : List V) → list_any (λ v. p (name v)) xs ≡ true → list_any (λ v. p (name v)) (put_by name item xs) ≡ true
  put_any p xs h =
      let r = passing_one q xs h in
      by-place r.0 r.1 r.2 (slice_cmp nat_cmp (name item) (name r.0)) refl
    where
      q : V → Bool
      q v = p (name v)

      by-place : (x : V) → Contains xs x → q x ≡ true → (r : Ordering) → slice_cmp nat_cmp (name item) (name x) ≡ r → list_any q (put_by name item xs) ≡ true
      by-place x there e Less l =
          some_passes q (put_by name item xs) x (Contains-append_right (earlier xs) (item ∷ later xs) x (later_of item x (later xs) (in_filter (λ v. is_before name item v) xs x there (ap is_lt l)))) e
      by-place x there e Equal l =
          some_passes q (put_by name item xs) item (Contains-append_right (earlier xs) (item ∷ later xs) item (first_of item (later xs))) (ap p (exact_bytes (name item) (name x) l) ∙ e)
      by-place x there e Greater l =
          some_passes q (put_by name item xs) x (Contains-append_left (earlier xs) (item ∷ later xs) x (in_filter (λ v. is_before name v item) xs x there (ap is_lt (nat_list_cmp_total.antisymm (name x) (name item) ∙ ap ordering_reverse l)))) e

-- ---- jobs and systems that change

module _ (P : Job → Type 0) where
  pub jobs_changed : (number : ℕ) (change : Job → Job) (jobs : List Job) → ((j : Job) → P j → P (change j)) → All P jobs → All P (change_job number change jobs)
  jobs_changed number change jobs keeps h =
      All-map P (λ j. cond (is_job number j) (change j) j) jobs (All-weaker P (λ j. P (cond (is_job number j) (change j) j)) (λ j p. cond_both (is_job number j) (change j) j P (λ _. keeps j p) (λ _. p)) jobs h)

pub jobs_rise : (number : ℕ) (change : Job → Job) (jobs : List Job) → ((j : Job) → (change j).number ≡ j.number) → AllPairs (λ (a b : Job). a.number < b.number) jobs → AllPairs (λ (a b : Job). a.number < b.number) (change_job number change jobs)
jobs_rise number change jobs same h =
    pairs_map (λ (a b : Job). a.number < b.number) f (λ a b l. omega (arith, still a, still b, l)) jobs h
  where
    f : Job → Job
    f j = cond (is_job number j) (change j) j

    still : (j : Job) → (f j).number ≡ j.number
    still j = cond_both (is_job number j) (change j) j (λ (k : Job). k.number ≡ j.number) (λ _. same j) (λ _. refl)

module _ (name : List ℕ) (change : SystemRow → CallState) where
  abbrev called : SystemRow → SystemRow
  called row = cond (is_system name row) (record row { call = change row }) row

  still_defined : (row : SystemRow) → (called row).def ≡ row.def
  still_defined row = cond_both (is_system name row) (record row { call = change row }) row (λ (r : SystemRow). r.def ≡ row.def) (λ _. refl) (λ _. refl)

  calls_definitions : (rows : List SystemRow) → All (λ (row : SystemRow). IsDefinition row.def) rows → All (λ (row : SystemRow). IsDefinition row.def) (change_call name change rows)
  calls_definitions rows h =
      All-map (λ (row : SystemRow). IsDefinition row.def) called rows (All-weaker (λ (row : SystemRow). IsDefinition row.def) (λ row. IsDefinition (called row).def) (λ row p. subst IsDefinition (sym (still_defined row)) p) rows h)

  one_call : ((row : SystemRow) → IsDefinition row.def → IsCall row.call → IsCall (change row)) → (row : SystemRow) → IsDefinition row.def → IsCall row.call → IsCall (called row).call
  one_call good row def call = cond_both (is_system name row) (record row { call = change row }) row (λ (r : SystemRow). IsCall r.call) (λ _. good row def call) (λ _. call)

  calls_calls : (rows : List SystemRow) → ((row : SystemRow) → IsDefinition row.def → IsCall row.call → IsCall (change row)) → All (λ (row : SystemRow). IsDefinition row.def) rows → All (λ (row : SystemRow). IsCall row.call) rows → All (λ (row : SystemRow). IsCall row.call) (change_call name change rows)
  calls_calls rows good defs h =
      All-map (λ (row : SystemRow). IsCall row.call) called rows (λ k d inside. one_call good (get_or rows k d) (defs k d inside) (h k d inside))

  pub calls_in_order : (rows : List SystemRow) → AllPairs (λ (a b : SystemRow). ComesBefore a.def.name b.def.name) rows → AllPairs (λ (a b : SystemRow). ComesBefore a.def.name b.def.name) (change_call name change rows)
  calls_in_order rows h =
      pairs_map (λ (a b : SystemRow). ComesBefore a.def.name b.def.name) called (λ a b l. ap (λ (d : System). slice_cmp nat_cmp d.name (called b).def.name) (still_defined a) ∙ ap (λ (d : System). slice_cmp nat_cmp a.def.name d.name) (still_defined b) ∙ l) rows h

  calls_any : (rows : List SystemRow) (other : List ℕ) → list_any (is_system other) rows ≡ true → list_any (is_system other) (change_call name change rows) ≡ true
  calls_any rows other h =
      let r = passing_one (is_system other) rows h in
      some_passes (is_system other) (map called rows) (called r.0) (in_map called rows r.0 r.1) (ap (λ (d : System). same_text d.name other) (still_defined r.0) ∙ r.2)

-- ---- why a command is accepted

-- why a job that comes for the first time under a key is accepted
pub once_accepted : (known : Bool) (next below : ℕ) (other : Bool) (key : Key) (job : NewJob) → first_reason (fresh_reasons known next below other key job) ≡ None → (is_too_large job ≡ false) × (known ≡ true) × ((next == numbers_end) ≡ false) × (below ≤ key.number) × (other ≡ false)
once_accepted known next below other key job e =
    let first = cond_none (is_too_large job) _ _ e in
    let second = cond_none (not known) _ _ first.1 in
    let third = cond_none (next == numbers_end) _ _ second.1 in
    let fourth = cond_none (ltb key.number below) _ _ third.1 in
    (first.0, not-false known second.0, third.0, ltb-false key.number below fourth.0, (cond_none other _ _ fourth.1).0)

kind_within : (kind : Kind) → HasWords kind → has_many_arguments kind ≡ false → IsKind kind
kind_within (Send source target) h e = h
kind_within (Request source target) h e = h
kind_within (Execute command arguments) h e = (h.0, h.1, ltb-false 64 (length arguments) e)

-- ---- waits

retry_within : (line : Option Line) (growing : ℕ) → IfSome line HasRetry → growing ≤ 1440 → unwrap_or (option_and_then (λ l. l.retry) line) growing ≤ 525600
retry_within None growing h g = omega (arith, g)
retry_within (Some line) growing h g = by_retry line.retry h
  where
    by_retry : (retry : Option ℕ) → IfSome retry IsRetry → unwrap_or retry growing ≤ 525600
    by_retry None h = omega (arith, g)
    by_retry (Some minutes) h = h.1

growing_within : (failures : ℕ) → growing_minutes failures ≤ 1440
growing_within failures = omega arith

minutes_within : (test : Bool) (minutes : ℕ) → minutes ≤ 525600 → 60 * cond test (max minutes 1440) minutes ≤ 31536000
minutes_within true minutes h = omega (arith, h)
minutes_within false minutes h = omega (arith, h)

wait_within : (def : System) (week failures : ℕ) → IsDefinition def → wait_after def week failures ≤ 31536000
wait_within def week failures h =
    minutes_within (leb def.max_retries failures) (retry_minutes def.lines week failures)
    (retry_within (line_at def.lines week) (growing_minutes failures) (and_then_has HasRetry (λ grade. find (λ (line : Line). line.grade == grade) (lines_at def.lines week)) (λ grade. found_has HasRetry (λ (line : Line). line.grade == grade) (lines_at def.lines week) (All-filter _ HasRetry def.lines h.limits.1)) (limit_at def.lines week)) (growing_within failures))

call_known : (row : Option SystemRow) → IfSome row (λ (row : SystemRow). IsCall row.call) → IsCall (call_of row)
call_known None h = record { last = omega arith; failures = omega arith; wait = omega arith; outcome = (refl, refl, refl) }
call_known (Some row) h = h

entry-kept : (answer : Result (List ℕ) MapFault) (bytes : List ℕ) (entries : List MapEntry) → host_of bytes ≡ answer → All (λ (entry : MapEntry). host_of entry.bytes ≡ Ok entry.host) entries → All (λ (entry : MapEntry). host_of entry.bytes ≡ Ok entry.host) (keep_entry answer bytes entries)
entry-kept (Ok host) bytes entries e h = put_all (λ (entry : MapEntry). entry.host) (record { host = host; bytes = bytes }) (λ (entry : MapEntry). host_of entry.bytes ≡ Ok entry.host) entries e h
entry-kept (Err fault) bytes entries e h = h

pub entries_in_order : (answer : Result (List ℕ) MapFault) (bytes : List ℕ) (entries : List MapEntry) → AllPairs (λ (a b : MapEntry). ComesBefore a.host b.host) entries → AllPairs (λ (a b : MapEntry). ComesBefore a.host b.host) (keep_entry answer bytes entries)
entries_in_order (Ok host) bytes entries h = put_in_order (λ (entry : MapEntry). entry.host) (record { host = host; bytes = bytes }) entries h
entries_in_order (Err fault) bytes entries h = h

-- ---- links

-- what a link holds, but that it says something
record Holds (next : ℕ) (link : Link) : Type 0 where
  below : link.below ≤ numbers_end
  numbers : All (λ (row : Taken). (row.number ≤ numbers_end) × (row.mark < marks_end) × (1 ≤ row.job)) link.taken
  rising : AllPairs (λ (a b : Taken). a.number < b.number) link.taken
  at_least : All (λ (row : Taken). link.below ≤ row.number) link.taken
  jobs : All (λ (row : Taken). row.job < next) link.taken

unwrap_has : {X : Type 0} (P : X → Type 0) (o : Option X) (d : X) → IfSome o P → P d → P (unwrap_or o d)
unwrap_has P None d h p = p
unwrap_has P (Some x) d h p = h

new_holds : (next : ℕ) (name : List ℕ) → Holds next (new_link name)
new_holds next name = record {
  below = omega arith;
  numbers = All-nil (λ (row : Taken). (row.number ≤ numbers_end) × (row.mark < marks_end) × (1 ≤ row.job));
  rising = pairs_nil (λ (a b : Taken). a.number < b.number);
  at_least = All-nil (λ (row : Taken). 0 ≤ row.number);
  jobs = All-nil (λ (row : Taken). row.job < next);
}

find_named : (name : List ℕ) (links : List Link) → IfSome (find (is_link name) links) (λ (link : Link). link.name ≡ name)
find_named name [] = tt
find_named name (link ∷ links) = by-test (is_link name link) refl (find_named name links)
  where
    by-test : (t : Bool) → is_link name link ≡ t → IfSome (find (is_link name) links) (λ (l : Link). l.name ≡ name) → IfSome (cond t (Some link) (find (is_link name) links)) (λ (l : Link). l.name ≡ name)
    by-test true e again = (bytes_decides link.name name).0 e
    by-test false e again = again

-- the link of a name has it
pub link_named : (links : List Link) (name : List ℕ) → (unwrap_or (find (is_link name) links) (new_link name)).name ≡ name
link_named links name = unwrap_has (λ (link : Link). link.name ≡ name) (find (is_link name) links) (new_link name) (find_named name links) refl

holds-more : (next later : ℕ) (link : Link) (row : Taken) → next ≤ later → Holds next link → row.number ≤ numbers_end → row.mark < marks_end → 1 ≤ row.job → link.below ≤ row.number → row.job < later → Holds later (with_taken row link)
holds-more next later link row up h number mark given least job = record {
  below = h.below;
  numbers = among (λ (other : Taken). (other.number ≤ numbers_end) × (other.mark < marks_end) × (1 ≤ other.job)) (number, mark, given) h.numbers;
  rising = pairs_append R first (row ∷ rest) (AllPairs-filter R (λ (other : Taken). ltb other.number row.number) link.taken h.rising)
      (AllPairs-cons R row rest after (AllPairs-filter R (λ (other : Taken). ltb row.number other.number) link.taken h.rising))
      (All-weaker (λ (other : Taken). ltb other.number row.number ≡ true) (λ other. All (R other) (row ∷ rest)) before first (filter_passes (λ (other : Taken). ltb other.number row.number) link.taken));
  at_least = among (λ (other : Taken). link.below ≤ other.number) least h.at_least;
  jobs = among (λ (other : Taken). other.job < later) job (All-weaker (λ (other : Taken). other.job < next) (λ (other : Taken). other.job < later) (λ other l. omega (arith, up, l)) link.taken h.jobs);
}
  where
    R : Taken → Taken → Type 0
    R a b = a.number < b.number

    first : List Taken
    first = filter (λ (other : Taken). ltb other.number row.number) link.taken

    rest : List Taken
    rest = filter (λ (other : Taken). ltb row.number other.number) link.taken

    among : (P : Taken → Type 0) → P row → All P link.taken → All P (first ++ row ∷ rest)
    among P p all = All-append P first (row ∷ rest) (All-filter (λ (other : Taken). ltb other.number row.number) P link.taken all) (All-cons P row rest p (All-filter (λ (other : Taken). ltb row.number other.number) P link.taken all))

    after : All (R row) rest
    after = All-weaker (λ (other : Taken). ltb row.number other.number ≡ true) (R row) (λ other e. ltb-true row.number other.number e) rest (filter_passes (λ (other : Taken). ltb row.number other.number) link.taken)

    before : (other : Taken) → ltb other.number row.number ≡ true → All (R other) (row ∷ rest)
    before other e =
        let less : other.number < row.number = ltb-true other.number row.number e in
        All-cons (R other) row rest less (All-weaker (R row) (R other) (λ third l. omega (arith, less, l)) rest after)

holds_fewer : (next below : ℕ) (link : Link) → Holds next link → below ≤ numbers_end → Holds next (forgotten below link)
holds_fewer next below link h within = record {
  below = omega (arith, h.below, within);
  numbers = All-filter p (λ (row : Taken). (row.number ≤ numbers_end) × (row.mark < marks_end) × (1 ≤ row.job)) link.taken h.numbers;
  rising = AllPairs-filter (λ (a b : Taken). a.number < b.number) p link.taken h.rising;
  at_least = λ k d inside. both link.below below (get_or (filter p link.taken) k d).number (All-filter p (λ (row : Taken). link.below ≤ row.number) link.taken h.at_least k d inside) (filter_passes p link.taken k d inside);
  jobs = All-filter p (λ (row : Taken). row.job < next) link.taken h.jobs;
}
  where
    p : Taken → Bool
    p row = leb below row.number

    both : (a b n : ℕ) → a ≤ n → leb b n ≡ true → max a b ≤ n
    both a b n l e = grind (arith, nat_tests)

-- ---- the commands

module _ (state : State) (h : IsWellFormed state) where
  still_define : (def : System) → IsDefinition def → IsWellFormed (accept state (Define def))
  still_define def good =
      let item : SystemRow = record { def = def; call = call_of (system_at state def.name) } in
      record {
        some_next = h.some_next;
        next = h.next;
        jobs = h.jobs;
        rising = h.rising;
        below_next = h.below_next;
        placed = All-weaker (λ (job : Job). IsTrue (has_system state job.system)) (λ (job : Job). IsTrue (list_any (is_system job.system) (put_system item state.systems))) (λ job p. put_any (λ (row : SystemRow). row.def.name) item (λ n. same_text n job.system) state.systems p) state.jobs h.placed;
        definitions = put_all (λ (row : SystemRow). row.def.name) item (λ (row : SystemRow). IsDefinition row.def) state.systems good h.definitions;
        calls = put_all (λ (row : SystemRow). row.def.name) item (λ (row : SystemRow). IsCall row.call) state.systems (call_known (system_at state def.name) (found_has (λ (row : SystemRow). IsCall row.call) (is_system def.name) state.systems h.calls)) h.calls;
        by_name = put_in_order (λ (row : SystemRow). row.def.name) item state.systems h.by_name;
        hosts = h.hosts;
        by_host = h.by_host;
        links = h.links;
        linked = All-weaker (λ (link : Link). IsTrue (has_system state link.name)) (λ (link : Link). IsTrue (list_any (is_system link.name) (put_system item state.systems))) (λ link p. put_any (λ (row : SystemRow). row.def.name) item (λ n. same_text n link.name) state.systems p) state.links h.linked;
        taken = h.taken;
        by_link = h.by_link;
      }

  still_remove : (name : List ℕ) → is_waiting state name ≡ false → IsWellFormed (accept state (Remove name))
  still_remove name none = record {
    some_next = h.some_next;
    next = h.next;
    jobs = h.jobs;
    rising = h.rising;
    below_next = h.below_next;
    placed = λ k d inside. stays (get_or state.jobs k d) (h.placed k d inside) (All-contains_itself state.jobs k d inside);
    definitions = All-filter (λ (row : SystemRow). not (is_system name row)) (λ (row : SystemRow). IsDefinition row.def) state.systems h.definitions;
    calls = All-filter (λ (row : SystemRow). not (is_system name row)) (λ (row : SystemRow). IsCall row.call) state.systems h.calls;
    by_name = AllPairs-filter (λ (a b : SystemRow). ComesBefore a.def.name b.def.name) (λ (row : SystemRow). not (is_system name row)) state.systems h.by_name;
    hosts = h.hosts;
    by_host = h.by_host;
    links = All-filter (λ (link : Link). not (is_link name link)) IsLink state.links h.links;
    linked = λ k d inside. goes-on (get_or _ k d) (All-filter (λ (link : Link). not (is_link name link)) (λ (link : Link). IsTrue (has_system state link.name)) state.links h.linked k d inside) (filter_passes (λ (link : Link). not (is_link name link)) state.links k d inside);
    taken = All-filter (λ (link : Link). not (is_link name link)) (λ (link : Link). All (λ (row : Taken). row.job < state.next) link.taken) state.links h.taken;
    by_link = AllPairs-filter (λ (a b : Link). ComesBefore a.name b.name) (λ (link : Link). not (is_link name link)) state.links h.by_link;
  }
    where
      other : (t : Bool) (job : Job) (row : SystemRow) → is_system name row ≡ t → Contains state.jobs job → is_system job.system row ≡ true → not t ≡ true
      other false job row e there own = refl
      other true job row e there own =
          let owned : row.def.name ≡ job.system = (bytes_decides row.def.name job.system).0 own in
          absurd (both_ways _ none (some_passes (λ (j : Job). same_text j.system name) state.jobs job there (ap (λ n. same_text n name) (sym owned) ∙ e)))

      stays : (job : Job) → IsTrue (has_system state job.system) → Contains state.jobs job → IsTrue (list_any (is_system job.system) (filter (λ (row : SystemRow). not (is_system name row)) state.systems))
      stays job p there =
          let r = passing_one (is_system job.system) state.systems p in
          let left : not (is_system name r.0) ≡ true = other (is_system name r.0) job r.0 refl there r.2 in
          some_passes (is_system job.system) (filter (λ (row : SystemRow). not (is_system name row)) state.systems) r.0 (in_filter (λ (row : SystemRow). not (is_system name row)) state.systems r.0 r.1 left) r.2

      -- a link that stays has another system
      goes-on : (link : Link) → IsTrue (has_system state link.name) → not (is_link name link) ≡ true → IsTrue (list_any (is_system link.name) (filter (λ (row : SystemRow). not (is_system name row)) state.systems))
      goes-on link p other_name =
          let r = passing_one (is_system link.name) state.systems p in
          some_passes (is_system link.name) (filter (λ (row : SystemRow). not (is_system name row)) state.systems) r.0 (in_filter (λ (row : SystemRow). not (is_system name row)) state.systems r.0 r.1 (left (is_system name r.0) r.0 refl r.2)) r.2
        where
          turned : (t : Bool) → t ≡ true → not t ≡ true → ⊥
          turned true e q = cc
          turned false e q = cc

          left : (t : Bool) → (row : SystemRow) → is_system name row ≡ t → is_system link.name row ≡ true → not t ≡ true
          left false row e own = refl
          left true row e own =
              let named : row.def.name ≡ link.name = (bytes_decides row.def.name link.name).0 own in
              absurd (turned (is_link name link) (ap (λ n. same_text n name) (sym named) ∙ e) other_name)

  still_queue : (job : NewJob) → IsNewJob job → is_too_large job ≡ false → has_system state job.system ≡ true → (state.next == numbers_end) ≡ false → IsWellFormed (accept state (Queue job))
  still_queue job good small known free =
      let new = job_of state.next job in
      let sizes = or_parts (ltb most_bytes (length job.bytes)) (has_many_arguments job.kind) small in
      let fits : IsJob new = record {
        number = h.some_next;
        system = good.system;
        grade = good.grade;
        user = good.user;
        kind = kind_within job.kind good.kind sizes.1;
        queued = good.at;
        bytes = ltb-false most_bytes (length job.bytes) sizes.0;
      } in
      record {
        some_next = omega arith;
        next = below state.next h.next free;
        jobs = All-push IsJob state.jobs new h.jobs fits;
        rising = pairs_push (λ (a b : Job). a.number < b.number) state.jobs new h.below_next h.rising;
        below_next = All-push (λ (j : Job). j.number < state.next + 1) state.jobs new (All-weaker (λ (j : Job). j.number < state.next) (λ (j : Job). j.number < state.next + 1) (λ j l. omega (arith, l)) state.jobs h.below_next) (omega arith);
        placed = All-push (λ (j : Job). IsTrue (has_system state j.system)) state.jobs new h.placed known;
        definitions = h.definitions;
        calls = h.calls;
        by_name = h.by_name;
        hosts = h.hosts;
        by_host = h.by_host;
        links = h.links;
        linked = h.linked;
        taken = All-weaker (λ (link : Link). All (λ (row : Taken). row.job < state.next) link.taken) (λ (link : Link). All (λ (row : Taken). row.job < state.next + 1) link.taken) (λ link l. All-weaker (λ (row : Taken). row.job < state.next) (λ (row : Taken). row.job < state.next + 1) (λ row m. omega (arith, m)) link.taken l) state.links h.taken;
        by_link = h.by_link;
      }
    where
      below : (n : ℕ) → n ≤ numbers_end → (n == numbers_end) ≡ false → n + 1 ≤ numbers_end
      below n l e = grind (arith, nat_tests)

  still_filtered : (p : Job → Bool) → IsWellFormed (record state { jobs = filter p state.jobs })
  still_filtered p = record {
    some_next = h.some_next;
    next = h.next;
    jobs = All-filter p IsJob state.jobs h.jobs;
    rising = AllPairs-filter (λ (a b : Job). a.number < b.number) p state.jobs h.rising;
    below_next = All-filter p (λ (j : Job). j.number < state.next) state.jobs h.below_next;
    placed = All-filter p (λ (j : Job). IsTrue (has_system state j.system)) state.jobs h.placed;
    definitions = h.definitions;
    calls = h.calls;
    by_name = h.by_name;
    hosts = h.hosts;
    by_host = h.by_host;
    links = h.links;
    linked = h.linked;
    taken = h.taken;
    by_link = h.by_link;
  }

  still_changed : (number : ℕ) (change : Job → Job) → ((j : Job) → IsJob j → IsJob (change j)) → ((j : Job) → (change j).number ≡ j.number) → ((j : Job) → (change j).system ≡ j.system) → IsWellFormed (record state { jobs = change_job number change state.jobs })
  still_changed number change good same place = record {
    some_next = h.some_next;
    next = h.next;
    jobs = jobs_changed IsJob number change state.jobs good h.jobs;
    rising = jobs_rise number change state.jobs same h.rising;
    below_next = jobs_changed (λ (j : Job). j.number < state.next) number change state.jobs (λ j l. omega (arith, same j, l)) h.below_next;
    placed = jobs_changed (λ (j : Job). IsTrue (has_system state j.system)) number change state.jobs (λ j p. ap (λ n. has_system state n) (place j) ∙ p) h.placed;
    definitions = h.definitions;
    calls = h.calls;
    by_name = h.by_name;
    hosts = h.hosts;
    by_host = h.by_host;
    links = h.links;
    linked = h.linked;
    taken = h.taken;
    by_link = h.by_link;
  }

  still_called : (name : List ℕ) (change : SystemRow → CallState) → ((row : SystemRow) → IsDefinition row.def → IsCall row.call → IsCall (change row)) → IsWellFormed (record state { systems = change_call name change state.systems })
  still_called name change good = record {
    some_next = h.some_next;
    next = h.next;
    jobs = h.jobs;
    rising = h.rising;
    below_next = h.below_next;
    placed = All-weaker (λ (job : Job). IsTrue (has_system state job.system)) (λ (job : Job). IsTrue (list_any (is_system job.system) (change_call name change state.systems))) (λ job p. calls_any name change state.systems job.system p) state.jobs h.placed;
    definitions = calls_definitions name change state.systems h.definitions;
    calls = calls_calls name change state.systems good h.definitions h.calls;
    by_name = calls_in_order name change state.systems h.by_name;
    hosts = h.hosts;
    by_host = h.by_host;
    links = h.links;
    linked = All-weaker (λ (link : Link). IsTrue (has_system state link.name)) (λ (link : Link). IsTrue (list_any (is_system link.name) (change_call name change state.systems))) (λ link p. calls_any name change state.systems link.name p) state.links h.linked;
    taken = h.taken;
    by_link = h.by_link;
  }

  still_entry : (bytes : List ℕ) → IsWellFormed (accept state (Entry bytes))
  still_entry bytes = record {
    some_next = h.some_next;
    next = h.next;
    jobs = h.jobs;
    rising = h.rising;
    below_next = h.below_next;
    placed = h.placed;
    definitions = h.definitions;
    calls = h.calls;
    by_name = h.by_name;
    hosts = entry-kept (host_of bytes) bytes state.entries refl h.hosts;
    by_host = entries_in_order (host_of bytes) bytes state.entries h.by_host;
    links = h.links;
    linked = h.linked;
    taken = h.taken;
    by_link = h.by_link;
  }

  -- ---- links

  holds-all : All (Holds state.next) state.links
  holds-all k d inside =
      let good = h.links k d inside in
      record { below = good.below; numbers = good.numbers; rising = good.rising; at_least = good.at_least; jobs = h.taken k d inside }

  holds : (name : List ℕ) → Holds state.next (link_of state name)
  holds name = unwrap_has (Holds state.next) (find (is_link name) state.links) (new_link name) (found_has (Holds state.next) (is_link name) state.links holds-all) (new_holds state.next name)

  still_link : (link : Link) → Holds state.next link → IsTrue (has_system state link.name) → IsWellFormed (record state { links = put_link link state.links })
  still_link link good known = by-test (says_nothing link) refl
    where
      name : Link → List ℕ
      name other = other.name

      by-test : (t : Bool) → says_nothing link ≡ t → IsWellFormed (record state { links = cond t state.links (put_by (λ (other : Link). other.name) link state.links) })
      by-test true e = h
      by-test false e = record {
        some_next = h.some_next;
        next = h.next;
        jobs = h.jobs;
        rising = h.rising;
        below_next = h.below_next;
        placed = h.placed;
        definitions = h.definitions;
        calls = h.calls;
        by_name = h.by_name;
        hosts = h.hosts;
        by_host = h.by_host;
        links = put_all (λ (other : Link). other.name) link IsLink state.links (record { below = good.below; says = e; numbers = good.numbers; rising = good.rising; at_least = good.at_least }) h.links;
        linked = put_all (λ (other : Link). other.name) link (λ (other : Link). IsTrue (has_system state other.name)) state.links known h.linked;
        taken = put_all (λ (other : Link). other.name) link (λ (other : Link). All (λ (row : Taken). row.job < state.next) other.taken) state.links good.jobs h.taken;
        by_link = put_in_order (λ (other : Link). other.name) link state.links h.by_link;
      }

  link-known : (name : List ℕ) → has_system state name ≡ true → IsTrue (has_system state (link_of state name).name)
  link-known name e = ap (λ n. has_system state n) (link_named state.links name) ∙ e

still_once : (state : State) (key : Key) (job : NewJob) (other : Bool) → IsWellFormed state → IsKey key → IsNewJob job → first_reason (fresh_reasons (are_known state key job) state.next (link_of state key.from).below other key job) ≡ None → IsWellFormed (with_job_once (First state.next) key job state)
still_once state key job other h good fine e =
    let why = once_accepted (are_known state key job) state.next (link_of state key.from).below other key job e in
    let both = and_parts (has_system state key.from) (has_system state job.system) why.1 in
    let then = still_queue state h job fine why.0 both.1 why.2 in
    let old = holds state h key.from in
    let row : Taken = record { number = key.number; mark = key.mark; job = state.next } in
    let more = holds-more state.next (state.next + 1) (link_of state key.from) row (omega arith) old good.number good.mark h.some_next why.3 (omega arith) in
    still_link (with_job job state) then (with_taken row (link_of state key.from)) more (link-known state h key.from both.0)

failed-call : (row : SystemRow) (at : Moment) (why : List ℕ) → IsCommand (Failed row.def.name at why) → IsDefinition row.def → IsCall row.call → IsCall (failed_call row at why)
failed-call row at why good def call =
    record { last = good.0; failures = omega arith; wait = wait_within row.def at.week (one_more row.call.failures) def; outcome = good.1 }

done-call : (row : SystemRow) (at : Moment) → at.second ≤ 4102444800 → IsDefinition row.def → IsCall (done_call row at)
done-call row at good def = record { last = good; failures = omega arith; wait = def.limits.3; outcome = tt }

still_accepted : (state : State) (command : Command) → IsWellFormed state → IsCommand command → verdict state command ≡ None → IsWellFormed (accept state command)
still_accepted state (Define def) h good e = still_define state h def good
still_accepted state (Remove name) h good e = still_remove state h name (cond_none (is_waiting state name) _ _ (cond_none (not (has_system state name)) _ _ e).1).0
still_accepted state (Queue job) h good e =
    let first = cond_none (is_too_large job) _ _ e in
    let second = cond_none (not (has_system state job.system)) _ _ first.1 in
    still_queue state h job good first.0 (not-false (has_system state job.system) second.0) (cond_none (state.next == numbers_end) _ _ second.1).0
still_accepted state (QueueOnce key job) h good e = by_taken (taken_of state key) e
  where
    by_taken : (taken : Option Taken) → first_reason (once_reasons (are_known state key job) state.next (link_of state key.from).below taken key job) ≡ None → IsWellFormed (with_job_once (hand_in_of taken key state.next) key job state)
    by_taken None e = still_once state key job false h good.0 good.1 e
    by_taken (Some row) e = by-test (row.mark == key.mark) e
      where
        by-test : (t : Bool) → first_reason (cond t [] (fresh_reasons (are_known state key job) state.next (link_of state key.from).below (not t) key job)) ≡ None → IsWellFormed (with_job_once (cond t (Again row.job) (First state.next)) key job state)
        by-test true e = h
        by-test false e = still_once state key job true h good.0 good.1 e
still_accepted state (Kill job by) h good e = still_filtered state h (λ (other : Job). not (is_job job other))
still_accepted state (Regrade job grade by) h good e =
    still_changed state h job (λ other. record other { grade = grade }) (λ j p. record { number = p.number; system = p.system; grade = good; user = p.user; kind = p.kind; queued = p.queued; bytes = p.bytes }) (λ j. refl) (λ j. refl)
still_accepted state (Rejuvenate job at by) h good e =
    still_changed state h job (λ other. record other { queued = at.second }) (λ j p. record { number = p.number; system = p.system; grade = p.grade; user = p.user; kind = p.kind; queued = good; bytes = p.bytes }) (λ j. refl) (λ j. refl)
still_accepted state (Failed system at why) h good e = still_called state h system (λ row. failed_call row at why) (λ row def call. failed-call row at why good def call)
still_accepted state (Done system at jobs) h good e =
    still_called (record state { jobs = filter (λ (job : Job). not (is_among jobs job)) state.jobs }) (still_filtered state h (λ (job : Job). not (is_among jobs job))) system (λ row. done_call row at) (λ row def call. done-call row at good def)
still_accepted state (Release system jobs) h good e = still_filtered state h (λ (job : Job). not (is_released system jobs job))
still_accepted state (Entry bytes) h good e = still_entry state h bytes
still_accepted state (Forget system below) h good e =
    let known = not-false (has_system state system) (cond_none (not (has_system state system)) _ _ e).0 in
    still_link state h (forgotten below (link_of state system)) (holds_fewer state.next below (link_of state system) (holds state h system) good) (link-known state h system known)

pub still : (state : State) (command : Command) → IsCommand command → IsWellFormed state → IsWellFormed (after state command).0
still state command good h = by_verdict (verdict state command) refl
  where
    by_verdict : (v : Option Refusal) → verdict state command ≡ v → IsWellFormed (after_verdict v state command).0
    by_verdict None e = still_accepted state command h good e
    by_verdict (Some refusal) e = h

pub still_run : (state : State) (commands : List Command) → All IsCommand commands → IsWellFormed state → IsWellFormed (state_after state commands)
still_run state [] good h = h
still_run state (command ∷ commands) good h =
    still_run (after state command).0 commands (All-tail IsCommand command commands good) (still state command (All-head IsCommand command commands good) h)

pub still_empty : IsWellFormed empty
still_empty = record {
  some_next = omega arith;
  next = omega arith;
  jobs = All-nil IsJob;
  rising = pairs_nil (λ (a b : Job). a.number < b.number);
  below_next = All-nil (λ (job : Job). job.number < 1);
  placed = All-nil (λ (job : Job). IsTrue (has_system empty job.system));
  definitions = All-nil (λ (row : SystemRow). IsDefinition row.def);
  calls = All-nil (λ (row : SystemRow). IsCall row.call);
  by_name = pairs_nil (λ (a b : SystemRow). ComesBefore a.def.name b.def.name);
  hosts = All-nil (λ (entry : MapEntry). host_of entry.bytes ≡ Ok entry.host);
  by_host = pairs_nil (λ (a b : MapEntry). ComesBefore a.host b.host);
  links = All-nil IsLink;
  linked = All-nil (λ (link : Link). IsTrue (has_system empty link.name));
  taken = All-nil (λ (link : Link). All (λ (row : Taken). row.job < 1) link.taken);
  by_link = pairs_nil (λ (a b : Link). ComesBefore a.name b.name);
}
