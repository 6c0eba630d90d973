-- What the machine does to its lists.
use Rattle.std.proofs.Common.{◌≡◌, ℕ, suc, ◌+◌, ◌-◌, ◌<◌, ◌≤◌, Bool, true, false, not, cond, ◌==◌, List, [], ◌∷◌, ◌++◌, map, filter, find, length, take, drop, set, All, AllPairs, Option, Some, None, Result, Ok, Err, get_or, nat_cmp, nat_eq, OnErr, MatchResult, refl, ap, sym, ◌∙◌, subst, arith, is_some}
use Rattle.std.specs.declared.cmp.Ordering.TheVariants.{Less, Equal, Greater}
use Rattle.std.specs.declared.cmp.Ordering.{Ordering}
use Rattle.std.specs.Ordering.{is_lt, ordering_reverse}
use Rattle.std.specs.List.{insert}
use Rattle.std.specs.Cmp.Lexicographic.{slice_cmp, bytes_decides}
use Rattle.std.proofs.lemmas.Cmp.{nat_list_cmp_total}
use Rattle.std.proofs.lemmas.List.{take_more, drop_more, set-get_or, get_or-drop, get_or_default, length-drop, take-append-drop, append-nil, map-append, set_split, get_or-map}
use Rattle.std.proofs.lemmas.List.Edits.{map_over_more}
use Rattle.std.proofs.lemmas.List.Elements.{All-nil, All-cons, All-head, All-tail, All-weaker, All-append, filter-append}
use Rattle.std.proofs.lemmas.Bool.{eqb-true, or_parts, ltb-false}
use Rattle.std.proofs.lemmas.Bool.Decides.{nat_tests}
use Rattle.std.proofs.lemmas.Map.Keys.{IsDistinct-from_apart}
use Rattle.std.proofs.lemmas.List.{length-map}
use Rattle.uu_names.proofs.Basics.{filter_none, find_any, find_none, not_before_itself, is_some-find, pairs_first, pairs_rest, lt-eqb, filter_passing, cond_none}
use Rattle.uu_times.specs.declared.moment.Moment.{Moment}
use Rattle.uu_core.specs.declared.job.JobHead.{JobHead}
use Rattle.uu_core.specs.declared.custody.HandIn.{HandIn}
use Rattle.uu_core.specs.declared.custody.HandIn.TheVariants.{First, Again}
use Rattle.uu_core.specs.declared.custody.Key.{Key}
use Rattle.uu_core.specs.declared.custody.Taken.{Taken}
use Rattle.uu_core.specs.declared.job.NewJob.{NewJob}
use Rattle.uu_core.specs.declared.command.Command.{Command}
use Rattle.uu_core.specs.declared.command.Command.TheVariants.{Queue, QueueOnce, Failed, Done}
use Rattle.uu_core.specs.declared.command.Reply.{Reply}
use Rattle.uu_core.specs.declared.command.Reply.TheVariants.{Done as Carried, Number, Refused}
use Rattle.uu_core.specs.declared.refusal.Refusal.{Refusal}
use Rattle.uu_core.specs.declared.refusal.Refusal.TheVariants.{NoSystem}
use Rattle.uu_core.specs.declared.system.CallState.{CallState}
use Rattle.uu_core.specs.declared.system.SystemRow.{SystemRow}
use Rattle.uu_core.specs.Refusal.{decided, first_reason}
use Rattle.uu_core.specs.State.{State, Job, Link, link_of, taken_at, ComesBefore, is_job, is_system, system_at, has_system, head_of, numbers_end, most_bytes}
use Rattle.uu_core.specs.Verdict.{verdict, queue_reasons, once_reasons, are_known, taken_of, done_reasons, is_too_large, has_many_arguments}
use Rattle.uu_core.specs.After.{after, hand_in, hand_in_of, hand_in_number, with_job_once, is_before, put_by, change_job, change_call, is_among, failed_call, failed_decision, done_call, done_call_of}
use Rattle.uu_core.specs.Due.{HaveNumbers}
use Rattle.uu_core.specs.Run.{state_after, replies_to}
use Rattle.uu_core.specs.Order.{AreByName, IsInOrder}
use Rattle.uu_plain.specs.Lists.{IsGiven}
use Rattle.uu_core.proofs.RunLemmas.{states_append, replies_append, refused}
use Rattle.uu_core.proofs.DecisionLemmas.{carried, none_decided, some_decided, first_room}
use Rattle.uu_core.proofs.OrderLemmas.{still_in_order}

-- ---- the one system of a name

untouched : (name : List ℕ) (change : SystemRow → CallState) (rows : List SystemRow) → All (λ (row : SystemRow). is_system name row ≡ false) rows → change_call name change rows ≡ rows
untouched name change [] h = refl
untouched name change (row ∷ rows) h =
    ap (λ t. cond t (record row { call = change row }) row ∷ change_call name change rows) (All-head (λ (r : SystemRow). is_system name r ≡ false) row rows h)
    ∙ ap (λ rest. row ∷ rest) (untouched name change rows (All-tail (λ (r : SystemRow). is_system name r ≡ false) row rows h))

others : (name : List ℕ) (row : SystemRow) (rows : List SystemRow) → is_system name row ≡ true → All (λ (other : SystemRow). ComesBefore row.def.name other.def.name) rows → All (λ (other : SystemRow). is_system name other ≡ false) rows
others name row rows own later =
    All-weaker (λ (other : SystemRow). ComesBefore row.def.name other.def.name) (λ (other : SystemRow). is_system name other ≡ false) (λ other l. by-test other (is_system name other) refl l) rows later
  where
    by-test : (other : SystemRow) (t : Bool) → is_system name other ≡ t → ComesBefore row.def.name other.def.name → t ≡ false
    by-test other false e l = refl
    by-test other true e l =
        let here : row.def.name ≡ name = (bytes_decides row.def.name name).0 own in
        let there : other.def.name ≡ name = (bytes_decides other.def.name name).0 e in
        absurd (not_before_itself name (ap (λ n. slice_cmp nat_cmp n name) (sym here) ∙ ap (λ n. slice_cmp nat_cmp row.def.name n) (sym there) ∙ l))

-- one system has the name, so that what its calls become is what those of all systems of the name
-- become
pub called_once : (name : List ℕ) (change : SystemRow → CallState) (call : CallState) (rows : List SystemRow) → AreByName (λ (row : SystemRow). row.def.name) rows → ((row : SystemRow) → find (is_system name) rows ≡ Some row → change row ≡ call) → change_call name (λ _. call) rows ≡ change_call name change rows
called_once name change call [] ordered is = refl
called_once name change call (row ∷ rows) ordered is = by-test (is_system name row) refl is (called_once name change call rows (pairs_rest before row rows ordered))
  where
    before : SystemRow → SystemRow → Type 0
    before a b = ComesBefore a.def.name b.def.name

    by-test : (t : Bool) → is_system name row ≡ t → ((r : SystemRow) → cond t (Some row) (find (is_system name) rows) ≡ Some r → change r ≡ call) → (((r : SystemRow) → find (is_system name) rows ≡ Some r → change r ≡ call) → change_call name (λ _. call) rows ≡ change_call name change rows)
        → cond t (record row { call = call }) row ∷ change_call name (λ _. call) rows ≡ cond t (record row { call = change row }) row ∷ change_call name change rows
    by-test true e is again =
        let none = others name row rows e (pairs_first before row rows ordered) in
        ap (λ c. record row { call = c } ∷ change_call name (λ _. call) rows) (sym (is row refl))
        ∙ ap (λ rest. record row { call = change row } ∷ rest) (untouched name (λ _. call) rows none ∙ sym (untouched name change rows none))
    by-test false e is again = ap (λ rest. row ∷ rest) (again is)

-- ---- loops

-- the elements after a place come after the one at it
rest_after : {X : Type 0} (R : X → X → Type 0) (xs : List X) (i : ℕ) (d : X) → AllPairs R xs → i < length xs → All (R (get_or xs i d)) (drop (i + 1) xs)
rest_after R xs i d h within k e inside =
    let long : length (drop (i + 1) xs) ≡ length xs - (i + 1) = length-drop (i + 1) xs in
    rw (get_or-drop (i + 1) xs k e, get_or_default xs i d e within) (h i (i + 1 + k) e (omega arith) (omega (arith, long, inside)))

set_is : {V : Type 0} (all : List V) (i : ℕ) (item : V) → i < length all → set all i item ≡ take i all ++ item ∷ drop (i + 1) all
set_is all i item within =
    let next : suc i ≡ i + 1 = omega arith in
    set_split all i item within ∙ ap (λ n. take i all ++ item ∷ drop n all) next

-- the item goes between the items before it and those after it, instead of those of its name
put_among : {V : Type 0} (name : V → List ℕ) (item : V) (first same rest : List V) → All (λ x. slice_cmp nat_cmp (name item) (name x) ≡ Greater) first → All (λ x. slice_cmp nat_cmp (name item) (name x) ≡ Equal) same → All (λ x. slice_cmp nat_cmp (name item) (name x) ≡ Less) rest → first ++ item ∷ rest ≡ put_by name item (first ++ (same ++ rest))
put_among {V} name item first same rest f s r =
    ap (λ l. l ++ item ∷ rest) (sym firsts) ∙ ap (λ l. filter earlier (first ++ (same ++ rest)) ++ item ∷ l) (sym rests)
  where
    earlier : V → Bool
    earlier x = is_before name x item

    later : V → Bool
    later x = is_before name item x

    turned : (x : V) (o : Ordering) → slice_cmp nat_cmp (name item) (name x) ≡ o → earlier x ≡ is_lt (ordering_reverse o)
    turned x o e = ap is_lt (nat_list_cmp_total.antisymm (name x) (name item) ∙ ap ordering_reverse e)

    firsts : filter earlier (first ++ (same ++ rest)) ≡ first
    firsts =
        filter-append earlier first (same ++ rest)
        ∙ ap (λ l. l ++ filter earlier (same ++ rest)) (filter_passing earlier first (All-weaker (λ x. slice_cmp nat_cmp (name item) (name x) ≡ Greater) (λ x. earlier x ≡ true) (λ x e. turned x Greater e) first f))
        ∙ ap (λ l. first ++ l) (filter_none earlier (same ++ rest) (All-append (λ x. earlier x ≡ false) same rest
        (All-weaker (λ x. slice_cmp nat_cmp (name item) (name x) ≡ Equal) (λ x. earlier x ≡ false) (λ x e. turned x Equal e) same s)
        (All-weaker (λ x. slice_cmp nat_cmp (name item) (name x) ≡ Less) (λ x. earlier x ≡ false) (λ x e. turned x Less e) rest r)))
        ∙ append-nil first

    rests : filter later (first ++ (same ++ rest)) ≡ rest
    rests =
        filter-append later first (same ++ rest)
        ∙ ap (λ l. l ++ filter later (same ++ rest)) (filter_none later first (All-weaker (λ x. slice_cmp nat_cmp (name item) (name x) ≡ Greater) (λ x. later x ≡ false) (λ x e. ap is_lt e) first f))
        ∙ filter-append later same rest
        ∙ ap (λ l. l ++ filter later rest) (filter_none later same (All-weaker (λ x. slice_cmp nat_cmp (name item) (name x) ≡ Equal) (λ x. later x ≡ false) (λ x e. ap is_lt e) same s))
        ∙ filter_passing later rest (All-weaker (λ x. slice_cmp nat_cmp (name item) (name x) ≡ Less) (λ x. later x ≡ true) (λ x e. ap is_lt e) rest r)

-- what was made of the items, which are all there were
pub made_of : {X : Type 0} (make : List X → List X) (items all new whole : List X) → new ≡ make items → items ≡ all → make all ≡ whole → new ≡ whole
made_of make items all new whole e same f = e ∙ ap make same ∙ f

-- how the item compares with the one at a place: as the call that compares the two names answers
pub item_stands : {V : Type 0} (name : V → List ℕ) (item there : V) (items all : List V) (i : ℕ) (first second : List ℕ) (answer : Ordering) → items ≡ all → there ≡ get_or items i there → first ≡ name item → second ≡ name there → answer ≡ slice_cmp nat_cmp first second → slice_cmp nat_cmp (name item) (name (get_or all i there)) ≡ answer
item_stands name item there items all i first second answer same here f s a =
    ap (λ x. slice_cmp nat_cmp (name item) (name x)) (sym (here ∙ ap (λ l. get_or l i there) same))
    ∙ ap (λ n. slice_cmp nat_cmp n (name there)) (sym f)
    ∙ ap (λ n. slice_cmp nat_cmp first n) (sym s)
    ∙ sym a

module _ {V : Type 0} (name : V → List ℕ) (item : V) (all : List V) (i : ℕ) (d : V) where
  abbrev stands : Ordering → V → Type 0
  stands o x = slice_cmp nat_cmp (name item) (name x) ≡ o

  pub put_before : AreByName name all → All (stands Greater) (take i all) → i < length all → stands Less (get_or all i d) → insert all i item ≡ put_by name item all
  put_before ordered passed inside less =
      put_among name item (take i all) [] (drop i all) passed (All-nil (stands Equal)) rest ∙ ap (put_by name item) (take-append-drop i all)
    where
      rest : All (stands Less) (drop i all)
      rest = subst (All (stands Less)) (sym (drop_more all i d inside))
          (All-cons (stands Less) (get_or all i d) (drop (i + 1) all) less
          (All-weaker (λ x. ComesBefore (name (get_or all i d)) (name x)) (stands Less) (λ x l. nat_list_cmp_total.trans (name item) (name (get_or all i d)) (name x) less l)
          (drop (i + 1) all) (rest_after (λ a b. ComesBefore (name a) (name b)) all i d ordered inside)))

  pub put_instead : AreByName name all → All (stands Greater) (take i all) → i < length all → stands Equal (get_or all i d) → set all i item ≡ put_by name item all
  put_instead ordered passed inside equal =
      set_is all i item inside
      ∙ put_among name item (take i all) (get_or all i d ∷ []) (drop (i + 1) all) passed (All-cons (stands Equal) (get_or all i d) [] equal (All-nil (stands Equal))) rest
      ∙ ap (λ l. put_by name item (take i all ++ l)) (sym (drop_more all i d inside))
      ∙ ap (put_by name item) (take-append-drop i all)
    where
      rest : All (stands Less) (drop (i + 1) all)
      rest = All-weaker (λ x. ComesBefore (name (get_or all i d)) (name x)) (stands Less) (λ x l. nat_list_cmp_total.congr (name item) (name (get_or all i d)) (name x) equal ∙ l)
          (drop (i + 1) all) (rest_after (λ a b. ComesBefore (name a) (name b)) all i d ordered inside)

pub put_last : {V : Type 0} (name : V → List ℕ) (item : V) (all : List V) → All (λ x. slice_cmp nat_cmp (name item) (name x) ≡ Greater) all → all ++ item ∷ [] ≡ put_by name item all
put_last name item all passed =
    put_among name item all [] [] passed (All-nil (λ x. slice_cmp nat_cmp (name item) (name x) ≡ Equal)) (All-nil (λ x. slice_cmp nat_cmp (name item) (name x) ≡ Less))
    ∙ ap (put_by name item) (append-nil all)

pub call_set : (name : List ℕ) (call : CallState) (rows all : List SystemRow) (i : ℕ) (row new : SystemRow) → AreByName (λ (r : SystemRow). r.def.name) all → All (λ (r : SystemRow). is_system name r ≡ false) (take i all) → rows ≡ all → new ≡ record row { call = call } → i < length all → row ≡ get_or all i row → is_system name row ≡ true → set rows i new ≡ change_call name (λ _. call) all
call_set name call rows all i row new ordered passed same is within here own =
    ap (λ l. set l i new) same
    ∙ set_is all i new within
    ∙ ap (λ l. l ++ new ∷ drop (i + 1) all) (sym (untouched name (λ _. call) (take i all) passed))
    ∙ ap (λ l. change_call name (λ _. call) (take i all) ++ new ∷ l) (sym (untouched name (λ _. call) (drop (i + 1) all) none))
    ∙ ap (λ r. change_call name (λ _. call) (take i all) ++ r ∷ change_call name (λ _. call) (drop (i + 1) all)) (is ∙ ap (λ t. cond t (record row { call = call }) row) (sym own))
    ∙ sym (map-append one (take i all) (row ∷ drop (i + 1) all))
    ∙ ap (λ r. change_call name (λ _. call) (take i all ++ r ∷ drop (i + 1) all)) here
    ∙ ap (λ l. change_call name (λ _. call) (take i all ++ l)) (sym (drop_more all i row within))
    ∙ ap (change_call name (λ _. call)) (take-append-drop i all)
  where
    one : SystemRow → SystemRow
    one r = cond (is_system name r) (record r { call = call }) r

    none : All (λ (r : SystemRow). is_system name r ≡ false) (drop (i + 1) all)
    none = others name row (drop (i + 1) all) own
        (subst (λ (r : SystemRow). All (λ (other : SystemRow). ComesBefore r.def.name other.def.name) (drop (i + 1) all)) (sym here)
        (rest_after (λ (a b : SystemRow). ComesBefore a.def.name b.def.name) all i row ordered within))

pub no_call_set : (name : List ℕ) (call : CallState) (rows : List SystemRow) → All (λ (r : SystemRow). is_system name r ≡ false) rows → rows ≡ change_call name (λ _. call) rows
no_call_set name call rows none = sym (untouched name (λ _. call) rows none)

-- ---- a job that is handed in

-- why it is accepted: it is small enough, and a number is left
pub queue_accepted : (known : Bool) (next : ℕ) (job : NewJob) (number : ℕ) → Ok number ≡ decided (queue_reasons known next job) next → (length job.bytes ≤ most_bytes) × ((next == numbers_end) ≡ false) × (next ≡ number)
queue_accepted known next job number e =
    let d = none_decided (queue_reasons known next job) next number (sym e) in
    let first = cond_none (is_too_large job) _ _ d.0 in
    let second = cond_none (not known) _ _ first.1 in
    (ltb-false most_bytes (length job.bytes) (or_parts _ (has_many_arguments job.kind) first.0).0, (cond_none (next == numbers_end) _ _ second.1).0, d.1)

pub queue_refused : (state : State) (job : NewJob) (known : Bool) (refusal : Refusal) → known ≡ has_system state job.system → Err refusal ≡ decided (queue_reasons known state.next job) state.next → (state, Refused refusal) ≡ after state (Queue job)
queue_refused state job known refusal k e =
    sym (refused state (Queue job) refusal (ap (λ b. first_reason (queue_reasons b state.next job)) (sym k) ∙ some_decided (queue_reasons known state.next job) state.next refusal (sym e)))

-- ---- a job that is handed in under a key

-- what was decided on what was found is what the definitions decide
module _ (state : State) (key : Key) (job : NewJob) (known : Bool) (link : Link) (below : ℕ) (taken : Option Taken) (k : known ≡ are_known state key job) (l : link ≡ link_of state key.from) (b : below ≡ link.below) (t : taken ≡ taken_at link key.number) where
  pub once_found : (hand_in_of taken key state.next ≡ hand_in state key) × (first_reason (once_reasons known state.next below taken key job) ≡ verdict state (QueueOnce key job))
  once_found =
      let same : taken ≡ taken_of state key = t ∙ ap (λ (x : Link). taken_at x key.number) l in (
        ap (λ row. hand_in_of row key state.next) same,
        ap (λ known. first_reason (once_reasons known state.next below taken key job)) k
            ∙ ap (λ n. first_reason (once_reasons (are_known state key job) state.next n taken key job)) (b ∙ ap (λ (x : Link). x.below) l)
            ∙ ap (λ row. first_reason (once_reasons (are_known state key job) state.next (link_of state key.from).below row key job)) same,
      )

  pub once_accepts : (comes : HandIn) → Ok comes ≡ decided (once_reasons known state.next below taken key job) (hand_in_of taken key state.next) → (hand_in state key ≡ comes) × (verdict state (QueueOnce key job) ≡ None)
  once_accepts comes e =
      let d = none_decided (once_reasons known state.next below taken key job) (hand_in_of taken key state.next) comes (sym e) in
      (sym once_found.0 ∙ d.1, sym once_found.1 ∙ d.0)

  pub once_refused : (refusal : Refusal) → Err refusal ≡ decided (once_reasons known state.next below taken key job) (hand_in_of taken key state.next) → (state, Refused refusal) ≡ after state (QueueOnce key job)
  once_refused refusal e =
      sym (refused state (QueueOnce key job) refusal (sym once_found.1 ∙ some_decided (once_reasons known state.next below taken key job) (hand_in_of taken key state.next) refusal (sym e)))

  pub once_again : (number : ℕ) → Ok (Again number) ≡ decided (once_reasons known state.next below taken key job) (hand_in_of taken key state.next) → (state, Number number) ≡ after state (QueueOnce key job)
  once_again number e =
      let d = once_accepts (Again number) e in
      sym (carried state (QueueOnce key job) d.1 ∙ ap (λ comes. (with_job_once comes key job state, Number (hand_in_number comes))) d.0)

  pub once_first : {E : Type 0} (number : ℕ) (result : Result Reply E) (new : State) → Ok (First number) ≡ decided (once_reasons known state.next below taken key job) (hand_in_of taken key state.next)
      → MatchResult result (λ reply. (new ≡ with_job_once (First number) key job state) × (reply ≡ Number number)) (λ _. new ≡ state) → IsGiven state (QueueOnce key job) result new
  once_first number (Ok reply) new e m =
      let d = once_accepts (First number) e in
      ap (λ s. (s, reply)) m.0 ∙ ap (λ r. (with_job_once (First number) key job state, r)) m.1
      ∙ sym (carried state (QueueOnce key job) d.1 ∙ ap (λ comes. (with_job_once comes key job state, Number (hand_in_number comes))) d.0)
  once_first number (Err fault) new e m = m

pub first_accepted : (known : Bool) (next below : ℕ) (taken : Option Taken) (key : Key) (job : NewJob) (number : ℕ) → Ok (First number) ≡ decided (once_reasons known next below taken key job) (hand_in_of taken key next) → (length job.bytes ≤ most_bytes) × ((next == numbers_end) ≡ false) × (next ≡ number)
first_accepted known next below taken key job number e =
    let room = first_room known next below taken key job number e in
    (ltb-false most_bytes (length job.bytes) (or_parts _ (has_many_arguments job.kind) room.0).0, room.1, room.2)

-- ---- reports of calls

pub failed_accepted : (state : State) (name : List ℕ) (at : Moment) (why : List ℕ) (found : Option SystemRow) (call : CallState) (rows : List SystemRow) → IsInOrder state → found ≡ system_at state name → Ok call ≡ failed_decision found at why → rows ≡ change_call name (λ _. call) state.systems → (record state { systems = rows }, Carried) ≡ after state (Failed name at why)
failed_accepted state name at why None call rows h f e r = absurd apart
  where
    apart : ⊥
    apart = cc
failed_accepted state name at why (Some row) call rows h f e r =
    ap (λ systems. (record state { systems = systems }, Carried)) (r ∙ called_once name (λ other. failed_call other at why) call state.systems h.by_name same)
    ∙ sym (carried state (Failed name at why) accepted)
  where
    is-call : call ≡ failed_call row at why
    is-call = cc

    same : (other : SystemRow) → find (is_system name) state.systems ≡ Some other → failed_call other at why ≡ call
    same other q =
        let t : Some row ≡ Some other = f ∙ q in
        let s : row ≡ other = cc in
        ap (λ (o : SystemRow). failed_call o at why) (sym s) ∙ sym is-call

    accepted : verdict state (Failed name at why) ≡ None
    accepted = ap (λ b. cond (not b) (Some NoSystem) None) (find_any (is_system name) state.systems row (sym f))

pub failed_refused : (state : State) (name : List ℕ) (at : Moment) (why : List ℕ) (found : Option SystemRow) (refusal : Refusal) → found ≡ system_at state name → Err refusal ≡ failed_decision found at why → (state, Refused refusal) ≡ after state (Failed name at why)
failed_refused state name at why None refusal f e =
    sym (refused state (Failed name at why) refusal (ap (λ b. cond (not b) (Some NoSystem) None) (find_none (is_system name) state.systems (sym f)) ∙ ap Some same))
  where
    same : NoSystem ≡ refusal
    same = cc
failed_refused state name at why (Some row) refusal f e = absurd apart
  where
    apart : ⊥
    apart = cc

done_once : (found : Option SystemRow) (row : SystemRow) (at : Moment) → found ≡ Some row → done_call row at ≡ done_call_of found at
done_once found row at is = ap (λ o. done_call_of o at) (sym is)

pub done_accepted : (state : State) (name : List ℕ) (at : Moment) (numbers : List ℕ) (found : Option SystemRow) (heads : List JobHead) (call : CallState) (jobs : List Job) (rows : List SystemRow) → IsInOrder state → found ≡ system_at state name → heads ≡ map head_of state.jobs → Ok call ≡ decided (done_reasons (is_some found) name numbers heads) (done_call_of found at) → jobs ≡ filter (λ (job : Job). not (is_among numbers job)) state.jobs → rows ≡ change_call name (λ _. call) state.systems → (record state { jobs = jobs; systems = rows }, Carried) ≡ after state (Done name at numbers)
done_accepted state name at numbers found heads call jobs rows h f hs e j r =
    let known = is_some found in
    let k = ap is_some f ∙ is_some-find (is_system name) state.systems in
    let d = none_decided (done_reasons known name numbers heads) (done_call_of found at) call (sym e) in
    ap (λ js. (record state { jobs = js; systems = rows }, Carried)) j
    ∙ ap (λ systems. (record state { jobs = filter (λ (job : Job). not (is_among numbers job)) state.jobs; systems = systems }, Carried)) (r ∙ called_once name (λ other. done_call other at) call state.systems h.by_name (λ other q. done_once found other at (f ∙ q) ∙ d.1))
    ∙ sym (carried state (Done name at numbers) (ap (λ b. first_reason (done_reasons b name numbers (map head_of state.jobs))) (sym k) ∙ ap (λ l. first_reason (done_reasons known name numbers l)) (sym hs) ∙ d.0))

pub done_refused : (state : State) (name : List ℕ) (at : Moment) (numbers : List ℕ) (found : Option SystemRow) (heads : List JobHead) (refusal : Refusal) → found ≡ system_at state name → heads ≡ map head_of state.jobs → Err refusal ≡ decided (done_reasons (is_some found) name numbers heads) (done_call_of found at) → (state, Refused refusal) ≡ after state (Done name at numbers)
done_refused state name at numbers found heads refusal f hs e =
    let known = is_some found in
    let k = ap is_some f ∙ is_some-find (is_system name) state.systems in
    sym (refused state (Done name at numbers) refusal (ap (λ b. first_reason (done_reasons b name numbers (map head_of state.jobs))) (sym k) ∙ ap (λ l. first_reason (done_reasons known name numbers l)) (sym hs) ∙ some_decided (done_reasons known name numbers heads) (done_call_of found at) refusal (sym e)))

-- ---- the machine

pub given_in_order : {E : Type 0} (old new : State) (command : Command) (result : Result Reply E) → IsInOrder old → IsGiven old command result new → IsInOrder new
given_in_order old new command (Ok reply) h g = subst IsInOrder (sym (ap (λ (p : State × Reply). p.0) g)) (still_in_order old command h)
given_in_order old new command (Err fault) h g = subst IsInOrder (sym g) h

number_at : (jobs : List Job) (k : ℕ) (job : Job) (d : ℕ) → k < length jobs → get_or (map (λ (head : JobHead). head.number) (map head_of jobs)) k d ≡ (get_or jobs k job).number
number_at jobs k job d within =
    let n : length (map head_of jobs) ≡ length jobs = length-map jobs head_of in
    get_or-map (λ (head : JobHead). head.number) (map head_of jobs) k (head_of job) d (omega (arith, n, within)) ∙ ap (λ (head : JobHead). head.number) (get_or-map head_of jobs k job (head_of job) within)

numbers_differ : (jobs : List Job) (job : Job) → AllPairs (λ (a b : Job). a.number < b.number) jobs → (i j d : ℕ) → i < j → j < length (map (λ (head : JobHead). head.number) (map head_of jobs)) → nat_eq (get_or (map (λ (head : JobHead). head.number) (map head_of jobs)) i d) (get_or (map (λ (head : JobHead). head.number) (map head_of jobs)) j d) ≡ false
numbers_differ jobs job h i j d below inside =
    let n : length (map head_of jobs) ≡ length jobs = length-map jobs head_of in
    let m : length (map (λ (head : JobHead). head.number) (map head_of jobs)) ≡ length (map head_of jobs) = length-map (map head_of jobs) (λ (head : JobHead). head.number) in
    let within : j < length jobs = omega (arith, n, m, inside) in
    let first : i < length jobs = omega (arith, below, within) in
    lt-eqb _ _ (omega (arith, number_at jobs i job d first, number_at jobs j job d within, h i j job below within))

pub have_numbers : (jobs : List Job) → AllPairs (λ (a b : Job). a.number < b.number) jobs → HaveNumbers (map head_of jobs)
have_numbers [] h = IsDistinct-from_apart nat_eq [] (λ i j d below inside. absurd (omega (arith, inside)))
have_numbers (job ∷ jobs) h = IsDistinct-from_apart nat_eq (map (λ (head : JobHead). head.number) (map head_of (job ∷ jobs))) (numbers_differ (job ∷ jobs) job h)

-- ---- runs

pub state_more : (first : State) (seen : List Command) (command : Command) (self new : State) (reply : Reply) → self ≡ state_after first seen → (new, reply) ≡ after self command → new ≡ state_after first (seen ++ command ∷ [])
state_more first seen command self new reply s g =
    ap (λ (p : State × Reply). p.0) g ∙ ap (λ t. (after t command).0) s ∙ sym (states_append first seen (command ∷ []))

pub replies_more : (first : State) (seen : List Command) (command : Command) (self new : State) (reply : Reply) (replies : List Reply) → self ≡ state_after first seen → (new, reply) ≡ after self command → replies ≡ replies_to first seen → replies ++ reply ∷ [] ≡ replies_to first (seen ++ command ∷ [])
replies_more first seen command self new reply replies s g r =
    ap (λ rs. rs ++ reply ∷ []) r
    ∙ ap (λ a. replies_to first seen ++ a ∷ []) (ap (λ (p : State × Reply). p.1) g ∙ ap (λ t. (after t command).1) s)
    ∙ sym (replies_append first seen (command ∷ []))

map-same : {X : Type 0} (xs : List X) → map (λ x. x) xs ≡ xs
map-same [] = refl
map-same (x ∷ xs) = ap (λ rest. x ∷ rest) (map-same xs)

pub seen_first : (seen all : List Command) → map (λ c. c) seen ≡ take (length seen) all → seen ≡ take (length seen) all
seen_first seen all e = sym (map-same seen) ∙ e

pub seen_more : (seen all : List Command) (command : Command) → seen ≡ take (length seen) all → length seen < length all → command ≡ get_or all (length seen) command → seen ++ command ∷ [] ≡ take (length seen + 1) all
seen_more seen all command e within here =
    ap (λ s. s ++ command ∷ []) e ∙ ap (λ c. take (length seen) all ++ c ∷ []) here ∙ sym (take_more all (length seen) command within)

-- ---- loops over jobs

pub own_number : (head item number : ℕ) → head ≡ item → head ≡ number → (item == number) ≡ true
own_number head item number h e = grind (arith, nat_tests)

pub other_number : (head item number : ℕ) → head ≡ item → (head ≡ number → ⊥) → (item == number) ≡ false
other_number head item number h e = by-test (item == number) refl
  where
    by-test : (t : Bool) → (item == number) ≡ t → t ≡ false
    by-test false q = refl
    by-test true q = absurd (e (h ∙ eqb-true item number q))

pub job_changed : (number : ℕ) (change : Job → Job) (all jobs : List Job) (i : ℕ) (job new : Job) → i < length all → jobs ≡ change_job number change (take i all) ++ drop i all → job ≡ get_or jobs i job → is_job number job ≡ true → new ≡ change job → set jobs i new ≡ change_job number change (take (i + 1) all) ++ drop (i + 1) all
job_changed number change all jobs i job new within so_far here own is =
    ap (λ n. set jobs i n) (is ∙ ap (λ t. cond t (change job) job) (sym own))
    ∙ map_over_more (λ other. cond (is_job number other) (change other) other) all jobs i job within so_far here

pub job_passed : (number : ℕ) (change : Job → Job) (all jobs : List Job) (i : ℕ) (job : Job) → i < length all → jobs ≡ change_job number change (take i all) ++ drop i all → job ≡ get_or jobs i job → is_job number job ≡ false → jobs ≡ change_job number change (take (i + 1) all) ++ drop (i + 1) all
job_passed number change all jobs i job within so_far here other =
    sym (set-get_or jobs i job)
    ∙ ap (λ j. set jobs i j) (sym here ∙ ap (λ t. cond t (change job) job) (sym other))
    ∙ map_over_more (λ other. cond (is_job number other) (change other) other) all jobs i job within so_far here

-- ---- an answer that is an error

pub err_holds : {T E P : Type 0} (r : Result T E) → P → OnErr r P
err_holds (Ok x) p = tt
err_holds (Err e) p = p
