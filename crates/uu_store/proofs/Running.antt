-- Commands over a spool, one after the other.
use Rattle.std.proofs.Common.{◌≡◌, ◌⊎◌, ◌≤◌, inl, inr, ℕ, zero, suc, ◌+◌, true, false, true≢false, List, [], ◌∷◌, ◌++◌, length, take, Option, Some, None, Result, Ok, Err, refl, sym, ap, subst, ◌∙◌, append_assoc, append-nil, arith}
use Rattle.std.specs.Prelude.{IfOk}
use Rattle.std.proofs.lemmas.List.{length-append, length-take, take_all}
use Rattle.std.proofs.Math.Seq.{take-append_seam}
use Rattle.sqlite.specs.Store.{Ghosts}
use Rattle.sqlite.specs.State as db
use Rattle.uu_core.specs.declared.command.Command.{Command}
use Rattle.uu_core.specs.declared.command.Reply.{Reply}
use Rattle.uu_core.specs.State.{State}
use Rattle.uu_core.specs.After.{after}
use Rattle.uu_core.specs.Run.{state_after, replies_to}
use Rattle.uu_schema.specs.declared.fault.StoreFault.{StoreFault}
use Rattle.uu_schema.specs.declared.fault.StoreFault.TheVariants.{Memory, Store, Failed, Foreign, Newer}
use Rattle.uu_store.specs.declared.spool.Spool.{Spool}
use Rattle.uu_schema.specs.Steps.{StaysUnclean}
use Rattle.uu_schema.specs.Encoded.{Leaves, LeavesEither}
use Rattle.uu_store.specs.Spool.{disk, has_failed, Shows}
use Rattle.uu_store.specs.Runs.{GoesOn, RanFrom, Ran, fault_in}
use Rattle.uu_adopt.proofs.Settling.{Settles, leaves}

-- ---- the first of a list

pub take_every : {A : Type 0} (xs : List A) (n : ℕ) → n ≡ length xs → take n xs ≡ xs
take_every xs n is = ap (λ k. take k xs) is ∙ ap (take (length xs)) (sym (append-nil xs)) ∙ take-append_seam xs []

pub take_front : {A : Type 0} (all front back : List A) (n : ℕ) → all ≡ front ++ back → n ≡ length front → take n all ≡ front
take_front all front back n is count = ap (take n) is ∙ ap (λ k. take k (front ++ back)) count ∙ take-append_seam front back

pub take_next : {A : Type 0} (all front back : List A) (x : A) (n : ℕ) → all ≡ front ++ x ∷ back → n ≡ length front → take (n + 1) all ≡ front ++ x ∷ []
take_next all front back x n is count =
    take_front all (front ++ x ∷ []) back (n + 1) (is ∙ sym (append_assoc front (x ∷ []) back)) (let e = length-append front (x ∷ []) in omega (arith, e, count))

-- past the end of the first list
pub take_past : {A : Type 0} (one other : List A) (m n : ℕ) → m ≡ length one → take (m + n) (one ++ other) ≡ one ++ take n other
take_past [] other m n is = ap (λ k. take (k + n) other) is ∙ ap (λ k. take k other) (omega arith)
take_past (x ∷ one) other zero n is = absurd (omega (arith, is))
take_past (x ∷ one) other (suc m) n is = ap (λ k. take k (x ∷ one ++ other)) (let e : suc m + n ≡ suc (m + n) = omega arith in e) ∙ ap (λ l. x ∷ l) (take_past one other m n (omega (arith, is)))

-- ---- the machine's laws that are used

abbrev pub StatesFollow : Type 0
StatesFollow = (state : State) (first second : List Command) → state_after state (first ++ second) ≡ state_after (state_after state first) second

abbrev pub RepliesFollow : Type 0
RepliesFollow = (state : State) (first second : List Command) → replies_to state (first ++ second) ≡ replies_to state first ++ replies_to (state_after state first) second

pub replies_length : (s : State) (commands : List Command) → length (replies_to s commands) ≡ length commands
replies_length s [] = refl
replies_length s (command ∷ commands) = ap suc (replies_length (after s command).0 commands)

pub memory_of : (fault : StoreFault) → GoesOn (Some fault) → fault ≡ Memory
memory_of Memory on = refl
memory_of (Store kind) on = absurd on
memory_of Failed on = absurd on
memory_of Foreign on = absurd on
memory_of Newer on = absurd on

-- no command was answered: there is none, or the request in hand is among them
abbrev pub IsAhead : ℕ → List Command → Type 0
IsAhead in_hand commands = (0 ≡ length commands) ⊎ (0 + in_hand ≤ length commands)

pub one_ahead : (commands : List Command) → IsAhead 1 commands
one_ahead [] = inl refl
one_ahead (command ∷ commands) = inr (omega arith)

-- ---- a run so far

-- each command that was given so far was answered, as the machine answers it
pub record Running {S : Type 0} {g : Ghosts S} (old now : Spool S g) (given : List Command) (replies : List Reply) : Type 0 where
  pub was : has_failed old ≡ false
  pub usable : has_failed now ≡ false
  pub count : length replies ≡ length given
  pub shows : db.HasCleanDisk (disk now) → (s : State) → Shows old s → (replies ≡ replies_to s given) × Shows now (state_after s given)
  pub clean : StaysUnclean (disk old) (disk now)

module _ {S : Type 0} {g : Ghosts S} (old : Spool S g) where
  pub running_more : StatesFollow → RepliesFollow → (mid now : Spool S g) (given : List Command) (command : Command) (replies : List Reply) (reply : Reply) → Running old mid given replies → has_failed now ≡ false
      → (db.HasCleanDisk (disk now) → (s : State) → Shows mid s → (reply ≡ (after s command).1) × Shows now (after s command).0) → StaysUnclean (disk mid) (disk now) → Running old now (given ++ command ∷ []) (replies ++ reply ∷ [])
  running_more states answers mid now given command replies reply r usable step stays = record {
    was = r.was;
    usable = usable;
    count = let a = length-append given (command ∷ []) in let b = length-append replies (reply ∷ []) in let n = r.count in omega (arith, a, b, n);
    shows = λ clean s shows.
        let was = r.shows (omega (arith, stays, clean)) s shows in
        let it = step clean (state_after s given) was.1 in
        (ap (λ l. l ++ reply ∷ []) was.0 ∙ ap (λ x. replies_to s given ++ x ∷ []) it.0 ∙ sym (answers s given (command ∷ [])), subst (Shows now) (sym (states s given (command ∷ []))) it.1);
    clean = omega (arith, r.clean, stays);
  }

  -- ---- how it ends

  module _ (commands : List Command) where
    pub ran_every : (now : Spool S g) (given : List Command) (replies : List Reply) → Settles (disk now) → given ≡ commands → Running old now given replies → Ran 1 commands old now replies None
    ran_every now given replies settles all r = record { within = inl count; from = from; clean = r.clean }
      where
        count : length replies ≡ length commands
        count = r.count ∙ ap length all

        first : take (length replies) commands ≡ given
        first = take_every commands (length replies) count ∙ sym all

        from : db.HasCleanDisk (disk now) → (s : State) → Shows old s → RanFrom 1 s commands now replies None
        from clean s shows =
            let it = r.shows clean s shows in
            let here : Shows now (state_after s (take (length replies) commands)) = subst (λ l. Shows now (state_after s l)) (sym first) it.1 in
            let stop = leaves _ (disk now) settles here.rests here.encodes in
            record {
              answers = it.0 ∙ ap (replies_to s) (sym first);
              shows = λ on. here;
              stop = λ on. stop;
              stop_store = λ trees may. (let left = stop trees may in (left.0, inl left.1));
            }

    pub ran_stopped : StatesFollow → (mid now : Spool S g) (given : List Command) (command : Command) (rest : List Command) (replies : List Reply) (result : Result Reply StoreFault) (fault : StoreFault)
        → commands ≡ given ++ command ∷ rest → Running old mid given replies → result ≡ Err fault
        → (db.HasCleanDisk (disk now) → (s : State) → Shows mid s → result ≡ Err Memory → Shows now s)
        → (db.HasCleanDisk (disk now) → (s : State) → Shows mid s → result ≡ Err Memory → Leaves (disk now) s)
        → (db.HasCleanDisk (disk now) → (s : State) → Shows mid s → LeavesEither (disk now) s (after s command).0)
        → StaysUnclean (disk mid) (disk now) → Ran 1 commands old now replies (Some fault)
    ran_stopped states mid now given command rest replies result fault all r is memory stop_memory stop_store stays = record { within = inr (omega (arith, less, r.count)); from = from; clean = omega (arith, r.clean, stays) }
      where
        first : take (length replies) commands ≡ given
        first = take_front commands given (command ∷ rest) (length replies) all r.count

        next : take (length replies + 1) commands ≡ given ++ command ∷ []
        next = take_next commands given rest command (length replies) all r.count

        less : length commands ≡ length given + length (command ∷ rest)
        less = ap length all ∙ length-append given (command ∷ rest)

        from : db.HasCleanDisk (disk now) → (s : State) → Shows old s → RanFrom 1 s commands now replies (Some fault)
        from clean s shows =
            let it = r.shows (omega (arith, stays, clean)) s shows in
            record {
              answers = it.0 ∙ ap (replies_to s) (sym first);
              shows = λ on. subst (λ l. Shows now (state_after s l)) (sym first) (memory clean (state_after s given) it.1 (is ∙ ap Err (memory_of fault on)));
              stop = λ on. subst (λ l. Leaves (disk now) (state_after s l)) (sym first) (stop_memory clean (state_after s given) it.1 (is ∙ ap Err (memory_of fault on)));
              stop_store =
                  subst (λ t. LeavesEither (disk now) (state_after s (take (length replies) commands)) t) (sym (ap (state_after s) next ∙ states s given (command ∷ [])))
                  (subst (λ l. LeavesEither (disk now) (state_after s l) (after (state_after s given) command).0) (sym first) (stop_store clean (state_after s given) it.1));
            }

    -- nothing was given
    unstarted : (in_hand : ℕ) → IsAhead in_hand commands → (fault : StoreFault) → ((s : State) → Shows old s → Leaves (disk old) s) → Ran in_hand commands old old [] (Some fault)
    unstarted in_hand ahead fault stop = record {
      within = ahead;
      from = λ clean s shows. (record { answers = refl; shows = λ on. shows; stop = λ on. stop s shows; stop_store = λ trees may. (let it = stop s shows trees may in (it.0, inl it.1)) });
      clean = omega arith;
    }

    pub ran_failed : (in_hand : ℕ) → IsAhead in_hand commands → has_failed old ≡ true → Ran in_hand commands old old [] (Some Failed)
    ran_failed in_hand ahead failed = unstarted in_hand ahead Failed (λ s shows. absurd (true≢false (sym failed ∙ shows.usable)))

-- ---- one call

-- what a call lists of its answer
abbrev pub listed_in : {R : Type 0} → (R → List Reply) → Result R StoreFault → List Reply
listed_in listed (Ok answer) = listed answer
listed_in listed (Err fault) = []

-- commands that are done as one: a command alone, or those of a bundle
module _ {S : Type 0} {g : Ghosts S} {R : Type 0} (old new : Spool S g) (in_hand : ℕ) (commands : List Command) (listed : R → List Reply) (all : in_hand ≡ length commands) (settles : Settles (disk new)) (stays : StaysUnclean (disk old) (disk new)) where
  pub ran_as_one : (result : Result R StoreFault) → IfOk result (λ answer. length (listed answer) ≡ length commands)
      → (db.HasCleanDisk (disk new) → (s : State) → Shows old s → IfOk result (λ answer. (listed answer ≡ replies_to s commands) × Shows new (state_after s commands)))
      → (db.HasCleanDisk (disk new) → (s : State) → Shows old s → result ≡ Err Memory → Shows new s)
      → (db.HasCleanDisk (disk new) → (s : State) → Shows old s → LeavesEither (disk new) s (state_after s commands)) → Ran in_hand commands old new (listed_in listed result) (fault_in result)
  ran_as_one (Ok answer) every step memory stop = record { within = inl every; from = from; clean = stays }
    where
      whole : take (length (listed answer)) commands ≡ commands
      whole = take_every commands (length (listed answer)) every

      from : db.HasCleanDisk (disk new) → (s : State) → Shows old s → RanFrom in_hand s commands new (listed answer) None
      from clean s shows =
          let it = step clean s shows in
          let here : Shows new (state_after s (take (length (listed answer)) commands)) = subst (λ l. Shows new (state_after s l)) (sym whole) it.1 in
          let left = leaves _ (disk new) settles here.rests here.encodes in
          record { answers = it.0 ∙ ap (replies_to s) (sym whole); shows = λ on. here; stop = λ on. left; stop_store = λ trees may. (let l = left trees may in (l.0, inl l.1)) }
  ran_as_one (Err fault) every step memory stop = record { within = inr (omega (arith, all)); from = from; clean = stays }
    where
      whole : take (0 + in_hand) commands ≡ commands
      whole = take_every commands (0 + in_hand) (omega (arith, all))

      from : db.HasCleanDisk (disk new) → (s : State) → Shows old s → RanFrom in_hand s commands new [] (Some fault)
      from clean s shows =
          let same = λ (on : GoesOn (Some fault)). memory clean s shows (ap Err (memory_of fault on)) in
          record {
            answers = refl;
            shows = same;
            stop = λ on. (let it = same on in leaves s (disk new) settles it.rests it.encodes);
            stop_store = subst (λ l. LeavesEither (disk new) s (state_after s l)) (sym whole) (stop clean s shows);
          }

-- a question
pub ran_asked : {S : Type 0} {g : Ghosts S} (old now : Spool S g) (stopped : Option StoreFault) → (db.HasCleanDisk (disk now) → (s : State) → Shows old s → GoesOn stopped → Shows now s)
    → (db.HasCleanDisk (disk now) → (s : State) → Shows old s → Leaves (disk now) s) → StaysUnclean (disk old) (disk now) → Ran 1 [] old now [] stopped
ran_asked old now stopped shown left stays = record {
  within = inl refl;
  from = λ clean s shows.
      record { answers = refl; shows = shown clean s shows; stop = λ on. left clean s shows; stop_store = λ trees may. (let it = left clean s shows trees may in (it.0, inl it.1)) };
  clean = stays;
}

-- no more replies came than there are commands
pub no_more_than : (in_hand : ℕ) (commands : List Command) (replies : List Reply) → (length replies ≡ length commands) ⊎ (length replies + in_hand ≤ length commands) → length replies ≤ length commands
no_more_than in_hand commands replies (inl is) = omega (arith, is)
no_more_than in_hand commands replies (inr less) = omega (arith, less)

-- ---- one run after another, if the first answered every command

module _ (states : StatesFollow) (answers : RepliesFollow) {S : Type 0} {g : Ghosts S} (first_hand in_hand : ℕ) (old mid new : Spool S g) (one other : List Command) (first second : List Reply) (was stopped : Option StoreFault) where
  pub ran_then : length first ≡ length one → GoesOn was → Ran first_hand one old mid first was → Ran in_hand other mid new second stopped → Ran in_hand (one ++ other) old new (first ++ second) stopped
  ran_then every on p q = record { within = within q.within; from = from; clean = omega (arith, p.clean, q.clean) }
    where
      lengths : length (first ++ second) ≡ length first + length second
      lengths = length-append first second

      within : (length second ≡ length other) ⊎ (length second + in_hand ≤ length other) → (length (first ++ second) ≡ length (one ++ other)) ⊎ (length (first ++ second) + in_hand ≤ length (one ++ other))
      within (inl is) = inl (omega (arith, lengths, length-append one other, is, every))
      within (inr less) = inr (omega (arith, lengths, length-append one other, less, every))

      joined : (n m : ℕ) → m ≡ length first + n → take m (one ++ other) ≡ one ++ take n other
      joined n m is = ap (λ k. take k (one ++ other)) is ∙ take_past one other (length first) n every

      after_is : (s : State) (n m : ℕ) → m ≡ length first + n → state_after s (take m (one ++ other)) ≡ state_after (state_after s one) (take n other)
      after_is s n m is = ap (state_after s) (joined n m is) ∙ states s one (take n other)

      whole : take (length first) one ≡ one
      whole = take_every one (length first) every

      from : db.HasCleanDisk (disk new) → (s : State) → Shows old s → RanFrom in_hand s (one ++ other) new (first ++ second) stopped
      from clean s shows =
          let early : db.HasCleanDisk (disk mid) = omega (arith, q.clean, clean) in
          let a = p.from early s shows in
          let b = q.from clean (state_after s one) (subst (λ l. Shows mid (state_after s l)) whole (a.shows on)) in
          let here = after_is s (length second) (length (first ++ second)) lengths in
          let next = after_is s (length second + in_hand) (length (first ++ second) + in_hand) (omega (arith, lengths)) in
          record {
            answers = ap (λ l. l ++ second) (a.answers ∙ ap (replies_to s) whole) ∙ ap (λ l. replies_to s one ++ l) b.answers ∙ sym (answers s one (take (length second) other)) ∙ ap (replies_to s) (sym (joined (length second) (length (first ++ second)) lengths));
            shows = λ go. subst (Shows new) (sym here) (b.shows go);
            stop = λ go. subst (Leaves (disk new)) (sym here) (b.stop go);
            stop_store = subst (λ t. LeavesEither (disk new) t (state_after s (take (length (first ++ second) + in_hand) (one ++ other)))) (sym here)
                (subst (LeavesEither (disk new) (state_after (state_after s one) (take (length second) other))) (sym next) b.stop_store);
          }

-- ---- the commands that were answered in a run that ended because memory ran out

module _ {S : Type 0} {g : Ghosts S} (in_hand : ℕ) (old new : Spool S g) (commands : List Command) (replies : List Reply) (was : Option StoreFault) (on : GoesOn was) (ran : Ran in_hand commands old new replies was) where
  abbrev k : ℕ
  k = length replies

  pub ran_answered_alone : Ran in_hand (take k commands) old new replies None
  ran_answered_alone = record { within = inl (sym many); from = from; clean = ran.clean }
    where
      many : length (take k commands) ≡ k
      many = let n = length-take k commands in let few = no_more_than in_hand commands replies ran.within in omega (arith, n, few)

      same : take k (take k commands) ≡ take k commands
      same = take_all k (take k commands) (omega (arith, many))

      from : db.HasCleanDisk (disk new) → (s : State) → Shows old s → RanFrom in_hand s (take k commands) new replies None
      from clean s shows =
          let it = ran.from clean s shows in
          let left = it.stop on in
          record {
            answers = it.answers ∙ ap (replies_to s) (sym same);
            shows = λ _. subst (λ l. Shows new (state_after s l)) (sym same) (it.shows on);
            stop = λ _. subst (λ l. Leaves (disk new) (state_after s l)) (sym same) left;
            stop_store = subst (λ l. LeavesEither (disk new) (state_after s l) (state_after s (take (k + in_hand) (take k commands)))) (sym same)
                (λ trees may. let there = left trees may in (there.0, inl there.1));
          }

-- ---- in a run that answered every command, any request may be the one in hand

pub ran_any_hand : {S : Type 0} {g : Ghosts S} (in_hand other : ℕ) (old new : Spool S g) (commands : List Command) (replies : List Reply) (stopped : Option StoreFault) → length replies ≡ length commands → GoesOn stopped
    → Ran in_hand commands old new replies stopped → Ran other commands old new replies stopped
ran_any_hand in_hand other old new commands replies stopped every on ran = record {
  within = inl every;
  from = λ clean s shows.
      let it = ran.from clean s shows in
      record { answers = it.answers; shows = it.shows; stop = it.stop; stop_store = λ trees may. (let left = it.stop on trees may in (left.0, inl left.1)) };
  clean = ran.clean;
}
