-- What is found after a stop.
use Rattle.std.proofs.Common.{◌≡◌, ◌⊎◌, ◌≤◌, inl, inr, ℕ, ◌+◌, List, [], ◌∷◌, ◌++◌, length, take, drop, Option, Some, None, refl, sym, ap, subst, ◌∙◌, append-nil, arith}
use Rattle.std.proofs.Math.Logic.{∥∥₁_elim, ∥∥₁_map}
use Rattle.std.proofs.lemmas.List.{take_all, length-append, length-take, take-append-drop}
use Rattle.sqlite.specs.Schema.{Schema}
use Rattle.sqlite.specs.Tree.{Trees}
use Rattle.sqlite.specs.Held.{state}
use Rattle.sqlite.specs.State as db
use Rattle.sqlite_catalog.specs.Listing.{IsSound}
use Rattle.uu_schema.specs.Objects.{IsSimple}
use Rattle.uu_schema.specs.Steps.{Stands, Rests}
use Rattle.uu_schema.proofs.Objects.{one_schema}
use Rattle.uu_core.specs.declared.command.Command.{Command}
use Rattle.uu_core.specs.State.{State}
use Rattle.uu_core.specs.Run.{state_after, replies_to}
use Rattle.uu_schema.specs.declared.version.Version.{Version}
use Rattle.uu_schema.specs.declared.version.Version.TheVariants.{First, Second, Third, Fourth}
use Rattle.uu_schema.specs.Schema.{no_schema}
use Rattle.uu_schema.specs.declared.fault.StoreFault.{StoreFault}
use Rattle.uu_schema.specs.declared.fault.StoreFault.TheVariants.{Memory, Store, Failed, Foreign, Newer}
use Rattle.uu_schema.specs.Earlier.{schema_of}
use Rattle.uu_store.specs.Kept.{Stores, Keeps, KeepsOnly, KeepsEither}
use Rattle.uu_store.specs.Spool.{disk, Shows}
use Rattle.uu_store.specs.Runs.{GoesOn}
use Rattle.uu_store.specs.Exchanges.{Exchange, HasNothingInHand, Counts, Passes}
use Rattle.uu_store.specs.Stretches.{Stretch, opened_as, left_by, Worked, Unworked, Passed, Reopens, LeadTo, exchanges, StoresThroughout, AllStore, StoresAfter}
use Rattle.uu_store.proofs.Running.{StatesFollow, RepliesFollow, take_past, replies_length}

pub simple_of : (v : Version) → IsSimple (schema_of v)
simple_of First = record { views = refl; keys = (omega arith, (omega arith, (omega arith, (omega arith, (omega arith, (omega arith, (omega arith, tt))))))) }
simple_of Second = record { views = refl; keys = (omega arith, (omega arith, (omega arith, (omega arith, (omega arith, (omega arith, (omega arith, (omega arith, tt)))))))) }
simple_of Third = record { views = refl; keys = (omega arith, (omega arith, (omega arith, (omega arith, (omega arith, (omega arith, (omega arith, (omega arith, (omega arith, (omega arith, tt)))))))))) }
simple_of Fourth = record { views = refl; keys = (omega arith, (omega arith, (omega arith, (omega arith, (omega arith, (omega arith, (omega arith, tt))))))) }

pub simple_none : IsSimple no_schema
simple_none = record { views = refl; keys = tt }

-- the schema that an opening reads is the one that was written
pub stands_again : (known : Schema) → IsSimple known → (found : db.State) → db.IsLive found → Rests found → IsSound known found.now.trees → Stands known found.now
stands_again known simple found live rests sound = record { schema = one_schema found.now.trees known found.now.schema simple sound (live rests.is_open).0; sound = sound }

pub stores_of : (found : db.State) (s : State) → db.IsLive found → Rests found → Keeps found.now.trees s → Stores found.now s
stores_of found s live rests (inl it) = inl (it.0, record { stands = stands_again (schema_of it.0) (simple_of it.0) found live rests it.1; holds = it.2 })
stores_of found s live rests (inr it) = inr (stands_again no_schema simple_none found live rests it.0, it.1)

pub stores_either : (could_leave : Trees → Type 0) (found : db.State) → Reopens could_leave found → (s t : State) → KeepsEither could_leave s t → ∥ Stores found.now s ⊎ Stores found.now t ∥₁
stores_either could_leave found r s t keeps = ∥∥₁_map r.left (λ left. either (keeps found.now.trees left))
  where
    either : Keeps found.now.trees s ⊎ Keeps found.now.trees t → Stores found.now s ⊎ Stores found.now t
    either (inl h) = inl (stores_of found s r.live r.rests h)
    either (inr h) = inr (stores_of found t r.live r.rests h)

-- ---- one stretch

goes_or_not : (fault : Option StoreFault) → GoesOn fault ⊎ (¬ GoesOn fault)
goes_or_not None = inl tt
goes_or_not (Some Memory) = inl tt
goes_or_not (Some (Store kind)) = inr (λ h. h)
goes_or_not (Some Failed) = inr (λ h. h)
goes_or_not (Some Foreign) = inr (λ h. h)
goes_or_not (Some Newer) = inr (λ h. h)

-- what a stretch that began with a state may leave: the state after one of two lists of commands,
-- both of which count
pub record LeavesTwo (it : Stretch) (s : State) : Type 0 where
  pub one : List Command
  pub other : List Command
  pub keeps : KeepsEither (left_by it) (state_after s one) (state_after s other)
  pub counts_one : Counts it.exchange s one
  pub counts_other : Counts it.exchange s other

module _ (answers_follow : RepliesFollow) (s : State) (it : Exchange) (k : ℕ) (is : length it.replies ≡ k) (within : (k ≡ length it.commands) ⊎ (k + it.in_hand ≤ length it.commands)) (answers : it.replies ≡ replies_to s (take k it.commands)) where
  counts_first : Counts it s (take k it.commands)
  counts_first = record {
    rest = drop k it.commands;
    prefix = sym (take-append-drop k it.commands);
    unheard = [];
    whole = inl refl;
    settled = λ _. refl;
    answers = sym answers ∙ sym (append-nil it.replies);
  }

  -- the request in hand, if the store failed: all of its commands, unless every command was answered
  counts_next : (¬ HasNothingInHand it.ending) → Counts it s (take (k + it.in_hand) it.commands)
  counts_next loose = elim within [ inl every ↦ subst (Counts it s) (sym (same every)) counts_first | inr ahead ↦ whole_request ahead ]
    where
      same : k ≡ length it.commands → take (k + it.in_hand) it.commands ≡ take k it.commands
      same every = take_all (k + it.in_hand) it.commands (omega (arith, every)) ∙ sym (take_all k it.commands (omega (arith, every)))

      request : List Command
      request = take it.in_hand (drop k it.commands)

      whole_request : k + it.in_hand ≤ length it.commands → Counts it s (take (k + it.in_hand) it.commands)
      whole_request ahead = record {
        rest = drop (k + it.in_hand) it.commands;
        prefix = sym (take-append-drop (k + it.in_hand) it.commands);
        unheard = replies_to (state_after s (take k it.commands)) request;
        whole = inr (replies_length (state_after s (take k it.commands)) request ∙ count);
        settled = λ h. absurd (loose h);
        answers = ap (replies_to s) next ∙ answers_follow s (take k it.commands) request ∙ ap (λ l. l ++ replies_to (state_after s (take k it.commands)) request) (sym answers);
      }
        where
          given : k ≡ length (take k it.commands)
          given = let n = length-take k it.commands in omega (arith, n, ahead)

          next : take (k + it.in_hand) it.commands ≡ take k it.commands ++ request
          next = ap (take (k + it.in_hand)) (sym (take-append-drop k it.commands)) ∙ take_past (take k it.commands) (drop k it.commands) k it.in_hand given

          count : length request ≡ it.in_hand
          count = let n = length-take it.in_hand (drop k it.commands) in let all = ap length (take-append-drop k it.commands) in let sum = length-append (take k it.commands) (drop k it.commands) in omega (arith, n, all, sum, given, ahead)

module _ (answers_follow : RepliesFollow) (it : Stretch) (s : State) (passed : Passed it) (rests : Rests (opened_as it)) (stores : Stores (opened_as it).now s) where
  abbrev k : ℕ
  k = length it.exchange.replies

  worked : Worked it → LeavesTwo it s
  worked w =
      let clean : db.HasCleanDisk (disk w.ended) = omega (arith, w.let_go.clean, passed.clean) in
      let shows : Shows w.begun s = w.adopted.shows (omega (arith, w.ran.clean, clean)) s rests stores in
      let from = w.ran.from clean s shows in
      let first = counts_first answers_follow s it.exchange k refl w.ran.within from.answers in
      elim (goes_or_not w.fault) [
        | inl on ↦ (record {
          one = take k it.exchange.commands;
          other = take k it.exchange.commands;
          keeps = λ trees may. (let left = from.stop on trees (w.let_go.left trees may) in inl (inl (Fourth, left.0, left.1)));
          counts_one = first;
          counts_other = first;
        })
        | inr loose ↦ (record {
          one = take k it.exchange.commands;
          other = take (k + it.exchange.in_hand) it.exchange.commands;
          keeps = λ trees may. (let left = from.stop_store trees (w.let_go.left trees may) in elim left.1 [ inl h ↦ inl (inl (Fourth, left.0, h)) | inr h ↦ inr (inl (Fourth, left.0, h)) ]);
          counts_one = first;
          counts_other = counts_next answers_follow s it.exchange k refl w.ran.within from.answers (λ h. loose (subst HasNothingInHand w.ending h));
        })
      ]

  unworked : Unworked it → LeavesTwo it s
  unworked w = record { one = []; other = []; keeps = λ trees may. inl (w.turned_away.stop clean s rests stores trees (w.let_go.left trees may)); counts_one = none; counts_other = none }
    where
      clean : db.HasCleanDisk (state it.store w.last)
      clean = omega (arith, w.let_go.clean, passed.clean)

      none : Counts it.exchange s []
      none = record { rest = it.exchange.commands; prefix = refl; unheard = []; whole = inl refl; settled = λ _. refl; answers = ap (λ l. l ++ []) (sym w.no_reply) }

  pub leaves_two : LeavesTwo it s
  leaves_two = elim passed.work [ inl w ↦ worked w | inr w ↦ unworked w ]

-- of one of the two states that a stretch may leave, the commands that count
pub counted : (it : Stretch) (s : State) (l : LeavesTwo it s) (t : State) → (t ≡ state_after s l.one) ⊎ (t ≡ state_after s l.other) → (here : List Command) × Counts it.exchange s here × (t ≡ state_after s here)
counted it s l t (inl is) = (l.one, l.counts_one, is)
counted it s l t (inr is) = (l.other, l.counts_other, is)

-- ---- any sequence of stretches

-- from one of two states on
abbrev GoesFrom : State → State → List Stretch → db.State → Type 0
GoesFrom a b more found = (t : State) × ((t ≡ a) ⊎ (t ≡ b)) × AllStore t more found

abbrev Goes : (Trees → Type 0) → List Stretch → db.State → Type 0
Goes could_leave more found = (a b : State) → KeepsEither could_leave a b → ∥ GoesFrom a b more found ∥₁

module _ (answers : RepliesFollow) where
  one_more : (it : Stretch) (more : List Stretch) (found : db.State) (s : State) → Passed it → Rests (opened_as it) → Stores (opened_as it).now s → Goes (left_by it) more found → ∥ AllStore s (it ∷ more) found ∥₁
  one_more it more found s passed rests stores goes = let l = leaves_two answers it s passed rests stores in ∥∥₁_map (goes (state_after s l.one) (state_after s l.other) l.keeps) (next l)
    where
      next : (l : LeavesTwo it s) → GoesFrom (state_after s l.one) (state_after s l.other) more found → AllStore s (it ∷ more) found
      next l (t, which, (later, then)) =
          let c = counted it s l t which in
          (c.0 ++ later, (rests, stores, c.0, later, refl, c.1, subst (λ u. StoresThroughout u more found later) c.2 then))

  passes : (stretches : List Stretch) (could_leave : Trees → Type 0) (found : db.State) → LeadTo could_leave stretches found → Goes could_leave stretches found
  passes [] could_leave found reopens a b keeps = ∥∥₁_map (stores_either could_leave found reopens a b keeps) ends
    where
      ends : Stores found.now a ⊎ Stores found.now b → GoesFrom a b [] found
      ends (inl h) = (a, inl refl, ([], (refl, reopens.rests, h)))
      ends (inr h) = (b, inr refl, ([], (refl, reopens.rests, h)))
  passes (it ∷ more) could_leave found lead a b keeps = ∥∥₁_elim (stores_either could_leave (opened_as it) lead.0 a b keeps) squash₁ (next (passes more (left_by it) found lead.2))
    where
      next : Goes (left_by it) more found → Stores (opened_as it).now a ⊎ Stores (opened_as it).now b → ∥ GoesFrom a b (it ∷ more) found ∥₁
      next goes (inl h) = ∥∥₁_map (one_more it more found a lead.1 lead.0.rests h goes) (λ then. (a, inl refl, then))
      next goes (inr h) = ∥∥₁_map (one_more it more found b lead.1 lead.0.rests h goes) (λ then. (b, inr refl, then))

  pub all_store : (stretches : List Stretch) (could_leave : Trees → Type 0) (found : db.State) (s : State) → KeepsOnly could_leave s → LeadTo could_leave stretches found → ∥ AllStore s stretches found ∥₁
  all_store stretches could_leave found s leaves lead = ∥∥₁_map (passes stretches could_leave found lead s s (λ trees may. inl (leaves trees may))) same
    where
      same : GoesFrom s s stretches found → AllStore s stretches found
      same (t, which, then) = let is : t ≡ s = elim which [ inl h ↦ h | inr h ↦ h ] in subst (λ u. AllStore u stretches found) is then

-- so the last opening found the state after the commands that count
pub at_last : StatesFollow → (stretches : List Stretch) (found : db.State) (s : State) (counted : List Command) → StoresThroughout s stretches found counted → Passes s (exchanges stretches) counted × Rests found × Stores found.now (state_after s counted)
at_last states [] found s counted (none, rests, stores) = (none, rests, subst (λ l. Stores found.now (state_after s l)) (sym none) stores)
at_last states (it ∷ more) found s counted (was, stored, here, later, is, counts, then) =
    let rest = at_last states more found (state_after s here) later then in
    ((here, later, is, counts, rest.0), rest.1, subst (Stores found.now) (sym (ap (state_after s) is ∙ states s here later)) rest.2)

pub passes_from : StatesFollow → RepliesFollow → (stretches : List Stretch) (could_leave : Trees → Type 0) (found : db.State) (s : State) → KeepsOnly could_leave s → LeadTo could_leave stretches found → ∥ StoresAfter s (exchanges stretches) found ∥₁
passes_from states answers stretches could_leave found s leaves lead =
    ∥∥₁_map (all_store answers stretches could_leave found s leaves lead) (λ all. (let it = at_last states stretches found s all.0 all.1 in (all.0, it.0, it.1, it.2)))

-- ---- what could be left is there

abbrev pub Outcome : (Trees → Type 0) → Type 0
Outcome could_leave = (trees : Trees) × could_leave trees

pub left_somehow : (stretches : List Stretch) (could_leave : Trees → Type 0) (found : db.State) → LeadTo could_leave stretches found → ∥ Outcome could_leave ∥₁
left_somehow [] could_leave found reopens = ∥∥₁_map reopens.left (λ left. (found.now.trees, left))
left_somehow (it ∷ more) could_leave found lead = ∥∥₁_map lead.0.left (λ left. ((opened_as it).now.trees, left))
