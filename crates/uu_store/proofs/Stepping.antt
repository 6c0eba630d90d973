-- A command of a spool, and a bundle: the facts are asked first, and then it is carried out.
use Rattle.std.specs.declared.alloc.Global.{Global}
use Rattle.std.proofs.Common.{◌≡◌, ◌⊎◌, ◌∙◌, inl, inr, ◌+◌, Bool, false, List, [], ◌∷◌, length, Result, Ok, Err, arith, refl, ap, sym, subst}
use Rattle.std.specs.Prelude.{IfOk, MatchResult, Vec}
use Rattle.std.proofs.lemmas.List.{length-map}
use Rattle.std.proofs.lemmas.Result.{IfOk-weaker}
use Rattle.sqlite.specs.Store.{Ghosts}
use Rattle.sqlite.specs.Tree.{Trees}
use Rattle.sqlite.specs.State as db
use Rattle.sqlite_catalog.specs.Listing.{IsSound}
use Rattle.uu_core.specs.declared.command.Command.{Command}
use Rattle.uu_core.specs.declared.command.Reply.{Reply}
use Rattle.uu_core.specs.declared.take_in.TakeIn.{TakeIn}
use Rattle.uu_core.specs.State.{State, IsWellFormed}
use Rattle.uu_core.specs.After.{after}
use Rattle.uu_core.specs.Run.{state_after, replies_to}
use Rattle.uu_core.specs.TakeIns.{offering, commands_in, after_take_in}
use Rattle.uu_schema.specs.declared.fault.StoreFault.{StoreFault}
use Rattle.uu_schema.specs.declared.fault.StoreFault.TheVariants.{Memory}
use Rattle.uu_schema.specs.Encoded.{HoldsState, Leaves}
use Rattle.uu_schema.specs.Schema.{spool_schema}
use Rattle.uu_schema.specs.Steps.{StaysUnclean}
use Rattle.uu_schema.proofs.Resting.{is_memory}
use Rattle.uu_statements.specs.Step.{IsToldStep, HasTables}
use Rattle.uu_adopt.proofs.Settling.{Settles, leaves, leaves_either}
use Rattle.uu_store.specs.declared.spool.Spool.{Spool}
use Rattle.uu_store.specs.Spool.{disk, has_failed, Shows, IsFaultBetween}
use Rattle.uu_store.specs.Commands.{IsStep, IsCommandStep, IsTakingStep}
use Rattle.uu_store.specs.Questions.{IsQuestion}
use Rattle.uu_store.specs.Runs.{Ran, reply_in, replies_in, fault_in}
use Rattle.uu_store.proofs.Ending.{noted_memory}
use Rattle.uu_store.proofs.Running.{IsAhead, listed_in, ran_as_one}

-- a call ended so that the spool can be used, or with this fault, which was noted
abbrev pub IsNoted : {T : Type 0} → Result T StoreFault → Bool → Type 0
IsNoted r failed = MatchResult r (λ _. failed ≡ false) (IsFaultBetween false failed)

usable_ok : {T : Type 0} (r : Result T StoreFault) (failed : Bool) (P : T → Type 0) (Q : T → Type 0) → IsNoted r failed → (failed ≡ false → (answer : T) → P answer → Q answer) → IfOk r P → IfOk r Q
usable_ok (Ok answer) failed P Q noted step it = step noted answer it
usable_ok (Err fault) failed P Q noted step it = tt

usable_memory : {T : Type 0} (r : Result T StoreFault) (failed : Bool) → IsNoted r failed → r ≡ Err Memory → failed ≡ false
usable_memory (Ok answer) failed noted is = absurd (cc)
usable_memory (Err fault) failed noted is = noted_memory false failed fault noted (is_memory fault is)

-- the same, if it hadn't failed before
pub is_between : {T : Type 0} (r : Result T StoreFault) (before failed : Bool) → before ≡ false → IsNoted r failed → MatchResult r (λ _. (before ≡ false) × (failed ≡ false)) (IsFaultBetween before failed)
is_between (Ok answer) before failed was noted = (was, noted)
is_between (Err fault) before failed was noted = subst (λ b. IsFaultBetween b failed fault) (sym was) noted

module _ {S : Type 0} {g : Ghosts S} {R : Type 0} (s t : State) (IsReply : R → Type 0) where
  -- there was no memory to plan the changes
  pub unplanned : (spool : Spool S g) → Settles (disk spool) → IsStep s t IsReply spool spool (Err Memory)
  unplanned spool settles = record {
    ok = λ clean shows. tt;
    memory = λ clean shows is. shows;
    stop = λ clean shows trees may. (let it = leaves s (disk spool) settles shows.rests shows.encodes trees may in (it.0, inl it.1));
  }

  -- this is the answer
  pub answered_by : (reply : R) → (IsWellFormed s → IsReply reply) → (old now : Spool S g) (r : Result R StoreFault) → IsStep s t (λ answer. answer ≡ reply) old now r → IsStep s t IsReply old now r
  answered_by reply is old now r step = record {
    ok = λ clean shows. IfOk-weaker r _ _ (λ answer it. (subst IsReply (sym it.0) (is shows.encodes.holds.good), it.1)) (step.ok clean shows);
    memory = step.memory;
    stop = step.stop;
  }

  -- the facts were asked before
  pub asked_before : {F : Type 0} (IsFact : State → F → Type 0) (facts : F) (old mid now : Spool S g) (r : Result R StoreFault) → IsQuestion IsFact old mid (Ok facts) → (IsFact s facts → IsStep s t IsReply mid now r)
      → StaysUnclean (disk mid) (disk now) → IsStep s t IsReply old now r
  asked_before IsFact facts old mid now r asked step stays = record {
    ok = λ clean shows. let it = asked.answer (before clean) s shows in (step it.0).ok clean it.1;
    memory = λ clean shows is. let it = asked.answer (before clean) s shows in (step it.0).memory clean it.1 is;
    stop = λ clean shows. let it = asked.answer (before clean) s shows in (step it.0).stop clean it.1;
  }
    where
      before : db.HasCleanDisk (disk now) → db.HasCleanDisk (disk mid)
      before clean = omega (arith, clean, stays)

  -- the facts could not be asked
  pub unasked : {F : Type 0} (IsFact : State → F → Type 0) (old now : Spool S g) (fault : StoreFault) → IsQuestion {T = F} IsFact old now (Err fault) → IsStep s t IsReply old now (Err fault)
  unasked IsFact old now fault asked = record {
    ok = λ clean shows. tt;
    memory = λ clean shows is. asked.memory clean s shows (ap Err (is_memory fault is));
    stop = λ clean shows trees may. (let it = asked.stop clean s shows trees may in (it.0, inl it.1));
  }

-- the changes were made in one transaction
pub changed : {S : Type 0} {g : Ghosts S} {R : Type 0} (s t : State) (reply : R) (old now : Spool S g) (r : Result R StoreFault) → Settles (disk old) → IsNoted r (has_failed now)
    → (IsWellFormed s → IsToldStep s t reply (disk old) (disk now) r × IsWellFormed t) → IsStep s t (λ answer. answer ≡ reply) old now r
changed {S} {g} s t reply old now r settles noted told = record {
  ok = λ clean shows. usable_ok r (has_failed now) _ _ noted (λ usable answer it. (
    it.0,
    record {
      usable = usable;
      rests = it.1;
      encodes = record { stands = it.2.stands; holds = record { tables = it.2.holds; good = good shows } };
    },
  )) ((step shows).ok clean shows.rests (tables shows));
  memory = λ clean shows is.
      let it = (step shows).memory clean shows.rests (tables shows) is in
      record { usable = usable_memory r (has_failed now) noted is; rests = it.0; encodes = record { stands = it.1.stands; holds = record { tables = it.1.holds; good = shows.encodes.holds.good } } };
  stop = λ clean shows. leaves_either s t (disk old) (disk now) settles shows.rests shows.encodes (stop clean shows);
}
  where
    step : Shows old s → IsToldStep s t reply (disk old) (disk now) r
    step shows = (told shows.encodes.holds.good).0

    good : Shows old s → IsWellFormed t
    good shows = (told shows.encodes.holds.good).1

    tables : Shows old s → HasTables (disk old).now s
    tables shows = record { stands = shows.encodes.stands; holds = shows.encodes.holds.tables }

    stop : db.HasCleanDisk (disk now) → Shows old s → (trees : Trees) → (disk now).may_leave trees → (disk old).may_leave trees ⊎ (IsSound spool_schema trees × HoldsState trees t)
    stop clean shows trees may = elim ((step shows).stop clean shows.rests (tables shows) trees may) [
      | inl was ↦ inl was
      | inr made ↦ inr (made.0, record { tables = made.1; good = good shows })
    ]

-- ---- what follows in any state that the spool shows

module _ {S : Type 0} {g : Ghosts S} {R : Type 0} (commands : List Command) (listed : R → List Reply) (old now : Spool S g) (r : Result R StoreFault) (settles : Settles (disk now))
    (steps : (s : State) → IsStep s (state_after s commands) (λ answer. listed answer ≡ replies_to s commands) old now r)
  where
    pub stops_ok : db.HasCleanDisk (disk now) → (s : State) → Shows old s → IfOk r (λ _. Leaves (disk now) (state_after s commands))
    stops_ok clean s shows = IfOk-weaker r _ _ (λ answer it. leaves (state_after s commands) (disk now) settles it.1.rests it.1.encodes) ((steps s).ok clean shows)

    pub stops_memory : db.HasCleanDisk (disk now) → (s : State) → Shows old s → r ≡ Err Memory → Leaves (disk now) s
    stops_memory clean s shows is = let it = (steps s).memory clean shows is in leaves s (disk now) settles it.rests it.encodes

    pub ran_whole : IfOk r (λ answer. length (listed answer) ≡ length commands) → StaysUnclean (disk old) (disk now) → Ran (length commands) commands old now (listed_in listed r) (fault_in r)
    ran_whole every stays =
        ran_as_one old now (length commands) commands listed refl settles stays r every (λ clean s. (steps s).ok clean) (λ clean s. (steps s).memory clean) (λ clean s. (steps s).stop clean)

-- ---- a command alone

abbrev one_reply : Reply → List Reply
one_reply reply = reply ∷ []

module _ {S : Type 0} {g : Ghosts S} (command : Command) (old now : Spool S g) (r : Result Reply StoreFault) (settles : Settles (disk now)) (steps : (s : State) → IsCommandStep s command old now r) where
  listed_step : (s : State) → IsStep s (state_after s (command ∷ [])) (λ reply. one_reply reply ≡ replies_to s (command ∷ [])) old now r
  listed_step s = record {
    ok = λ clean shows. IfOk-weaker r _ _ (λ reply it. (ap one_reply it.0, it.1)) ((steps s).ok clean shows);
    memory = (steps s).memory;
    stop = (steps s).stop;
  }

  pub command_stops_ok : db.HasCleanDisk (disk now) → (s : State) → Shows old s → IfOk r (λ _. Leaves (disk now) (after s command).0)
  command_stops_ok = stops_ok (command ∷ []) one_reply old now r settles listed_step

  pub command_stops_memory : db.HasCleanDisk (disk now) → (s : State) → Shows old s → r ≡ Err Memory → Leaves (disk now) s
  command_stops_memory = stops_memory (command ∷ []) one_reply old now r settles listed_step

  pub ran_alone : StaysUnclean (disk old) (disk now) → Ran 1 (command ∷ []) old now (reply_in r) (fault_in r)
  ran_alone stays = subst (λ replies. Ran 1 (command ∷ []) old now replies (fault_in r)) (same r) (ran_whole (command ∷ []) one_reply old now r settles listed_step (every r) stays)
    where
      same : (r : Result Reply StoreFault) → listed_in one_reply r ≡ reply_in r
      same (Ok reply) = refl
      same (Err fault) = refl

      every : (r : Result Reply StoreFault) → IfOk r (λ reply. length (one_reply reply) ≡ 1)
      every (Ok reply) = refl
      every (Err fault) = tt

-- ---- a bundle

abbrev listed_replies : Vec Reply Global → List Reply
listed_replies replies = replies.items

-- all of its commands are in hand
in_hand_all : (bundle : TakeIn) → length bundle.jobs + 1 ≡ length (commands_in bundle)
in_hand_all bundle = let n = length-map bundle.jobs (offering bundle.from) in omega (arith, n)

-- the planned replies are as many
pub replies_of : (bundle : TakeIn) (planned : Vec Reply Global) (r : Result (Vec Reply Global) StoreFault) → IfOk r (λ replies. replies ≡ planned) → length planned.items ≡ length bundle.jobs + 1
    → IfOk r (λ replies. length replies.items ≡ length (commands_in bundle))
replies_of bundle planned (Ok replies) same every = ap (λ (l : Vec Reply Global). length l.items) same ∙ every ∙ in_hand_all bundle
replies_of bundle planned (Err fault) same every = tt

pub bundle_ahead : (bundle : TakeIn) → IsAhead (length bundle.jobs + 1) (commands_in bundle)
bundle_ahead bundle = let all = in_hand_all bundle in inr (omega (arith, all))

module _ {S : Type 0} {g : Ghosts S} (bundle : TakeIn) (old now : Spool S g) (r : Result (Vec Reply Global) StoreFault) (settles : Settles (disk now)) (steps : (s : State) → IsTakingStep s bundle old now r) where
  pub bundle_stops_ok : db.HasCleanDisk (disk now) → (s : State) → Shows old s → IfOk r (λ _. Leaves (disk now) (after_take_in s bundle).0)
  bundle_stops_ok = stops_ok (commands_in bundle) listed_replies old now r settles steps

  pub bundle_stops_memory : db.HasCleanDisk (disk now) → (s : State) → Shows old s → r ≡ Err Memory → Leaves (disk now) s
  bundle_stops_memory = stops_memory (commands_in bundle) listed_replies old now r settles steps

  pub ran_bundle : IfOk r (λ replies. length replies.items ≡ length (commands_in bundle)) → StaysUnclean (disk old) (disk now) → Ran (length bundle.jobs + 1) (commands_in bundle) old now (replies_in r) (fault_in r)
  ran_bundle every stays = subst (λ n. Ran n (commands_in bundle) old now (replies_in r) (fault_in r)) (sym (in_hand_all bundle))
      (subst (λ replies. Ran (length (commands_in bundle)) (commands_in bundle) old now replies (fault_in r)) (same r) (ran_whole (commands_in bundle) listed_replies old now r settles steps every stays))
    where
      same : (r : Result (Vec Reply Global) StoreFault) → listed_in listed_replies r ≡ replies_in r
      same (Ok replies) = refl
      same (Err fault) = refl
