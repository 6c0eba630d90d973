-- Which jobs of a bundle are settled, and what is reported.
use Rattle.std.proofs.Common.{◌≡◌, ◌∙◌, inl, inr, ℕ, ◌<◌, ◌≤◌, true, false, cond, List, [], ◌∷◌, ◌++◌, append_assoc, length, map, filter, All, Contains, Option, Some, None, Result, Ok, Err, ap, arith, refl, subst, sym}
use Rattle.std.specs.Prelude.{◌⊎◌, IsTrue, nat_lt, ⊤}
use Rattle.std.proofs.lemmas.Bool.Decides.{nat_tests}
use Rattle.std.proofs.lemmas.List.{map-append, take_all}
use Rattle.std.proofs.lemmas.List.Elements.{All-append, All-cons, All-contains_itself, All-head, All-nil, All-tail, filter-append}
use Rattle.sqlite.specs.Store.{Ghosts}
use Rattle.sqlite.specs.State.{HasCleanDisk}
use Rattle.uu_bundle.specs.declared.bundle.Refused.{Refused}
use Rattle.uu_bundle.specs.declared.bundle.Told.{Told}
use Rattle.uu_handover.specs.Bundles.{is_settled, settled_of}
use Rattle.uu_handover.specs.Bundles as handover
use Rattle.uu_handover.specs.Custody as custody
use Rattle.uu_core.specs.Run.{state_after}
use Rattle.uu_core.specs.State.{State}
use Rattle.uu_core.specs.declared.command.Command.{Command}
use Rattle.uu_core.specs.declared.command.Reply.{Reply}
use Rattle.uu_schema.specs.declared.fault.StoreFault.{StoreFault}
use Rattle.uu_store.specs.Runs.{Ran}
use Rattle.uu_store.specs.Spool as spool
use Rattle.uu_store.specs.declared.spool.Spool.{Spool}
use Rattle.uu_request.specs.declared.request.Request.TheVariants as request
use Rattle.uu_request.specs.declared.request.Settling.{Settling}
use Rattle.uu_settings.specs.declared.settings.Settings.{Settings}
use Rattle.uuspool.proofs.ServedLemmas.{chosen_so, failed_alone, marks_of_call, never_failed, noted_of_call, printed_as, printed_is_late}
use Rattle.uuspool.proofs.ServedLinesLemmas.{Joins}
use Rattle.uuspool.specs.Bundles.{IsSettleOutput, as_told, is_refused_still, numbers_told, refused_still, release_of, rising, settled_by}
use Rattle.uuspool.specs.Internal.Asked.{IsAsked}
use Rattle.uuspool.specs.Served.{AreCommandsIn, AreCommandsOf, IsNoted, IsOfCall, IsPrinted, IsServed, Marks}
use Rattle.uuspool.specs.declared.fault.Fault.{Fault}
use Rattle.uuspool.specs.declared.fault.Fault.TheVariants as fault

-- ---- what is settled

pub settled_more : (system : List ℕ) (mark : custody.Parcel → ℕ) (s : State) (told : List Told) (one : Told)
    → settled_of system mark s (map as_told (told ++ one ∷ [])) ≡ settled_of system mark s (map as_told told) ++ settled_of system mark s (map as_told (one ∷ []))
settled_more system mark s told one =
    ap (settled_of system mark s) (map-append as_told told (one ∷ []))
    ∙ ap (map (λ (t : handover.Told). t.number)) (filter-append (is_settled system mark s) (map as_told told) (map as_told (one ∷ [])))
    ∙ map-append (λ (t : handover.Told). t.number) (filter (is_settled system mark s) (map as_told told)) (filter (is_settled system mark s) (map as_told (one ∷ [])))

-- one more job, if its number is greater than the last, and if it isn't
pub rising_more : (last : ℕ) (kept more : List Told) (one : Told) (others : List Told) → last < one.number → more ≡ kept ++ one ∷ [] → more ++ rising one.number others ≡ kept ++ rising last (one ∷ others)
rising_more last kept more one others less is =
    let greater : nat_lt last one.number ≡ true = grind (arith, nat_tests, less) in
    ap (λ m. m ++ rising one.number others) is ∙ append_assoc kept (one ∷ []) (rising one.number others)
    ∙ ap (λ b. kept ++ cond b (one ∷ rising one.number others) (rising last others)) (sym greater)

pub rising_same : (last : ℕ) (kept : List Told) (one : Told) (others : List Told) → one.number ≤ last → kept ++ rising last others ≡ kept ++ rising last (one ∷ others)
rising_same last kept one others less =
    let not_greater : nat_lt last one.number ≡ false = grind (arith, nat_tests, less) in
    ap (λ b. kept ++ cond b (one ∷ rising one.number others) (rising last others)) (sym not_greater)

-- ---- the numbers of a bundle

module _ (P : ℕ → Type 0) where
  abbrev of_number : Told → Type 0
  of_number one = P one.number

  rising_of : (last : ℕ) (told : List Told) → All of_number told → All of_number (rising last told)
  rising_of last [] all = all
  rising_of last (one ∷ told) all =
      elim (nat_lt last one.number) as (λ b. All of_number (cond b (one ∷ rising one.number told) (rising last told))) [
        | true ↦ All-cons of_number one (rising one.number told) (All-head of_number one told all) (rising_of one.number told (All-tail of_number one told all))
        | false ↦ rising_of last told (All-tail of_number one told all)
      ]

  of_told : (told : List Told) → All P (numbers_told told) → All of_number told
  of_told [] all = All-nil of_number
  of_told (one ∷ told) all =
      All-cons of_number one told (All-head P one.number (numbers_told told) all) (of_told told (All-tail P one.number (numbers_told told) all))

  -- one number more, or none
  pub number_added : (old new : List ℕ) (number : ℕ) → All P old → P number → (new ≡ old) ⊎ (new ≡ old ++ number ∷ []) → All P new
  number_added old new number all is (inl same) = subst (All P) (sym same) all
  number_added old new number all is (inr more) = subst (All P) (sym more) (All-append P old (number ∷ []) all (All-cons P number [] is (All-nil P)))

-- those that rise are kept
pub rising_are_told : (told : List Told) → All (λ one. Contains (numbers_told told) one.number) (rising 0 told)
rising_are_told told =
    rising_of (Contains (numbers_told told)) 0 told (of_told (Contains (numbers_told told)) told (All-contains_itself (numbers_told told)))

-- ---- what is refused

pub refused_more : (from to word : List ℕ) (s : State) (refused : List Refused) (one : Refused)
    → refused_still from to word (refused ++ one ∷ []) s ≡ refused_still from to word refused s ++ refused_still from to word (one ∷ []) s
refused_more from to word s refused one = filter-append (is_refused_still from to word s) refused (one ∷ [])

-- ---- the service

-- what the bundle comes to in a state
abbrev pub IsFound : Settings → Settling → State → List Command → List ℕ → Type 0
IsFound settings it s commands report = (commands ≡ release_of it.system (settled_by settings.name it s)) × IsSettleOutput settings.name it s report

module _ {S : Type 0} {g : Ghosts S} (settings : Settings) (it : Settling) (old : Spool S g) where
  -- the store gave a fault before there was a command
  pub settling_unasked : (new : Spool S g) (written : List ℕ → Type 0) (why : StoreFault) → Ran 1 [] old new [] (Some why) → Marks (spool.has_failed old) (spool.has_failed new) (Some why)
      → IsNoted old new (Some why) → (IsTrue (spool.has_failed old) → new ≡ old) → IsOfCall why → written []
      → (let r : Result ℕ Fault = Err (fault.Store why) in IsServed settings (request.Settling it) old new written r)
  settling_unasked new written why ran marked noted failed call nothing = record {
    commands = [];
    replies = [];
    stopped = Some why;
    are = ([], refl, All-nil (Contains (numbers_told it.has)));
    chosen = λ clean s shown. inr refl;
    ran = ran;
    every = λ same. absurd (cc);
    printed = λ same. absurd (cc);
    shows = λ same. absurd (cc);
    broken_off = λ other same. (let is : why ≡ other = cc in (is, nothing));
    late = call;
    marked = marked;
    noted = noted;
    failed = λ had. (ap (λ w. Err (fault.Store w)) (failed_alone (spool.has_failed old) (spool.has_failed new) why marked had), nothing, failed had);
  }

  module _ {F : Type 0} (found : F) (commands : List Command) (report : List ℕ) (mid new : Spool S g) (written : List ℕ → Type 0) (replies : List Reply)
      (asked : (let r : Result F StoreFault = Ok found in IsAsked (λ s. ⊤) (λ s one. IsFound settings it s commands report) old mid r))
      (are : AreCommandsOf (request.Settling it) commands) (joins : Joins S g) where
    clean_at : (stopped : Option StoreFault) → Ran 1 commands mid new replies stopped → HasCleanDisk (spool.disk new) → HasCleanDisk (spool.disk mid)
    clean_at stopped ran clean = omega (arith, ran.clean, clean)

    ran_all : (stopped : Option StoreFault) → Ran 1 commands mid new replies stopped → Ran 1 commands old new replies stopped
    ran_all stopped ran = joins 1 1 old mid new [] commands [] replies None stopped refl tt asked.ran ran

    same_mark : spool.has_failed mid ≡ spool.has_failed old
    same_mark = asked.marked.1 ∙ sym asked.marked.0

    -- the store gave a fault at the command
    pub settling_broken : (why : StoreFault) → Ran 1 commands mid new replies (Some why) → spool.IsFaultBetween (spool.has_failed mid) (spool.has_failed new) why
        → IsOfCall why → written [] → (let r : Result ℕ Fault = Err (fault.Store why) in IsServed settings (request.Settling it) old new written r)
    settling_broken why ran between call nothing = record {
      commands = commands;
      replies = replies;
      stopped = Some why;
      are = are;
      chosen = λ clean s shown. inl (asked.answer (clean_at (Some why) ran clean) s shown tt).0.0;
      ran = ran_all (Some why) ran;
      every = λ same. absurd (cc);
      printed = λ same. absurd (cc);
      shows = λ same. absurd (cc);
      broken_off = λ other same. (let is : why ≡ other = cc in (is, nothing));
      late = call;
      marked = marks_of_call _ _ why faulted;
      noted = noted_of_call old new why faulted;
      failed = never_failed (spool.has_failed old) asked.marked.0;
    }
      where
        faulted : spool.IsFaultBetween (spool.has_failed old) (spool.has_failed new) why
        faulted = subst (λ b. spool.IsFaultBetween b (spool.has_failed new) why) same_mark between

    -- the command was answered, or there was none, and the report was printed
    pub settling_served : (r : Result ℕ Fault) → Ran 1 commands mid new replies None → length replies ≡ length commands → spool.has_failed new ≡ false
        → IsPrinted (λ output status. (output ≡ report) × (status ≡ 0)) written r → IsServed settings (request.Settling it) old new written r
    settling_served r ran answered usable printed = record {
      commands = commands;
      replies = replies;
      stopped = None;
      are = are;
      chosen = λ clean s shown. chosen_so (AreCommandsIn settings s (request.Settling it)) r commands (asked.answer (clean_at None ran clean) s shown tt).0.0;
      ran = ran_all None ran;
      every = λ none. answered;
      printed = λ none. printed_as (λ output status. (output ≡ report) × (status ≡ 0)) _ written written r
          (λ output status is. (tt, (λ clean s shown. (subst (IsSettleOutput settings.name it s) (sym is.0) (asked.answer (clean_at None ran clean) s shown tt).0.1, is.1)))) (λ output wrote. wrote) printed;
      shows = λ none clean s shown.
          let enough : length commands ≤ length replies = omega (arith, answered) in
          subst (λ done. spool.Shows new (state_after s done)) (take_all (length replies) commands enough) (((ran_all None ran).from clean s shown).shows tt);
      broken_off = λ why same. absurd (cc);
      late = printed_is_late (λ output status. (output ≡ report) × (status ≡ 0)) written r printed;
      marked = (asked.marked.0, usable);
      noted = λ clean s shown kind same. absurd (cc);
      failed = never_failed (spool.has_failed old) asked.marked.0;
    }
