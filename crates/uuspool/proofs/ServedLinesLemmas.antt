-- Lines that are served one after the other are one run of the commands of their requests.
use Rattle.std.proofs.Common.{◌≡◌, ◌⊎◌, ◌≤◌, ◌+◌, ◌∙◌, ◌++◌, ◌∷◌, inl, inr, ℕ, Bool, true, false, true≢false, List, [], length, drop, take, Option, Some, None, Result, Ok, Err, IfErr, OnErr, ap, append-nil, arith, refl, subst, sym}
use Rattle.std.specs.Prelude.{IsTrue}
use Rattle.std.specs.List.{AllByRecursion}
use Rattle.std.proofs.lemmas.List.{drop_all, length-append, take_all}
use Rattle.std.proofs.Math.Seq.{drop-append_seam, take-nil}
use Rattle.sqlite.specs.Tree.{Trees}
use Rattle.sqlite.specs.Effect.{Database}
use Rattle.sqlite.specs.Store.{Ghosts}
use Rattle.sqlite.specs.State as db
use Rattle.uu_core.specs.State.{State}
use Rattle.uu_core.specs.Run.{replies_to, state_after}
use Rattle.uu_core.specs.declared.command.Command.{Command}
use Rattle.uu_core.specs.declared.command.Reply.{Reply}
use Rattle.uu_schema.specs.declared.fault.StoreFault.{StoreFault}
use Rattle.uu_schema.specs.Encoded.{Leaves, LeavesEither}
use Rattle.uu_store.specs.Runs.{Ran, GoesOn}
use Rattle.uu_store.specs.Spool.{Shows, disk, has_failed}
use Rattle.uu_store.specs.declared.spool.Spool.{Spool}
use Rattle.uu_settings.specs.declared.settings.Settings.{Settings}
use Rattle.uu_request.specs.declared.request.Request.{Request}
use Rattle.uu_request.specs.declared.request.Request.TheVariants.{Commands, Question, Mailing, Settling, Unpacking}
use Rattle.uuspool.proofs.ServedLemmas.{printed_as}
use Rattle.uuspool.specs.Served.{AreCommandsOf, WordsAsk, EndsAs, IsBrokenOff, IsEvery, IsFaultOf, IsOutput, IsPrinted, IsServed, answered_text, in_hand}
use Rattle.uuspool.specs.ServedLines.{ServedRequest, ServedLine, AllGoOn, AreLeft, AreServed, goes_on, IsTold, IsToldAs, IsUnasked, AreTold, IsOneRun, NoneOnceLeft, commands_asked, in_hand_of, last_in_hand, left_fault}
use Rattle.uuspool.specs.declared.fault.Fault.{Fault}
use Rattle.uuspool.specs.declared.fault.Fault.TheVariants as fault

-- ---- lines that are left

abbrev nones : List ServedLine → List (Option ServedRequest)
nones [] = []
nones (line ∷ lines) = None ∷ nones lines

nones_ask_nothing : (lines : List ServedLine) → commands_asked (nones lines) ≡ []
nones_ask_nothing [] = refl
nones_ask_nothing (line ∷ lines) = nones_ask_nothing lines

left_are_told : (settings : Settings) (s : State) (lines : List ServedLine) → AreLeft lines → AreTold settings s [] lines (nones lines)
left_are_told settings s [] left = refl
left_are_told settings s (line ∷ lines) (nothing, is, rest) =
    (record { nothing = nothing; why = left_fault; is = is; told = inr refl }, left_are_told settings s lines rest)

-- they came to no request
nones_are_none : (lines : List ServedLine) → AllByRecursion (λ (it : Option ServedRequest). it ≡ None) (nones lines)
nones_are_none [] = tt
nones_are_none (line ∷ lines) = (refl, nones_are_none lines)

left_once : (lines : List ServedLine) → NoneOnceLeft lines (nones lines)
left_once [] = tt
left_once (line ∷ lines) = (λ stops. nones_are_none lines, left_once lines)

-- ---- how many commands may be in hand

-- lines that are left have none
nones_have_none_in_hand : (n : ℕ) (lines : List ServedLine) → last_in_hand n (nones lines) ≡ n
nones_have_none_in_hand n [] = refl
nones_have_none_in_hand n (line ∷ lines) = nones_have_none_in_hand n lines

-- all replies are to commands
within_commands : (in_hand : ℕ) (replies : List Reply) (commands : List Command) → (length replies ≡ length commands) ⊎ (length replies + in_hand ≤ length commands)
    → length replies ≤ length commands
within_commands in_hand replies commands (inl same) = omega (arith, same)
within_commands in_hand replies commands (inr less) = omega (arith, less)

module _ {S : Type 0} {g : Ghosts S} (one other : ℕ) where
  -- a run of no command may have any number of commands in hand
  ran_of_none : (old new : Spool S g) (replies : List Reply) (stopped : Option StoreFault) → Ran one [] old new replies stopped → Ran other [] old new replies stopped
  ran_of_none old new replies stopped ran = record {
    within = let none = within_commands one replies [] ran.within in inl (omega (arith, none));
    from = λ clean s shown. let from = ran.from clean s shown in record {
      answers = from.answers;
      shows = from.shows;
      stop = from.stop;
      stop_store =
          subst (λ commands. LeavesEither (disk new) (state_after s (take (length replies) [])) (state_after s commands))
          (take-nil (length replies + one) ∙ sym (take-nil (length replies + other))) from.stop_store;
    };
    clean = ran.clean;
  }

  -- and so may one of lines that came to no request
  ran_with : (asked : List (Option ServedRequest)) (old new : Spool S g) (replies : List Reply) (stopped : Option StoreFault)
      → Ran (last_in_hand one asked) (commands_asked asked) old new replies stopped → Ran (last_in_hand other asked) (commands_asked asked) old new replies stopped
  ran_with [] old new replies stopped ran = ran_of_none old new replies stopped ran
  ran_with (None ∷ asked) old new replies stopped ran = ran_with asked old new replies stopped ran
  ran_with (Some it ∷ asked) old new replies stopped ran = ran

-- ---- one line

-- nothing stopped a request that ended with a status
not_stopped : (stopped : Option StoreFault) (output : List ℕ) (written : List ℕ → Type 0) (r : Result ℕ Fault) (status : ℕ) → r ≡ Ok status
    → ((why : StoreFault) → stopped ≡ Some why → IsBrokenOff why output written r) → stopped ≡ None
not_stopped None output written r status same broken = refl
not_stopped (Some why) output written r status same broken = absurd (subst (IsBrokenOff why output written) same (broken why refl))

-- if nothing stopped it, each of its commands was answered
all_answered : (failed : Bool) (request : Request) (commands : List Command) (replies : List Reply) (stopped : Option StoreFault) → AreCommandsOf request commands
    → IsEvery failed request commands replies stopped → stopped ≡ None → length replies ≡ length commands
all_answered failed (Commands list) commands replies stopped are every none = (every.0 none).1
all_answered failed (Question question) commands replies stopped are every none = ap length every ∙ sym (ap length are)
all_answered failed (Mailing mail) commands replies stopped are every none = every none
all_answered failed (Settling it) commands replies stopped are every none = every none
all_answered failed (Unpacking it) commands replies stopped are every none = (every.0 none).1

module _ (settings : Settings) (s : State) (request : Request) (replies : List Reply) (output : List ℕ) where
  -- for a request that was answered whole, and for one that was broken off
  told_printed : (r : Result ℕ Fault) → IsPrinted (λ o status. IsOutput settings s request o status) (λ o. output ≡ o) r → IsTold settings s request replies output r
  told_printed (Ok status) (o, is, same) = subst (λ o. IsOutput settings s request o status) (sym same) is
  told_printed (Err fault.Write) (whole, status, is, cut) = inl (whole, status, is, cut)
  told_printed (Err fault.Memory) nothing = nothing
  told_printed (Err (fault.Store why)) none = absurd none
  told_printed (Err (fault.Words text help)) none = none
  told_printed (Err (fault.Settings why)) none = none
  told_printed (Err (fault.Name why)) none = none
  told_printed (Err (fault.Time why)) none = none
  told_printed (Err fault.TwoSystems) none = none
  told_printed (Err fault.Input) none = none
  told_printed (Err fault.Read) none = none
  told_printed (Err (fault.Bundle why)) none = none

  told_broken : (why : StoreFault) (r : Result ℕ Fault) → IsBrokenOff why (answered_text request replies) (λ o. output ≡ o) r → IsTold settings s request replies output r
  told_broken why (Ok status) none = absurd none
  told_broken why (Err (fault.Store told)) (same, wrote) = wrote
  told_broken why (Err fault.Write) cut = inr cut
  told_broken why (Err fault.Memory) (some, nothing) = nothing
  told_broken why (Err (fault.Words text help)) none = none
  told_broken why (Err (fault.Settings is)) none = none
  told_broken why (Err (fault.Name is)) none = none
  told_broken why (Err (fault.Time is)) none = none
  told_broken why (Err fault.TwoSystems) none = none
  told_broken why (Err fault.Input) none = none
  told_broken why (Err fault.Read) none = none
  told_broken why (Err (fault.Bundle is)) none = none

  told_by : (stopped : Option StoreFault) (r : Result ℕ Fault)
      → (stopped ≡ None → IsPrinted (λ o status. IsOutput settings s request o status) (λ o. output ≡ o) r)
      → ((why : StoreFault) → stopped ≡ Some why → IsBrokenOff why (answered_text request replies) (λ o. output ≡ o) r)
      → IsTold settings s request replies output r
  told_by None r printed broken = told_printed r (printed refl)
  told_by (Some why) r printed broken = told_broken why r (broken why refl)

on_err : (r : Result ℕ Fault) (X : Type 0) → X → OnErr r X
on_err (Ok status) X x = tt
on_err (Err why) X x = x

module _ {S : Type 0} {g : Ghosts S} (settings : Settings) (s : State) (line : ServedLine) (request : Request) (old mid : Spool S g)
    (asks : WordsAsk settings line.words line.now line.input (Ok request)) (it : IsServed settings request old mid (λ output. line.output ≡ output) line.result)
    (clean : db.HasCleanDisk (disk mid)) (shown : Shows old s) where
  told_so : IsTold settings s request it.replies line.output line.result
  told_so =
      told_by settings s request it.replies line.output it.stopped line.result
      (λ none. printed_as _ (λ output status. IsOutput settings s request output status) (λ output. line.output ≡ output) (λ output. line.output ≡ output) line.result (λ output status is. is.1 clean s shown) (λ output same. same) (it.printed none))
      it.broken_off

  -- the line was done: its replies come first
  told_done : (replies : List Reply) (status : ℕ) → line.result ≡ Ok status → length it.commands ≤ length replies
      → IsToldAs settings s replies line (record { request = request; commands = it.commands })
  told_done replies status done enough = record {
    good = shown.encodes.holds.good;
    asks = asks;
    are = it.are;
    chosen = it.chosen clean s shown;
    every = λ on. enough;
    told = subst (IsTold settings s request replies line.output) (sym done) (subst (IsTold settings s request it.replies line.output) done told_so);
    answers = subst (λ r. OnErr r (replies ≡ replies_to s (take (length replies) it.commands))) (sym done) tt;
  }

  -- the line was the last that was served: all replies that are left are its own
  told_last : goes_on line.result ≡ false → IsToldAs settings s it.replies line (record { request = request; commands = it.commands })
  told_last stops = record {
    good = shown.encodes.holds.good;
    asks = asks;
    are = it.are;
    chosen = it.chosen clean s shown;
    every = λ on. absurd (true≢false (sym on ∙ stops));
    told = told_so;
    answers = on_err line.result _ (it.ran.from clean s shown).answers;
  }

unasked : (settings : Settings) (line : ServedLine) (why : Fault) → line.result ≡ Err why → line.output ≡ [] → IfErr line.result (IsFaultOf settings line.words line.now line.input)
    → IsUnasked settings line
unasked settings line why same nothing told = record {
  nothing = nothing;
  why = why;
  is = same;
  told = inl (subst (λ r. IfErr r (IsFaultOf settings line.words line.now line.input)) same told);
}

-- the replies after those to these commands
behind : (first second : List Reply) (commands : List Command) → length first ≡ length commands → drop (length commands) (first ++ second) ≡ second
behind first second commands same = subst (λ n. drop n (first ++ second) ≡ second) same (drop-append_seam first second)

-- ---- many lines

abbrev pub Joins : (S : Type 0) → Ghosts S → Type 0
Joins S g = (first_hand in_hand : ℕ) (old mid new : Spool S g) (one other : List Command) (first second : List Reply) (was stopped : Option StoreFault)
    → length first ≡ length one → GoesOn was → Ran first_hand one old mid first was → Ran in_hand other mid new second stopped → Ran in_hand (one ++ other) old new (first ++ second) stopped

abbrev pub Settles : (S : Type 0) → Ghosts S → Type 0
Settles S g = (spool : Spool S g) (trees : Trees) → IsTrue (disk spool).is_open → (disk spool).may_leave trees → trees ≡ (disk spool).committed.trees

module _ {S : Type 0} {g : Ghosts S} (settles : Settles S g) where
  leaves_shown : (spool : Spool S g) (s : State) → Shows spool s → Leaves (disk spool) s
  leaves_shown spool s shown trees may =
      let is : trees ≡ (disk spool).now.trees = settles spool trees shown.rests.is_open may ∙ sym (ap (λ (d : Database). d.trees) shown.rests.settled) in
      rw is (shown.encodes.stands.sound, shown.encodes.holds)

  pub ran_nothing : (spool : Spool S g) → Ran 1 [] spool spool [] None
  ran_nothing spool = record {
    within = inl refl;
    from = λ clean s shown.
        let stop = leaves_shown spool s shown in
        record { answers = refl; shows = λ on. shown; stop = λ on. stop; stop_store = λ trees may. (let it = stop trees may in (it.0, inl it.1)) };
    clean = omega arith;
  }

module _ {S : Type 0} {g : Ghosts S} (joins : Joins S g) (settles : Settles S g) (settings : Settings) where
  -- the run has its own commands, replies and end, from which the rest follows
  one_run_of : (lines : List ServedLine) (old new : Spool S g) (asked : List (Option ServedRequest)) (replies : List Reply) (stopped : Option StoreFault)
      → NoneOnceLeft lines asked → Ran (in_hand_of asked) (commands_asked asked) old new replies stopped
      → (db.HasCleanDisk (disk new) → (s : State) → Shows old s → AreTold settings s replies lines asked)
      → (stopped ≡ None → length replies ≡ length (commands_asked asked)) → (AllGoOn lines → stopped ≡ None)
      → IsOneRun settings lines old new
  one_run_of lines old new asked replies stopped left ran told every went_on = record {
    asked = asked;
    left = left;
    replies = replies;
    stopped = stopped;
    ran = ran;
    told = told;
    every = every;
    shows = λ none clean s shown.
        let enough : length (commands_asked asked) ≤ length replies = omega (arith, every none) in
        subst (λ commands. Shows new (state_after s commands)) (take_all (length replies) (commands_asked asked) enough)
        ((ran.from clean s shown).shows (subst GoesOn (sym none) tt));
    went_on = went_on;
  }

  module _ (line : ServedLine) (lines : List ServedLine) (old mid new : Spool S g) where
    -- the line was done, and others were served after it
    done_then : (request : Request) (status : ℕ) → line.result ≡ Ok status → WordsAsk settings line.words line.now line.input (Ok request)
        → IsServed settings request old mid (λ output. line.output ≡ output) line.result → IsOneRun settings lines mid new → IsOneRun settings (line ∷ lines) old new
    done_then request status same asks it rest =
        one_run_of (line ∷ lines) old new (Some here ∷ rest.asked) (it.replies ++ rest.replies) rest.stopped
        (λ stops. absurd (true≢false (sym (ap goes_on same) ∙ stops)), rest.left)
        (joins (in_hand request) (last_in_hand (in_hand request) rest.asked) old mid new it.commands (commands_asked rest.asked) it.replies rest.replies it.stopped rest.stopped
        answered (subst GoesOn (sym none) tt) it.ran (ran_with 1 (in_hand request) rest.asked mid new rest.replies rest.stopped rest.ran))
        told every (λ all. rest.went_on all.1)
      where
        here : ServedRequest
        here = record { request = request; commands = it.commands }

        none : it.stopped ≡ None
        none = not_stopped it.stopped (answered_text request it.replies) (λ output. line.output ≡ output) line.result status same it.broken_off

        answered : length it.replies ≡ length it.commands
        answered = all_answered (has_failed old) request it.commands it.replies it.stopped it.are it.every none

        enough : length it.commands ≤ length (it.replies ++ rest.replies)
        enough = omega (arith, answered, length-append it.replies rest.replies)

        told : db.HasCleanDisk (disk new) → (s : State) → Shows old s → AreTold settings s (it.replies ++ rest.replies) (line ∷ lines) (Some here ∷ rest.asked)
        told clean s shown =
            let early : db.HasCleanDisk (disk mid) = omega (arith, rest.ran.clean, clean) in (
              told_done settings s line request old mid asks it early shown (it.replies ++ rest.replies) status same enough,
              subst (λ replies. AreTold settings (state_after s it.commands) replies lines rest.asked) (sym (behind it.replies rest.replies it.commands answered))
                  (rest.told clean (state_after s it.commands) (it.shows none early s shown)),
            )

        every : rest.stopped ≡ None → length (it.replies ++ rest.replies) ≡ length (it.commands ++ commands_asked rest.asked)
        every on =
            omega (arith, answered, rest.every on, length-append it.replies rest.replies, length-append it.commands (commands_asked rest.asked))

    -- the line came to no request, and others were served after it
    unasked_then : IsUnasked settings line → goes_on line.result ≡ true → mid ≡ old → IsOneRun settings lines mid new → IsOneRun settings (line ∷ lines) old new
    unasked_then none goes same rest =
        one_run_of (line ∷ lines) old new (None ∷ rest.asked) rest.replies rest.stopped
        (λ stops. absurd (true≢false (sym goes ∙ stops)), rest.left)
        (subst (λ (m : Spool S g). Ran (in_hand_of rest.asked) (commands_asked rest.asked) m new rest.replies rest.stopped) same rest.ran)
        (λ clean s shown. (none, rest.told clean s (subst (λ (m : Spool S g). Shows m s) (sym same) shown)))
        rest.every (λ all. rest.went_on all.1)

    -- the line was the last that was served
    done_last : (request : Request) → goes_on line.result ≡ false → WordsAsk settings line.words line.now line.input (Ok request)
        → IsServed settings request old mid (λ output. line.output ≡ output) line.result → AreLeft lines → new ≡ mid → IsOneRun settings (line ∷ lines) old new
    done_last request stops asks it left same =
        one_run_of (line ∷ lines) old new (Some here ∷ nones lines) it.replies it.stopped
        (λ stops. nones_are_none lines, left_once lines)
        (subst (λ hand. Ran hand (commands_asked (Some here ∷ nones lines)) old new it.replies it.stopped) (sym (nones_have_none_in_hand (in_hand request) lines))
        (subst (λ commands. Ran (in_hand request) commands old new it.replies it.stopped) (sym alone)
        (subst (λ (n : Spool S g). Ran (in_hand request) it.commands old n it.replies it.stopped) (sym same) it.ran)))
        (λ clean s shown. (
          told_last settings s line request old mid asks it (subst (λ (n : Spool S g). db.HasCleanDisk (disk n)) same clean) shown stops,
          subst (λ replies. AreTold settings (state_after s it.commands) replies lines (nones lines)) (sym (drop_all (length it.commands) it.replies (within_commands (in_hand request) it.replies it.commands it.ran.within)))
              (left_are_told settings (state_after s it.commands) lines left),
        ))
        (λ none. all_answered (has_failed old) request it.commands it.replies it.stopped it.are it.every none ∙ ap length (sym alone))
        (λ all. absurd (true≢false (sym all.0 ∙ stops)))
      where
        here : ServedRequest
        here = record { request = request; commands = it.commands }

        alone : commands_asked (Some here ∷ nones lines) ≡ it.commands
        alone = ap (λ rest. it.commands ++ rest) (nones_ask_nothing lines) ∙ append-nil it.commands

    -- the line came to no request, and the others were left
    unasked_last : IsUnasked settings line → mid ≡ old → AreLeft lines → new ≡ mid → IsOneRun settings (line ∷ lines) old new
    unasked_last none same left still =
        one_run_of (line ∷ lines) old new (None ∷ nones lines) [] None
        (λ stops. nones_are_none lines, left_once lines)
        (subst (λ hand. Ran hand (commands_asked (nones lines)) old new [] None) (sym (nones_have_none_in_hand 1 lines))
        (subst (λ commands. Ran 1 commands old new [] None) (sym (nones_ask_nothing lines))
        (subst (λ (n : Spool S g). Ran 1 [] old n [] None) (sym (still ∙ same)) (ran_nothing settles old))))
        (λ clean s shown. (none, left_are_told settings s lines left))
        (λ all. ap length (sym (nones_ask_nothing lines))) (λ on. refl)

    -- the line has a fault that comes before any call of the spool
    early : (why : Fault) → line.result ≡ Err why → goes_on line.result ≡ true → mid ≡ old → line.output ≡ [] → IfErr line.result (IsFaultOf settings line.words line.now line.input)
        → IsOneRun settings lines mid new → IsOneRun settings (line ∷ lines) old new
    early why same goes kept nothing told rest = unasked_then (unasked settings line why same nothing told) goes kept rest

    -- by how the line ended
    one_more : (r : Result ℕ Fault) → line.result ≡ r
        → EndsAs r ((request : Request) × WordsAsk settings line.words line.now line.input (Ok request) × IsServed settings request old mid (λ output. line.output ≡ output) line.result)
        ((mid ≡ old) × (line.output ≡ []))
        → IfErr line.result (IsFaultOf settings line.words line.now line.input)
        → (goes_on r ≡ true → IsOneRun settings lines mid new) → (goes_on r ≡ false → AreLeft lines × (new ≡ mid)) → IsOneRun settings (line ∷ lines) old new
    one_more (Ok status) same (request, asks, it) told on off = done_then request status same asks it (on refl)
    one_more (Err (fault.Store why)) same (request, asks, it) told on off = done_last request (ap goes_on same) asks it (off refl).0 (off refl).1
    one_more (Err fault.Write) same (request, asks, it) told on off = done_last request (ap goes_on same) asks it (off refl).0 (off refl).1
    one_more (Err fault.Memory) same (inl (request, asks, it)) told on off = done_last request (ap goes_on same) asks it (off refl).0 (off refl).1
    one_more (Err fault.Memory) same (inr (kept, nothing)) told on off =
        unasked_last (unasked settings line fault.Memory same nothing told) kept (off refl).0 (off refl).1
    one_more (Err (fault.Words text help)) same (kept, nothing) told on off = early (fault.Words text help) same (ap goes_on same) kept nothing told (on refl)
    one_more (Err (fault.Settings why)) same (kept, nothing) told on off = early (fault.Settings why) same (ap goes_on same) kept nothing told (on refl)
    one_more (Err (fault.Name why)) same (kept, nothing) told on off = early (fault.Name why) same (ap goes_on same) kept nothing told (on refl)
    one_more (Err (fault.Time why)) same (kept, nothing) told on off = early (fault.Time why) same (ap goes_on same) kept nothing told (on refl)
    one_more (Err fault.TwoSystems) same (kept, nothing) told on off = early fault.TwoSystems same (ap goes_on same) kept nothing told (on refl)
    one_more (Err fault.Input) same (kept, nothing) told on off = early fault.Input same (ap goes_on same) kept nothing told (on refl)
    one_more (Err fault.Read) same (kept, nothing) told on off = early fault.Read same (ap goes_on same) kept nothing told (on refl)
    one_more (Err (fault.Bundle why)) same (kept, nothing) told on off = early (fault.Bundle why) same (ap goes_on same) kept nothing told (on refl)

  -- lines that are served one after the other are one run
  pub one_run : (lines : List ServedLine) (old new : Spool S g) → AreServed settings lines old new → IsOneRun settings lines old new
  one_run [] old new same =
      one_run_of [] old new [] [] None tt (subst (λ (n : Spool S g). Ran 1 [] old n [] None) (sym same) (ran_nothing settles old)) (λ clean s shown. refl) (λ all. refl) (λ on. refl)
  one_run (line ∷ lines) old new (mid, serves, on, off) =
      one_more line lines old mid new line.result refl serves.ends serves.told (λ goes. one_run lines mid new (on goes)) off
