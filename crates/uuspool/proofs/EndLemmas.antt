-- How the end of a run, and what is printed of it, make up the service of a line's commands.
use Rattle.std.proofs.Common.{◌≡◌, ◌≢◌, ◌∙◌, ◌≤◌, ◌++◌, ◌∷◌, ℕ, List, [], length, take, Vec, Option, Some, None, Result, Err, Bool, MatchOption, IfOk, IfErr, IfSome, OnOk, IsOkAnd, IsTrue, ap, arith, refl, subst, sym}
use Rattle.std.proofs.lemmas.List.{take_all}
use Rattle.std.specs.declared.alloc.AllocError.{AllocError}
use Rattle.std.specs.declared.alloc.Global.{Global}
use Rattle.sqlite.specs.Store.{Ghosts}
use Rattle.sqlite.specs.State.{HasCleanDisk}
use Rattle.uu_core.specs.State.{State}
use Rattle.uu_core.specs.Run.{state_after, replies_to}
use Rattle.uu_core.specs.declared.command.Reply.{Reply}
use Rattle.uu_core.specs.declared.command.Reply.TheVariants.{Done, Number, Refused}
use Rattle.uu_schema.specs.declared.fault.StoreFault.{StoreFault}
use Rattle.uu_schema.specs.declared.fault.StoreFault.TheVariants as store
use Rattle.uu_store.specs.Runs.{Ran, GoesOn}
use Rattle.uu_store.specs.Spool as spool
use Rattle.uu_store.specs.declared.run.RunEnd.{RunEnd}
use Rattle.uu_store.specs.declared.spool.Spool.{Spool}
use Rattle.uu_frame.specs.Writing.{IsCut}
use Rattle.uu_settings.specs.declared.settings.Settings.{Settings}
use Rattle.uu_core.specs.declared.subject.Subject.{Subject}
use Rattle.uu_report.specs.Outputs.{answers_text, output_text, replies_status, subject_text}
use Rattle.uu_report.specs.Replies.{reply_text}
use Rattle.uu_request.specs.declared.request.CommandList.{CommandList}
use Rattle.uu_request.specs.declared.request.Request.TheVariants as request
use Rattle.uuspool.proofs.ServedLemmas.{IsOfPrinting, broken_of_nothing, chosen_so, end_is_late, marked_is_of_call, printed, printed_as}
use Rattle.uuspool.specs.Served.{AreCommandsIn, IsBrokenOff, IsEvery, IsNoted, IsOfCall, IsOutput, IsPrinted, IsPrintedEnd, IsServed, Marks}
use Rattle.uuspool.specs.declared.fault.Fault.{Fault}
use Rattle.uuspool.specs.declared.fault.Fault.TheVariants as fault

-- ---- printing

-- the output of a whole run, and its status
abbrev IsWhole : List Subject → List ℕ → RunEnd → List ℕ → ℕ → Type 0
IsWhole subjects skipped end output status = (output ≡ output_text subjects skipped end.replies.items) × (status ≡ replies_status end.replies.items)

-- how a run that was stopped so, or by nothing, is printed
abbrev Ends : List Subject → List ℕ → RunEnd → (List ℕ → Type 0) → Result ℕ Fault → Option StoreFault → Type 0
Ends subjects skipped end written r stopped =
    MatchOption stopped (IsPrinted (IsWhole subjects skipped end) written r) (λ why. IsBrokenOff why (answers_text subjects end.replies.items) written r)

-- a whole run, whose output was printed
pub whole_printed : (subjects : List Subject) (skipped : List ℕ) (end : RunEnd) (written : List ℕ → Type 0) (made : Result (Vec ℕ Global) AllocError) (status : ℕ) (r : Result ℕ Fault)
    → end.stopped ≡ None → status ≡ replies_status end.replies.items → IfOk made (λ output. output.items ≡ output_text subjects skipped end.replies.items)
    → OnOk r (IsOkAnd made (λ output. written output.items)) → IfOk r (λ answered. answered ≡ status) → IfErr r IsOfPrinting
    → (r ≡ Err fault.Write → IsOkAnd made (λ output. IsCut output.items written)) → (r ≡ Err fault.Memory → written [])
    → IsPrintedEnd subjects skipped end written r
whole_printed subjects skipped end written made status r whole same is wrote answers printing cut nothing =
    subst (Ends subjects skipped end written r) (sym whole)
    (printed r made status written (λ output. output ≡ output_text subjects skipped end.replies.items) (IsWhole subjects skipped end) (λ output text. (text, same)) wrote answers printing cut nothing is)

-- ---- what is printed of answers

no_text : (a b c : List ℕ) → (b ≡ [] → ⊥) → (a ++ b) ++ c ≡ [] → ⊥
no_text [] [] c some is = some refl
no_text [] (x ∷ b) c some is = cc
no_text (y ∷ a) b c some is = cc

some_reply : (reply : Reply) → reply_text reply ≡ [] → ⊥
some_reply Done is = cc
some_reply (Number number) is = cc
some_reply (Refused refusal) is = cc

-- something is printed of an answer
pub some_answer : (subjects : List Subject) (replies : List Reply) → length subjects ≢ 0 → length replies ≢ 0 → answers_text subjects replies ≢ []
some_answer [] replies subject reply is = subject refl
some_answer (s ∷ subjects) [] subject reply is = reply refl
some_answer (s ∷ subjects) (r ∷ replies) subject reply is =
    no_text (subject_text s) (reply_text r) (answers_text subjects replies) (some_reply r) is

-- and nothing of none
pub no_reply : (subjects : List Subject) (replies : List Reply) → length replies ≡ 0 → answers_text subjects replies ≡ []
no_reply [] [] none = refl
no_reply (s ∷ subjects) [] none = refl
no_reply [] (r ∷ replies) none = refl
no_reply (s ∷ subjects) (r ∷ replies) none = absurd (omega arith)

-- ---- the service

pub marked_stop : (stopped : Option StoreFault) (Whole : Type 0) (before after : Bool) → MatchOption stopped Whole (spool.IsFaultBetween before after) → IfSome stopped IsOfCall
marked_stop None Whole before after marked = tt
marked_stop (Some why) Whole before after marked = marked_is_of_call before after why marked

pub run_served : {S : Type 0} {g : Ghosts S} (settings : Settings) (list : CommandList) (old new : Spool S g) (written : List ℕ → Type 0) (end : RunEnd) (r : Result ℕ Fault)
    → Ran 1 list.commands old new end.replies.items end.stopped → IsEvery (spool.has_failed old) (request.Commands list) list.commands end.replies.items end.stopped
    → Marks (spool.has_failed old) (spool.has_failed new) end.stopped → IsNoted old new end.stopped
    → (IsTrue (spool.has_failed old) → (end.stopped ≡ Some store.Failed) × (end.replies.items ≡ []) × (new ≡ old))
    → IfSome end.stopped IsOfCall → IsPrintedEnd list.subjects list.skipped end written r → IsServed settings (request.Commands list) old new written r
run_served settings list old new written end r ran every marked noted failed call ends = record {
  commands = list.commands;
  are = refl;
  chosen = λ clean s shown. chosen_so (AreCommandsIn settings s (request.Commands list)) r list.commands refl;
  replies = end.replies.items;
  stopped = end.stopped;
  ran = ran;
  every = every;
  printed = λ none. printed_as (IsWhole list.subjects list.skipped end) _ written written r (λ output status is. (is, output_in none output status is)) (λ output wrote. wrote) (ends_by None none);
  shows = λ none clean s shown. subst (λ commands. spool.Shows new (state_after s commands)) (all none) ((ran.from clean s shown).shows (subst GoesOn (sym none) tt));
  broken_off = λ why same. ends_by (Some why) same;
  late = end_is_late end.stopped (IsWhole list.subjects list.skipped end) (answers_text list.subjects end.replies.items) written r call ends;
  marked = marked;
  noted = noted;
  failed = λ had.
      let was = failed had in
      let told = broken_of_nothing store.Failed (answers_text list.subjects end.replies.items) written r (no_reply list.subjects end.replies.items (ap length was.1)) (ends_by (Some store.Failed) was.0) in
      (told.0, told.1, was.2);
}
  where
    ends_by : (stopped : Option StoreFault) → end.stopped ≡ stopped → Ends list.subjects list.skipped end written r stopped
    ends_by stopped same = subst (Ends list.subjects list.skipped end written r) same ends

    all : end.stopped ≡ None → take (length end.replies.items) list.commands ≡ list.commands
    all none =
        let enough : length list.commands ≤ length end.replies.items = omega (arith, (every.0 none).1) in
        take_all (length end.replies.items) list.commands enough

    output_in : end.stopped ≡ None → (output : List ℕ) (status : ℕ) → IsWhole list.subjects list.skipped end output status
        → HasCleanDisk (spool.disk new) → (s : State) → spool.Shows old s → IsOutput settings s (request.Commands list) output status
    output_in none output status is clean s shown =
        let replied : end.replies.items ≡ replies_to s list.commands = (ran.from clean s shown).answers ∙ ap (replies_to s) (all none) in
        (is.0 ∙ ap (output_text list.subjects list.skipped) replied, is.1 ∙ ap replies_status replied)
