-- Lines that were served over the files of sites are a history in texts.
use Rattle.std.proofs.Common.{◌≡◌, ◌⊎◌, ◌<◌, ◌++◌, ℕ, Bool, true, false, List, [], ◌∷◌, map, Contains, Option, Some, None, Result, Ok, Err, refl, sym, ap, subst, ◌∙◌, inl, inr, true≢false}
use Rattle.std.specs.Prelude.{⊤, IsTrue}
use Rattle.std.proofs.lemmas.List.Elements.{Contains-append_left, Contains-append_right, Contains-append_cases}
use Rattle.uu_names.specs.Grade.{grade_count}
use Rattle.uu_names.specs.Name.{is_site_name, is_word}
use Rattle.uu_names.proofs.Basics.{first_of, none_in, in_one}
use Rattle.uu_core.specs.declared.command.Command.{Command}
use Rattle.uu_core.specs.declared.command.Reply.{Reply}
use Rattle.uu_core.specs.State.{State, IsWellFormed}
use Rattle.uu_core.specs.Run.{state_after}
use Rattle.uu_store.specs.Exchanges.{Ending, Exchange}
use Rattle.uu_custody.specs.Carried.{IsSaidBy}
use Rattle.uu_bundle.specs.Bundles.{IsBundle}
use Rattle.uu_bundle.specs.declared.bundle.Bundle.{Bundle}
use Rattle.uu_line.specs.declared.task.Task.{Task}
use Rattle.uu_line.specs.declared.task.Task.TheVariants as task
use Rattle.uu_settings.specs.declared.settings.Settings.{Settings}
use Rattle.uu_request.specs.Carried.{packed_job as as_packed, said_of}
use Rattle.uu_request.specs.Neighbours.{neighbour_of, wrong_neighbour}
use Rattle.uu_request.specs.Requests.{TaskAsks}
use Rattle.uu_request.specs.Unpacking.{IsBundleBetween, answer, made_of, packing, queue_once_command}
use Rattle.uu_request.specs.declared.fault.RequestFault.{RequestFault}
use Rattle.uu_request.specs.declared.request.Answering.{Answering}
use Rattle.uu_request.specs.declared.request.Request.{Request}
use Rattle.uu_request.specs.declared.request.Request.TheVariants as request
use Rattle.uu_request.specs.declared.request.Question.{Question}
use Rattle.uu_request.specs.declared.request.Question.TheVariants as question
use Rattle.uu_request.specs.declared.request.Packing.{Packing}
use Rattle.uuspool.specs.Answers.{IsAnswer}
use Rattle.uuspool.specs.Served.{AreCommandsOf, WordsAsk}
use Rattle.uuspool.specs.ServedLines.{AreLeft, AreTold, ServedRequest, IsTold, ServedLine, commands_asked, goes_on}
use Rattle.uu_carriers.specs.Texts.{Places, MayBeLine, IsBrought, TextLine, unpack, settle, other, IsOfLine}
use Rattle.uu_carriers.specs.Lines.{AskForBundle, MayBeServed, MayBeTyped, asks_for_bundle}
use Rattle.uu_carriers.proofs.Words.{asked_of_task, granted, HasNoBundle, StandsFor, Covers, none_of_nothing, of_task}
use Rattle.uu_carriers.proofs.Printed.{MayPack, MayAnswer, IsSpoken, IsSpokenOrNone, packed_spoken, answered_spoken, told_spoken, make_of, of_jobs, of_texts}
use Rattle.uu_carriers.proofs.Grades.{HasGrade, has_grade}
use Rattle.uu_carriers.proofs.Runs.{heard, unheard, beyond, beyond_is, all_heard, heard_or_none, none_beyond, in_unheard, RunData, before_them, exchange_then}

-- ---- more texts were packed

brought_later : (packed new : List Bundle) (text : List ℕ) → IsBrought packed text → IsBrought (packed ++ new) text
brought_later packed new text it = (it.0, Contains-append_left packed new it.0 it.1, it.2, it.3)

line_later : (places : Places) (packed new : List Bundle) (site : ℕ) (line : TextLine) → MayBeLine places packed site line → MayBeLine places (packed ++ new) site line
line_later places packed new site (unpack settings at input user from onward it) may = (may.0, brought_later packed new input may.1, may.2)
line_later places packed new site (settle settings at input user from spool it commands) may = (may.0, brought_later packed new input may.1, may.2, may.3)
line_later places packed new site (other command) may = may

of_line_later : (places : Places) (packed new : List Bundle) (site : ℕ) (command : Command) → IsOfLine places packed site command → IsOfLine places (packed ++ new) site command
of_line_later places packed new site command of = (of.0, line_later places packed new site of.0 of.1, of.2)

pub stands_later : (packed new : List Bundle) (text : List ℕ) → StandsFor packed text → StandsFor (packed ++ new) text
stands_later packed new text (inl it) = inl (brought_later packed new text it)
stands_later packed new text (inr none) = inr none

-- ---- a run from a line on

-- if a line doesn't go on, those after it are left
abbrev pub LeaveTheRest : List ServedLine → Type 0
LeaveTheRest [] = ⊤
LeaveTheRest (line ∷ lines) = (goes_on line.result ≡ false → AreLeft lines) × LeaveTheRest lines

abbrev pub exchange_of_run : RunData → Exchange
exchange_of_run run = record { commands = run.pending ++ commands_asked run.asked; replies = run.replies; in_hand = run.in_hand; ending = run.ending }

-- The run of these lines goes on so: their outputs are what the machine says from this state on,
-- which is the one that its spool shows; or they are left.
pub record Goes (places : Places) (packed : List Bundle) (site : ℕ) (lines : List ServedLine) (run : RunData) : Type 0 where
  pub own : run.settings.name ≡ places.name site
  pub idle : run.is_started ≡ false → lines ≡ []
  pub pending : (command : Command) → Contains run.pending command → IsOfLine places packed site command
  pub from : State
  pub told : AreTold run.settings from run.replies lines run.asked
  pub rest : LeaveTheRest lines
  pub now : ((from ≡ run.state) × (run.pending ≡ [])) ⊎ ((run.replies ≡ []) × AreLeft lines)

abbrev pub AllGo : Places → List Bundle → ℕ → List (List ServedLine) → List RunData → Type 0
AllGo places packed site [] [] = ⊤
AllGo places packed site (lines ∷ more) (run ∷ runs) = Goes places packed site lines run × AllGo places packed site more runs
AllGo places packed site [] (run ∷ runs) = ⊥
AllGo places packed site (lines ∷ more) [] = ⊥

goes_later : (places : Places) (packed new : List Bundle) (site : ℕ) (lines : List ServedLine) (run : RunData) → Goes places packed site lines run → Goes places (packed ++ new) site lines run
goes_later places packed new site lines run it = record {
  own = it.own;
  idle = it.idle;
  pending = λ command there. of_line_later places packed new site command (it.pending command there);
  from = it.from;
  told = it.told;
  rest = it.rest;
  now = it.now;
}

pub all_go_later : (places : Places) (packed new : List Bundle) (site : ℕ) (lines : List (List ServedLine)) (runs : List RunData) → AllGo places packed site lines runs → AllGo places (packed ++ new) site lines runs
all_go_later places packed new site [] [] all = tt
all_go_later places packed new site (first ∷ lines) (run ∷ runs) all = (goes_later places packed new site first run all.0, all_go_later places packed new site lines runs all.1)
all_go_later places packed new site [] (run ∷ runs) all = all
all_go_later places packed new site (first ∷ lines) [] all = all

-- ---- what a line prints

-- What was printed is spoken, and the line has no commands; or no bundle is read of it if the words
-- ask for one.
abbrev IsPrintedBy : List ℕ → List ℕ → State → ServedLine → List Command → Type 0
IsPrintedBy own word s line commands = (IsSpoken own word s line.output × (commands ≡ [])) ⊎ (AskForBundle line → HasNoBundle line.output)

module _ (places : Places) (may_pack : MayPack) (may_answer : MayAnswer) (site : ℕ) (is_own : IsTrue (is_site_name (places.name site))) (is_spool : IsTrue (is_word (places.word site))) where
  module _ (settings : Settings) (own : settings.name ≡ places.name site) (s : State) (good : IsWellFormed s) (line : ServedLine) where
    abbrev Prints : List Command → Type 0
    Prints commands = IsPrintedBy (places.name site) (places.word site) s line commands

    abbrev Speaks : List ℕ → Type 0
    Speaks text = IsSpokenOrNone (places.name site) (places.word site) s text

    of_question : (asked : Request) (commands : List Command) (replies : List Reply) (it : Question) → granted asked ≡ Ok (request.Question it) → AreCommandsOf asked commands
        → ((whole : List ℕ) (status : ℕ) → IsAnswer settings s it whole status → Speaks whole) → IsTold settings s asked replies line.output line.result → Prints commands
    of_question asked commands replies it same are whole_is told =
        let is : asked ≡ request.Question it = cc in
        spoken (told_spoken may_pack may_answer settings (places.name site) (places.word site) own is_own is_spool s good it replies line.output whole_is line.result (subst (λ r. IsTold settings s r replies line.output line.result) is told))
        (subst (λ r. AreCommandsOf r commands) is are)
      where
        spoken : Speaks line.output → commands ≡ [] → Prints commands
        spoken (inl it) none = inl (it, none)
        spoken (inr nothing) none = inr (λ asks. nothing)

    printed : (lines : List ServedLine) (asked : Request) (commands : List Command) (replies : List Reply) → MayBeServed places lines site line → WordsAsk settings line.words line.now line.input (Ok asked) → AreCommandsOf asked commands
        → IsTold settings s asked replies line.output line.result → Prints commands
    printed lines asked commands replies may asks are told = elim asks.request [
      | inl too ↦ absurd (let never = too.1 in cc)
      | inr it ↦ by_task asks.line.task refl (may asks.line asks.means) (asked_of_task settings asks.at line.input asks.line.user asks.line.task (wrong_neighbour settings (neighbour_of asks.line.task)) asked it.1)
    ]
      where
        not_asked : (what : Task) → asks.line.task ≡ what → asks_for_bundle what ≡ false → Prints commands
        not_asked what e apart = inr (λ asked_for. absurd (true≢false (sym (asked_for asks.line asks.means) ∙ (ap asks_for_bundle e ∙ apart))))

        by-answer : (onward : List (List ℕ)) (p : Packing) (said : Result Bundle RequestFault) → p.spool ≡ places.word site → p.grade < grade_count → IsBundleBetween p.system settings.name line.input said → granted asked ≡ made_of (answer settings asks.at onward p) said → Prints commands
        by-answer onward p (Err why) may graded is same = absurd (cc)
        by-answer onward p (Ok bundle) may graded is same =
            let it : Answering = record { packing = p; asked = bundle.grade; commands = map (queue_once_command settings asks.at p.system onward) bundle.jobs } in
            of_question asked commands replies (question.Answer it) same are (λ whole status answers. answered_spoken may_pack may_answer settings (places.name site) (places.word site) own is_own is_spool s good it (make_of settings asks.at p.system onward) (map as_packed bundle.jobs) whole status may graded
            (of_jobs settings asks.at p.system onward bundle.jobs) (of_texts line.input bundle is.0) answers) told

        by_task : (what : Task) → asks.line.task ≡ what → MayBeTyped places lines site line.input what → TaskAsks settings asks.at line.input asks.line.user what (Ok asked) → Prints commands
        by_task (task.Pack system grade spool after most no_jobs) e may is =
            of_question asked commands replies (question.Pack (packing system grade spool after most no_jobs)) is are
            (λ whole status answers. packed_spoken may_pack may_answer settings (places.name site) (places.word site) own is_own is_spool s good (packing system grade spool after most no_jobs) whole status may (subst HasGrade e (has_grade line.words asks.line asks.means)) answers) told
        by_task (task.Answer sender onward grade spool after most no_jobs) e may (said, is, same) = by-answer onward (packing sender grade spool after most no_jobs) said may (subst HasGrade e (has_grade line.words asks.line asks.means)) is same
        by_task what e may is = not_asked what e refl

  -- ---- the next line

  module _ (packed : List Bundle) (lines : List ServedLine) (covers : Covers packed lines) where
    pub record Next (line : ServedLine) (behind : List ServedLine) (run : RunData) : Type 0 where
      pub commands : List Command
      pub new : List Bundle
      pub then : RunData
      pub each : (command : Command) → Contains commands command → IsOfLine places packed site command
      pub good : (bundle : Bundle) → Contains new bundle → IsBundle bundle × (bundle.from ≡ places.name site) × (bundle.spool ≡ places.word site)
      pub said : (bundle : Bundle) → Contains new bundle → IsSaidBy (places.name site) then.state (said_of bundle)
      pub stands : AskForBundle line → StandsFor (packed ++ new) line.output
      pub goes : Goes places (packed ++ new) site behind then
      pub exchange_is : exchange_of_run run ≡ before_them commands run.replies (exchange_of_run then)
      pub state_is : then.state ≡ state_after run.state (heard commands run.replies)
      pub started : then.is_started ≡ run.is_started

    module _ (line : ServedLine) (behind : List ServedLine) (may : MayBeServed places lines site line) (settings : Settings) (is_started : Bool) (pending : List Command) (replies : List Reply) (in_hand : ℕ) (ending : Ending) (state : State) where
      abbrev run_of : List (Option ServedRequest) → RunData
      run_of asked = record { settings = settings; is_started = is_started; pending = pending; asked = asked; replies = replies; in_hand = in_hand; ending = ending; state = state }

      unasked : (asked : List (Option ServedRequest)) → Goes places packed site (line ∷ behind) (run_of (None ∷ asked)) → Next line behind (run_of (None ∷ asked))
      unasked asked it = record {
        commands = [];
        new = [];
        then = run_of asked;
        each = λ command there. absurd (none_in command there);
        good = λ bundle there. absurd (none_in bundle there);
        said = λ bundle there. absurd (none_in bundle there);
        stands = λ asks. inr (none_of_nothing line.output it.told.0.nothing);
        goes = goes_later places packed [] site behind (run_of asked) (record {
          own = it.own;
          idle = λ not. absurd (let never = it.idle not in cc);
          pending = it.pending;
          from = it.from;
          told = it.told.1;
          rest = it.rest.1;
          now = elim it.now [ inl same ↦ inl same | inr left ↦ inr (left.0, left.1.2) ];
        });
        exchange_is = refl;
        state_is = refl;
        started = refl;
      }

      module _ (given : ServedRequest) (asked : List (Option ServedRequest)) (it : Goes places packed site (line ∷ behind) (run_of (Some given ∷ asked))) where
        abbrev then_of : RunData
        then_of = record {
          settings = settings;
          is_started = is_started;
          pending = pending ++ unheard given.commands replies;
          asked = asked;
          replies = beyond given.commands replies;
          in_hand = in_hand;
          ending = ending;
          state = state_after state (heard given.commands replies);
        }

        of-line : (command : Command) → Contains given.commands command → IsOfLine places packed site command
        of-line command there = elim it.told.0.asks.request [
          | inl too ↦ absurd (let never = too.1 in cc)
          | inr asks ↦ of_task places packed lines covers site settings it.own it.told.0.asks.at line.input it.told.0.asks.line.user given.request given.commands it.told.0.are command there it.told.0.asks.line.task
              (may it.told.0.asks.line it.told.0.asks.means)
              (asked_of_task settings it.told.0.asks.at line.input it.told.0.asks.line.user it.told.0.asks.line.task (wrong_neighbour settings (neighbour_of it.told.0.asks.line.task)) given.request asks.1)
        ]

        still_now : ((state_after it.from given.commands ≡ then_of.state) × (then_of.pending ≡ [])) ⊎ ((then_of.replies ≡ []) × AreLeft behind)
        still_now = elim it.now [
          | inl going ↦ (elim (heard_or_none given.commands replies) [
            | inl all ↦ on going all
            | inr none ↦ by-test going none (goes_on line.result) refl
          ])
          | inr left ↦ inr (ap (beyond given.commands) left.0 ∙ none_beyond given.commands, left.1.2)
        ]
          where
            on : (it.from ≡ state) × (pending ≡ []) → (unheard given.commands replies ≡ []) × (heard given.commands replies ≡ given.commands)
                → ((state_after it.from given.commands ≡ then_of.state) × (then_of.pending ≡ [])) ⊎ ((then_of.replies ≡ []) × AreLeft behind)
            on going all = inl (
              ap (λ (s : State). state_after s given.commands) going.0 ∙ ap (state_after state) (sym all.1),
              ap (λ p. p ++ unheard given.commands replies) going.1 ∙ all.0,
            )

            by-test : (it.from ≡ state) × (pending ≡ []) → beyond given.commands replies ≡ [] → (t : Bool) → goes_on line.result ≡ t
                → ((state_after it.from given.commands ≡ then_of.state) × (then_of.pending ≡ [])) ⊎ ((then_of.replies ≡ []) × AreLeft behind)
            by-test going none true e = on going (all_heard given.commands replies (it.told.0.every e))
            by-test going none false e = inr (none, it.rest.0 e)

        goes-on : Goes places packed site behind then_of
        goes-on = record {
          own = it.own;
          idle = λ not. absurd (let never = it.idle not in cc);
          pending = λ command there. elim (Contains-append_cases pending (unheard given.commands replies) command there) [
            | inl was ↦ it.pending command was
            | inr new ↦ of-line command (in_unheard given.commands replies command new)
          ];
          from = state_after it.from given.commands;
          told = subst (λ r. AreTold settings (state_after it.from given.commands) r behind asked) (beyond_is given.commands replies) it.told.1;
          rest = it.rest.1;
          now = still_now;
        }

        with_new : (new : List Bundle) → ((bundle : Bundle) → Contains new bundle → IsBundle bundle × (bundle.from ≡ places.name site) × (bundle.spool ≡ places.word site))
            → ((bundle : Bundle) → Contains new bundle → IsSaidBy (places.name site) then_of.state (said_of bundle)) → (AskForBundle line → StandsFor (packed ++ new) line.output) → Next line behind (run_of (Some given ∷ asked))
        with_new new good said stands = record {
          commands = given.commands;
          new = new;
          then = then_of;
          each = of-line;
          good = good;
          said = said;
          stands = stands;
          goes = goes_later places packed new site behind then_of goes-on;
          exchange_is = sym (exchange_then pending given.commands (commands_asked asked) replies in_hand ending (elim it.now [ inl going ↦ inl going.1 | inr left ↦ inr left.0 ]));
          state_is = refl;
          started = refl;
        }

        with_none : (AskForBundle line → HasNoBundle line.output) → Next line behind (run_of (Some given ∷ asked))
        with_none nothing = with_new [] (λ bundle there. absurd (none_in bundle there)) (λ bundle there. absurd (none_in bundle there)) (λ asks. inr (nothing asks))

        with_one : (it.from ≡ state) → IsSpoken (places.name site) (places.word site) it.from line.output → given.commands ≡ [] → Next line behind (run_of (Some given ∷ asked))
        with_one same spoken none = with_new (spoken.bundle ∷ [])
            (λ bundle there. subst (λ (b : Bundle). IsBundle b × (b.from ≡ places.name site) × (b.spool ≡ places.word site)) (in_one spoken.bundle bundle there) (spoken.good, spoken.from, spoken.spool))
            (λ bundle there. subst (λ (b : Bundle). IsSaidBy (places.name site) then_of.state (said_of b)) (in_one spoken.bundle bundle there)
            (subst (λ (s : State). IsSaidBy (places.name site) s (said_of spoken.bundle)) (same ∙ ap (λ l. state_after state (heard l replies)) (sym none)) spoken.said))
            (λ asks. inl (spoken.bundle, Contains-append_right packed (spoken.bundle ∷ []) spoken.bundle (first_of spoken.bundle []), spoken.cut, spoken.is))

        asked_next : Next line behind (run_of (Some given ∷ asked))
        asked_next = elim it.now [
          | inl going ↦ (elim (printed settings it.own it.from it.told.0.good line lines given.request given.commands replies may it.told.0.asks it.told.0.are it.told.0.told) [
            | inl spoken ↦ with_one going.0 spoken.0 spoken.1
            | inr nothing ↦ with_none nothing
          ])
          | inr left ↦ with_none (λ asks. none_of_nothing line.output left.1.0)
        ]

      next_of : (asked : List (Option ServedRequest)) → Goes places packed site (line ∷ behind) (run_of asked) → Next line behind (run_of asked)
      next_of [] it = absurd it.told
      next_of (None ∷ asked) it = unasked asked it
      next_of (Some given ∷ asked) it = asked_next given asked it

    pub next : (line : ServedLine) (behind : List ServedLine) (run : RunData) → MayBeServed places lines site line → Goes places packed site (line ∷ behind) run → Next line behind run
    next line behind run may it = next_of line behind may run.settings run.is_started run.pending run.replies run.in_hand run.ending run.state run.asked it
