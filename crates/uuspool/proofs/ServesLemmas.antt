-- A line that was served to a writer whose bytes are known.
use Rattle.std.proofs.Common.{◌≡◌, ◌∙◌, ℕ, List, [], Option, Some, None, Result, Ok, IfErr, IsSome, subst, sym}
use Rattle.std.proofs.lemmas.List.{append_cancel_left}
use Rattle.std.specs.Io.KnownBytes.{Appends}
use Rattle.sqlite.specs.Store.{Ghosts}
use Rattle.uu_times.specs.declared.moment.Moment.{Moment}
use Rattle.uu_line.specs.Lines.{MeansLine}
use Rattle.uu_line.specs.declared.line.CommandLine.{CommandLine}
use Rattle.uu_settings.specs.declared.settings.Settings.{Settings}
use Rattle.uu_request.specs.Requests.{LineAsks}
use Rattle.uu_request.specs.declared.request.Request.{Request}
use Rattle.uu_store.specs.declared.spool.Spool.{Spool}
use Rattle.uuspool.proofs.AskLemmas.{ends_as, words_ask, words_faults}
use Rattle.uuspool.proofs.ServedLemmas.{Appends_nothing, broken_as, printed_as}
use Rattle.uuspool.specs.Served.{WordsAsk, EndsAs, IsFaultOf, IsFaultOfLine, IsMomentOf, IsServed, answered_text, second_of}
use Rattle.uuspool.specs.ServedLines.{ServedLine, Serves}
use Rattle.uuspool.specs.declared.fault.Fault.{Fault}

-- known bytes grew by one text alone
one_text : (old new : Option (List ℕ)) (one other : List ℕ) → IsSome old → Appends old new one → Appends old new other → one ≡ other
one_text None new one other known first second = cc
one_text (Some bytes) None one other known first second = absurd first
one_text (Some bytes) (Some more) one other known first second = append_cancel_left bytes one other (sym first ∙ second)

-- what was written, said in other words
served_as : {S : Type 0} {g : Ghosts S} (settings : Settings) (request : Request) (old new : Spool S g) (written other : List ℕ → Type 0) (r : Result ℕ Fault)
    → ((output : List ℕ) → written output → other output) → IsServed settings request old new written r → IsServed settings request old new other r
served_as settings request old new written other r over it = record {
  commands = it.commands;
  are = it.are;
  chosen = it.chosen;
  replies = it.replies;
  stopped = it.stopped;
  ran = it.ran;
  every = it.every;
  printed = λ none. printed_as _ _ written other r (λ output status is. is) over (it.printed none);
  shows = it.shows;
  broken_off = λ why same. broken_as why (answered_text request it.replies) written other r over (it.broken_off why same);
  late = it.late;
  marked = it.marked;
  noted = it.noted;
  failed = λ had. (let was = it.failed had in (was.0, over [] was.1, was.2));
}

-- words end as their line does
pub words_end : {S : Type 0} {g : Ghosts S} (settings : Settings) (line : CommandLine) (at : Moment) (input : List ℕ) (words : List (List ℕ)) (now : ℕ)
    → MeansLine words line → IsMomentOf settings (second_of line now) at
    → (old new : Spool S g) (written : List ℕ → Type 0) (Unchanged : Type 0) (r : Result ℕ Fault)
    → EndsAs r ((request : Request) × LineAsks settings at input line (Ok request) × IsServed settings request old new written r) Unchanged
    → EndsAs r ((request : Request) × WordsAsk settings words now input (Ok request) × IsServed settings request old new written r) Unchanged
words_end settings line at input words now means moment old new written Unchanged r =
    ends_as r ((request : Request) × LineAsks settings at input line (Ok request) × IsServed settings request old new written r) Unchanged
    ((request : Request) × WordsAsk settings words now input (Ok request) × IsServed settings request old new written r) Unchanged
    (λ served. (served.0, words_ask settings line at input words now means moment (Ok served.0) served.1, served.2)) (λ kept. kept)

-- a line whose output is what the known bytes grew by
pub line_serves : {S : Type 0} {g : Ghosts S} (settings : Settings) (line : ServedLine) (old new : Spool S g) (before after : Option (List ℕ)) (Still : Type 0)
    → EndsAs line.result
    ((request : Request) × WordsAsk settings line.words line.now line.input (Ok request) × IsServed settings request old new (λ output. Appends before after output) line.result)
    ((new ≡ old) × Still)
    → (Still → after ≡ before) → IfErr line.result (IsFaultOf settings line.words line.now line.input) → IsSome before → Appends before after line.output
    → Serves settings line old new
line_serves settings line old new before after Still ends still told known wrote = record {
  ends =
      ends_as line.result
      ((request : Request) × WordsAsk settings line.words line.now line.input (Ok request) × IsServed settings request old new (λ output. Appends before after output) line.result)
      ((new ≡ old) × Still)
      ((request : Request) × WordsAsk settings line.words line.now line.input (Ok request) × IsServed settings request old new (λ output. line.output ≡ output) line.result)
      ((new ≡ old) × (line.output ≡ []))
      (λ served. (
        served.0,
        served.1,
        served_as settings served.0 old new (λ output. Appends before after output) (λ output. line.output ≡ output) line.result
            (λ output done. one_text before after line.output output known wrote done) served.2,
      ))
      (λ kept. (kept.0, one_text before after line.output [] known wrote (subst (λ a. Appends before a []) (sym (still kept.1)) (Appends_nothing before)))) ends;
  told = told;
}

-- a line that ended so is one of the lines that are served, for all words that mean it at its moment
pub words_serve : {S : Type 0} {g : Ghosts S} (settings : Settings) (line : CommandLine) (at : Moment) (input : List ℕ) (words : List (List ℕ)) (now : ℕ)
    → MeansLine words line → IsMomentOf settings (second_of line now) at
    → (old new : Spool S g) (before after : Option (List ℕ)) (Still : Type 0) (r : Result ℕ Fault)
    → EndsAs r ((request : Request) × LineAsks settings at input line (Ok request) × IsServed settings request old new (λ output. Appends before after output) r)
    ((new ≡ old) × Still)
    → (Still → after ≡ before) → IfErr r (IsFaultOfLine settings line at input)
    → (output : List ℕ) → IsSome before → Appends before after output
    → Serves settings (record { words = words; now = now; input = input; output = output; result = r }) old new
words_serve settings line at input words now means moment old new before after Still r ends still told output known wrote =
    line_serves settings (record { words = words; now = now; input = input; output = output; result = r }) old new before after Still
    (words_end settings line at input words now means moment old new (λ output. Appends before after output) ((new ≡ old) × Still) r ends) still
    (words_faults settings line at input words now means moment r told) known wrote
