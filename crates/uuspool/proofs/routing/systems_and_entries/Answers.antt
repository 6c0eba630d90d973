-- What holds after both questions, or after the first if that had no answer.
use Rattle.std.proofs.Common.{◌≡◌, ℕ, List, [], None, Some, Ok, Err, Vec, map, refl}
use Rattle.std.specs.Prelude.{⊤}
use Rattle.std.specs.declared.alloc.Global.{Global}
use Rattle.std.proofs.lemmas.Result.{err_from_is_err_and}
use Rattle.uu_core.specs.State.{MapEntry, State}
use Rattle.uu_core.specs.declared.system.SystemRow.{SystemRow}
use Rattle.uuspool.proofs.AskedLemmas.{asked_as, asked_fault_as, asked_goes_on, asked_one, asked_then}
use Rattle.uuspool.proofs.PairLemmas.{clean_before, marked_later}
use Rattle.uuspool.proofs.ServedLemmas.{never_failed}
use Rattle.uuspool.proofs.routing.systems_and_entries.Goals as goal

abbrev AreSystems : State → Vec SystemRow Global → Type 0
AreSystems s systems = systems.items ≡ s.systems

abbrev AreTexts : State → Vec (List ℕ) Global → Type 0
AreTexts s texts = texts.items ≡ map (λ (entry : MapEntry). entry.bytes) s.entries

pub returns : goal.returns
returns g c =
    let old = c.args.spool.now in
    let mid = c.systems.new.self in
    let new = c.entries.new.self in
    let systems = c.in_ok-systems.systems in
    let texts = c.in_ok-texts.texts in
    record {
      marked = (c.in_ok-systems.ensures.question.marked.0, c.in_ok-texts.ensures.question.marked.1);
      answer = λ clean s shown.
          let first = c.in_ok-systems.ensures.question.answer (clean_before c.systems.new.self c.entries.new.self c.in_ok-texts.ensures.question.clean clean) s shown in
          let second = c.in_ok-texts.ensures.question.answer clean s first.1 in
          (first.0, second.0, second.1);
      ran = c.runs_are_one_run.ensures.joined 1 1 c.args.spool.now c.systems.new.self c.entries.new.self [] [] [] [] None None refl tt c.in_ok-systems.ensures.question.ran c.in_ok-texts.ensures.question.ran;
      failed = never_failed _ c.in_ok-systems.ensures.question.marked.0;
      asked =
          asked_as (λ s. ⊤) (λ s (t : Vec (List ℕ) Global). AreSystems s systems × AreTexts s t) old new
          (λ s (answer : Vec SystemRow Global × Vec (List ℕ) Global). AreSystems s answer.0 × AreTexts s answer.1) texts (systems, texts) (λ s shown known was. was)
          (asked_then (λ s. ⊤) AreSystems old mid new systems (asked_one AreSystems old mid (Ok systems) c.in_ok-systems.ensures.question) (λ s. ⊤) AreTexts (Ok texts)
          (λ s shown known is. tt) (asked_one AreTexts mid new (Ok texts) c.in_ok-texts.ensures.question));
    }

pub returns-in_err-systems-clause-asked : goal.returns-in_err-systems-clause-asked
returns-in_err-systems-clause-asked g c =
    let why = c.in_err-systems.field-0.0 in
    asked_goes_on (λ s. ⊤) AreSystems (λ s (answer : Vec SystemRow Global × Vec (List ℕ) Global). AreSystems s answer.0 × AreTexts s answer.1) c.args.spool.now c.systems.new.self
    c.from_residual.result why c.from_residual.ensures.1 (asked_one AreSystems c.args.spool.now c.systems.new.self (Err why) c.in_err-systems.ensures.question)

pub returns-in_err-texts : goal.returns-in_err-texts
returns-in_err-texts g c =
    let (f, is, same) = err_from_is_err_and c.from_residual-in_err-texts.result c.from_residual-in_err-texts.ensures.1 in
    let why = c.in_err-texts.field-0.0 in
    let before = c.in_ok-systems.ensures.question in
    let asked = c.in_err-texts.ensures.question in
    let old = c.args.spool.now in
    let mid = c.systems.new.self in
    let new = c.entries.new.self in
    let systems = c.in_ok-systems.systems in
    rw (is, same) (record {
      marked = marked_later _ _ _ why before.marked.0 before.marked.1 asked.marked;
      answer = λ clean s shown. tt;
      ran = c.runs_are_one_run.ensures.joined 1 1 c.args.spool.now c.systems.new.self c.entries.new.self [] [] [] [] None (Some why) refl tt before.ran asked.ran;
      failed = never_failed _ before.marked.0;
      asked =
          asked_fault_as (λ s. ⊤) (λ s (t : Vec (List ℕ) Global). AreSystems s systems × AreTexts s t) old new
          (λ s (answer : Vec SystemRow Global × Vec (List ℕ) Global). AreSystems s answer.0 × AreTexts s answer.1) why
          (asked_then (λ s. ⊤) AreSystems old mid new systems (asked_one AreSystems old mid (Ok systems) before) (λ s. ⊤) AreTexts (Err why)
          (λ s shown known is. tt) (asked_one AreTexts mid new (Err why) asked));
    })
