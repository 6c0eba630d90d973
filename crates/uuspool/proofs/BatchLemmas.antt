-- How a batch goes from request to request.
use Rattle.std.proofs.Common.{◌≡◌, ◌≤◌, ◌∙◌, ◌+◌, ◌++◌, ◌∷◌, inl, inr, ℕ, Bool, true, false, true≢false, List, [], Option, None, Some, Result, Ok, Err, IfErr, IfOk, IfSome, length, ap, append-nil, append_assoc, refl, subst, sym}
use Rattle.std.specs.Prelude.{◌⊎◌}
use Rattle.std.specs.List.{AllByRecursion, FoldsTo, flat_map}
use Rattle.std.specs.Io.KnownBytes.{Appends, Consumes}
use Rattle.std.proofs.KnownBytes.{Appends-nil, Appends-trans, Consumes-nil, Consumes-trans}
use Rattle.std.proofs.lemmas.List.Concat.{flat_map-append}
use Rattle.std.proofs.lemmas.Fn.{FoldsTo-push}
use Rattle.std.proofs.lemmas.List.{length_push}
use Rattle.sqlite.specs.Store.{Ghosts}
use Rattle.uu_frame.specs.Frames.{BeginsWithHeadWithin, IsHead, head_line, request_frame}
use Rattle.uu_names.specs.Text.{most_text}
use Rattle.uu_names.proofs.Basics.{all_push}
use Rattle.uu_settings.specs.declared.settings.Settings.{Settings}
use Rattle.uu_store.specs.declared.spool.Spool.{Spool}
use Rattle.uuspool.specs.Batch.{BreaksOff, EndsWith, IsBatch, IsNext, IsOfStream, IsRequestLine, IsUntold, answer_of, fault_answer, frame_of, most_requests}
use Rattle.uuspool.specs.Internal.BatchSteps.{IsBatchStep}
use Rattle.uuspool.specs.Faults.{status_of}
use Rattle.uuspool.specs.ServedLines.{AllGoOn, AreLeft, AreServed, IsOneRun, ServedLine, Serves, goes_on, left_fault}
use Rattle.uuspool.specs.declared.batching.Step.{Step}
use Rattle.uuspool.specs.declared.batching.Step.TheVariants as step
use Rattle.uuspool.specs.declared.fault.Fault.{Fault}
use Rattle.uuspool.specs.declared.fault.Fault.TheVariants as fault

-- ---- one line more

-- after some line the next is left
abbrev pub SomeStops : List ServedLine → Type 0
SomeStops [] = ⊥
SomeStops (line ∷ lines) = (goes_on line.result ≡ false) ⊎ SomeStops lines

left_more : (lines : List ServedLine) (line : ServedLine) → AreLeft lines → line.output ≡ [] → line.result ≡ Err left_fault → AreLeft (lines ++ line ∷ [])
left_more [] line left nothing is = (nothing, is, tt)
left_more (first ∷ lines) line (a, b, left) nothing is = (a, b, left_more lines line left nothing is)

off_more : (lines : List ServedLine) (line : ServedLine) → SomeStops lines → SomeStops (lines ++ line ∷ [])
off_more [] line off = absurd off
off_more (first ∷ lines) line (inl stops) = inl stops
off_more (first ∷ lines) line (inr later) = inr (off_more lines line later)

off_now : (lines : List ServedLine) (line : ServedLine) → goes_on line.result ≡ false → SomeStops (lines ++ line ∷ [])
off_now [] line stops = inl stops
off_now (first ∷ lines) line stops = inr (off_now lines line stops)

flat_more : (f : ServedLine → List ℕ) (lines : List ServedLine) (line : ServedLine) → flat_map f lines ++ f line ≡ flat_map f (lines ++ line ∷ [])
flat_more f lines line = ap (λ back. flat_map f lines ++ back) (sym (append-nil (f line))) ∙ sym (flat_map-append f lines (line ∷ []))

module _ {S : Type 0} {g : Ghosts S} (settings : Settings) where
  served_more : (lines : List ServedLine) (line : ServedLine) (old mid new : Spool S g) → AreServed settings lines old mid → AllGoOn lines → Serves settings line mid new → AreServed settings (lines ++ line ∷ []) old new
  served_more [] line old mid new same on serves =
      (new, subst (λ (m : Spool S g). Serves settings line m new) same serves, (λ goes. refl), (λ stops. (tt, refl)))
  served_more (first ∷ lines) line old mid new (m, here, rest, left) (goes, on) serves = (
    m,
    here,
    (λ _. served_more lines line m mid new (rest goes) on serves),
    (λ stops. absurd (true≢false (sym goes ∙ stops))),
  )

  -- one of them stops, so the line is left like those after that one
  unserved_more : (lines : List ServedLine) (line : ServedLine) (old mid new : Spool S g) → AreServed settings lines old mid → SomeStops lines
      → line.output ≡ [] → line.result ≡ Err left_fault → new ≡ mid → AreServed settings (lines ++ line ∷ []) old new
  unserved_more [] line old mid new same off nothing is still = absurd off
  unserved_more (first ∷ lines) line old mid new (m, here, rest, left) off nothing is still = (
    m,
    here,
    (λ goes. elim off [
      | inl stops ↦ absurd (true≢false (sym goes ∙ stops))
      | inr later ↦ unserved_more lines line m mid new (rest goes) later nothing is still
    ]),
    (λ stops. (left_more lines line (left stops).0 nothing is, still ∙ (left stops).1)),
  )

-- a request within the limit was read
pub began_within : (had left : Option (List ℕ)) (words : List (List ℕ)) (input : List ℕ) → IsHead (length input) words → length input ≤ most_text
    → Consumes had left (request_frame words input) → IfSome had (BeginsWithHeadWithin most_text)
began_within None left words input head fits read = tt
began_within (Some bytes) None words input head fits read = absurd read
began_within (Some bytes) (Some rest) words input head fits read =
    (length input, words, head, fits, input ++ rest, read ∙ append_assoc (head_line (length input) words) (10 ∷ input) rest)

-- what was written of an answer, after those before it
untold_behind : (held holds more : Option (List ℕ)) (before answer : List ℕ) (why : Fault) → Appends held holds before → IsUntold answer (Appends holds more) why
    → IsUntold answer (λ last. Appends held more (before ++ last)) why
untold_behind held holds more before answer fault.Write wrote (begun, rest, is, some) = (begun, rest, is, Appends-trans held holds more before begun wrote some)
untold_behind held holds more before answer fault.Memory wrote some = Appends-trans held holds more before [] wrote some
untold_behind held holds more before answer (fault.Words text help) wrote none = none
untold_behind held holds more before answer (fault.Settings is) wrote none = none
untold_behind held holds more before answer (fault.Name is) wrote none = none
untold_behind held holds more before answer (fault.Time is) wrote none = none
untold_behind held holds more before answer fault.TwoSystems wrote none = none
untold_behind held holds more before answer fault.Input wrote none = none
untold_behind held holds more before answer (fault.Store is) wrote none = none
untold_behind held holds more before answer fault.Read wrote none = none
untold_behind held holds more before answer (fault.Bundle is) wrote none = none

-- ---- a stream so far

-- the requests that were answered so far, and whether after some line the next is left
pub record SoFar {S : Type 0} {g : Ghosts S} {C : Type 0} (settings : Settings) (Tells : C → ℕ → C → Type 0) (failed : Bool) (count : ℕ) (clock later : C) (old new : Spool S g) (had left held holds : Option (List ℕ)) : Type 0 where
  pub lines : List ServedLine
  pub counted : length lines ≡ count
  pub served : AreServed settings lines old new
  pub on : failed ≡ false → AllGoOn lines
  pub off : failed ≡ true → SomeStops lines
  pub requests : AllByRecursion IsRequestLine lines
  pub clock_told : FoldsTo (λ earlier (line : ServedLine) later. Tells earlier line.now later) clock lines later
  pub read : Consumes had left (flat_map frame_of lines)
  pub answered : Appends held holds (flat_map answer_of lines)

-- after a line the next is served if those before it and it go on
on_then : (failed goes : Bool) (lines : List ServedLine) (line : ServedLine) → (failed ≡ false → AllGoOn lines) → (failed ≡ true → line.result ≡ Err left_fault)
    → goes ≡ goes_on line.result → goes ≡ true → AllGoOn (lines ++ line ∷ [])
on_then false goes lines line on left is went = all_push (λ (l : ServedLine). goes_on l.result ≡ true) lines line (on refl) (sym is ∙ went)
on_then true goes lines line on left is went = absurd (true≢false (sym went ∙ is ∙ ap goes_on (left refl)))

off_then : (failed goes : Bool) (lines : List ServedLine) (line : ServedLine) → (failed ≡ false → AllGoOn lines) → (failed ≡ true → SomeStops lines)
    → goes ≡ goes_on line.result → goes ≡ false → SomeStops (lines ++ line ∷ [])
off_then false goes lines line on off is stops = off_now lines line (sym is ∙ stops)
off_then true goes lines line on off is stops = off_more lines line (off refl)

module _ {S : Type 0} {g : Ghosts S} {C : Type 0} (settings : Settings) (Tells : C → ℕ → C → Type 0) where
  pub none_so_far : (clock : C) (old : Spool S g) (had held : Option (List ℕ)) → SoFar settings Tells false 0 clock clock old old had had held held
  none_so_far clock old had held = record {
    lines = [];
    counted = refl;
    served = refl;
    on = λ no. tt;
    off = λ yes. absurd (true≢false (sym yes));
    requests = tt;
    clock_told = refl;
    read = Consumes-nil had;
    answered = Appends-nil held;
  }

  lines_then : (failed : Bool) (lines : List ServedLine) (line : ServedLine) (clock later : C) (old mid new : Spool S g) → AreServed settings lines old mid → (failed ≡ false → AllGoOn lines) → (failed ≡ true → SomeStops lines)
      → IsNext settings Tells failed clock later mid new line → AreServed settings (lines ++ line ∷ []) old new
  lines_then false lines line clock later old mid new served on off next = served_more settings lines line old mid new served (on refl) (next.served refl)
  lines_then true lines line clock later old mid new served on off next =
      let left = next.left refl in unserved_more settings lines line old mid new served (off refl) left.0 left.1 left.2

  module _ (failed : Bool) (count : ℕ) (clock now later : C) (old mid new : Spool S g) (had left rest held holds more : Option (List ℕ)) (so : SoFar settings Tells failed count clock now old mid had left held holds) where
    pub one_more_so_far : (goes after : Bool) → (after ≡ true → goes ≡ false) → (after ≡ false → goes ≡ true)
        → (let r : Result Step Fault = Ok (step.Answered goes) in IsBatchStep settings Tells failed now later mid new left rest holds more r)
        → SoFar settings Tells after (count + 1) clock later old new had rest held more
    one_more_so_far goes after fails on (line, next, consumes, appends, is) = record {
      lines = so.lines ++ line ∷ [];
      counted = length_push so.lines line ∙ ap (λ n. n + 1) so.counted;
      served = lines_then failed so.lines line now later old mid new so.served so.on so.off next;
      on = λ no. on_then failed goes so.lines line so.on (λ was. (next.left was).1) is (on no);
      off = λ yes. off_then failed goes so.lines line so.on so.off is (fails yes);
      requests = all_push IsRequestLine so.lines line so.requests next.request;
      clock_told = FoldsTo-push (λ earlier (l : ServedLine) later. Tells earlier l.now later) clock so.lines now line later so.clock_told next.told;
      read = subst (Consumes had rest) (flat_more frame_of so.lines line) (Consumes-trans had left rest (flat_map frame_of so.lines) (frame_of line) so.read consumes);
      answered = subst (Appends held more) (flat_more answer_of so.lines line) (Appends-trans held holds more (flat_map answer_of so.lines) (answer_of line) so.answered appends);
    }

    module _ (law : (lines : List ServedLine) (old new : Spool S g) → AreServed settings lines old new → IsOneRun settings lines old new) where
      -- the requests so far are all
      ended_so : (r : Result ℕ Fault) → new ≡ mid → IfOk r (EndsWith left rest (λ last. Appends held more (flat_map answer_of so.lines ++ last)))
          → IfErr r (λ why. BreaksOff so.lines left rest (λ front last. Appends held more (flat_map answer_of front ++ last)) why
          ⊎ ((why ≡ fault.Read) × (length so.lines ≡ most_requests) × Appends held more (flat_map answer_of so.lines)))
          → IsBatch settings Tells clock old new had rest held more r
      ended_so r still ends breaks =
          let served = subst (λ (n : Spool S g). AreServed settings so.lines old n) (sym still) so.served in record {
            lines = so.lines;
            served = served;
            run = law so.lines old new served;
            requests = so.requests;
            clock_told = (now, so.clock_told);
            left = left;
            read = so.read;
            answered = ends;
            broken_off = breaks;
          }

      pub batch_ended : (status : ℕ) → (let r : Result Step Fault = Ok (step.Ended status) in IsBatchStep settings Tells failed now later mid new left rest holds more r)
          → (let r : Result ℕ Fault = Ok status in IsBatch settings Tells clock old new had rest held more r)
      batch_ended status (still, ends) = ended_so (Ok status) still (ends_with ends) tt
        where
          ends_with : EndsWith left rest (Appends holds more) status → EndsWith left rest (λ last. Appends held more (flat_map answer_of so.lines ++ last)) status
          ends_with (inl (zero, at_end, writes)) = inl (zero, at_end, Appends-trans held holds more (flat_map answer_of so.lines) [] so.answered writes)
          ends_with (inr (why, is, same, writes)) = inr (why, is, same, Appends-trans held holds more (flat_map answer_of so.lines) (fault_answer why) so.answered writes)

      pub batch_full : new ≡ mid → holds ≡ more → count ≡ most_requests → (let r : Result ℕ Fault = Err fault.Read in IsBatch settings Tells clock old new had rest held more r)
      batch_full still kept full = ended_so (Err fault.Read) still tt (inr (refl, so.counted ∙ full, subst (λ m. Appends held m (flat_map answer_of so.lines)) kept so.answered))

      pub batch_broken : (why : Fault) → (let r : Result Step Fault = Err why in IsBatchStep settings Tells failed now later mid new left rest holds more r)
          → (let r : Result ℕ Fault = Err why in IsBatch settings Tells clock old new had rest held more r)
      batch_broken why (inr (still, cause, is, untold)) =
          ended_so (Err why) still tt (inl (inr (cause, is, untold_behind held holds more (flat_map answer_of so.lines) (fault_answer cause) why so.answered untold)))
      batch_broken why (inl (line, next, consumes, untold)) =
          let served = lines_then failed so.lines line now later old mid new so.served so.on so.off next in record {
            lines = so.lines ++ line ∷ [];
            served = served;
            run = law (so.lines ++ line ∷ []) old new served;
            requests = all_push IsRequestLine so.lines line so.requests next.request;
            clock_told = (later, FoldsTo-push (λ earlier (l : ServedLine) later. Tells earlier l.now later) clock so.lines now line later so.clock_told next.told);
            left = rest;
            read = subst (Consumes had rest) (flat_more frame_of so.lines line) (Consumes-trans had left rest (flat_map frame_of so.lines) (frame_of line) so.read consumes);
            answered = tt;
            broken_off = inl (inl (so.lines, line, refl, untold_behind held holds more (flat_map answer_of so.lines) (answer_of line) why so.answered untold));
          }

-- ---- one step

module _ {S : Type 0} {g : Ghosts S} {C : Type 0} (settings : Settings) (Tells : C → ℕ → C → Type 0) (failed : Bool) (clock later : C) (old new : Spool S g) (had left held holds : Option (List ℕ)) where
  -- the stream ended with the answer to a fault of its own
  pub step_of_end : (r : Result Step Fault) (why : Fault) → IsOfStream had left why → new ≡ old
      → IfOk r (λ made. (made ≡ step.Ended (status_of why)) × Appends held holds (fault_answer why)) → IfErr r (IsUntold (fault_answer why) (Appends held holds))
      → IsBatchStep settings Tells failed clock later old new had left held holds r
  step_of_end (Ok (step.Ended status)) why is still (same, appends) named = let status_is : status ≡ status_of why = cc in (still, inr (why, is, status_is, appends))
  step_of_end (Ok (step.Answered goes)) why is still (same, appends) named = absurd (cc)
  step_of_end (Err fault) why is still none untold = inr (still, why, is, untold)

  pub step_broken : (why : Fault) (line : ServedLine) → IsUntold (answer_of line) (Appends held holds) why → IsNext settings Tells failed clock later old new line → Consumes had left (frame_of line)
      → (let r : Result Step Fault = Err why in IsBatchStep settings Tells failed clock later old new had left held holds r)
  step_broken why line untold next consumes = inl (line, next, consumes, untold)
