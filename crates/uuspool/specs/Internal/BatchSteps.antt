-- One step through a stream of requests.
use Rattle.std.specs.Prelude.{◌≡◌, ◌⊎◌, ℕ, Bool, List, Option, Result, Ok, Err}
use Rattle.std.specs.Io.KnownBytes.{Appends, Consumes}
use Rattle.sqlite.specs.Store.{Ghosts}
use Rattle.uu_settings.specs.declared.settings.Settings.{Settings}
use Rattle.uu_store.specs.declared.spool.Spool.{Spool}
use Rattle.uuspool.specs.Batch.{EndsWith, IsNext, IsOfStream, IsUntold, answer_of, fault_answer, frame_of}
use Rattle.uuspool.specs.ServedLines.{ServedLine, goes_on}
use Rattle.uuspool.specs.declared.batching.Step.{Step}
use Rattle.uuspool.specs.declared.batching.Step.TheVariants as step
use Rattle.uuspool.specs.declared.fault.Fault.{Fault}

module _ {S : Type 0} {g : Ghosts S} {C : Type 0} (settings : Settings) (Tells : C → ℕ → C → Type 0) (failed : Bool) (clock later : C) (old new : Spool S g) (input_before input_after output_before output_after : Option (List ℕ)) where
  -- a request was answered, or the stream ended; or writing the answer failed
  abbrev pub IsBatchStep : Result Step Fault → Type 0
  IsBatchStep (Ok (step.Answered on)) =
      (line : ServedLine) × IsNext settings Tells failed clock later old new line × Consumes input_before input_after (frame_of line) × Appends output_before output_after (answer_of line)
      × (on ≡ goes_on line.result)
  IsBatchStep (Ok (step.Ended status)) = (new ≡ old) × EndsWith input_before input_after (Appends output_before output_after) status
  IsBatchStep (Err why) =
      ((line : ServedLine) × IsNext settings Tells failed clock later old new line × Consumes input_before input_after (frame_of line) × IsUntold (answer_of line) (Appends output_before output_after) why)
      ⊎ ((new ≡ old) × (cause : Fault) × IsOfStream input_before input_after cause × IsUntold (fault_answer cause) (Appends output_before output_after) why)
