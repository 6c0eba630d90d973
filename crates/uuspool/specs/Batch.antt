-- A stream of requests, each a line that is served over one spool, and the stream of their answers.
-- All of it is this project's choice.
use Rattle.std.specs.Prelude.{◌≡◌, ◌⊎◌, ◌≤◌, ◌-◌, ◌^◌, ◌++◌, ◌∷◌, ℕ, Bool, true, false, List, [], Option, Result, Ok, Err, IfOk, IfErr, IfSome, length, ⊤, codes}
use Rattle.std.specs.List.{AllByRecursion, FoldsTo, flat_map}
use Rattle.std.specs.String.{string_bytes}
use Rattle.std.specs.Io.KnownBytes.{Appends, Consumes, IsAtEnd}
use Rattle.sqlite.specs.Store.{Ghosts}
use Rattle.uu_frame.specs.Frames.{BeginsWithNoRequest, BeginsWithTooMuch, BeginsWithHeadWithin, IsHead, IsWithinLine, answer_frame, request_frame}
use Rattle.uu_frame.specs.Writing.{IsBegun}
use Rattle.uu_names.specs.Text.{most_text}
use Rattle.uu_settings.specs.declared.settings.Settings.{Settings}
use Rattle.uu_store.specs.declared.spool.Spool.{Spool}
use Rattle.uuspool.specs.Faults.{errors_of_fault, named, output_of_fault, status_of}
use Rattle.uuspool.specs.ServedLines.{AreServed, IsOneRun, ServedLine, Serves, left_fault}
use Rattle.uuspool.specs.declared.fault.Fault.{Fault}
use Rattle.uuspool.specs.declared.fault.Fault.TheVariants as fault

-- ---- a request and its answer

-- the line of a request, with its result
abbrev pub line_with : List (List ℕ) → ℕ → List ℕ → List ℕ → Result ℕ Fault → ServedLine
line_with words now input output result = record { words = words; now = now; input = input; output = output; result = result }

-- the line is that of a request, and its input is within the limit
abbrev pub IsRequestLine : ServedLine → Type 0
IsRequestLine line = IsHead (length line.input) line.words × (length line.input ≤ most_text)

-- the frame of a line's request
abbrev pub frame_of : ServedLine → List ℕ
frame_of line = request_frame line.words line.input

-- the program's status at an end
abbrev pub end_status : Result ℕ Fault → ℕ
end_status (Ok status) = status
end_status (Err why) = status_of why

-- what the program prints at an end on standard output, after what it printed before
abbrev pub end_output : Result ℕ Fault → List ℕ
end_output (Ok status) = []
end_output (Err why) = output_of_fault why

-- what it prints at an end on standard error
abbrev pub end_errors : Result ℕ Fault → List ℕ
end_errors (Ok status) = []
end_errors (Err why) = errors_of_fault why

-- the frame for an output and an end: the program's status, and what it would have printed on
-- standard output and on standard error
abbrev pub told_frame : List ℕ → Result ℕ Fault → List ℕ
told_frame output end = answer_frame (end_status end) (output ++ end_output end) (end_errors end)

-- the frame of a line's answer
abbrev pub answer_of : ServedLine → List ℕ
answer_of line = told_frame line.output line.result

-- ---- the stream's own faults

abbrev pub no_request : List ℕ
no_request = named (codes "no request")

-- The faults of a stream that can't be followed. Their causes are in the bytes that were left of it
-- before and after, if these are known: no request is next, or the input of the next one is too
-- large. Bytes may be unreadable or end, within the next line or after that of a request within the
-- limit. There the clock may be unreadable, too. Memory may run out.
abbrev pub IsOfStream : Option (List ℕ) → Option (List ℕ) → Fault → Type 0
IsOfStream left rest (fault.Words text help) = (string_bytes text ≡ no_request) × (help ≡ false) × IfSome left BeginsWithNoRequest
IsOfStream left rest fault.Input = IfSome left (BeginsWithTooMuch most_text)
IsOfStream left rest fault.Read = IsWithinLine left rest ⊎ IfSome left (BeginsWithHeadWithin most_text)
IsOfStream left rest fault.Memory = ⊤
IsOfStream left rest _ = ⊥

-- the answer for such a fault
abbrev pub fault_answer : Fault → List ℕ
fault_answer why = told_frame [] (Err why)

-- ---- one request

-- The line was served at the second that the clock gave, or it was left, because a line before it
-- doesn't go on.
pub record IsNext {S : Type 0} {g : Ghosts S} {C : Type 0} (settings : Settings) (Tells : C → ℕ → C → Type 0) (failed : Bool) (clock later : C) (old new : Spool S g) (line : ServedLine) : Type 0 where
  pub request : IsRequestLine line
  pub told : Tells clock line.now later
  pub served : failed ≡ false → Serves settings line old new
  pub left : failed ≡ true → (line.output ≡ []) × (line.result ≡ Err left_fault) × (new ≡ old)

-- how a stream with these bytes left ends with a status: none are left, or they have a fault, whose
-- answer is written last
abbrev pub EndsWith : Option (List ℕ) → Option (List ℕ) → (Writes : List ℕ → Type 0) → ℕ → Type 0
EndsWith left rest Writes status =
    ((status ≡ 0) × IsAtEnd left × Writes [])
    ⊎ ((why : Fault) × IsOfStream left rest why × (status ≡ status_of why) × Writes (fault_answer why))

-- The writing of an answer failed: a beginning of it was written, perhaps all of it, or, if memory
-- ran out, nothing.
abbrev pub IsUntold : List ℕ → (Writes : List ℕ → Type 0) → Fault → Type 0
IsUntold answer Writes fault.Write = IsBegun answer Writes
IsUntold answer Writes fault.Memory = Writes []
IsUntold answer Writes _ = ⊥

-- ---- the whole stream

-- the most requests of a stream that are answered
abbrev pub most_requests : ℕ
most_requests = 2 ^ 64 - 1

-- How a batch breaks off: all lines except the last were answered, and writing its answer failed;
-- or all were, and writing the answer to a fault of the stream failed. What was written is the
-- answers of lines and then a text.
abbrev pub BreaksOff : List ServedLine → Option (List ℕ) → Option (List ℕ) → (Writes : List ServedLine → List ℕ → Type 0) → Fault → Type 0
BreaksOff lines left rest Writes why =
    ((front : List ServedLine) × (last : ServedLine) × (lines ≡ front ++ last ∷ []) × IsUntold (answer_of last) (Writes front) why)
    ⊎ ((cause : Fault) × IsOfStream left rest cause × IsUntold (fault_answer cause) (Writes lines) why)

-- The lines of the requests were served one after the other, with the clock read for each. If the
-- batch ends with a status, the answers are theirs, in their order; nothing is left of the stream,
-- or it has a fault, which is answered last. If an answer could not be made or written, the batch
-- breaks off there: those before it were written, and a beginning of it. A batch has at most 2^64 -
-- 1 lines. Once these are answered, it ends with a fault.
pub record IsBatch {S : Type 0} {g : Ghosts S} {C : Type 0} (settings : Settings) (Tells : C → ℕ → C → Type 0) (clock : C) (old new : Spool S g) (input_before input_after output_before output_after : Option (List ℕ)) (result : Result ℕ Fault) : Type 0 where
  pub lines : List ServedLine
  pub served : AreServed settings lines old new
  pub run : IsOneRun settings lines old new
  pub requests : AllByRecursion IsRequestLine lines
  pub clock_told : (last : C) × FoldsTo (λ earlier (line : ServedLine) later. Tells earlier line.now later) clock lines last
  pub left : Option (List ℕ)
  pub read : Consumes input_before left (flat_map frame_of lines)
  pub answered : IfOk result (EndsWith left input_after (λ last. Appends output_before output_after (flat_map answer_of lines ++ last)))
  pub broken_off : IfErr result (λ why.
      BreaksOff lines left input_after (λ front last. Appends output_before output_after (flat_map answer_of front ++ last)) why
      ⊎ ((why ≡ fault.Read) × (length lines ≡ most_requests) × Appends output_before output_after (flat_map answer_of lines)))
