use Rattle.std.proofs.Common.{◌≤◌, Option, IfSome, inr, length, map, string_bytes, refl, subst}
use Rattle.std.specs.Io.KnownBytes.{Consumes}
use Rattle.uu_frame.specs.Frames.{IsHead, request_frame}
use Rattle.uu_frame.specs.declared.request.Frame.{Frame}
use Rattle.uu_names.specs.Text.{most_text}
use Rattle.uuspool.specs.Batch.{IsRequestLine, frame_of, line_with}
use Rattle.uuspool.specs.ServedLines.{ServedLine}
use Rattle.uuspool.specs.declared.fault.Fault.TheVariants as fault
use Rattle.uuspool.proofs.BatchLemmas.{began_within, step_broken, step_of_end}
use Rattle.uuspool.proofs.batching.answer_next.Goals as goal

pub returns-in-Err : goal.returns-in-Err
returns-in-Err g c =
    step_of_end c.args.settings.now g.C.Clock.tells c.args.failed c.args.clock.now c.args.clock.now c.args.spool.now c.args.spool.now
    (g.R.Read.remaining c.args.reader.now) (g.R.Read.remaining c.read_request.new.reader)
    (g.W.Write.contents c.args.out.now) (g.W.Write.contents c.end_with.new.out)
    c.end_with.result c.stream_fault.result (c.stream_fault.ensures (g.R.Read.remaining c.args.reader.now) (g.R.Read.remaining c.read_request.new.reader) c.in-Err.ensures.cause)
    refl c.end_with.ensures.answer c.end_with.ensures.untold

pub returns-in_default : goal.returns-in_default
returns-in_default g c =
    let had = g.R.Read.remaining c.args.reader.now in
    let left = g.R.Read.remaining c.read_request.new.reader in
    let words = map string_bytes c.in-Ok-Some.frame.words.items in
    let input = c.in-Ok-Some.frame.input.items in
    let head = subst (λ (next : Option Frame). IfSome next (λ request. IsHead (length request.input.items) (map string_bytes request.words.items))) c.in-Ok-Some.field-0-is c.in-Ok-Some.ensures.head in
    let fits = subst (λ (next : Option Frame). IfSome next (λ request. length request.input.items ≤ most_text)) c.in-Ok-Some.field-0-is c.in-Ok-Some.ensures.limit in
    let read = subst (λ (next : Option Frame). IfSome next (λ request. Consumes had left (request_frame (map string_bytes request.words.items) request.input.items))) c.in-Ok-Some.field-0-is c.in-Ok-Some.ensures.request in
    step_of_end c.args.settings.now g.C.Clock.tells c.args.failed c.args.clock.now c.second.new.self c.args.spool.now c.args.spool.now had left
    (g.W.Write.contents c.args.out.now) (g.W.Write.contents c.end_with-in_default.new.out)
    c.end_with-in_default.result fault.Read (inr (began_within had left words input head fits read)) refl c.end_with-in_default.ensures.answer c.end_with-in_default.ensures.untold

pub returns-in-Ok : goal.returns-in-Ok
returns-in-Ok g c =
    let answer = c.answer_to-answer.result in
    let line : ServedLine = line_with (map string_bytes c.in-Ok-Some.frame.words.items) c.in-Some.now c.in-Ok-Some.frame.input.items answer.output.items answer.end in
    let request : IsRequestLine line = (
      subst (λ (next : Option Frame). IfSome next (λ request. IsHead (length request.input.items) (map string_bytes request.words.items))) c.in-Ok-Some.field-0-is c.in-Ok-Some.ensures.head,
      subst (λ (next : Option Frame). IfSome next (λ request. length request.input.items ≤ most_text)) c.in-Ok-Some.field-0-is c.in-Ok-Some.ensures.limit,
    ) in
    let read : Consumes (g.R.Read.remaining c.args.reader.now) (g.R.Read.remaining c.read_request.new.reader) (frame_of line) =
    subst (λ (next : Option Frame). IfSome next (λ request.
    Consumes (g.R.Read.remaining c.args.reader.now) (g.R.Read.remaining c.read_request.new.reader) (request_frame (map string_bytes request.words.items) request.input.items)))
    c.in-Ok-Some.field-0-is c.in-Ok-Some.ensures.request in (
      line,
      record {
        request = request;
        told = c.in-Some.ensures;
        served = c.answer_to-answer.ensures.served;
        left = c.answer_to-answer.ensures.left;
      },
      read,
      c.in-Ok.ensures.answer,
      c.goes_on-goes_on.ensures,
    )

pub returns-in-Err-tell : goal.returns-in-Err-tell
returns-in-Err-tell g c =
    let answer = c.answer_to-answer.result in
    let line : ServedLine = line_with (map string_bytes c.in-Ok-Some.frame.words.items) c.in-Some.now c.in-Ok-Some.frame.input.items answer.output.items answer.end in
    let request : IsRequestLine line = (
      subst (λ (next : Option Frame). IfSome next (λ request. IsHead (length request.input.items) (map string_bytes request.words.items))) c.in-Ok-Some.field-0-is c.in-Ok-Some.ensures.head,
      subst (λ (next : Option Frame). IfSome next (λ request. length request.input.items ≤ most_text)) c.in-Ok-Some.field-0-is c.in-Ok-Some.ensures.limit,
    ) in
    let read : Consumes (g.R.Read.remaining c.args.reader.now) (g.R.Read.remaining c.read_request.new.reader) (frame_of line) =
    subst (λ (next : Option Frame). IfSome next (λ request.
    Consumes (g.R.Read.remaining c.args.reader.now) (g.R.Read.remaining c.read_request.new.reader) (request_frame (map string_bytes request.words.items) request.input.items)))
    c.in-Ok-Some.field-0-is c.in-Ok-Some.ensures.request in
    step_broken c.args.settings.now g.C.Clock.tells c.args.failed c.args.clock.now c.second.new.self c.args.spool.now c.answer_to-answer.new.spool
    (g.R.Read.remaining c.args.reader.now) (g.R.Read.remaining c.read_request.new.reader)
    (g.W.Write.contents c.args.out.now) (g.W.Write.contents c.tell.new.out) c.in-Err-tell.fault line c.in-Err-tell.ensures.untold
    record {
      request = request;
      told = c.in-Some.ensures;
      served = c.answer_to-answer.ensures.served;
      left = c.answer_to-answer.ensures.left;
    } read
