use Rattle.std.proofs.Common.{◌<◌, ◌≤◌, ◌++◌, arith, length, take}
use Rattle.std.proofs.lemmas.List.{length-append}
use Rattle.std.proofs.KnownBytes.{Consumes-trans}
use Rattle.uuspool.proofs.input.read_at_most.Goals as goal

pub returns-then-count-most-clause-too_large : goal.returns-then-count-most-clause-too_large
returns-then-count-most-clause-too_large g c = λ same.
    let before = c.loop.bytes.items in
    let next = take c.in-Ok.count c.read.new.buf in
    let more : c.args.most < length (before ++ next) = omega (arith, length-append before next, c.in-Ok.ensures.bound.1, c.if-count-most.true, c.len.ensures, c.loop.bytes.ok.0) in
    (before ++ next, Consumes-trans _ _ _ before next c.loop.invariant.0 c.in-Ok.ensures.bytes.0, more)

pub returns-then-is_err-clause-within : goal.returns-then-is_err-clause-within
returns-then-is_err-clause-within g c = λ other.
    let before = c.loop.bytes.items in
    let next = take c.in-Ok.count c.read.new.buf in
    let fits : length (before ++ next) ≤ c.args.most = omega (arith, length-append before next, c.in-Ok.ensures.bound.1, c.if-count-most.false, c.len.ensures, c.loop.bytes.ok.0, c.loop.invariant.1) in
    (before ++ next, Consumes-trans _ _ _ before next c.loop.invariant.0 c.in-Ok.ensures.bytes.0, fits)
