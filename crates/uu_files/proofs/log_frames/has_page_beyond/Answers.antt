use Rattle.std.proofs.Common.{refl, ◌+◌, arith}
use Rattle.uu_files.proofs.Frames.{all_clear, beyond_is_found, clear_at_first, clear_then}
use Rattle.uu_files.proofs.log_frames.has_page_beyond.Goals as goal

pub loop-place-init : goal.loop-place-init
loop-place-init c = clear_at_first c.args.last c.args.at c.args.bytes.now c.way_to_frame-place.result c.way_to_frame-place.ensures

pub returns-then-is_page_beyond : goal.returns-then-is_page_beyond
returns-then-is_page_beyond c = (
  λ _. beyond_is_found c.args.last c.args.at c.args.bytes.now c.loop-place.place c.loop-place.invariant.0 (c.if-is_page_beyond.ensures.0 refl),
  λ _. refl,
)

pub loop-place-preserved : goal.loop-place-preserved
loop-place-preserved c = clear_then c.args.last c.args.at c.args.bytes.now c.loop-place.place c.loop-place.invariant.0 c.loop-place.invariant.1
    (λ beyond. let no = c.if-is_page_beyond.ensures.1 beyond in absurd cc)

pub returns : goal.returns
returns c = (λ no. absurd cc, λ found. absurd (all_clear c.args.last c.args.at c.args.bytes.now c.loop-place.place c.loop-place.invariant.1 c.loop-place-test.false found))

pub returns-then-end-place-le-FRAME : goal.returns-then-end-place-le-FRAME
returns-then-end-place-le-FRAME c =
    let then = clear_then c.args.last c.args.at c.args.bytes.now c.loop-place.place c.loop-place.invariant.0 c.loop-place.invariant.1
    (λ beyond. let no = c.if-is_page_beyond.ensures.1 beyond in absurd cc) in (
      λ no. absurd cc,
      λ found. absurd (all_clear c.args.last c.args.at c.args.bytes.now (c.loop-place.place + 4120) then.1 (omega (arith, c.if-end-place-le-FRAME.true)) found),
    )
