use Rattle.std.proofs.Common.{◌<◌, ◌≤◌, ◌∙◌, [], ap, arith, length}
use Rattle.std.proofs.lemmas.List.{length_push, take_all}
use Rattle.std.proofs.lemmas.Slice.Zip.{length-zip, zip_end, zip_turn}
use Rattle.std.specs.List.{flat_map, zip}
use Rattle.uu_report.proofs.ReportLemmas.{texts_grow, zip_item}
use Rattle.uu_report.specs.Outputs.{answer_text}
use Rattle.uu_report.proofs.output.answer_lines.Goals as goal

pub loop-subject-preserved : goal.loop-subject-preserved
loop-subject-preserved c =
    let turn = zip_turn c.args.subjects.now c.args.replies.now c.loop-subject.yielded _ c.loop-subject.subject-iterator c.next.new.self c.next.result
    (cc) (cc) c.loop-subject.yielded_by (c.in-Some.subject, c.in-Some.reply) c.in-Some.is c.next.ensures.steps in
    let inside : length c.loop-subject.yielded < length (zip c.args.subjects.now c.args.replies.now) =
    omega (arith, length-zip c.args.subjects.now c.args.replies.now, turn.0, turn.1) in
    let pair = zip_item c.args.subjects.now c.args.replies.now (length c.loop-subject.yielded) c.in-Some.subject.now c.in-Some.reply.now
    turn.0 turn.1 (turn.2 c.in-Some.subject.now) (turn.3 c.in-Some.reply.now) in
    rw (length_push c.loop-subject.yielded (c.in-Some.subject, c.in-Some.reply))
    (texts_grow (λ p. answer_text p.0 p.1) (zip c.args.subjects.now c.args.replies.now) (length c.loop-subject.yielded)
    (c.in-Some.subject.now, c.in-Some.reply.now) [] c.loop-subject.lines.items c.as_bytes.result.now c.extend_from_slice.new.self.items
    inside pair c.loop-subject.invariant (c.as_bytes.ensures.value ∙ c.in_ok-line.ensures) c.in_ok-extend_from_slice.ensures.items)

pub returns : goal.returns
returns c =
    let all = zip_end c.args.subjects.now c.args.replies.now c.loop-subject.yielded _ c.loop-subject.subject-iterator c.next.new.self c.next.result
    (cc) (cc) c.loop-subject.yielded_by c.in-None.is c.next.ensures.steps in
    let enough : length (zip c.args.subjects.now c.args.replies.now) ≤ length c.loop-subject.yielded =
    omega (arith, length-zip c.args.subjects.now c.args.replies.now, all) in
    c.loop-subject.invariant
    ∙ ap (flat_map (λ p. answer_text p.0 p.1)) (take_all (length c.loop-subject.yielded) (zip c.args.subjects.now c.args.replies.now) enough)
