use Rattle.std.proofs.Common.{◌≡◌, ◌∙◌, List, ℕ, IfOk, ap, subst}
use Rattle.std.specs.Io.KnownBytes.{Appends}
use Rattle.uu_core.specs.declared.command.Reply.{Reply}
use Rattle.uu_core.specs.declared.subject.Subject.{Subject}
use Rattle.uu_report.specs.Outputs.{output_text, replies_status}
use Rattle.uuspool.proofs.ServedLemmas.{printed}
use Rattle.uuspool.proofs.UnpackingLemmas.{IsOfThem, unpacking_served}
use Rattle.uuspool.proofs.serving.unpack.Goals as goal

pub returns-in-Ok : goal.returns-in-Ok
returns-in-Ok g c =
    let written : List ℕ → Type 0 = λ output. Appends (g.W.Write.contents c.args.out.now) (g.W.Write.contents c.print.new.out) output in
    let it = c.args.unpacking in
    let replies : List Reply = c.in-Ok.replies.items in
    unpacking_served c.args.settings.now it c.args.spool.now c.take_in.new.self written replies c.print.result
    c.in-Ok.ensures.ran c.in-Ok.ensures.every c.in-Ok.ensures.marked
    (printed c.print.result c.output_of.result c.status_of.result written (λ output. output ≡ output_text it.subjects it.skipped replies) (IsOfThem it replies)
    (λ output text. (text, c.status_of.ensures ∙ ap replies_status c.deref-in-Ok.ensures.value))
    c.print.ensures.printed c.print.ensures.status c.print.ensures.fault c.print.ensures.cut c.print.ensures.nothing
    (subst (λ (subjects : List Subject). IfOk c.output_of.result (λ output. output.items ≡ output_text subjects it.skipped replies)) c.as_slice.ensures
    (subst (λ (skipped : List ℕ). IfOk c.output_of.result (λ output. output.items ≡ output_text c.as_slice.result.now skipped replies)) c.as_slice-in-Ok.ensures
    (subst (λ (some : List Reply). IfOk c.output_of.result (λ output. output.items ≡ output_text c.as_slice.result.now c.as_slice-in-Ok.result.now some)) c.deref.ensures.value c.output_of.ensures))))
