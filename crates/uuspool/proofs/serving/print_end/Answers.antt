use Rattle.std.proofs.Common.{◌≡◌, ◌∙◌, List, IfOk, ap, subst}
use Rattle.std.specs.Io.KnownBytes.{Appends}
use Rattle.uu_core.specs.declared.command.Reply.{Reply}
use Rattle.uu_report.specs.Outputs.{output_text, replies_status}
use Rattle.uuspool.proofs.EndLemmas.{whole_printed}
use Rattle.uuspool.proofs.serving.print_end.Goals as goal

pub returns-in-None : goal.returns-in-None
returns-in-None g c =
    whole_printed c.args.subjects.now c.args.skipped.now c.args.end.now
    (λ output. Appends (g.W.Write.contents c.args.out.now) (g.W.Write.contents c.print.new.out) output) c.output_of.result c.status_of.result c.print.result
    c.in-None.is (c.status_of.ensures ∙ ap replies_status c.deref-in-None.ensures.value)
    (subst (λ (replies : List Reply). IfOk c.output_of.result (λ output. output.items ≡ output_text c.args.subjects.now c.args.skipped.now replies)) c.deref.ensures.value c.output_of.ensures)
    c.print.ensures.printed c.print.ensures.status c.print.ensures.fault c.print.ensures.cut c.print.ensures.nothing
