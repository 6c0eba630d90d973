use Rattle.std.proofs.Common.{◌++◌, ap, subst, ◌∙◌}
use Rattle.std.proofs.lemmas.List.Elements.{All-more}
use Rattle.uu_times.specs.declared.system.Line.{Line}
use Rattle.uu_times.specs.Printed.{time_words, line_text, IsLine}
use Rattle.uu_times.proofs.PrintedText.{grow}
use Rattle.uu_times.proofs.printed.push_lines.Goals as goal

pub loop-line-preserved : goal.loop-line-preserved
loop-line-preserved c =
    let line = c.line-item.result in (
      grow (λ (l : Line). line_text (time_words l)) c.args.lines.now c.loop-line.line-index line c.args.text.now.items c.loop-line.text.items c.push_line.new.text.items
          c.loop-line-test.true c.loop-line.invariant.0
          (c.in_ok-push_line.ensures.text ∙ ap (λ (l : Line). c.loop-line.text.items ++ line_text (time_words l)) c.line-item.is),
      All-more IsLine c.args.lines.now c.loop-line.line-index line c.loop-line-test.true c.loop-line.invariant.1 (subst IsLine c.line-item.is c.in_ok-push_line.ensures.is),
    )
