use Rattle.std.proofs.Common.{◌≤◌, ◌∙◌, ap, arith, length, sym}
use Rattle.std.proofs.lemmas.List.{take_all}
use Rattle.std.specs.List.{flat_map}
use Rattle.uu_report.proofs.LogLemmas.{mapped}
use Rattle.uu_report.specs.Logs.{part_lines}
use Rattle.uu_report.proofs.logged.parts_lines.Goals as goal

pub returns : goal.returns
returns c =
    let lines = c.args.lines.now in
    let end : length lines ≤ c.loop-line.line-index = omega arith in
    c.loop-line.invariant ∙ ap (flat_map (λ line. part_lines c.args.moment.now c.args.change.now c.args.change.now.form line.now)) (take_all c.loop-line.line-index lines end)
    ∙ sym (mapped (part_lines c.args.moment.now c.args.change.now c.args.change.now.form) (λ line. line.now) lines)
