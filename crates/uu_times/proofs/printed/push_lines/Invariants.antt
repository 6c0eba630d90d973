use Rattle.std.proofs.Common.{◌≡◌, ◌++◌, take, All}
use Rattle.std.specs.List.{flat_map}
use Rattle.uu_times.specs.Printed.{time_words, line_text, IsLine}
use Rattle.uu_times.proofs.printed.push_lines.Given as goal

-- the lines so far
abbrev pub invariant-loop-line : goal.invariant-loop-line
invariant-loop-line l =
    (l.text.items ≡ l.fn.text.items ++ flat_map (λ line. line_text (time_words line)) (take l.line-index l.lines)) × All IsLine (take l.line-index l.lines)
