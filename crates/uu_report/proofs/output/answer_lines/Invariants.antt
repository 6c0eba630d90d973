use Rattle.std.proofs.Common.{◌≡◌, length, take}
use Rattle.std.specs.List.{flat_map, zip}
use Rattle.uu_report.specs.Outputs.{answer_text}
use Rattle.uu_report.proofs.output.answer_lines.Given as goal

-- the lines of the replies before this one
abbrev pub invariant-loop-subject : goal.invariant-loop-subject
invariant-loop-subject l = l.lines.items ≡ flat_map (λ p. answer_text p.0 p.1) (take (length l.yielded) (zip l.subjects l.replies))
