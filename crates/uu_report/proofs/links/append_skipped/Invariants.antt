use Rattle.std.proofs.Common.{◌≡◌, ◌++◌, take}
use Rattle.std.specs.List.{flat_map}
use Rattle.uu_report.specs.Reports.{skipped_text}
use Rattle.uu_report.proofs.links.append_skipped.Given as goal

-- the report so far has a line for each before this one
abbrev pub invariant-loop-number : goal.invariant-loop-number
invariant-loop-number l = l.report.items ≡ l.fn.report.items ++ flat_map skipped_text (take l.number-index l.skipped)
