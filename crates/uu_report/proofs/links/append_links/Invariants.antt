use Rattle.std.proofs.Common.{◌≡◌, ◌++◌, take}
use Rattle.std.specs.List.{flat_map}
use Rattle.uu_report.specs.Reports.{link_text}
use Rattle.uu_report.proofs.links.append_links.Given as goal

-- the report so far has a line for each before this one
abbrev pub invariant-loop-link : goal.invariant-loop-link
invariant-loop-link l = l.report.items ≡ l.fn.report.items ++ flat_map link_text (take l.link-index l.links)
