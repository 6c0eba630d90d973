use Rattle.std.proofs.Common.{◌≡◌, ◌++◌, take}
use Rattle.std.specs.List.{flat_map}
use Rattle.uu_report.specs.Reports.{alias_text}
use Rattle.uu_report.proofs.links.append_aliases.Given as goal

-- the report so far has a line for each before this one
abbrev pub invariant-loop-alias : goal.invariant-loop-alias
invariant-loop-alias l = l.report.items ≡ l.fn.report.items ++ flat_map alias_text (take l.alias-index l.aliases)
