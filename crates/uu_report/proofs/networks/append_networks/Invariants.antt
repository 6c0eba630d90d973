use Rattle.std.proofs.Common.{◌≡◌, ◌++◌, take}
use Rattle.std.specs.List.{flat_map}
use Rattle.uu_report.specs.Reports.{network_text}
use Rattle.uu_report.proofs.networks.append_networks.Given as goal

-- the report so far has a line for each before this one
abbrev pub invariant-loop-network : goal.invariant-loop-network
invariant-loop-network l = l.report.items ≡ l.fn.report.items ++ flat_map network_text (take l.network-index l.networks)
