use Rattle.std.proofs.Common.{◌≡◌, take}
use Rattle.std.specs.List.{flat_map}
use Rattle.uu_report.specs.Reports.{route_text}
use Rattle.uu_report.proofs.routes.routes_report.Given as goal

-- the report so far has a line for each before this one
abbrev pub invariant-loop-route : goal.invariant-loop-route
invariant-loop-route l = l.report.items ≡ flat_map (route_text l.costs) (take l.route-index l.routes)
