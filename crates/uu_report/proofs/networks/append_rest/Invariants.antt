use Rattle.std.proofs.Common.{◌≡◌, ◌++◌, take}
use Rattle.std.specs.List.{flat_map}
use Rattle.std.specs.String.{string_bytes}
use Rattle.uu_report.specs.Reports.{after_comma}
use Rattle.uu_report.proofs.networks.append_rest.Given as goal

abbrev pub invariant-loop-site : goal.invariant-loop-site
invariant-loop-site l = string_bytes l.text ≡ string_bytes l.fn.text ++ flat_map after_comma (take l.site-index l.sites)
