use Rattle.std.proofs.Common.{◌≡◌, take}
use Rattle.std.specs.List.{flat_map}
use Rattle.std.specs.String.{string_bytes}
use Rattle.uu_report.specs.Reports.{site_text}
use Rattle.uuspool.proofs.mailing.path_over.Given as goal

abbrev pub invariant-loop-site : goal.invariant-loop-site
invariant-loop-site l = string_bytes l.path ≡ flat_map site_text (take l.site-index l.sites)
