use Rattle.std.proofs.Common.{◌∙◌, ap}
use Rattle.jiff_tz.specs.PosixRule as rule
use Rattle.uu_times.specs.Zone.{offset_at}
use Rattle.uu_times.proofs.zone.Zone.offset.Goals as goal

pub returns : goal.returns
unfolding offset_at
returns c = ap (λ o. o.seconds) c.to_offset.ensures ∙ ap (λ n. (rule.offset_at c.args.self.now.rule n).seconds) c.instant.ensures
