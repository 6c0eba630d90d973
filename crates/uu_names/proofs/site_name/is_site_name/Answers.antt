-- A text is a site name exactly if reading it as one succeeds.
use Rattle.std.proofs.Common.{◌∙◌}
use Rattle.uu_names.proofs.NameLemmas.{name_or_fault}
use Rattle.uu_names.proofs.site_name.is_site_name.Goals as goal

pub returns : goal.returns
returns c = c.is_ok.ensures.value ∙ name_or_fault c.args.bytes.now c.check.result c.check.ensures
