use Rattle.uu_times.proofs.ZoneLemmas.{offset_said, offset_standard, offset_within}
use Rattle.uu_times.proofs.laws.zones_are_what_they_say.Goals as goal

pub returns-clause-same : goal.returns-clause-same
returns-clause-same c = offset_said

pub returns-clause-standard : goal.returns-clause-standard
returns-clause-standard c = offset_standard

pub returns-clause-within : goal.returns-clause-within
returns-clause-within c = offset_within
