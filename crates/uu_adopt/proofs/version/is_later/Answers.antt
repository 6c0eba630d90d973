use Rattle.std.proofs.Common.{refl}
use Rattle.uu_adopt.proofs.version.is_later.Goals as goal

pub returns-in-None-clause-none : goal.returns-in-None-clause-none
returns-in-None-clause-none c none shows = c.in-None.ensures.none refl shows.version shows.is
