use Rattle.std.proofs.Common.{◌∙◌}
use Rattle.uu_store.proofs.spool.Spool.is_alone.Goals as goal

pub returns-clause-own : goal.returns-clause-own
returns-clause-own g c s shows = c.is_alone.ensures.own (c.schema.ensures.value ∙ shows.encodes.stands.schema)
