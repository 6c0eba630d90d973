use Rattle.std.proofs.Common.{◌≡◌, true, refl, ap, ◌∙◌}
use Rattle.sqlite_schema.specs.Names.{same_name}
use Rattle.uu_schema.specs.Schema.{spool_schema}
use Rattle.uu_adopt.specs.Alone.{is_alone}
use Rattle.uu_adopt.proofs.alone.is_alone.Goals as goal

-- so is a spool's own schema
spool_is : is_alone spool_schema ≡ true
unfolding same_name
spool_is = refl

pub returns-clause-own : goal.returns-clause-own
returns-clause-own c same = c.has_nothing_else.ensures ∙ ap is_alone same ∙ spool_is
