use Rattle.uu_adopt.proofs.Formats.{none_is, is_none, all_are, are_all, other_is, is_other}
use Rattle.uu_adopt.proofs.laws.tables_are_found_by_the_format.Goals as goal

pub returns-clause-none : goal.returns-clause-none
returns-clause-none c schema = (none_is schema, is_none schema)

pub returns-clause-all : goal.returns-clause-all
returns-clause-all c v schema = (all_are schema v, are_all schema v)

pub returns-clause-other : goal.returns-clause-other
returns-clause-other c schema = (other_is schema, (λ it. is_other schema it.0 it.1))
