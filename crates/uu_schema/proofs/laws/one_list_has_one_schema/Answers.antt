use Rattle.uu_schema.proofs.Objects.{one_schema}
use Rattle.uu_schema.proofs.laws.one_list_has_one_schema.Goals as goal

pub returns : goal.returns
returns c = one_schema
