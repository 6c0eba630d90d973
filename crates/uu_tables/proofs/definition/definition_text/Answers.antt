use Rattle.uu_tables.proofs.DefinitionLemmas.{is_kept}
use Rattle.uu_tables.proofs.definition.definition_text.Goals as goal

pub returns : goal.returns
returns c = is_kept c.args.def.now c.from_ref.result.now c.write_sys.result c.from_ref.ensures.value c.write_sys.ensures.text
