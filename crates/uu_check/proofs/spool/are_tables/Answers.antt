use Rattle.uu_check.proofs.Whole.{told}
use Rattle.uu_check.proofs.spool.are_tables.Goals as goal

pub returns : goal.returns
returns c t rows = told c.pass.result c.args.rows.now t c.definitions_are_sound.ensures rows c.pass.ensures
