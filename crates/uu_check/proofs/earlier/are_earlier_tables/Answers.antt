use Rattle.uu_check.proofs.Verdict.{told}
use Rattle.uu_check.proofs.earlier.are_earlier_tables.Goals as goal

pub returns : goal.returns
returns c t rows = told c.pass.result c.args.rows.now t rows c.pass.ensures
