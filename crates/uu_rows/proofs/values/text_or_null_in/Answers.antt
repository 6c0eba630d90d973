use Rattle.uu_rows.proofs.Columns.{text_readable}
use Rattle.uu_rows.proofs.values.text_or_null_in.Goals as goal

pub returns-in-Err-clause-bad : goal.returns-in-Err-clause-bad
returns-in-Err-clause-bad c o ascii there is value =
    let refused = c.in-Err.ensures.kind in
    let memory = c.read_fault.ensures.bad in
    refused (memory (cc)) there (text_readable o _ ascii value)
