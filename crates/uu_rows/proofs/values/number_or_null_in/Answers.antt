use Rattle.uu_rows.proofs.Columns.{number_readable}
use Rattle.uu_rows.proofs.values.number_or_null_in.Goals as goal

pub returns-in-Err-clause-bad : goal.returns-in-Err-clause-bad
returns-in-Err-clause-bad c o fits there is value =
    let refused = c.in-Err.ensures.kind in
    let memory = c.read_fault.ensures.bad in
    refused (memory (cc)) there (number_readable o _ fits value)
