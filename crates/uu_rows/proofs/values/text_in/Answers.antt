use Rattle.std.proofs.lemmas.Str.{IsUtf8-from_ascii}
use Rattle.uu_rows.proofs.Ascii.{text_there}
use Rattle.uu_rows.proofs.values.text_in.Goals as goal

pub returns-in-Err-clause-bad : goal.returns-in-Err-clause-bad
returns-in-Err-clause-bad c t ascii is value =
    let refused = c.in-Err.ensures.kind in
    let memory = c.read_fault.ensures.bad in
    refused (memory (cc)) (text_there c.args.row.now c.args.at t value) (t, value, IsUtf8-from_ascii t ascii)
