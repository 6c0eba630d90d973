use Rattle.std.proofs.Common.{ap, Ok}
use Rattle.uu_map.proofs.EntryTexts.{entry_is, one_entry}
use Rattle.uu_map.proofs.reader.read_entry.Goals as goal

pub returns-clause-answer : goal.returns-clause-answer
returns-clause-answer c = entry_is c.args.text.now c.in_ok-host.host c.in_ok-entry_of.field-0 c.in_ok-host.ensures.answer c.in_ok-entry_of.ensures

pub returns-clause-only : goal.returns-clause-only
returns-clause-only c =
    let found = entry_is c.args.text.now c.in_ok-host.host c.in_ok-entry_of.field-0 c.in_ok-host.ensures.answer c.in_ok-entry_of.ensures in
    λ entry is. ap Ok (one_entry c.args.text.now c.in_ok-entry_of.field-0 entry found is)
