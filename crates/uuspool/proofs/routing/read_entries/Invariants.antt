use Rattle.std.proofs.Common.{take}
use Rattle.std.specs.List.{AllZip}
use Rattle.uu_map.specs.Entry.{IsEntry}
use Rattle.uuspool.proofs.routing.read_entries.Given as goal

abbrev pub invariant-loop-text : goal.invariant-loop-text
invariant-loop-text l = AllZip IsEntry (take l.text-index l.texts) l.entries.items
