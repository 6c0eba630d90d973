use Rattle.std.proofs.Common.{take}
use Rattle.uu_line.proofs.TableLemmas.{AreApps}
use Rattle.uu_line.proofs.commands.commands_of.Given as goal

-- the commands so far are the subcommands of the rows before this one
abbrev pub invariant-loop-row : goal.invariant-loop-row
invariant-loop-row l = AreApps (take l.row-index l.rows) l.commands.items
