use Rattle.std.proofs.Common.{◌≡◌, drop}
use Rattle.clap.specs.Words.{app_of}
use Rattle.clap.specs.declared.builder.command.Command.TheViews.{out-Command as fields_of}
use Rattle.uu_line.specs.Internal.Tables.{with_rules}
use Rattle.uu_line.proofs.commands.with_entries.Given as goal

-- what the entries that are left make of the command is what all of them make of the first
abbrev pub invariant-loop-entry : goal.invariant-loop-entry
invariant-loop-entry l = record {
  app : with_rules (app_of l.command) (drop l.entry-index l.entries) ≡ with_rules (app_of l.initial.command) l.entries;
  local : (fields_of l.command).has_globals ≡ (fields_of l.initial.command).has_globals;
}
