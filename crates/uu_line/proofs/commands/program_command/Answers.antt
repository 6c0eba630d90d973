use Rattle.std.proofs.lemmas.Result.{IfOk-weaker}
use Rattle.uu_line.specs.Commands.{without_subcommands}
use Rattle.uu_line.proofs.commands.program_command.Goals as goal

pub returns-in-Ok-commands_of : goal.returns-in-Ok-commands_of
returns-in-Ok-commands_of c =
    IfOk-weaker c.subcommands.result _ _ (λ new added. c.in-Ok-commands_of.ensures c.in-Ok.command new without_subcommands c.in-Ok.ensures added) c.subcommands.ensures
