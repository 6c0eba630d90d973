use Rattle.std.proofs.Common.{◌≡◌, ◌∙◌, ap}
use Rattle.clap.specs.Words.{app_of, new_app}
use Rattle.clap.specs.Simple.{app_of_fields}
use Rattle.uu_line.proofs.commands.command_of.Goals as goal

pub returns-clause-app : goal.returns-clause-app
returns-clause-app c =
    let bare : app_of c.about-bare.result ≡ new_app c.args.subcommand.now.name.now = ap app_of_fields c.about-bare.ensures ∙ c.new.ensures.app in
    c.with_entries.ensures.app _ bare
