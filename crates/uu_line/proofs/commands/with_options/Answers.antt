use Rattle.std.proofs.Common.{◌≡◌, ◌∙◌, ap, true}
use Rattle.clap.specs.Words.{App, app_of}
use Rattle.clap.specs.Simple.{app_of_fields, on_top}
use Rattle.uu_line.specs.Commands.{without_options}
use Rattle.uu_line.proofs.commands.with_options.Goals as goal

pub returns : goal.returns
returns c =
    let with_version : App → App = on_top (λ s. record s { has_version = true }) in
    let nameless : App → App = on_top (λ s. record s { no_binary_name = true }) in
    let wanting : App → App = on_top (λ s. record s { subcommand_required = true }) in
    let about = ap app_of_fields c.about.ensures ∙ c.new.ensures.app in
    let version : app_of c.version.result ≡ with_version (app_of c.about.result) = ap app_of_fields c.version.ensures in
    let helped : app_of c.after_help.result ≡ app_of c.version.result = ap app_of_fields c.after_help.ensures in
    let bare_words : app_of c.no_binary_name.result ≡ nameless (app_of c.after_help.result) = ap app_of_fields c.no_binary_name.ensures in
    let required : app_of c.subcommand_required-bare.result ≡ wanting (app_of c.no_binary_name.result) = ap app_of_fields c.subcommand_required-bare.ensures in
    let bare : app_of c.subcommand_required-bare.result ≡ without_options =
    required ∙ ap wanting (bare_words ∙ ap nameless (helped ∙ version ∙ ap with_version about)) in
    c.with_entries.ensures.app without_options bare
