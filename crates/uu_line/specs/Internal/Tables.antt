-- What the rows of the program's tables mean, in the terms of `clap`.
use Rattle.std.specs.Prelude.{List, Some, [], ◌∷◌, map}
use Rattle.clap.specs.Lexer.{usize_max}
use Rattle.clap.specs.Words.{App, Rule, Text, new_rule, new_app, with_rule, with_subcommand}
use Rattle.clap.specs.declared.builder.action.ArgAction.TheVariants.{SetTrue}
use Rattle.clap.specs.declared.builder.value_parser.ValueParser.TheVariants.{Unsigned}
use Rattle.uu_line.specs.declared.commands.Entry.{Entry}
use Rattle.uu_line.specs.declared.commands.Form.{Form}
use Rattle.uu_line.specs.declared.commands.Form.TheVariants as form
use Rattle.uu_line.specs.declared.commands.Subcommand.{Subcommand}

-- an option or argument of this form and id
abbrev pub rule_formed : Form → Text → Rule
rule_formed (form.Letter letter) id = record (new_rule id) { short = Some letter }
rule_formed (form.Switch letter) id = record (new_rule id) { short = Some letter; action = Some SetTrue }
rule_formed (form.Name name) id = record (new_rule id) { long = Some name.now }
rule_formed (form.Second name) id = record (new_rule id) { long = Some name.now; parser = Some (Unsigned 0 9_999_999_999) }
rule_formed (form.After name) id = record (new_rule id) { long = Some name.now; parser = Some (Unsigned 0 4_294_967_295) }
rule_formed (form.Most name) id = record (new_rule id) { long = Some name.now; parser = Some (Unsigned 1 4_294_967_295) }
rule_formed (form.Flag name) id = record (new_rule id) { long = Some name.now; action = Some SetTrue }
rule_formed form.One id = new_rule id
rule_formed form.Job id = record (new_rule id) { parser = Some (Unsigned 0 4_294_967_295) }
rule_formed form.Any id = record (new_rule id) { range = Some (record { start_inclusive = 0; end_inclusive = usize_max }) }
rule_formed form.Jobs id =
    record (new_rule id) { range = Some (record { start_inclusive = 0; end_inclusive = usize_max }); parser = Some (Unsigned 0 4_294_967_295) }
rule_formed form.Several id = record (new_rule id) { range = Some (record { start_inclusive = 1; end_inclusive = usize_max }) }

-- the same with the other fields of its entry
abbrev pub rule_for : Entry → Rule
rule_for entry =
    record (rule_formed entry.form entry.id.now) { required = entry.required; defaults = map (λ text. text.now) entry.defaults.now; value_names = 1 }

-- a command with the entries of these rows, and one with the subcommands of these rows
abbrev pub with_rules : App → List Entry → App
with_rules app [] = app
with_rules app (entry ∷ entries) = with_rules (with_rule app (rule_for entry)) entries

abbrev pub app_for : Subcommand → App
app_for subcommand = with_rules (new_app subcommand.name.now) subcommand.entries.now

abbrev pub with_apps : App → List Subcommand → App
with_apps app [] = app
with_apps app (subcommand ∷ subcommands) = with_apps (with_subcommand app (app_for subcommand).top) subcommands
