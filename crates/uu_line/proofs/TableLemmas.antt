-- Commands that grow by a row of a table after the other.
use Rattle.std.proofs.Common.{◌≡◌, false, ◌≤◌, ◌<◌, ◌∙◌, ap, sym, ℕ, zero, suc, List, [], ◌∷◌, ◌++◌, length, drop, take, slice_index_or, arith}
use Rattle.std.specs.Prelude.{⊤}
use Rattle.std.proofs.lemmas.List.{drop_all}
use Rattle.clap.specs.Words.{App, app_of, with_rule, with_subcommand}
use Rattle.clap.specs.Built.{AddsInTurn, AddsSubcommand}
use Rattle.clap.specs.declared.builder.command.Command.{Command}
use Rattle.clap.specs.declared.builder.command.Command.TheViews.{out-Command as fields_of}
use Rattle.uu_line.specs.Internal.Tables.{app_for, rule_for, with_apps, with_rules}
use Rattle.uu_line.specs.declared.commands.Entry.{Entry}
use Rattle.uu_line.specs.declared.commands.Subcommand.{Subcommand}

pub rules_next : (whole app next : App) (entries : List Entry) (i : ℕ) (d : Entry) → i < length entries → with_rules app (drop i entries) ≡ whole
    → next ≡ with_rule app (rule_for (slice_index_or entries i d)) → with_rules next (drop (suc i) entries) ≡ whole
rules_next whole app next [] i d inside so_far is = absurd (omega arith)
rules_next whole app next (entry ∷ entries) zero d inside so_far is = ap (λ a. with_rules a entries) is ∙ so_far
rules_next whole app next (entry ∷ entries) (suc i) d inside so_far is = rules_next whole app next entries i d (omega arith) so_far is

pub rules_done : (whole app : App) (entries : List Entry) (i : ℕ) → length entries ≤ i → with_rules app (drop i entries) ≡ whole → app ≡ whole
rules_done whole app entries i past so_far = ap (with_rules app) (sym (drop_all i entries past)) ∙ so_far

-- the commands are the subcommands of the rows
abbrev pub AreApps : List Subcommand → List Command → Type 0
AreApps [] [] = ⊤
AreApps (row ∷ rows) (command ∷ commands) = (app_of command ≡ app_for row) × ((fields_of command).has_globals ≡ false) × AreApps rows commands
AreApps [] (command ∷ commands) = ⊥
AreApps (row ∷ rows) [] = ⊥

pub apps_next : (rows : List Subcommand) (i : ℕ) (d : Subcommand) (commands : List Command) (command : Command) → i < length rows
    → AreApps (take i rows) commands → app_of command ≡ app_for (slice_index_or rows i d) → (fields_of command).has_globals ≡ false
    → AreApps (take (suc i) rows) (commands ++ command ∷ [])
apps_next [] i d commands command inside so_far is local = absurd (omega arith)
apps_next (row ∷ rows) zero d [] command inside so_far is local = (is, local, tt)
apps_next (row ∷ rows) zero d (c ∷ commands) command inside so_far is local = absurd so_far
apps_next (row ∷ rows) (suc i) d [] command inside so_far is local = absurd so_far
apps_next (row ∷ rows) (suc i) d (c ∷ commands) command inside so_far is local =
    (so_far.0, so_far.1, apps_next rows i d commands command (omega arith) so_far.2 is local)

pub apps_added : (rows : List Subcommand) (commands : List Command) (whole : App) (old new : Command) → AreApps rows commands → app_of old ≡ whole
    → AddsInTurn AddsSubcommand old commands new → app_of new ≡ with_apps whole rows
apps_added [] [] whole old new are is added = ap app_of (sym added) ∙ is
apps_added [] (c ∷ commands) whole old new are is added = absurd are
apps_added (row ∷ rows) [] whole old new are is added = absurd are
apps_added (row ∷ rows) (c ∷ commands) whole old new are is added =
    let next : app_of added.0 ≡ with_subcommand whole (app_for row).top =
    added.1.shape are.1 ∙ ap (λ (app : App). with_subcommand (app_of old) app.top) are.0 ∙ ap (λ app. with_subcommand app (app_for row).top) is in
    apps_added rows commands (with_subcommand whole (app_for row).top) added.0 new are.2 next added.2
