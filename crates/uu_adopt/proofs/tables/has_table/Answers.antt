use Rattle.std.proofs.Common.{◌≡◌, map, false, None, refl, sym, ap, ◌∙◌}
use Rattle.std.specs.List.{list_all}
use Rattle.std.specs.Option.{option_copied, option_map_or}
use Rattle.std.proofs.lemmas.List.Folds.{list_all-map}
use Rattle.uu_adopt.specs.FoundTables.{table_of, has_column}
use Rattle.uu_adopt.proofs.tables.has_table.Goals as goal

pub returns-in-Some : goal.returns-in-Some
returns-in-Some c =
    let names = map (λ column. column.now) c.args.columns.now in
    c.has_columns.ensures ∙ sym (list_all-map (has_column c.in-Some.table.now) (λ column. column.now) c.args.columns.now)
    ∙ ap (λ o. option_map_or (λ t. list_all (has_column t) names) o false) c.in-Some.ensures

pub returns-in-None : goal.returns-in-None
returns-in-None c =
    let none : table_of c.args.schema.now c.args.name.now ≡ None = sym c.table_of.ensures ∙ ap option_copied c.in-None.is in
    rw none refl
