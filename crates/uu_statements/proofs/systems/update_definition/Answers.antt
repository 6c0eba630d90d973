use Rattle.std.proofs.Common.{◌≡◌, ap}
use Rattle.uu_schema.proofs.Statements.{executed}
use Rattle.uu_times.specs.System.{System}
use Rattle.uu_statements.proofs.Texts.{update_definition}
use Rattle.uu_statements.proofs.Altered.{definition_set}
use Rattle.uu_statements.proofs.systems.update_definition.Goals as goal

pub returns : goal.returns
returns g c =
    let name : c.def.inside.name ≡ c.args.def.now.name = ap (λ (d : System). d.name) c.def.view_is in
    executed update_definition _ c.execute.ensures.same_reference c.execute.ensures.ended c.execute.ensures.runs c.execute.ensures.survives
    (λ count stands ran. definition_set _ _ c.args.def.now count stands (rw (c.params-to_sql.ensures, c.params-to_sql-2.ensures, c.as_str.ensures.text, name, c.requires.text) at ran))
