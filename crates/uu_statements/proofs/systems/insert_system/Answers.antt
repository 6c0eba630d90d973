use Rattle.std.proofs.Common.{◌≡◌, ap}
use Rattle.uu_schema.proofs.Statements.{executed}
use Rattle.uu_times.specs.System.{System}
use Rattle.uu_statements.proofs.Texts.{insert_system}
use Rattle.uu_statements.proofs.Added.{system_added}
use Rattle.uu_statements.proofs.systems.insert_system.Goals as goal

pub returns : goal.returns
returns g c =
    let name : c.def.inside.name ≡ c.args.def.now.name = ap (λ (d : System). d.name) c.def.view_is in
    executed insert_system _ c.execute.ensures.same_reference c.execute.ensures.ended c.execute.ensures.runs c.execute.ensures.survives
    (λ count stands ran. system_added _ _ c.args.def.now count stands (rw (c.params-to_sql.ensures, c.params-to_sql-2.ensures, c.as_str.ensures.text, name, c.requires.text) at ran))
