use Rattle.std.proofs.Common.{◌≡◌, ◌∙◌, ap}
use Rattle.uu_times.specs.System.{System}
use Rattle.uu_tables.specs.declared.rows.SystemColumns.{SystemColumns}
use Rattle.uu_tables.specs.Tables.{Tables}
use Rattle.uu_tables.specs.Changes.{applied, alter, has_name, insert_by, new_system}
use Rattle.uu_tables.proofs.PlanLemmas.{applied_append}
use Rattle.uu_adopt.proofs.renewal.add_system.Goals as goal

pub returns : goal.returns
returns c t =
    let def = c.args.def.now in
    let old = applied c.args.changes.now.items t in
    let name : c.def.inside.name ≡ def.name = ap (λ (d : System). d.name) c.def.view_is in
    let added : applied c.push.new.self.items t ≡ record old { systems = insert_by (λ (row : SystemColumns). row.def.name) (new_system def) old.systems } = ap (λ l. applied l t) c.in_ok-push.ensures.items ∙ applied_append c.args.changes.now.items _ t in
    ap (λ l. applied l t) c.in_ok-push-2.ensures.items ∙ applied_append c.push.new.self.items _ t
    ∙ ap (λ (now : Tables). record now { systems = alter (has_name c.def.inside.name) (λ row. record row { call = c.args.call }) now.systems }) added
    ∙ (λ i. record old { systems = alter (has_name (name i)) (λ row. record row { call = c.args.call }) (insert_by (λ (row : SystemColumns). row.def.name) (new_system def) old.systems) })
