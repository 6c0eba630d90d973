use Rattle.std.proofs.Common.{◌≡◌, ◌∙◌, Ok, refl, ap}
use Rattle.uu_core.specs.declared.command.Command.TheVariants.{Entry}
use Rattle.uu_map.specs.Text.{host_of}
use Rattle.uu_tables.specs.Tables.{tables_of}
use Rattle.uu_tables.specs.Changes.{applied, insert_by, without, is_about, new_entry}
use Rattle.uu_tables.proofs.PlanLemmas.{accepts}
use Rattle.uu_tables.proofs.EntryLemmas.{can_be_read, entered}
use Rattle.uu_tables.proofs.plan.entry.plan_entry.Goals as goal

pub returns-in_ok-changes-in-Some : goal.returns-in_ok-changes-in-Some
returns-in_ok-changes-in-Some c s =
    let text = c.args.bytes.now in
    let host = c.in-Some.host in
    let is : host_of text ≡ Ok host = rw c.in-Some.is at c.in_ok-host.ensures in
    accepts s (Entry text) _ (can_be_read s text host is) refl (ap (λ l. applied l (tables_of s)) c.in_ok-changes-in-Some.ensures.items
    ∙ ap (λ old. record (tables_of s) { entries = insert_by (λ row. row.host) (new_entry host text) (without (is_about old) (tables_of s).entries) }) c.in_ok-old-in-Some.ensures.cases
    ∙ entered s text host is)
