use Rattle.std.proofs.Common.{◌∙◌, ap}
use Rattle.uu_tables.specs.declared.rows.EntryColumns.{EntryColumns}
use Rattle.uu_tables.specs.Changes.{applied, insert_by}
use Rattle.uu_tables.proofs.PlanLemmas.{applied_append}
use Rattle.uu_adopt.proofs.renewal.EntryColumnsAdded.add_to.Goals as goal

pub returns : goal.returns
returns c t =
    let old = applied c.args.changes.now.items t in
    ap (λ l. applied l t) c.in_ok-push.ensures.items ∙ applied_append c.args.changes.now.items _ t ∙ (λ i. record old { entries = insert_by (λ (row : EntryColumns). row.host) (record { host = c.in_ok-host.ensures.cases i; bytes = c.as_slice.ensures i }) old.entries })
