use Rattle.std.proofs.Common.{◌∙◌, ap, map}
use Rattle.sqlite_keyed.proofs.ListLemmas.{map-map}
use Rattle.uu_tables.specs.Tables.{entry_columns}
use Rattle.uu_tables.specs.declared.rows.EntryColumns.{EntryColumns}
use Rattle.uu_rows.proofs.Showing.{answered}
use Rattle.uu_questions.proofs.Answering.{answer_in}
use Rattle.uu_questions.proofs.Asking.{asks_as}
use Rattle.uu_questions.proofs.entries.all_entries.Goals as goal

pub returns : goal.returns
returns g c =
    asks_as c.all_rows.ensures (λ ok. answered c.all_rows.result _ c.in_ok-rows.was)
    (λ s good it.
    let rows = answer_in _ c.all_rows.result _ c.in_ok-rows.was it in
    let texts = answer_in _ c.texts_of.result _ c.in_ok-texts.was c.texts_of.ensures in
    texts ∙ ap (map (λ (row : EntryColumns). row.bytes)) rows ∙ map-map (λ (row : EntryColumns). row.bytes) entry_columns s.entries)
