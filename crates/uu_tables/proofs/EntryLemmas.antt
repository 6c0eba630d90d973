-- A map entry that replaces that of its host.
use Rattle.std.proofs.Common.{◌≡◌, ℕ, List, [], ◌∷◌, map, None, Ok, is_err, refl, sym, ap, ◌∙◌}
use Rattle.uu_map.specs.Text.{host_of}
use Rattle.uu_core.specs.declared.command.Command.TheVariants.{Entry}
use Rattle.uu_core.specs.declared.refusal.Refusal.TheVariants.{BadEntry}
use Rattle.uu_core.specs.Refusal.{first_reason}
use Rattle.uu_core.specs.State.{State, MapEntry, is_entry}
use Rattle.uu_core.specs.Verdict.{verdict}
use Rattle.uu_core.specs.After.{accept, keep_entry}
use Rattle.uu_tables.specs.Tables.{tables_of, entry_columns}
use Rattle.uu_tables.specs.Changes.{without, insert_by, is_about, new_entry}
use Rattle.uu_tables.proofs.RowLemmas.{dropped}
use Rattle.uu_tables.proofs.InsertLemmas.{inserted_mapped, replaced_is_put}

pub can_be_read : (s : State) (text host : List ℕ) → host_of text ≡ Ok host → verdict s (Entry text) ≡ None
can_be_read s text host is = ap (λ answer. first_reason ((is_err answer, BadEntry) ∷ [])) is

pub entered : (s : State) (text host : List ℕ) → host_of text ≡ Ok host → record (tables_of s) { entries = insert_by (λ row. row.host) (new_entry host text) (without (is_about host) (map entry_columns s.entries)) } ≡ tables_of (accept s (Entry text))
entered s text host is =
    let item : MapEntry = record { host = host; bytes = text } in
    ap (λ entries. record (tables_of s) { entries = entries }) (ap (insert_by (λ row. row.host) (new_entry host text)) (dropped entry_columns (is_entry host) (is_about host) (λ e. refl) s.entries)
    ∙ inserted_mapped entry_columns (λ row. row.host) item (without (is_entry host) s.entries)
    ∙ ap (map entry_columns) (replaced_is_put (λ (e : MapEntry). e.host) item s.entries))
    ∙ ap (λ answer. tables_of (record s { entries = keep_entry answer text s.entries })) (sym is)
