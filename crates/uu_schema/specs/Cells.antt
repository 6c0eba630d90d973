-- The cells of each typed row: the values of its columns, in order. (The numbers of the kinds, the
-- text of arguments, and a definition's being a sys file are this project's choice.)
use Rattle.std.specs.Prelude.{ℕ, pos, List, [], ◌∷◌}
use Rattle.std.specs.List.{join_with_byte}
use Rattle.sqlite.specs.declared.types.Value.TheVariants.{Int, Text, Blob}
use Rattle.sqlite.specs.Order.{Row}
use Rattle.sqlite.specs.Values.{or_null}
use Rattle.uu_names.specs.Text.{space}
use Rattle.uu_core.specs.declared.job.JobHead.{JobHead}
use Rattle.uu_core.specs.declared.job.Kind.{Kind}
use Rattle.uu_core.specs.declared.job.Kind.TheVariants.{Send, Request, Execute}
use Rattle.uu_tables.specs.declared.earlier.BareSystem.{BareSystem}
use Rattle.uu_tables.specs.declared.rows.SystemColumns.{SystemColumns}
use Rattle.uu_tables.specs.declared.earlier.LineColumns.{LineColumns}
use Rattle.uu_tables.specs.declared.earlier.RangeColumns.{RangeColumns}
use Rattle.uu_tables.specs.declared.rows.EntryColumns.{EntryColumns}
use Rattle.uu_tables.specs.declared.earlier.WaitColumns.{WaitColumns}
use Rattle.uu_tables.specs.declared.rows.LinkColumns.{LinkColumns}
use Rattle.uu_tables.specs.declared.rows.TakenColumns.{TakenColumns}
use Rattle.uu_tables.specs.declared.earlier.Piece.{Piece}
use Rattle.uu_tables.specs.declared.rows.Body.{Body}
use Rattle.uu_tables.specs.Tables.{definition_text}

abbrev pub system_cells : SystemColumns → Row
system_cells s =
    Text s.def.name ∷ Blob (definition_text s.def) ∷ Int (pos s.call.last) ∷ Int (pos s.call.failures) ∷ Int (pos s.call.wait) ∷ Int (pos s.call.outcome) ∷ or_null Text s.call.why ∷ []

abbrev pub link_cells : LinkColumns → Row
link_cells l = Text l.system ∷ Int (pos l.below) ∷ []

abbrev pub taken_cells : TakenColumns → Row
taken_cells t = Text t.system ∷ Int (pos t.taken.number) ∷ Int (pos t.taken.mark) ∷ Int (pos t.taken.job) ∷ []

-- ---- a job: the arguments of a command are one text, with one space between two

abbrev pub kind_number : Kind → ℕ
kind_number (Send source target) = 0
kind_number (Request source target) = 1
kind_number (Execute command arguments) = 2

abbrev pub first_word : Kind → List ℕ
first_word (Send source target) = source
first_word (Request source target) = source
first_word (Execute command arguments) = command

abbrev pub second_word : Kind → List ℕ
second_word (Send source target) = target
second_word (Request source target) = target
second_word (Execute command arguments) = join_with_byte space arguments

abbrev pub job_cells : JobHead → Row
job_cells j =
    Int (pos j.number) ∷ Text j.system ∷ Int (pos j.grade) ∷ Text j.user ∷ Int (pos (kind_number j.kind)) ∷ Int (pos j.queued) ∷ Text (first_word j.kind) ∷ Text (second_word j.kind) ∷ Int (pos j.size) ∷ []

abbrev pub body_cells : Body → Row
body_cells b = Int (pos b.job) ∷ Blob b.bytes ∷ []

abbrev pub entry_cells : EntryColumns → Row
entry_cells e = Text e.host ∷ Blob e.bytes ∷ []

-- ---- in earlier versions

abbrev pub bare_cells : BareSystem → Row
bare_cells s =
    Text s.name ∷ Int (pos s.max_retries) ∷ Int (pos s.call.last) ∷ Int (pos s.call.failures) ∷ Int (pos s.call.wait) ∷ Int (pos s.call.outcome) ∷ or_null Text s.call.why ∷ []

abbrev pub line_cells : LineColumns → Row
line_cells l = Text l.system ∷ Int (pos l.place) ∷ Int (pos l.grade) ∷ or_null (λ n. Int (pos n)) l.retry ∷ []

abbrev pub range_cells : RangeColumns → Row
range_cells r = Text r.system ∷ Int (pos r.place) ∷ Int (pos r.low) ∷ Int (pos r.high) ∷ []

abbrev pub wait_cells : WaitColumns → Row
wait_cells w = Text w.system ∷ Int (pos w.wait) ∷ []

abbrev pub piece_cells : Piece → Row
piece_cells p = Int (pos p.job) ∷ Int (pos p.place) ∷ Blob p.bytes ∷ []
