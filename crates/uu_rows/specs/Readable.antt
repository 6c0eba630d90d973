-- Typed rows whose values are within the limits of their types, so their rows can be read: numbers
-- of 32 bits, names, words, grades and marks. The rows of a state are within closer limits
-- (`specs/Readable.antt` of `uu_check`).
use Rattle.std.specs.Prelude.{ℕ, pos, ◌<◌, ◌^◌, [], ◌∷◌, IsTrue, IfSome}
use Rattle.sqlite.specs.declared.types.Value.TheVariants.{Int}
use Rattle.sqlite.specs.Order.{Row}
use Rattle.uu_names.specs.Grade.{grade_count}
use Rattle.uu_names.specs.Name.{is_site_name, is_word}
use Rattle.uu_times.specs.Printed.{IsSystem}
use Rattle.uu_core.specs.declared.job.JobHead.{JobHead}
use Rattle.uu_core.specs.Marks.{marks_end}
use Rattle.uu_core.specs.WellFormed.{HasWords}
use Rattle.uu_tables.specs.declared.rows.SystemColumns.{SystemColumns}
use Rattle.uu_tables.specs.declared.earlier.LineColumns.{LineColumns}
use Rattle.uu_tables.specs.declared.earlier.RangeColumns.{RangeColumns}
use Rattle.uu_tables.specs.declared.earlier.BareSystem.{BareSystem}
use Rattle.uu_tables.specs.declared.earlier.Piece.{Piece}
use Rattle.uu_tables.specs.declared.rows.Body.{Body}
use Rattle.uu_tables.specs.declared.rows.BodySize.{BodySize}
use Rattle.uu_tables.specs.declared.rows.EntryColumns.{EntryColumns}
use Rattle.uu_tables.specs.declared.earlier.WaitColumns.{WaitColumns}
use Rattle.uu_tables.specs.declared.rows.LinkColumns.{LinkColumns}
use Rattle.uu_tables.specs.declared.rows.TakenColumns.{TakenColumns}

-- a number of 32 bits
abbrev pub IsSmall : ℕ → Type 0
IsSmall n = n < 2 ^ 32

pub record IsTypedSystem (s : SystemColumns) : Type 0 where
  pub def : IsSystem s.def
  pub last : IsSmall s.call.last
  pub failures : IsSmall s.call.failures
  pub wait : IsSmall s.call.wait
  pub outcome : IsSmall s.call.outcome
  pub why : IfSome s.call.why (λ why. IsTrue (is_word why))

pub record IsTypedHead (h : JobHead) : Type 0 where
  pub number : IsSmall h.number
  pub system : IsTrue (is_site_name h.system)
  pub grade : h.grade < grade_count
  pub user : IsTrue (is_word h.user)
  pub kind : HasWords h.kind
  pub size : IsSmall h.size

pub record IsTypedBody (b : Body) : Type 0 where
  pub job : IsSmall b.job

pub record IsTypedSize (b : BodySize) : Type 0 where
  pub job : IsSmall b.job
  pub length : IsSmall b.length

pub record IsTypedEntry (e : EntryColumns) : Type 0 where
  pub host : IsTrue (is_site_name e.host)

pub record IsTypedLink (l : LinkColumns) : Type 0 where
  pub system : IsTrue (is_site_name l.system)
  pub below : IsSmall l.below

pub record IsTypedTaken (t : TakenColumns) : Type 0 where
  pub system : IsTrue (is_site_name t.system)
  pub number : IsSmall t.taken.number
  pub mark : t.taken.mark < marks_end
  pub job : IsSmall t.taken.job

-- the columns that a question on a job's bytes gives, without the bytes
abbrev pub size_cells : BodySize → Row
size_cells b = Int (pos b.job) ∷ Int (pos b.length) ∷ []

-- ---- in earlier versions

pub record IsTypedBare (s : BareSystem) : Type 0 where
  pub name : IsTrue (is_site_name s.name)
  pub max_retries : IsSmall s.max_retries
  pub last : IsSmall s.call.last
  pub failures : IsSmall s.call.failures
  pub wait : IsSmall s.call.wait
  pub outcome : IsSmall s.call.outcome
  pub why : IfSome s.call.why (λ why. IsTrue (is_word why))

pub record IsTypedLine (l : LineColumns) : Type 0 where
  pub system : IsTrue (is_site_name l.system)
  pub place : IsSmall l.place
  pub grade : l.grade < grade_count
  pub retry : IfSome l.retry IsSmall

pub record IsTypedRange (r : RangeColumns) : Type 0 where
  pub system : IsTrue (is_site_name r.system)
  pub place : IsSmall r.place
  pub low : IsSmall r.low
  pub high : IsSmall r.high

pub record IsTypedWait (w : WaitColumns) : Type 0 where
  pub system : IsTrue (is_site_name w.system)
  pub wait : IsSmall w.wait

pub record IsTypedPiece (p : Piece) : Type 0 where
  pub job : IsSmall p.job
  pub place : IsSmall p.place
