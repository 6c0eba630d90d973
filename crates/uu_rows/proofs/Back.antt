-- Cells back to typed rows: no two typed rows have the same cells.
use Rattle.std.proofs.Common.{◌≡◌, ℕ, pos, zero, suc, List, [], ◌∷◌, map, Option, Some, None, option_map, refl, sym, ap, ◌∙◌}
use Rattle.std.specs.Prelude.{IfSome}
use Rattle.std.specs.List.{AllByRecursion}
use Rattle.sqlite.specs.declared.types.Value.{Value}
use Rattle.sqlite.specs.declared.types.Value.TheVariants.{Int, Text, Blob}
use Rattle.sqlite.specs.Order.{Row, column}
use Rattle.sqlite.specs.Values.{or_null}
use Rattle.uu_core.specs.declared.job.JobHead.{JobHead}
use Rattle.uu_core.specs.declared.job.Kind.{Kind}
use Rattle.uu_core.specs.declared.job.Kind.TheVariants.{Send, Request, Execute}
use Rattle.uu_tables.specs.declared.rows.SystemColumns.{SystemColumns}
use Rattle.uu_tables.specs.declared.earlier.LineColumns.{LineColumns}
use Rattle.uu_tables.specs.declared.earlier.RangeColumns.{RangeColumns}
use Rattle.uu_tables.specs.declared.earlier.BareSystem.{BareSystem}
use Rattle.uu_tables.specs.declared.earlier.Piece.{Piece}
use Rattle.uu_tables.specs.declared.rows.Body.{Body}
use Rattle.uu_tables.specs.declared.rows.BodySize.{BodySize}
use Rattle.uu_tables.specs.declared.rows.EntryColumns.{EntryColumns}
use Rattle.uu_tables.specs.declared.earlier.WaitColumns.{WaitColumns}
use Rattle.uu_tables.specs.declared.rows.LinkColumns.{LinkColumns}
use Rattle.uu_tables.specs.declared.rows.TakenColumns.{TakenColumns}
use Rattle.uu_schema.specs.Cells.{system_cells, job_cells, body_cells, entry_cells, link_cells, taken_cells, bare_cells, line_cells, range_cells, wait_cells, piece_cells}
use Rattle.uu_rows.specs.Values.{number_cell}
use Rattle.uu_core.specs.WellFormed.{HasWords}
use Rattle.uu_rows.specs.Readable.{IsTypedSystem, IsTypedHead, size_cells}
use Rattle.uu_rows.proofs.Definitions.{definition_back, definition_returns}
use Rattle.uu_rows.proofs.Words.{words_back, words_returned}

-- ---- generic

module _ {X : Type 0} (cells : X → Row) (back : Row → X) (Good : X → Type 0) (returns : (x : X) → Good x → back (cells x) ≡ x) where
  decoded : (xs : List X) → AllByRecursion Good xs → map back (map cells xs) ≡ xs
  decoded [] h = refl
  decoded (x ∷ xs) h = λ i. returns x h.0 i ∷ decoded xs h.1 i

  -- lists with the same cells are the same
  pub same_all : (xs ys : List X) → AllByRecursion Good xs → AllByRecursion Good ys → map cells xs ≡ map cells ys → xs ≡ ys
  same_all xs ys h k same = sym (decoded xs h) ∙ ap (map back) same ∙ decoded ys k

  decoded_one : (o : Option X) → IfSome o Good → option_map back (option_map cells o) ≡ o
  decoded_one None h = refl
  decoded_one (Some x) h = ap Some (returns x h)

  pub same_one : (o p : Option X) → IfSome o Good → IfSome p Good → option_map cells o ≡ option_map cells p → o ≡ p
  same_one o p h k same = sym (decoded_one o h) ∙ ap (option_map back) same ∙ decoded_one p k

-- ---- values

abbrev pub number_back : Value → ℕ
number_back (Int (pos n)) = n
number_back _ = 0

abbrev pub text_back : Value → List ℕ
text_back (Text t) = t
text_back (Blob b) = b
text_back _ = []

abbrev number_or_none : Value → Option ℕ
number_or_none (Int (pos n)) = Some n
number_or_none _ = None

abbrev text_or_none : Value → Option (List ℕ)
text_or_none (Text t) = Some t
text_or_none _ = None

number_returns : (o : Option ℕ) → number_or_none (or_null number_cell o) ≡ o
number_returns None = refl
number_returns (Some n) = refl

text_returns : (o : Option (List ℕ)) → text_or_none (or_null Text o) ≡ o
text_returns None = refl
text_returns (Some t) = refl

-- ---- rows

abbrev pub system_back : Row → SystemColumns
system_back r = record {
  def = definition_back (text_back (column r 1));
  call = record {
    last = number_back (column r 2);
    failures = number_back (column r 3);
    wait = number_back (column r 4);
    outcome = number_back (column r 5);
    why = text_or_none (column r 6);
  };
}

pub system_returns : (s : SystemColumns) → IsTypedSystem s → system_back (system_cells s) ≡ s
system_returns s good = λ i. record { def = definition_returns s.def good.def i; call = record s.call { why = text_returns s.call.why i } }

abbrev pub bare_back : Row → BareSystem
bare_back r = record {
  name = text_back (column r 0);
  max_retries = number_back (column r 1);
  call = record {
    last = number_back (column r 2);
    failures = number_back (column r 3);
    wait = number_back (column r 4);
    outcome = number_back (column r 5);
    why = text_or_none (column r 6);
  };
}

pub bare_returns : (s : BareSystem) → bare_back (bare_cells s) ≡ s
bare_returns s = λ i. record s { call = record s.call { why = text_returns s.call.why i } }

abbrev pub line_back : Row → LineColumns
line_back r = record { system = text_back (column r 0); place = number_back (column r 1); grade = number_back (column r 2); retry = number_or_none (column r 3) }

pub line_returns : (l : LineColumns) → line_back (line_cells l) ≡ l
line_returns l = λ i. record l { retry = number_returns l.retry i }

abbrev pub range_back : Row → RangeColumns
range_back r = record { system = text_back (column r 0); place = number_back (column r 1); low = number_back (column r 2); high = number_back (column r 3) }

pub range_returns : (r : RangeColumns) → range_back (range_cells r) ≡ r
range_returns r = refl

abbrev pub wait_back : Row → WaitColumns
wait_back r = record { system = text_back (column r 0); wait = number_back (column r 1) }

pub wait_returns : (w : WaitColumns) → wait_back (wait_cells w) ≡ w
wait_returns w = refl

abbrev pub link_back : Row → LinkColumns
link_back r = record { system = text_back (column r 0); below = number_back (column r 1) }

pub link_returns : (l : LinkColumns) → link_back (link_cells l) ≡ l
link_returns l = refl

abbrev pub taken_back : Row → TakenColumns
taken_back r = record { system = text_back (column r 0); taken = record { number = number_back (column r 1); mark = number_back (column r 2); job = number_back (column r 3) } }

pub taken_returns : (t : TakenColumns) → taken_back (taken_cells t) ≡ t
taken_returns t = refl

abbrev pub body_back : Row → Body
body_back r = record { job = number_back (column r 0); bytes = text_back (column r 1) }

pub body_returns : (b : Body) → body_back (body_cells b) ≡ b
body_returns b = refl

abbrev pub size_back : Row → BodySize
size_back r = record { job = number_back (column r 0); length = number_back (column r 1) }

pub size_returns : (b : BodySize) → size_back (size_cells b) ≡ b
size_returns b = refl

abbrev pub piece_back : Row → Piece
piece_back r = record { job = number_back (column r 0); place = number_back (column r 1); bytes = text_back (column r 2) }

pub piece_returns : (p : Piece) → piece_back (piece_cells p) ≡ p
piece_returns p = refl

abbrev pub entry_back : Row → EntryColumns
entry_back r = record { host = text_back (column r 0); bytes = text_back (column r 1) }

pub entry_returns : (e : EntryColumns) → entry_back (entry_cells e) ≡ e
entry_returns e = refl

abbrev kind_back : ℕ → List ℕ → List ℕ → Kind
kind_back zero first second = Send first second
kind_back (suc zero) first second = Request first second
kind_back (suc (suc n)) first second = Execute first (words_back second)

abbrev pub head_back : Row → JobHead
head_back r = record {
  number = number_back (column r 0);
  system = text_back (column r 1);
  grade = number_back (column r 2);
  user = text_back (column r 3);
  kind = kind_back (number_back (column r 4)) (text_back (column r 6)) (text_back (column r 7));
  queued = number_back (column r 5);
  size = number_back (column r 8);
}

with_kind : (kind : Kind) (h : JobHead) → HasWords kind → head_back (job_cells (record h { kind = kind })) ≡ record h { kind = kind }
with_kind (Send source target) h words = refl
with_kind (Request source target) h words = refl
with_kind (Execute command arguments) h words = ap (λ args. record h { kind = Execute command args }) (words_returned arguments words.1)

pub head_returns : (h : JobHead) → IsTypedHead h → head_back (job_cells h) ≡ h
head_returns h good = with_kind h.kind h good.kind
