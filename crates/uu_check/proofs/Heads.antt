-- Jobs and their heads, with their pieces.
use Rattle.std.proofs.Common.{◌≡◌, ℕ, zero, suc, ◌+◌, Bool, true, ◌==◌, List, [], ◌∷◌, length, IsTrue, All, refl, sym, ap, subst, ◌∙◌}
use Rattle.std.specs.List.{AllByRecursion, list_all}
use Rattle.std.proofs.lemmas.Bool.{and_parts, leb-true, le-leb, ltb-true, lt-ltb}
use Rattle.std.proofs.lemmas.List.Elements.{All-nil, All-cons, All-head, All-tail}
use Rattle.uu_names.specs.Name.{is_word}
use Rattle.uu_core.specs.declared.job.JobHead.{JobHead}
use Rattle.uu_core.specs.declared.job.Kind.{Kind}
use Rattle.uu_core.specs.declared.job.Kind.TheVariants.{Send, Request, Execute}
use Rattle.uu_core.specs.State.{Job, IsJob, IsKind, head_of, last_second, most_bytes, most_arguments}
use Rattle.uu_tables.specs.declared.earlier.Piece.{Piece}
use Rattle.uu_tables.specs.Earlier.{piece_count, pieces_of}
use Rattle.uu_check.specs.Tests.{is_kind, is_head, are_cut, owns_piece, fits_job}
use Rattle.uu_check.proofs.Walks.{Item}
use Rattle.uu_check.proofs.Cuts.{pieces_from, as_from, joined, are_pieces, bytes_of}

-- a test of each, as a fact of each
module _ {X : Type 0} (p : X → Bool) where
  pub all_from : (xs : List X) → list_all p xs ≡ true → All (λ x. IsTrue (p x)) xs
  all_from [] h = All-nil _
  all_from (x ∷ xs) h = let it = and_parts (p x) (list_all p xs) h in All-cons (λ x. IsTrue (p x)) x xs it.0 (all_from xs it.1)

  pub all_to : (xs : List X) → All (λ x. IsTrue (p x)) xs → list_all p xs ≡ true
  all_to [] h = refl
  all_to (x ∷ xs) h = rw (All-head (λ x. IsTrue (p x)) x xs h, all_to xs (All-tail (λ x. IsTrue (p x)) x xs h)) refl

kind_from : (kind : Kind) → is_kind kind ≡ true → IsKind kind
kind_from (Send source target) h = and_parts _ _ h
kind_from (Request source target) h = and_parts _ _ h
kind_from (Execute command arguments) h = let b = and_parts _ _ h in let a = and_parts _ _ b.0 in (a.0, all_from is_word arguments a.1, leb-true _ _ b.1)

kind_to : (kind : Kind) → IsKind kind → is_kind kind ≡ true
kind_to (Send source target) h = rw (h.0, h.1) refl
kind_to (Request source target) h = rw (h.0, h.1) refl
kind_to (Execute command arguments) h = rw (h.0, all_to is_word arguments h.1, le-leb (length arguments) most_arguments h.2) refl

pub job_from : (j : Job) → is_head (head_of j) ≡ true → IsJob j
job_from j h =
    let f = and_parts _ _ h in let e = and_parts _ _ f.0 in let d = and_parts _ _ e.0 in let c = and_parts _ _ d.0 in let b = and_parts _ _ c.0 in let a = and_parts _ _ b.0 in record {
      number = leb-true _ _ a.0;
      system = a.1;
      grade = ltb-true _ _ b.1;
      user = c.1;
      kind = kind_from j.kind d.1;
      queued = leb-true _ _ e.1;
      bytes = leb-true _ _ f.1;
    }

pub job_to : (j : Job) → IsJob j → is_head (head_of j) ≡ true
job_to j good = rw (le-leb 1 j.number good.number, good.system, lt-ltb j.grade 62 good.grade, good.user, kind_to j.kind good.kind, le-leb j.queued last_second good.queued, le-leb (length j.bytes) most_bytes good.bytes) refl

-- ---- with their pieces

pub job_of_rows : (h : JobHead) (xs : List Piece) → AllByRecursion (λ x. owns_piece h x ≡ true) xs → fits_job h xs ≡ true → Item owns_piece fits_job head_of pieces_of IsJob h xs
job_of_rows h xs own test =
    let parts = and_parts (is_head h) (are_cut 0 h.size xs) test in
    let it = joined h.number xs 0 h.size own parts.1 in
    let job : Job = record { number = h.number; system = h.system; grade = h.grade; user = h.user; kind = h.kind; queued = h.queued; bytes = bytes_of xs } in
    let row : head_of job ≡ h = ap (λ n. record h { size = n }) it.0 in
    record {
      item = job;
      good = job_from job (ap is_head row ∙ parts.0);
      row = row;
      children = as_from h.number (bytes_of xs) 0 (piece_count (length (bytes_of xs))) ∙ ap (λ n. pieces_from h.number 0 (piece_count n) (bytes_of xs)) it.0 ∙ it.1;
    }

pub job_fits : (j : Job) → IsJob j → fits_job (head_of j) (pieces_of j) ≡ true
job_fits j good =
    let cut = ap (λ l. are_cut 0 (length j.bytes) l) (as_from j.number j.bytes 0 (piece_count (length j.bytes))) ∙ are_pieces j.number 0 (piece_count (length j.bytes)) (length j.bytes) j.bytes refl refl in
    rw (job_to j good, cut) refl

-- pieces are those of one number
numbered : (job : ℕ) (bytes : List ℕ) (place n number : ℕ) (t : Bool) → (job == number) ≡ t → AllByRecursion (λ (x : Piece). (x.job == number) ≡ t) (pieces_from job place n bytes)
numbered job bytes place zero number t h = tt
numbered job bytes place (suc n) number t h = (h, numbered job _ (place + 1) n number t h)

pub pieces_numbered : (j : Job) (number : ℕ) (t : Bool) → (j.number == number) ≡ t → AllByRecursion (λ (x : Piece). (x.job == number) ≡ t) (pieces_of j)
pieces_numbered j number t h = subst (AllByRecursion (λ (x : Piece). (x.job == number) ≡ t)) (sym (as_from j.number j.bytes 0 (piece_count (length j.bytes)))) (numbered j.number j.bytes 0 (piece_count (length j.bytes)) number t h)
