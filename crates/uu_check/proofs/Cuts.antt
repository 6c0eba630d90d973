-- The bytes of a job in pieces.
use Rattle.std.proofs.Common.{◌≡◌, ℕ, zero, suc, ◌+◌, ◌-◌, ◌*◌, ◌≤◌, min, true, ◌==◌, List, [], ◌∷◌, ◌++◌, map, length, take, drop, refl, sym, ap, subst, ◌∙◌, arith, length-append, append-nil}
use Rattle.std.specs.Prelude.{◌&&◌, nat_le}
use Rattle.std.specs.List.{AllByRecursion, flat_map, range_with_len}
use Rattle.std.proofs.lemmas.Bool.{and_parts, eq-eqb, le-leb}
use Rattle.std.proofs.lemmas.Bool.Decides.{nat_tests}
use Rattle.std.proofs.lemmas.List.{drop-drop, length-take, length-drop, take_all, drop_all}
use Rattle.std.proofs.Math.Seq.{take-append_seam, drop-append_seam}
use Rattle.uu_tables.specs.declared.earlier.Piece.{Piece}
use Rattle.uu_tables.specs.Earlier.{piece, piece_count}
use Rattle.uu_check.specs.Tests.{are_cut}

-- the pieces from a place on, so many
abbrev pub pieces_from : ℕ → ℕ → ℕ → List ℕ → List Piece
pieces_from job place zero bytes = []
pieces_from job place (suc n) bytes = record { job = job; place = place; bytes = take 16384 bytes } ∷ pieces_from job (place + 1) n (drop 16384 bytes)

pub as_from : (job : ℕ) (bytes : List ℕ) (place n : ℕ) → map (piece job bytes) (range_with_len place n) ≡ pieces_from job place n (drop (place * 16384) bytes)
as_from job bytes place zero = refl
as_from job bytes place (suc n) =
    let next : (place + 1) * 16384 ≡ place * 16384 + 16384 = omega arith in
    ap (λ l. piece job bytes place ∷ l) (as_from job bytes (place + 1) n ∙ ap (λ m. pieces_from job (place + 1) n (drop m bytes)) next ∙ ap (pieces_from job (place + 1) n) (sym (drop-drop 16384 (place * 16384) bytes)))

count_step : (size : ℕ) → 1 ≤ size → piece_count size ≡ suc (piece_count (size - min size 16384))
count_step size some = omega arith

count_none : (size : ℕ) → piece_count size ≡ 0 → size ≡ 0
count_none size h = omega (arith, h)

take_piece : (xs ys : List ℕ) → length xs ≡ min (length xs + length ys) 16384 → take 16384 (xs ++ ys) ≡ xs
take_piece xs [] h = take_all 16384 (xs ++ []) (simp length-append (omega (arith, h))) ∙ append-nil xs
take_piece xs (y ∷ ys) h = let all : length xs ≡ 16384 = omega (arith, h) in ap (λ n. take n (xs ++ y ∷ ys)) (sym all) ∙ take-append_seam xs (y ∷ ys)

drop_piece : (xs ys : List ℕ) → length xs ≡ min (length xs + length ys) 16384 → drop 16384 (xs ++ ys) ≡ ys
drop_piece xs [] h = drop_all 16384 (xs ++ []) (simp length-append (omega (arith, h)))
drop_piece xs (y ∷ ys) h = let all : length xs ≡ 16384 = omega (arith, h) in ap (λ n. drop n (xs ++ y ∷ ys)) (sym all) ∙ drop-append_seam xs (y ∷ ys)

abbrev pub bytes_of : List Piece → List ℕ
bytes_of = flat_map (λ (p : Piece). p.bytes)

-- pieces that pass the test are those of their bytes together
pub joined : (job : ℕ) (g : List Piece) (place size : ℕ) → AllByRecursion (λ (p : Piece). (p.job == job) ≡ true) g → are_cut place size g ≡ true
    → (length (bytes_of g) ≡ size) × (pieces_from job place (piece_count size) (bytes_of g) ≡ g)
joined job [] place size own h = let none : size ≡ 0 = grind (arith, nat_tests, h) in (sym none, ap (λ n. pieces_from job place (piece_count n) []) none)
joined job (x ∷ g) place size own h =
    let left = size - min size 16384 in
    let d = and_parts ((x.place == place) && nat_le 1 size && (length x.bytes == min size 16384)) (are_cut (place + 1) left g) h in
    let b = and_parts ((x.place == place) && nat_le 1 size) (length x.bytes == min size 16384) d.0 in
    let a = and_parts (x.place == place) (nat_le 1 size) b.0 in
    let here : x.place ≡ place = (let t = a.0 in grind (arith, nat_tests, t)) in
    let some : 1 ≤ size = (let t = a.1 in grind (arith, nat_tests, t)) in
    let whole : length x.bytes ≡ min size 16384 = (let t = b.1 in grind (arith, nat_tests, t)) in
    let owned : x.job ≡ job = (let t = own.0 in grind (arith, nat_tests, t)) in
    let more = joined job g (place + 1) left own.1 d.1 in
    let all : length x.bytes + length (bytes_of g) ≡ size = omega (arith, whole, more.0) in
    let fits : length x.bytes ≡ min (length x.bytes + length (bytes_of g)) 16384 = rw all whole in
    let first : record { job = job; place = place; bytes = take 16384 (x.bytes ++ bytes_of g) } ≡ x = λ i. record { job = sym owned i; place = sym here i; bytes = take_piece x.bytes (bytes_of g) fits i } in (
      length-append x.bytes (bytes_of g) ∙ all,
      ap (λ n. pieces_from job place n (x.bytes ++ bytes_of g)) (count_step size some)
          ∙ (λ i. first i ∷ (ap (pieces_from job (place + 1) (piece_count left)) (drop_piece x.bytes (bytes_of g) fits) ∙ more.1) i),
    )

-- the pieces of bytes pass it
pub are_pieces : (job place n size : ℕ) (bytes : List ℕ) → length bytes ≡ size → piece_count size ≡ n → are_cut place size (pieces_from job place n bytes) ≡ true
are_pieces job place zero size bytes is count = subst (λ n. (n == 0) ≡ true) (sym (count_none size count)) refl
are_pieces job place (suc n) size bytes is count =
    let some : 1 ≤ size = omega (arith, count) in
    let left = size - min size 16384 in
    let rest : length (drop 16384 bytes) ≡ left = simp length-drop (omega (arith, is)) in
    let fewer : piece_count left ≡ n = omega (arith, count_step size some, count) in
    let a : (place == place) ≡ true = eq-eqb place place refl in
    let b : nat_le 1 size ≡ true = le-leb 1 size some in
    let whole : length (take 16384 bytes) ≡ min size 16384 = length-take 16384 bytes ∙ omega (arith, is) in
    let d : (length (take 16384 bytes) == min size 16384) ≡ true = eq-eqb _ _ whole in
    rw (a, b, d) (are_pieces job (place + 1) n left (drop 16384 bytes) rest fewer)
