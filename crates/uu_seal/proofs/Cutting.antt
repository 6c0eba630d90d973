-- A text in pieces.
use Rattle.std.proofs.Common.{◌≡◌, ◌∙◌, ap, sym, refl, ℕ, zero, suc, ◌≤◌, List, [], ◌∷◌, ◌++◌, All, length, take, drop, arith}
use Rattle.std.proofs.lemmas.List.{length-drop, length-take, take-append-drop, nil_from_length}
use Rattle.std.proofs.lemmas.List.Elements.{All-cons, All-nil}
use Rattle.uu_seal.specs.Opening.{joined}
use Rattle.uu_seal.specs.Texts.{IsPiece, cut_in, most_piece, pieces_of}

-- it doesn't matter how often at most
same_pieces : (size n m : ℕ) (text : List ℕ) → 1 ≤ size → length text ≤ n → length text ≤ m → cut_in size n text ≡ cut_in size m text
same_pieces size zero zero text some within also = refl
same_pieces size zero (suc m) [] some within also = refl
same_pieces size zero (suc m) (byte ∷ bytes) some within also = absurd (omega arith)
same_pieces size (suc n) zero [] some within also = refl
same_pieces size (suc n) zero (byte ∷ bytes) some within also = absurd (omega arith)
same_pieces size (suc n) (suc m) [] some within also = refl
same_pieces size (suc n) (suc m) (byte ∷ bytes) some within also =
    let less = length-drop size (byte ∷ bytes) in
    ap (λ pieces. take size (byte ∷ bytes) ∷ pieces) (same_pieces size n m (drop size (byte ∷ bytes)) some (omega arith) (omega arith))

-- the first piece, and the pieces of the rest
pub first_piece : (text front back : List ℕ) → 1 ≤ length text → front ≡ take most_piece text → back ≡ drop most_piece text → pieces_of text ≡ front ∷ pieces_of back
first_piece [] front back some of_front of_back = absurd (omega arith)
first_piece (byte ∷ bytes) front back some of_front of_back =
    let less = length-drop most_piece (byte ∷ bytes) in
    ap (λ pieces. take most_piece (byte ∷ bytes) ∷ pieces) (same_pieces most_piece (length bytes) (length (drop most_piece (byte ∷ bytes))) (drop most_piece (byte ∷ bytes)) (omega arith) (omega arith) (omega arith))
    ∙ ap (λ piece. piece ∷ pieces_of (drop most_piece (byte ∷ bytes))) (sym of_front) ∙ ap (λ rest. front ∷ pieces_of rest) (sym of_back)

are_within : (n : ℕ) (text : List ℕ) → All IsPiece (cut_in most_piece n text)
are_within zero text = All-nil IsPiece
are_within (suc n) [] = All-nil IsPiece
are_within (suc n) (byte ∷ bytes) =
    let size = length-take most_piece (byte ∷ bytes) in
    All-cons IsPiece (take most_piece (byte ∷ bytes)) (cut_in most_piece n (drop most_piece (byte ∷ bytes))) (record { some = omega arith; most = omega arith }) (are_within n (drop most_piece (byte ∷ bytes)))

pub are_pieces : (text : List ℕ) → All IsPiece (pieces_of text)
are_pieces text = are_within (length text) text

joined_within : (size n : ℕ) (text : List ℕ) → 1 ≤ size → length text ≤ n → joined (cut_in size n text) ≡ text
joined_within size zero text some within = sym (nil_from_length text (omega arith))
joined_within size (suc n) [] some within = refl
joined_within size (suc n) (byte ∷ bytes) some within =
    let less = length-drop size (byte ∷ bytes) in
    ap (λ rest. take size (byte ∷ bytes) ++ rest) (joined_within size n (drop size (byte ∷ bytes)) some (omega arith)) ∙ take-append-drop size (byte ∷ bytes)

pub joined_pieces : (text : List ℕ) → joined (pieces_of text) ≡ text
joined_pieces text = joined_within most_piece (length text) text (omega arith) (omega arith)
