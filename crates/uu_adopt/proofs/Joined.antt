-- The bodies that are joined of a state's pieces are those of its jobs.
use Rattle.std.proofs.Common.{◌≡◌, ◌<◌, List, [], ◌∷◌, map, flat_map, true, false, length, refl, ap, ◌∙◌}
use Rattle.std.specs.List.{AllByRecursion, range_with_len}
use Rattle.std.proofs.lemmas.Bool.{eq-eqb}
use Rattle.uu_names.proofs.Basics.{AllPairsByRecursion}
use Rattle.uu_check.proofs.Lists.{all_flat_of}
use Rattle.uu_check.proofs.Meanings.{eq_not}
use Rattle.uu_check.proofs.OneState.{bytes_back}
use Rattle.uu_core.specs.State.{Job, head_of}
use Rattle.uu_tables.specs.declared.earlier.Piece.{Piece}
use Rattle.uu_tables.specs.Tables.{body_of}
use Rattle.uu_tables.specs.Earlier.{pieces_of, piece, piece_count}
use Rattle.uu_tables.proofs.RowLemmas.{each_made}
use Rattle.uu_adopt.specs.Assembly.{owns_piece, joined, bodies_from}
use Rattle.uu_adopt.proofs.Assembled.{own_is, others_are}

abbrev pub Lower : Job → Job → Type 0
Lower a b = a.number < b.number

its_own : (j : Job) → AllByRecursion (λ (p : Piece). owns_piece (head_of j) p ≡ true) (pieces_of j)
its_own j = each_made (λ (p : Piece). owns_piece (head_of j) p ≡ true) (piece j.number j.bytes) (λ place. eq-eqb j.number j.number refl) (range_with_len 0 (piece_count (length j.bytes)))

not_later : (j k : Job) → Lower j k → AllByRecursion (λ (p : Piece). owns_piece (head_of j) p ≡ false) (pieces_of k)
not_later j k low = each_made (λ (p : Piece). owns_piece (head_of j) p ≡ false) (piece k.number k.bytes) (λ place. eq_not j.number k.number low) (range_with_len 0 (piece_count (length k.bytes)))

pub bodies_are : (jobs : List Job) → AllPairsByRecursion Lower jobs → bodies_from (map head_of jobs) (flat_map pieces_of jobs) ≡ map body_of jobs
bodies_are [] up = refl
bodies_are (j ∷ jobs) up =
    let rest = flat_map pieces_of jobs in
    let others = all_flat_of (λ (p : Piece). owns_piece (head_of j) p ≡ false) (Lower j) pieces_of (not_later j) jobs up.0 in
    let own = ap joined (own_is owns_piece (head_of j) (pieces_of j) rest (its_own j) others) ∙ bytes_back j in
    let more = ap (bodies_from (map head_of jobs)) (others_are owns_piece (head_of j) (pieces_of j) rest (its_own j) others) ∙ bodies_are jobs up.1 in
    λ i. record { job = j.number; bytes = own i } ∷ more i
