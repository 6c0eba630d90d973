-- Marks have 63 bits.
use Rattle.std.proofs.Common.{◌<◌, ◌^◌, ◌/◌, ℕ, zero, suc, List, [], ◌∷◌, ◌++◌, arith, get_or, take}
use Rattle.std.specs.Int.{from_be_bytes, to_be_bytes, w32, w64}
use Rattle.std.specs.Prelude.{slice_index, ⊤}
use Rattle.sha2.specs.Sha256.{digest_bytes, final_hash, initial_hash_256, sha256}
use Rattle.uu_core.specs.Marks.{marks_end}
use Rattle.uu_bundle.specs.Marks.{mark_of}

abbrev AreBytes : List ℕ → Type 0
AreBytes [] = ⊤
AreBytes (b ∷ bytes) = (b < 256) × AreBytes bytes

bytes_append : (xs ys : List ℕ) → AreBytes xs → AreBytes ys → AreBytes (xs ++ ys)
bytes_append [] ys of_xs of_ys = of_ys
bytes_append (x ∷ xs) ys of_xs of_ys = (of_xs.0, bytes_append xs ys of_xs.1 of_ys)

bytes-take : (n : ℕ) (xs : List ℕ) → AreBytes xs → AreBytes (take n xs)
bytes-take zero xs of_xs = tt
bytes-take (suc n) [] of_xs = tt
bytes-take (suc n) (x ∷ xs) of_xs = (of_xs.0, bytes-take n xs of_xs.1)

bytes_at : (xs : List ℕ) (i : ℕ) → AreBytes xs → get_or xs i 0 < 256
bytes_at [] i of_xs = omega arith
bytes_at (x ∷ xs) zero of_xs = of_xs.0
bytes_at (x ∷ xs) (suc i) of_xs = bytes_at xs i of_xs.1

word_bytes : (n : ℕ) → AreBytes (to_be_bytes w32 n)
word_bytes n = (omega arith, (omega arith, (omega arith, (omega arith, tt))))

digest_AreBytes : (h : List ℕ) (n : ℕ) → AreBytes (digest_bytes h n)
unfolding digest_bytes
digest_AreBytes h zero = tt
digest_AreBytes h (suc n) = bytes_append (digest_bytes h n) (to_be_bytes w32 (slice_index h n)) (digest_AreBytes h n) (word_bytes (slice_index h n))

sha256-AreBytes : (text : List ℕ) → AreBytes (sha256 text)
unfolding sha256
sha256-AreBytes text = digest_AreBytes (final_hash initial_hash_256 text) 8

halved : (bytes : List ℕ) → AreBytes bytes → from_be_bytes w64 bytes / 2 < marks_end
halved bytes are =
    omega (arith, bytes_at bytes 0 are, bytes_at bytes 1 are, bytes_at bytes 2 are, bytes_at bytes 3 are, bytes_at bytes 4 are, bytes_at bytes 5 are, bytes_at bytes 6 are, bytes_at bytes 7 are)

pub mark_below : (text : List ℕ) → mark_of text < marks_end
mark_below text = halved (take 8 (sha256 text)) (bytes-take 8 (sha256 text) (sha256-AreBytes text))

pub mark_fits : (text : List ℕ) → mark_of text < 2 ^ 64
mark_fits text = let below = mark_below text in omega arith
