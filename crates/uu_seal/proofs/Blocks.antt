-- Blocks.
use Rattle.std.proofs.Common.{◌≡◌, ◌≢◌, ◌∙◌, ◌==◌, Bool, true, false, true≢false, set, ap, sym, refl, ℕ, zero, suc, ◌+◌, ◌<◌, ◌≤◌, List, [], ◌∷◌, length, slice_index, bit_xor, arith}
use Rattle.std.proofs.lemmas.List.{length-map, same_lists, get_or_default, get_or-set_same, get_or-set_other}
use Rattle.std.proofs.lemmas.Bool.Decides.{Decides-eqb}
use Rattle.uu_seal.specs.Hmac.{xored}

xored_at : (byte : ℕ) (block : List ℕ) (k : ℕ) → k < length block → slice_index (xored byte block) k ≡ bit_xor (slice_index block k) byte
xored_at byte [] k within = absurd (omega arith)
xored_at byte (b ∷ block) zero within = refl
xored_at byte (b ∷ block) (suc k) within = xored_at byte block k (omega arith)

pub all_xored : (byte n : ℕ) (block changed : List ℕ) → length changed ≡ length block → length block ≤ n → ((k : ℕ) → k < n → slice_index changed k ≡ bit_xor (slice_index block k) byte) → changed ≡ xored byte block
all_xored byte n block changed same within each =
    let count = length-map block (λ b. bit_xor b byte) in
    same_lists changed (xored byte block) (omega arith)
    (λ k d h.
    get_or_default changed k d 0 h ∙ each k (omega arith) ∙ sym (xored_at byte block k (omega arith)) ∙ get_or_default (xored byte block) k 0 d (omega arith))

pub one_more : (byte i : ℕ) (block changed : List ℕ) → i < length changed → ((k : ℕ) → k < i → slice_index changed k ≡ bit_xor (slice_index block k) byte)
    → (k : ℕ) → k < i + 1 → slice_index (set changed i (bit_xor (slice_index block i) byte)) k ≡ bit_xor (slice_index block k) byte
one_more byte i block changed within each k below = by (k == i) refl
  where
    by : (b : Bool) → (k == i) ≡ b → slice_index (set changed i (bit_xor (slice_index block i) byte)) k ≡ bit_xor (slice_index block k) byte
    by true is =
        let same : k ≡ i = (Decides-eqb k i).0 is in
        ap (slice_index (set changed i (bit_xor (slice_index block i) byte))) same ∙ get_or-set_same changed i (bit_xor (slice_index block i) byte) 0 within ∙ ap (λ j. bit_xor (slice_index block j) byte) (sym same)
    by false is =
        let apart : k ≢ i = λ same. true≢false (sym ((Decides-eqb k i).1 same) ∙ is) in
        get_or-set_other changed i k (bit_xor (slice_index block i) byte) 0 apart ∙ each k (omega arith)
