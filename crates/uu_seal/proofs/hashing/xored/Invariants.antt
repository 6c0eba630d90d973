use Rattle.std.proofs.Common.{◌≡◌, ℕ, ◌<◌, length, slice_index, bit_xor}
use Rattle.uu_seal.proofs.hashing.xored.Given as goal

-- the first bytes are changed
abbrev pub invariant-loop-i : goal.invariant-loop-i
invariant-loop-i l = (length l.changed ≡ 64) × ((k : ℕ) → k < l.i → slice_index l.changed k ≡ bit_xor (slice_index l.block k) l.byte)
