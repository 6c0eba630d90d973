use Rattle.std.proofs.Common.{◌≡◌, ℕ, ◌<◌, slice_index}
use Rattle.uu_seal.proofs.opening.same_bytes.Given as goal

-- the first bytes are the same exactly if nothing differed
abbrev pub invariant-loop-i : goal.invariant-loop-i
invariant-loop-i l = (l.differ ≡ 0 → (k : ℕ) → k < l.i → slice_index l.one k ≡ slice_index l.other k) × (((k : ℕ) → k < l.i → slice_index l.one k ≡ slice_index l.other k) → l.differ ≡ 0)
