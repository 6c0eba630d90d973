-- The minutes that a site's clock may be ahead of UTC: less than a day, either way. The limit is
-- this project's choice.
use Rattle.std.specs.Prelude.{ℤ, pos, neg_ℤ, ◌≤ℤ◌, Bool, ◌&&◌, int_le}
use Rattle.uu_times.specs.Zone.{most_offset}

abbrev pub IsOffset : ℤ → Type 0
IsOffset offset = (neg_ℤ (pos most_offset) ≤ℤ offset) × (offset ≤ℤ pos most_offset)

-- the same as a test
abbrev pub is_offset : ℤ → Bool
is_offset offset = int_le (neg_ℤ (pos most_offset)) offset && int_le offset (pos most_offset)
