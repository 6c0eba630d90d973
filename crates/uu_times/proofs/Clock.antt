-- Days and seconds from nanoseconds, and the minute of the week.
use Rattle.std.proofs.Common.{◌≡◌, ℕ, ◌+◌, ◌<◌, ◌/◌, ◌%◌, lit<, refl, sym, arith, ℤ, pos, negsuc, ◌+ℤ◌, ◌*ℤ◌}
use Rattle.std.proofs.lemmas.Int.{ints, int_rem_euclid_is}
use Rattle.std.specs.Int.{int_div_euclid, int_rem_euclid}
use Rattle.uu_times.specs.Moment.{week_minute}

-- a day number and a time of day are those of the second
pub day_time : (day shown : ℤ) (nanos : ℕ) → nanos < 86_400_000_000_000
    → (day *ℤ pos 86_400_000_000_000) +ℤ pos nanos ≡ shown *ℤ pos 1_000_000_000
    → (day ≡ int_div_euclid shown (pos 86400)) × (pos nanos ≡ int_rem_euclid shown (pos 86400) *ℤ pos 1_000_000_000)
day_time (pos d) (pos s) nanos below same = (omega (arith, ints), omega (arith, ints))
day_time (pos d) (negsuc s) nanos below same = absurd (omega (arith, ints))
day_time (negsuc d) (pos s) nanos below same = absurd (omega (arith, ints))
day_time (negsuc d) (negsuc s) nanos below same = (omega (arith, ints), omega (arith, ints))

-- the minute of the week, if seconds are counted from two days earlier on
pub week_later : (shown : ℤ) (later : ℕ) → shown +ℤ pos 172800 ≡ pos later → pos ((later / 60 + 2880) % 10080) ≡ week_minute shown
week_later (pos s) later same =
    sym (int_rem_euclid_is (int_div_euclid (pos s) (pos 60) +ℤ pos 5760) (pos 10080) 10080 0 (later / 60 + 2880) (lit< tt) refl (omega (arith, ints)))
week_later (negsuc s) later same =
    sym (int_rem_euclid_is (int_div_euclid (negsuc s) (pos 60) +ℤ pos 5760) (pos 10080) 10080 0 (later / 60 + 2880) (lit< tt) refl (omega (arith, ints)))
