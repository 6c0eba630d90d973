-- What a zone says, and its offsets.
use Rattle.std.proofs.Common.{◌≡◌, ap, refl, ℕ, ℤ, pos, Bool, true, false, Option, Some, None}
use Rattle.std.specs.Prelude.{option_map, if◌then◌else◌}
use Rattle.jiff_core.specs.Timestamp.{IsOffsetSeconds, nanos_of_seconds}
use Rattle.jiff_core.specs.declared.Offset.{Offset}
use Rattle.jiff_tz.specs.PosixRule as rule
use Rattle.jiff_tz.specs.PosixText.{dst_view}
use Rattle.jiff_tz.specs.Year.{year_of_nanos}
use Rattle.jiff_tz.specs.declared.posix.Dst.{Dst}
use Rattle.jiff_tz.specs.declared.posix.DayTime.{DayTime}
use Rattle.uu_times.specs.Zone.{offset_at, zone_view}
use Rattle.uu_times.specs.declared.zone.Zone.{Zone}

-- no clock is 26 hours or more from UTC
pub offset_within : (zone : Zone) (second : ℕ) → IsOffsetSeconds (offset_at zone second)
unfolding offset_at
offset_within zone second = (rule.offset_at zone.rule (nanos_of_seconds (pos second))).in_range

-- a clock without daylight saving time is always as far ahead
pub offset_fixed : (zone : Zone) (second : ℕ) → zone.rule.dst ≡ None → offset_at zone second ≡ zone.rule.std_offset.seconds
unfolding offset_at
offset_fixed zone second none = rw none refl

-- a zone that says no daylight saving time has none
none_said : (dst : Option Dst) → option_map dst_view dst ≡ None → dst ≡ None
none_said None says = refl
none_said (Some d) says = absurd cc

-- and is always as far ahead as it says
pub offset_standard : (zone : Zone) → (zone_view zone).dst ≡ None → (second : ℕ) → offset_at zone second ≡ (zone_view zone).std_seconds
offset_standard zone says second = offset_fixed zone second (none_said zone.rule.dst says)

-- rules of one day and time have their moments together
moment_same : (a b : DayTime) (y seconds : ℤ) → a.date ≡ b.date → a.time ≡ b.time → rule.rule_nanos y a seconds ≡ rule.rule_nanos y b seconds
unfolding rule.rule_nanos
moment_same a b y seconds date time = rw (date, time) refl

-- what daylight saving time says tells when it is
window_same : (a b : Dst) (y : ℤ) (s t : Offset) → dst_view a ≡ dst_view b → s.seconds ≡ t.seconds → rule.utc_window a y s ≡ rule.utc_window b y t
unfolding rule.utc_window
window_same a b y s t says std =
    let start = moment_same a.rule.start b.rule.start y t.seconds (ap (λ d. d.start.0) says) (ap (λ d. d.start.1) says) in
    let end = moment_same a.rule.end b.rule.end y b.offset.seconds (ap (λ d. d.finish.0) says) (ap (λ d. d.finish.1) says) in
    let offset : a.offset.seconds ≡ b.offset.seconds = ap (λ d. d.seconds) says in
    rw (std, offset, start, end) refl

-- the seconds of the one offset or of the other
one_of : (is : Bool) (s t : Offset) (a b : Dst) → s.seconds ≡ t.seconds → a.offset.seconds ≡ b.offset.seconds
    → (rule.match_some (if is then Some a else None) s (λ d. d.offset)).seconds ≡ (rule.match_some (if is then Some b else None) t (λ d. d.offset)).seconds
one_of true s t a b std dst = dst
one_of false s t a b std dst = std

offset_same : (s t : Offset) (a b : Option Dst) (n : ℤ) → s.seconds ≡ t.seconds → option_map dst_view a ≡ option_map dst_view b
    → (rule.match_some (rule.dst_at_by s a n) s (λ d. d.offset)).seconds ≡ (rule.match_some (rule.dst_at_by t b n) t (λ d. d.offset)).seconds
offset_same s t None None n std says = std
offset_same s t None (Some b) n std says = absurd cc
offset_same s t (Some a) None n std says = absurd cc
offset_same s t (Some a) (Some b) n std says =
    let view : dst_view a ≡ dst_view b = cc in
    let window = window_same a b (year_of_nanos n) s t view std in
    rw window (one_of (rule.in_window (rule.utc_window b (year_of_nanos n) t) n) s t a b std (ap (λ d. d.seconds) view))

-- what a zone says tells its clock
pub offset_said : (a b : Zone) → zone_view a ≡ zone_view b → (second : ℕ) → offset_at a second ≡ offset_at b second
unfolding offset_at
offset_said a b says second =
    offset_same a.rule.std_offset b.rule.std_offset a.rule.dst b.rule.dst (nanos_of_seconds (pos second)) (ap (λ t. t.std_seconds) says) (ap (λ t. t.dst) says)
