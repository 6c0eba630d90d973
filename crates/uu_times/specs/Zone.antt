-- The clock of a site: a POSIX rule (POSIX.1, the variable TZ), as `jiff_tz` reads it and as it
-- defines its offset at an instant.
use Rattle.std.specs.Prelude.{◌⊎◌, ℕ, ℤ, pos, neg_ℤ, ◌*ℤ◌, ◌<ℤ◌, List, Option, None}
use Rattle.jiff_core.specs.Timestamp.{nanos_of_seconds}
use Rattle.jiff_tz.specs.Abbreviation.{offset_text}
use Rattle.jiff_tz.specs.PosixReader.{read_whole}
use Rattle.jiff_tz.specs.PosixRule as rule
use Rattle.jiff_tz.specs.PosixText.{tz_view}
pub use Rattle.jiff_tz.specs.PosixText.{TzText}
use Rattle.uu_times.specs.declared.zone.Zone.{Zone}

-- the most minutes that a fixed clock differs from UTC: a day less a minute (this project's choice)
abbrev pub most_offset : ℕ
most_offset = 1439

-- a day or more from UTC, in minutes
abbrev pub IsFarOff : ℤ → Type 0
IsFarOff minutes = (minutes <ℤ neg_ℤ (pos most_offset)) ⊎ (pos most_offset <ℤ minutes)

-- the rule of a clock that is always so many minutes ahead of UTC, with the name that `jiff` gives
-- it, as `+05:30`
abbrev pub always : ℤ → TzText
always minutes = record {
  std_name = offset_text (pos 60 *ℤ minutes);
  std_seconds = pos 60 *ℤ minutes;
  dst = None;
}

-- the rule that a text is
abbrev pub zone_of : List ℕ → Option TzText
zone_of text = read_whole text

-- what a zone's rule says
abbrev pub zone_view : Zone → TzText
zone_view zone = tz_view zone.rule

-- the seconds that a zone's clock is ahead of UTC at a UTC second
unfoldable pub offset_at : Zone → ℕ → ℤ
offset_at zone second = (rule.offset_at zone.rule (nanos_of_seconds (pos second))).seconds
