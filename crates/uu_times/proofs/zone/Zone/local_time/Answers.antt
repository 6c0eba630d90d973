use Rattle.std.proofs.Common.{◌≡◌, ◌<◌, arith, pos, ◌+ℤ◌, ◌*ℤ◌}
use Rattle.std.proofs.lemmas.Int.{ints}
use Rattle.jiff_core.specs.Date.{epoch_day}
use Rattle.jiff_core.specs.DateTime.{civil_nanos}
use Rattle.jiff_core.specs.Time.{time_nanos}
use Rattle.uu_times.specs.Moment.{local_second}
use Rattle.uu_times.proofs.Clock.{day_time}
use Rattle.uu_times.proofs.zone.Zone.local_time.Goals as goal

pub returns-clause-value : goal.returns-clause-value
returns-clause-value c = omega (arith, ints, c.to_datetime.ensures, c.instant.ensures, c.offset.ensures)

pub returns-clause-shows : goal.returns-clause-shows
unfolding civil_nanos
returns-clause-shows c =
    let dt = c.to_datetime.result in
    let below : time_nanos dt.time < 86_400_000_000_000 = omega (arith, dt.time.hour_in, dt.time.minute_in, dt.time.second_in, dt.time.subsec_in) in
    let same : (epoch_day dt.date *ℤ pos 86_400_000_000_000) +ℤ pos (time_nanos dt.time) ≡ local_second c.args.self.now c.args.second *ℤ pos 1_000_000_000 = omega (arith, ints, c.to_datetime.ensures, c.instant.ensures, c.offset.ensures) in
    let parts = day_time (epoch_day dt.date) (local_second c.args.self.now c.args.second) (time_nanos dt.time) below same in
    record { day = parts.0; time = parts.1 }
