use Rattle.std.proofs.Common.{◌≡◌, ℕ, ◌*◌, ◌<◌, ◌≤◌, false}
use Rattle.uu_core.specs.Due.{is_within}
use Rattle.uu_core.specs.NextCalls.{limit_in}
use Rattle.uu_core.proofs.next_call.first_open.Given as goal

abbrev pub invariant-loop-minute : goal.invariant-loop-minute
invariant-loop-minute l = record {
  none : (other : ℕ) → l.from ≤ other → other < l.minute → is_within (limit_in l.initial.weeks.zone.now l.row (60 * other)) l.grade ≡ false;
  zone : l.weeks.zone ≡ l.initial.weeks.zone;
  first : l.weeks.first ≡ l.initial.weeks.first;
}
