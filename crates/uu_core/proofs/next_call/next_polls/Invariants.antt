use Rattle.std.proofs.Common.{◌≡◌, ◌+◌, ◌/◌, All, map, take}
use Rattle.uu_core.specs.NextCalls.{IsNextPoll, IsPollAhead}
use Rattle.uu_core.proofs.next_call.next_polls.Given as goal

abbrev pub invariant-loop-row : goal.invariant-loop-row
invariant-loop-row l = record {
  names : map (λ poll. poll.system) l.polls.items ≡ map (λ row. row.def.name) (take l.row-index l.rows);
  sound : All (IsNextPoll l.zone l.rows l.now) l.polls.items;
  ahead : All (IsPollAhead l.now) l.polls.items;
  zone : l.weeks.zone.now ≡ l.zone;
  first : l.weeks.first ≡ l.now / 60 + 1;
}
