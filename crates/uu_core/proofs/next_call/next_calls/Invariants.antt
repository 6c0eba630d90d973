use Rattle.std.proofs.Common.{◌≡◌, ◌+◌, ◌/◌, All, map, filter, take, is_some}
use Rattle.std.specs.Ordering.{nat_cmp}
use Rattle.std.specs.Cmp.Lexicographic.{slice_cmp}
use Rattle.std.specs.BTreeMap.{get}
use Rattle.uu_core.specs.NextCalls.{IsAhead, IsNextCall}
use Rattle.uu_core.proofs.next_call.next_calls.Given as goal

abbrev pub invariant-loop-row : goal.invariant-loop-row
invariant-loop-row l = record {
  names : map (λ call. call.system) l.calls.items ≡ map (λ row. row.def.name) (filter (λ row. is_some (get (slice_cmp nat_cmp) l.by_system row.def.name)) (take l.row-index l.rows));
  sound : All (IsNextCall l.zone l.rows l.jobs l.now) l.calls.items;
  ahead : All (IsAhead l.now) l.calls.items;
  zone : l.weeks.zone.now ≡ l.zone;
  first : l.weeks.first ≡ l.now / 60 + 1;
}
