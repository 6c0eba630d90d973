-- One more system is listed, and the sort puts the polls in order.
use Rattle.std.proofs.Common.{◌≡◌, ◌∙◌, ◌++◌, ◌∷◌, [], ℕ, All, Bor, map, ap, sym, subst, arith, rules}
use Rattle.std.proofs.lemmas.List.{take_all, map-append}
use Rattle.std.proofs.lemmas.List.Elements.{All-push}
use Rattle.std.proofs.lemmas.List.Sorted.{All-permutation, answers_always}
use Rattle.uu_times.specs.declared.zone.Zone.{Zone}
use Rattle.uu_core.specs.declared.next_call.NextPoll.{NextPoll}
use Rattle.uu_core.specs.declared.system.SystemRow.{SystemRow}
use Rattle.uu_core.specs.NextCalls.{highest, IsPollAhead, IsNextPoll, IsPollToldOf, poll_turn}
use Rattle.uu_core.proofs.NextCallLemmas.{ahead_of, names_on, polls_are}
use Rattle.uu_core.proofs.next_call.next_polls.Goals as goal

pub loop-row-preserved : goal.loop-row-preserved
loop-row-preserved c =
    let rows = c.args.rows.now in
    let row = c.row-item.result in
    let zone = c.args.zone.now in
    let now = c.args.now in
    let before = c.loop-row.polls.items in
    let poll = c.in_ok-next_poll.field-0 in
    let system = λ (p : NextPoll). p.system in
    let items : c.push.new.self.items ≡ before ++ poll ∷ [] = c.in_ok-push.ensures.items in
    let told = told_at c.loop-row.weeks.zone.now zone row c.moment_at-at.result.second now poll c.loop-row.invariant.zone c.moment_at-at.ensures.second c.in_ok-next_poll.ensures.told in
    record {
      names = ap (map system) items ∙ map-append system before (poll ∷ [])
          ∙ names_on rows c.loop-row.row-index row (map system before) poll.system (omega arith) c.row-item.is c.loop-row.invariant.names told.system;
      sound = subst (All (IsNextPoll zone rows now)) (sym items) (All-push (IsNextPoll zone rows now) before poll c.loop-row.invariant.sound
          (record { row = row; there = (c.loop-row.row-index, omega arith, sym c.row-item.is); system = told.system; second = told.second; why = told.why }));
      ahead = subst (All (IsPollAhead now)) (sym items) (All-push (IsPollAhead now) before poll c.loop-row.invariant.ahead (ahead_of zone row highest now poll.second told.second));
      zone = ap (λ (z : Bor Zone). z.now) c.in_ok-next_poll.ensures.zone ∙ c.loop-row.invariant.zone;
      first = c.in_ok-next_poll.ensures.first ∙ c.loop-row.invariant.first;
    }
  where
    told_at : (clock zone : Zone) (row : SystemRow) (at now : ℕ) (poll : NextPoll) → clock ≡ zone → at ≡ now → IsPollToldOf clock row at poll → IsPollToldOf zone row now poll
    told_at clock zone row at now poll same then told = subst (λ (z : Zone). IsPollToldOf z row now poll) same (subst (λ (s : ℕ). IsPollToldOf clock row s poll) then told)

pub returns-clause-ahead : goal.returns-clause-ahead
returns-clause-ahead c = All-permutation (IsPollAhead c.args.now) c.loop-row.polls.items c.sort_by_key.new.self.items c.sort_by_key.ensures.permutation c.loop-row.invariant.ahead

pub returns-clause-polls : goal.returns-clause-polls
returns-clause-polls c by_name =
    polls_are c.args.zone.now c.args.rows.now c.args.now c.loop-row.polls.items c.sort_by_key.new.self.items by_name
    (c.loop-row.invariant.names ∙ ap (map (λ (r : SystemRow). r.def.name)) (take_all c.loop-row.row-index c.args.rows.now (omega arith)))
    c.loop-row.invariant.sound c.sort_by_key.ensures.permutation
    (c.in_ok-sort_by_key.ensures.sorted poll_turn (answers_always _ _ _ (λ f a r q k. search rules)))
    (c.in_ok-sort_by_key.ensures.stable poll_turn (answers_always _ _ _ (λ f a r q k. search rules)))
    (All-permutation (IsPollAhead c.args.now) c.loop-row.polls.items c.sort_by_key.new.self.items c.sort_by_key.ensures.permutation c.loop-row.invariant.ahead)
