-- One more system is listed if it has jobs, and the sort puts the calls in order.
use Rattle.std.proofs.Common.{◌≡◌, ◌∙◌, ◌++◌, ◌∷◌, [], ℕ, List, All, Bor, Some, None, is_some, true, false, map, filter, nat_cmp, ap, sym, subst, arith, append-nil, rules}
use Rattle.std.specs.BTreeMap.{get}
use Rattle.std.specs.Cmp.Lexicographic.{slice_cmp}
use Rattle.std.proofs.lemmas.List.{take_all, map-append}
use Rattle.std.proofs.lemmas.List.Elements.{All-push}
use Rattle.std.proofs.lemmas.List.Sorted.{All-permutation, answers_always}
use Rattle.std.specs.Option.{option_copied}
use Rattle.uu_times.specs.declared.zone.Zone.{Zone}
use Rattle.uu_core.specs.declared.weeks.Weeks.{Weeks}
use Rattle.uu_core.specs.declared.job.JobHead.{JobHead}
use Rattle.uu_core.specs.declared.next_call.NextCall.{NextCall}
use Rattle.uu_core.specs.declared.queue.Sums.{Sums}
use Rattle.uu_core.specs.declared.system.SystemRow.{SystemRow}
use Rattle.uu_core.specs.Queues.{AreSumsOf, IsFirstJob, jobs_for}
use Rattle.uu_core.specs.NextCalls.{IsAhead, IsNextCall, IsToldOf, turn_of}
use Rattle.uu_core.proofs.QueueLemmas.{has_sums}
use Rattle.uu_core.proofs.NextCallLemmas.{ahead_of, calls_are, names_more}
use Rattle.uu_core.proofs.next_call.next_calls.Goals as goal
use Rattle.uu_core.proofs.next_call.next_calls.Goals.{in-Some+in_ok-next_call+in_ok-push, in_default}

pub loop-row-preserved : goal.loop-row-preserved
loop-row-preserved c =
    let rows = c.args.rows.now in
    let i = c.loop-row.row-index in
    let row = c.row-item.result in
    let has = λ (r : SystemRow). is_some (get (slice_cmp nat_cmp) c.in_ok-by_system.by_system r.def.name) in
    let called = λ (call : NextCall). call.system in
    let zone = c.args.zone.now in
    let jobs = c.args.jobs.now in
    let now = c.args.now in
    let before = c.loop-row.calls.items in
    let got : option_copied c.get.result ≡ get (slice_cmp nat_cmp) c.in_ok-by_system.by_system row.def.name =
    c.get.ensures.value ∙ ap (λ (r : SystemRow). get (slice_cmp nat_cmp) c.in_ok-by_system.by_system r.def.name) c.row.view_is in
    elim c.match-get.branch [
      | in-Some+in_ok-next_call+in_ok-push w ↦
          let call = w.in_ok-next_call.field-0 in
          let found : get (slice_cmp nat_cmp) c.in_ok-by_system.by_system row.def.name ≡ Some w.in-Some.sums.now = sym got ∙ ap option_copied w.in-Some.is in
          let sums = subst (AreSumsOf (jobs_for row.def.name jobs)) found (c.in_ok-by_system.ensures row.def.name) in
          let items : c.match-get.calls.items ≡ before ++ call ∷ [] = ap (λ v. v.items) w.calls-is ∙ w.in_ok-push.ensures.items in
          let told = told_at c.loop-row.weeks.zone.now zone row c.moment_at-at.result.second now call c.loop-row.invariant.zone c.moment_at-at.ensures.second w.in_ok-next_call.ensures.told in
          record {
            zone = ap (λ (weeks : Weeks). weeks.zone.now) w.weeks-is ∙ ap (λ (z : Bor Zone). z.now) w.in_ok-next_call.ensures.zone ∙ c.loop-row.invariant.zone;
            first = ap (λ (weeks : Weeks). weeks.first) w.weeks-is ∙ w.in_ok-next_call.ensures.first ∙ c.loop-row.invariant.first;
            names = ap (map called) items ∙ map-append called before (call ∷ []) ∙ ap (λ (n : List ℕ). map called before ++ n ∷ []) told.system
                ∙ names_more rows i row has (map called before) true (omega arith) c.row-item.is c.loop-row.invariant.names (ap is_some found);
            sound = subst (All (IsNextCall zone rows jobs now)) (sym items) (All-push (IsNextCall zone rows jobs now) before call c.loop-row.invariant.sound
                (record { row = row; there = (i, omega arith, sym c.row-item.is); system = told.system; job = job_of call w.in-Some.sums.now w.in_ok-next_call.ensures.grade w.in_ok-next_call.ensures.number sums.first; second = told.second; why = told.why }));
            ahead = subst (All (IsAhead now)) (sym items) (All-push (IsAhead now) before call c.loop-row.invariant.ahead (ahead_of zone row call.grade now call.second told.second));
          }
      | in_default w ↦
          let none : get (slice_cmp nat_cmp) c.in_ok-by_system.by_system row.def.name ≡ None = sym got ∙ ap option_copied w.in_default.is in
          let items : c.match-get.calls.items ≡ before = ap (λ v. v.items) w.calls-is in
          record {
            zone = ap (λ (weeks : Weeks). weeks.zone.now) w.weeks-is ∙ c.loop-row.invariant.zone;
            first = ap (λ (weeks : Weeks). weeks.first) w.weeks-is ∙ c.loop-row.invariant.first;
            names = ap (map called) items ∙ sym (append-nil (map called before))
                ∙ names_more rows i row has (map called before) false (omega arith) c.row-item.is c.loop-row.invariant.names (ap is_some none);
            sound = subst (All (IsNextCall zone rows jobs now)) (sym items) c.loop-row.invariant.sound;
            ahead = subst (All (IsAhead now)) (sym items) c.loop-row.invariant.ahead;
          }
    ]
  where
    told_at : (clock zone : Zone) (row : SystemRow) (at now : ℕ) (call : NextCall) → clock ≡ zone → at ≡ now → IsToldOf clock row at call → IsToldOf zone row now call
    told_at clock zone row at now call same then told = subst (λ (z : Zone). IsToldOf z row now call) same (subst (λ (s : ℕ). IsToldOf clock row s call) then told)

    job_of : {jobs : List JobHead} (call : NextCall) (sums : Sums) → call.grade ≡ sums.grade → call.number ≡ sums.number → IsFirstJob jobs sums.grade sums.number → IsFirstJob jobs call.grade call.number
    job_of call sums grade number first = record { job = first.job; there = first.there; grade_is = grade ∙ first.grade_is; number_is = number ∙ first.number_is; first = first.first }

pub returns-clause-ahead : goal.returns-clause-ahead
returns-clause-ahead c = All-permutation (IsAhead c.args.now) c.loop-row.calls.items c.sort_by_key.new.self.items c.sort_by_key.ensures.permutation c.loop-row.invariant.ahead

pub returns-clause-calls : goal.returns-clause-calls
returns-clause-calls c by_name =
    let has = λ (r : SystemRow). is_some (get (slice_cmp nat_cmp) c.in_ok-by_system.by_system r.def.name) in
    calls_are c.args.zone.now c.args.rows.now c.args.jobs.now c.args.now has c.loop-row.calls.items c.sort_by_key.new.self.items by_name
    (c.loop-row.invariant.names ∙ ap (λ (l : List SystemRow). map (λ (r : SystemRow). r.def.name) (filter has l)) (take_all c.loop-row.row-index c.args.rows.now (omega arith)))
    (λ row some. has_sums (jobs_for row.def.name c.args.jobs.now) _ (c.in_ok-by_system.ensures row.def.name) some)
    c.loop-row.invariant.sound c.sort_by_key.ensures.permutation
    (c.in_ok-sort_by_key.ensures.sorted turn_of (answers_always _ _ _ (λ f a r q k. search rules)))
    (c.in_ok-sort_by_key.ensures.stable turn_of (answers_always _ _ _ (λ f a r q k. search rules)))
    (All-permutation (IsAhead c.args.now) c.loop-row.calls.items c.sort_by_key.new.self.items c.sort_by_key.ensures.permutation c.loop-row.invariant.ahead)
