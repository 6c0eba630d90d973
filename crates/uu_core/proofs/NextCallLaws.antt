-- The next calls, compared with what is due.
use Rattle.std.proofs.Common.{◌≡◌, ℕ, ◌≤◌, Bool, true, false, not, cond, leb, ltb, ◌&&◌, ◌||◌, ◌==◌, List, get_or, Option, Some, None, IfSome, Contains, refl, ap, sym, ◌∙◌, subst, arith, ◌↔◌}
use Rattle.std.specs.Cmp.Lexicographic.{bytes_decides}
use Rattle.std.proofs.lemmas.Bool.{eqb-true, both_ways, and_from}
use Rattle.std.proofs.lemmas.Bool.Decides.{nat_tests}
use Rattle.std.proofs.lemmas.List.{get_or_default}
use Rattle.std.proofs.lemmas.List.Elements.{All-contains}
use Rattle.uu_names.proofs.Basics.{from_filter, in_filter, some_passes, passing_one, and_first, and_second, text_from, all_pass, not_before_itself}
use Rattle.uu_times.specs.Moment.{last_second}
use Rattle.uu_times.specs.declared.moment.Moment.{Moment}
use Rattle.uu_times.specs.declared.zone.Zone.{Zone}
use Rattle.uu_core.specs.declared.due.Due.{Due}
use Rattle.uu_core.specs.declared.job.JobHead.{JobHead}
use Rattle.uu_core.specs.declared.next_call.NextCall.{NextCall}
use Rattle.uu_core.specs.declared.next_call.Why.TheVariants as why
use Rattle.uu_core.specs.declared.system.SystemRow.{SystemRow}
use Rattle.uu_core.specs.State.{same_text, is_system, ComesBefore}
use Rattle.uu_core.specs.Order.{AreByName}
use Rattle.uu_core.specs.Waiting.{limit_at, is_held}
use Rattle.uu_core.specs.Queues.{jobs_for}
use Rattle.uu_core.specs.Due.{limit_now, is_within, may_go, goes_before, is_due, due_of, is_listed, AreDue}
use Rattle.uu_core.specs.NextCalls.{natural, week_at, limit_in, is_looked_at, is_looked_at_before, is_callable, IsLeast, IsGreatest, why_limited, why_at, IsNextCall, IsMomentAt, due_by, IsEarlier}
use Rattle.uu_core.proofs.NextCallLemmas.{ahead_of}

-- at the moment of a second the limit is that of the second
limit_same : (zone : Zone) (row : SystemRow) (second : ℕ) (at : Moment) → IsMomentAt zone second at → limit_now row at ≡ limit_in zone row second
unfolding week_at
limit_same zone row second at is = λ i. cond (is_held row.call (is.second_is i)) None (limit_at row.def.lines (natural (is.week_is i)))

same_back : (a b : List ℕ) → a ≡ b → same_text a b ≡ true
same_back a b e = (bytes_decides a b).1 e

module _ (zone : Zone) (rows : List SystemRow) (jobs : List JobHead) (now : ℕ) (call : NextCall) (next : IsNextCall zone rows jobs now call) where
  abbrev job : JobHead
  job = next.job.job

  among : Contains (jobs_for next.row.def.name jobs) job
  among = next.job.there

  own : job.system ≡ next.row.def.name
  own = text_from job.system next.row.def.name (from_filter (λ (other : JobHead). same_text other.system next.row.def.name) jobs job among).1

  -- the system is free for the job if it is free for the call's grade
  may_at : (second : ℕ) (at : Moment) → IsMomentAt zone second at → is_within (limit_in zone next.row second) call.grade ≡ true → may_go rows at job ≡ true
  may_at second at is within =
      some_passes (λ (row : SystemRow). is_system job.system row && is_within (limit_now row at) job.grade) rows next.row next.there
      (and_from (is_system job.system next.row) (is_within (limit_now next.row at) job.grade) (same_back next.row.def.name job.system (sym own))
      (ap (λ o. is_within o job.grade) (limit_same zone next.row second at is) ∙ ap (is_within (limit_in zone next.row second)) (sym next.job.grade_is) ∙ within))

  -- no other job of the system goes before
  none_before : (at : Moment) (other : JobHead) → Contains jobs other → not (same_text other.system job.system && may_go rows at other && goes_before other job) ≡ true
  none_before at other there = by-test (same_text other.system job.system) refl
    where
      closed : (b : Bool) → not (b && false) ≡ true
      closed true = refl
      closed false = refl

      by-test : (t : Bool) → same_text other.system job.system ≡ t → not (t && may_go rows at other && goes_before other job) ≡ true
      by-test false e = refl
      by-test true e =
          let same : other.system ≡ next.row.def.name = text_from other.system job.system e ∙ own in
          let its_own : Contains (jobs_for next.row.def.name jobs) other = in_filter (λ (j : JobHead). same_text j.system next.row.def.name) jobs other there (same_back other.system next.row.def.name same) in
          let behind : goes_before other job ≡ false = All-contains (λ (j : JobHead). goes_before j job ≡ false) (jobs_for next.row.def.name jobs) other next.job.first its_own in
          rw behind (closed (may_go rows at other))

  -- the next call is what is listed at that second
  pub listed_then : (second : ℕ) (at : Moment) (dues : List Due) → call.second ≡ Some second → IsMomentAt zone second at → AreDue rows jobs at dues → Contains dues (due_by call)
  listed_then second at dues same is due =
      let least : IsLeast (is_callable zone next.row call.grade now) (Some second) = subst (IsLeast (is_callable zone next.row call.grade now)) same next.second in
      let within = and_second (is_looked_at next.row.call now second) (is_within (limit_in zone next.row second) call.grade) least.0 in
      let may = may_at second at is within in
      let there = (from_filter (λ (other : JobHead). same_text other.system next.row.def.name) jobs job among).0 in
      let first : is_due rows jobs at job ≡ true =
      and_from (may_go rows at job) _ may (all_pass (λ other. not (same_text other.system job.system && may_go rows at other && goes_before other job)) jobs (none_before at)) in
      subst (Contains dues) (λ i. record { system = (own ∙ sym next.system) i; grade = sym next.job.grade_is i; number = sym next.job.number_is i })
      (due.complete (due_of job) (record { job = job; there = there; first = first; is = refl }))

  -- there is one system of a name
  pub one_of_name : AreByName (λ (row : SystemRow). row.def.name) rows → (a b : SystemRow) → Contains rows a → Contains rows b → a.def.name ≡ b.def.name → a ≡ b
  one_of_name by_name a b (i, i_in, a_is) (j, j_in, b_is) same = by-order (ltb i j) (ltb j i) refl refl
    where
      at_b : get_or rows j a ≡ b
      at_b = get_or_default rows j a b j_in ∙ b_is

      at_a : get_or rows i b ≡ a
      at_a = get_or_default rows i b a i_in ∙ a_is

      by-order : (less more : Bool) → ltb i j ≡ less → ltb j i ≡ more → a ≡ b
      by-order true more e f =
          let before : ComesBefore (get_or rows i a).def.name (get_or rows j a).def.name = by_name i j a (grind (arith, nat_tests)) j_in in
          absurd (not_before_itself b.def.name (subst (λ (n : List ℕ). ComesBefore n b.def.name) same
          (subst (λ (r : SystemRow). ComesBefore r.def.name b.def.name) a_is (subst (λ (r : SystemRow). ComesBefore (get_or rows i a).def.name r.def.name) at_b before))))
      by-order false true e f =
          let before : ComesBefore (get_or rows j b).def.name (get_or rows i b).def.name = by_name j i b (grind (arith, nat_tests)) i_in in
          absurd (not_before_itself b.def.name (subst (λ (n : List ℕ). ComesBefore b.def.name n) same
          (subst (λ (r : SystemRow). ComesBefore b.def.name r.def.name) at_a (subst (λ (r : SystemRow). ComesBefore r.def.name (get_or rows i b).def.name) b_is before))))
      by-order false false e f =
          let same_place : i ≡ j = grind (arith, nat_tests) in
          sym a_is ∙ ap (λ k. get_or rows k a) same_place ∙ at_b

  -- a grade that is higher is within the limit too
  within_too : (limit : Option ℕ) (grade other : ℕ) → grade ≤ other → is_within limit other ≡ true → is_within limit grade ≡ true
  within_too None grade other h e = e
  within_too (Some most) grade other h e = grind (arith, nat_tests)

  not_behind : (a b : JobHead) → goes_before a b ≡ false → b.grade ≤ a.grade
  not_behind a b e = grind (arith, nat_tests)

  none_callable : (second : Option ℕ) (earlier : ℕ) → IsEarlier earlier second → IsLeast (is_callable zone next.row call.grade now) second → is_callable zone next.row call.grade now earlier ≡ true → ⊥
  none_callable None earlier before least callable = both_ways _ (least earlier) callable
  none_callable (Some second) earlier before least callable = let no_later = least.1 earlier callable in omega (arith, before, no_later)

  -- at a second that was looked at before, the system isn't listed
  pub not_listed_before : AreByName (λ (row : SystemRow). row.def.name) rows → (earlier : ℕ) (at : Moment) (dues : List Due) → is_looked_at next.row.call now earlier ≡ true
      → IsEarlier earlier call.second → IsMomentAt zone earlier at → AreDue rows jobs at dues → is_listed dues call.system ≡ false
  not_listed_before by_name earlier at dues looked before is due = by-test (is_listed dues call.system) refl
    where
      listed : is_listed dues call.system ≡ true → ⊥
      listed e =
          let there = passing_one (λ (d : Due). same_text d.system call.system) dues e in
          let sound = due.sound there.0 there.1 in
          let goes : may_go rows at sound.job ≡ true = and_first (may_go rows at sound.job) _ sound.first in
          let free = passing_one (λ (row : SystemRow). is_system sound.job.system row && is_within (limit_now row at) sound.job.grade) rows goes in
          let named : free.0.def.name ≡ sound.job.system = text_from free.0.def.name sound.job.system (and_first (is_system sound.job.system free.0) (is_within (limit_now free.0 at) sound.job.grade) free.2) in
          let within : is_within (limit_now free.0 at) sound.job.grade ≡ true = and_second (is_system sound.job.system free.0) (is_within (limit_now free.0 at) sound.job.grade) free.2 in
          let called : sound.job.system ≡ next.row.def.name = ap (λ (d : Due). d.system) (sym sound.is) ∙ text_from there.0.system call.system there.2 ∙ next.system in
          let row : free.0 ≡ next.row = one_of_name by_name free.0 next.row free.1 next.there (named ∙ called) in
          let reaches : is_within (limit_in zone next.row earlier) sound.job.grade ≡ true =
          ap (λ o. is_within o sound.job.grade) (sym (limit_same zone next.row earlier at is)) ∙ subst (λ (r : SystemRow). is_within (limit_now r at) sound.job.grade ≡ true) row within in
          let its_own : Contains (jobs_for next.row.def.name jobs) sound.job =
          in_filter (λ (j : JobHead). same_text j.system next.row.def.name) jobs sound.job sound.there (same_back sound.job.system next.row.def.name called) in
          let behind = not_behind sound.job job (All-contains (λ (j : JobHead). goes_before j job ≡ false) (jobs_for next.row.def.name jobs) sound.job next.job.first its_own) in
          let higher : call.grade ≤ sound.job.grade = omega (arith, behind, next.job.grade_is) in
          let callable : is_callable zone next.row call.grade now earlier ≡ true =
          and_from (is_looked_at next.row.call now earlier) (is_within (limit_in zone next.row earlier) call.grade) looked
          (within_too (limit_in zone next.row earlier) call.grade sound.job.grade higher reaches) in
          none_callable call.second earlier before next.second callable

      by-test : (t : Bool) → is_listed dues call.system ≡ t → t ≡ false
      by-test false e = refl
      by-test true e = absurd (listed e)

  -- ---- why

  due_within : (held : Bool) (limit : Option ℕ) → why_limited held limit call.grade ≡ why.Due → is_within (cond held None limit) call.grade ≡ true
  due_within held None e = absurd (cc)
  due_within true (Some most) e = absurd (by-test (leb call.grade most) e)
    where
      by-test : (t : Bool) → cond t why.Held why.Grade ≡ why.Due → ⊥
      by-test true e = cc
      by-test false e = cc
  due_within false (Some most) e = by-test (leb call.grade most) e
    where
      by-test : (t : Bool) → cond t why.Due why.Grade ≡ why.Due → t ≡ true
      by-test true e = refl
      by-test false e = absurd (cc)

  within_due : (held : Bool) (limit : Option ℕ) → is_within (cond held None limit) call.grade ≡ true → why_limited held limit call.grade ≡ why.Due
  within_due true limit e = absurd (cc)
  within_due false None e = absurd (cc)
  within_due false (Some most) e = rw e refl

  ahead_at : (second : Option ℕ) → IsLeast (is_callable zone next.row call.grade now) second → IfSome second (λ s. (now ≤ s) × (s ≤ last_second))
  ahead_at = ahead_of zone next.row call.grade now

  -- what may be called at the last second before the call is called at once
  called_now : (second : Option ℕ) (last : ℕ) → IsLeast (is_callable zone next.row call.grade now) second → IsGreatest (is_looked_at_before next.row.call now second) last
      → is_within (limit_in zone next.row last) call.grade ≡ true → second ≡ Some now
  called_now None last least greatest within =
      absurd (both_ways _ (least last) (and_from (is_looked_at next.row.call now last) (is_within (limit_in zone next.row last) call.grade) greatest.0 within))
  called_now (Some second) last least greatest within =
      let looked = and_first (is_looked_at next.row.call now last) (last == now || ltb last second) greatest.0 in
      let place = and_second (is_looked_at next.row.call now last) (last == now || ltb last second) greatest.0 in
      let no_later : second ≤ last = least.1 last (and_from (is_looked_at next.row.call now last) (is_within (limit_in zone next.row last) call.grade) looked within) in
      let ahead = ahead_at (Some second) least in
      let same : second ≡ now = grind (arith, nat_tests) in
      ap Some same

  -- at once the last second before the call is the present one
  last_now : (last : ℕ) → is_looked_at_before next.row.call now (Some now) last ≡ true → last ≡ now
  last_now last e = by-test (last == now) refl (and_second (is_looked_at next.row.call now last) (last == now || ltb last now) e) (and_first (is_looked_at next.row.call now last) (last == now || ltb last now) e)
    where
      by-test : (t : Bool) → last == now ≡ t → last == now || ltb last now ≡ true → is_looked_at next.row.call now last ≡ true → last ≡ now
      by-test true q place looked = eqb-true last now q
      by-test false q place looked = absurd (grind (arith, nat_tests))

  pub due_is_now : now ≤ last_second → (call.why ≡ why.Due) ↔ (call.second ≡ Some now)
  due_is_now h = (
    λ e.
        called_now call.second next.why.last next.second next.why.is_last
        (due_within (is_held next.row.call next.why.last) (limit_at next.row.def.lines (week_at zone next.why.last)) (sym next.why.reason_is ∙ e)),
    λ e.
        let least : IsLeast (is_callable zone next.row call.grade now) (Some now) = subst (IsLeast (is_callable zone next.row call.grade now)) e next.second in
        let last : next.why.last ≡ now = last_now next.why.last (subst (λ (second : Option ℕ). is_looked_at_before next.row.call now second next.why.last ≡ true) e next.why.is_last.0) in
        next.why.reason_is ∙ ap (why_at zone next.row call.grade) last
        ∙ within_due (is_held next.row.call now) (limit_at next.row.def.lines (week_at zone now)) (and_second (is_looked_at next.row.call now now) (is_within (limit_in zone next.row now) call.grade) least.0),
  )
