use Rattle.std.proofs.Common.{◌≡◌, ◌∙◌, [], Some, cond, Ok, ap, sym, refl, arith}
use Rattle.std.specs.BTreeMap.{is_at}
use Rattle.std.specs.Ordering.{nat_cmp}
use Rattle.uu_core.specs.declared.custody.Taken.{Taken}
use Rattle.uu_core.specs.Verdict.{key_under}
use Rattle.uu_core.specs.TakeIns.{Progress, brought_at}
use Rattle.uu_core.proofs.TakeInLemmas.{as_found, still_first, still_again, still_refused}
use Rattle.uu_core.proofs.DecisionLemmas.{first_room, not_last}
use Rattle.uu_core.proofs.take_in.Taking.decide.Goals as goal

pub returns-in_ok-insert-in-Ok-First-clause-decided : goal.returns-in_ok-insert-in-Ok-First-clause-decided
returns-in_ok-insert-in-Ok-First-clause-decided c = λ s now from it known taken.
    let number = c.args.offered.now.number in
    let mark = c.args.offered.now.mark in
    let job = c.args.offered.now.job in
    let old = c.args.self.now in
    let row : Taken = record { number = number; mark = mark; job = c.in-Ok-First.job } in
    let told =
    ap Ok (sym c.in-Ok-First.field-0-is) ∙ c.in-Ok-First.ensures
    ∙ as_found s now from number mark job old it c.args.known _ c.kept_now-taken.result c.args.taken c.self.view_is c.kept_now-taken.ensures known taken in (
      told,
      still_first s now from number mark job old it c.in-Ok-First.job _ told refl (ap (λ (p : Progress). p.below) c.self.view_is) (ap (λ (p : Progress). p.forgotten) c.self.view_is)
          (λ n. c.in_ok-insert-in-Ok-First.ensures.updates.0 n ∙ ap (λ (p : Progress). cond (is_at (nat_cmp number) n) (Some row) (brought_at p n)) c.self.view_is),
    )

pub returns-in-Ok-Again-clause-decided : goal.returns-in-Ok-Again-clause-decided
returns-in-Ok-Again-clause-decided c = λ s now from it known taken.
    let number = c.args.offered.now.number in
    let mark = c.args.offered.now.mark in
    let job = c.args.offered.now.job in
    let old = c.args.self.now in
    let told =
    ap Ok (sym c.in-Ok-Again.field-0-is) ∙ c.in-Ok-Again.ensures
    ∙ as_found s now from number mark job old it c.args.known _ c.kept_now-taken.result c.args.taken c.self.view_is c.kept_now-taken.ensures known taken in
    (told, still_again s now from number mark job old it c.in-Ok-Again.job told)

pub returns-in-Err-clause-decided : goal.returns-in-Err-clause-decided
returns-in-Err-clause-decided c = λ s now from it known taken.
    let number = c.args.offered.now.number in
    let mark = c.args.offered.now.mark in
    let job = c.args.offered.now.job in
    let old = c.args.self.now in
    let told =
    c.in-Err.ensures ∙ as_found s now from number mark job old it c.args.known _ c.kept_now-taken.result c.args.taken c.self.view_is c.kept_now-taken.ensures known taken in
    (told, still_refused s now from number mark job old it c.in-Err.refusal told)

pub returns-in_ok-insert-in-Ok-First-clause-room : goal.returns-in_ok-insert-in-Ok-First-clause-room
returns-in_ok-insert-in-Ok-First-clause-room c =
    let number = c.args.offered.now.number in
    let mark = c.args.offered.now.mark in
    let next = c.self.inside.next in
    let h =
    first_room c.args.known next c.self.inside.below c.kept_now-taken.result (key_under [] number mark) c.args.offered.now.job c.in-Ok-First.job (ap Ok (sym c.in-Ok-First.field-0-is) ∙ c.in-Ok-First.ensures) in
    let different : c.in-Ok-First.job ≡ 4294967295 → ⊥ = not_last next c.in-Ok-First.job h.1 h.2 in
    (h.0, omega arith)
