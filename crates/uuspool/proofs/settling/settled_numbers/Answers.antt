use Rattle.std.proofs.Common.{rules, arith, ◌≡◌, ◌∙◌, ℕ, ◌+◌, ◌<◌, ◌≤◌, ◌++◌, ◌∷◌, [], List, Vec, Ok, All, Contains, ap, length, refl, subst, sym, take}
use Rattle.std.specs.Prelude.{⊤}
use Rattle.std.specs.declared.alloc.Global.{Global}
use Rattle.std.proofs.lemmas.List.{take_all, take_more}
use Rattle.std.proofs.lemmas.List.Elements.{All-nil}
use Rattle.uu_bundle.specs.declared.bundle.Told.{Told}
use Rattle.uuspool.specs.Bundles.{mark_for, numbers_told, rising, settled_among, settled_by}
use Rattle.uuspool.proofs.AskedLemmas.{asked_as, asked_goes_on, asked_one, asked_then}
use Rattle.uuspool.proofs.SettlingLemmas.{number_added, rising_are_told, settled_more}
use Rattle.uuspool.proofs.settling.settled_numbers.Goals as goal

pub loop-one-preserved : goal.loop-one-preserved
loop-one-preserved g c =
    let from = c.args.own.now in
    let to = c.args.settling.now.system in
    let word = c.args.settling.now.spool in
    let told = c.deref-one-items.result.now in
    let i = c.loop-one.one-index in
    let one = c.one-item.result in
    let inside : i < length told = search rules in
    let before = c.loop-one.numbers.items in
    let after = c.add_if_settled.new.numbers.items in
    let Has : Told → Type 0 = λ o. Contains (numbers_told c.args.settling.now.has) o.number in
    let all_told : All Has told =
    subst (All Has) (sym (c.deref-one-items.ensures.value ∙ c.in_ok-rising.ensures ∙ ap (rising 0) c.as_slice.ensures)) (rising_are_told c.args.settling.now.has) in (
      asked_as (λ s. ⊤) (λ s done. (before ≡ settled_among from to word (take i told) s) × (after ≡ before ++ settled_among from to word (one ∷ []) s)) c.args.spool.now c.add_if_settled.new.spool
          (λ s done. after ≡ settled_among from to word (take (i + 1) told) s) _ tt
          (λ s shown known was.
          was.1 ∙ ap (λ ns. ns ++ settled_among from to word (one ∷ []) s) was.0
          ∙ sym (ap (λ l. settled_among from to word l s) (take_more told i one inside ∙ ap (λ o. take i told ++ o ∷ []) (sym c.one-item.is))
          ∙ settled_more to (mark_for from to word) s (take i told) one))
          (asked_then (λ s. ⊤) (λ s done. before ≡ settled_among from to word (take i told) s) c.args.spool.now c.loop-one.spool c.add_if_settled.new.spool tt c.loop-one.invariant.0
          (λ s. ⊤) (λ s done. after ≡ before ++ settled_among from to word (one ∷ []) s) _ (λ s shown known is. tt) c.in_ok-add_if_settled.ensures.asked),
      number_added (Contains (numbers_told c.args.settling.now.has)) before after one.number c.loop-one.invariant.1
          (subst (λ (o : Told). Contains (numbers_told c.args.settling.now.has) o.number) (sym c.one-item.is) (all_told i one inside))
          c.in_ok-add_if_settled.ensures.told,
    )

pub returns-in_err-add_if_settled-clause-asked : goal.returns-in_err-add_if_settled-clause-asked
returns-in_err-add_if_settled-clause-asked g c =
    let from = c.args.own.now in
    let to = c.args.settling.now.system in
    let word = c.args.settling.now.spool in
    let told = c.deref-one-items.result.now in
    let i = c.loop-one.one-index in
    let one = c.one-item.result in
    let before = c.loop-one.numbers.items in
    let after = c.add_if_settled.new.numbers.items in
    asked_goes_on (λ s. ⊤) (λ s done. (before ≡ settled_among from to word (take i told) s) × (after ≡ before ++ settled_among from to word (one ∷ []) s)) _ c.args.spool.now c.add_if_settled.new.spool
    c.from_residual-in_err-add_if_settled.result c.in_err-add_if_settled.field-0.0 c.from_residual-in_err-add_if_settled.ensures.1
    (asked_then (λ s. ⊤) (λ s done. before ≡ settled_among from to word (take i told) s) c.args.spool.now c.loop-one.spool c.add_if_settled.new.spool tt c.loop-one.invariant.0
    (λ s. ⊤) (λ s done. after ≡ before ++ settled_among from to word (one ∷ []) s) _ (λ s shown known is. tt) c.in_err-add_if_settled.ensures.asked)

pub loop-one-init : goal.loop-one-init
loop-one-init g c =
    let from = c.args.own.now in
    let to = c.args.settling.now.system in
    let word = c.args.settling.now.spool in (
      asked_as (λ s. ⊤) (λ s next. next ≡ s.next) c.args.spool.now c.next.new.self
          (λ s done. c.new-numbers.result.items ≡ settled_among from to word (take 0 c.deref-one-items.result.now) s) c.in_ok-next.field-0 tt
          (λ s shown known was. c.new-numbers.ensures.items ∙ ap (λ l. settled_among from to word l s) (none c.deref-one-items.result.now))
          (asked_one (λ s next. next ≡ s.next) c.args.spool.now c.next.new.self (Ok c.in_ok-next.field-0) c.in_ok-next.ensures.question),
      subst (All (Contains (numbers_told c.args.settling.now.has))) (sym c.new-numbers.ensures.items) (All-nil (Contains (numbers_told c.args.settling.now.has))),
    )
  where
    none : (told : List Told) → (let empty : List Told = [] in empty ≡ take 0 told)
    none [] = refl
    none (one ∷ told) = refl

pub returns-clause-asked : goal.returns-clause-asked
returns-clause-asked g c =
    let from = c.args.own.now in
    let to = c.args.settling.now.system in
    let word = c.args.settling.now.spool in
    let told = c.deref-one-items.result.now in
    let i = c.loop-one.one-index in
    let past : length told ≤ i = omega (arith, c.loop-one-test.false) in
    asked_as (λ s. ⊤) (λ s done. c.loop-one.numbers.items ≡ settled_among from to word (take i told) s) c.args.spool.now c.loop-one.spool
    (λ s (numbers : Vec ℕ Global). numbers.items ≡ settled_by from c.args.settling.now s) tt c.loop-one.numbers
    (λ s shown known is. is ∙ ap (λ l. settled_among from to word l s) (take_all i told past ∙ c.deref-one-items.ensures.value ∙ c.in_ok-rising.ensures ∙ ap (rising 0) c.as_slice.ensures))
    c.loop-one.invariant.0

pub returns-clause-told : goal.returns-clause-told
returns-clause-told g c = c.loop-one.invariant.1
