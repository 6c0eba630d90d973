use Rattle.std.proofs.Common.{rules, arith, ◌≡◌, ◌∙◌, ◌+◌, ◌<◌, ◌≤◌, ◌++◌, ◌∷◌, [], List, Vec, ap, length, refl, sym, take}
use Rattle.std.specs.Prelude.{⊤}
use Rattle.std.specs.declared.alloc.Global.{Global}
use Rattle.std.proofs.lemmas.List.{take_all, take_more}
use Rattle.uu_bundle.specs.declared.bundle.Refused.{Refused}
use Rattle.uuspool.specs.Bundles.{refused_still}
use Rattle.uuspool.proofs.AskedLemmas.{asked_as, asked_goes_on, asked_nothing, asked_then}
use Rattle.uuspool.proofs.SettlingLemmas.{refused_more}
use Rattle.uuspool.proofs.settling.refused_jobs.Goals as goal

pub loop-one-init : goal.loop-one-init
loop-one-init g c =
    let from = c.args.own.now in
    let to = c.args.settling.now.system in
    let word = c.args.settling.now.spool in
    asked_nothing (λ s. ⊤) (λ s. c.new-refused.result.items ≡ refused_still from to word (take 0 c.as_slice-one-items.result.now) s) c.args.spool.now
    (c.lines_are_one_run.ensures.none c.args.spool.now) c.requires
    (λ s shown known. c.new-refused.ensures.items ∙ ap (λ l. refused_still from to word l s) (none c.as_slice-one-items.result.now))
  where
    none : (refused : List Refused) → (let empty : List Refused = [] in empty ≡ take 0 refused)
    none [] = refl
    none (one ∷ refused) = refl

pub loop-one-preserved : goal.loop-one-preserved
loop-one-preserved g c =
    let from = c.args.own.now in
    let to = c.args.settling.now.system in
    let word = c.args.settling.now.spool in
    let told = c.as_slice-one-items.result.now in
    let i = c.loop-one.one-index in
    let one = c.one-item.result in
    let inside : i < length told = search rules in
    let before = c.loop-one.refused.items in
    let after = c.add_if_refused.new.refused.items in
    asked_as (λ s. ⊤) (λ s done. (before ≡ refused_still from to word (take i told) s) × (after ≡ before ++ refused_still from to word (one ∷ []) s)) c.args.spool.now c.add_if_refused.new.spool
    (λ s done. after ≡ refused_still from to word (take (i + 1) told) s) _ tt
    (λ s shown known was.
    was.1 ∙ ap (λ ns. ns ++ refused_still from to word (one ∷ []) s) was.0
    ∙ sym (ap (λ l. refused_still from to word l s) (take_more told i one inside ∙ ap (λ o. take i told ++ o ∷ []) (sym c.one-item.is))
    ∙ refused_more from to word s (take i told) one))
    (asked_then (λ s. ⊤) (λ s done. before ≡ refused_still from to word (take i told) s) c.args.spool.now c.loop-one.spool c.add_if_refused.new.spool tt c.loop-one.invariant
    (λ s. ⊤) (λ s done. after ≡ before ++ refused_still from to word (one ∷ []) s) _ (λ s shown known is. tt) c.in_ok-add_if_refused.ensures)

pub returns-in_err-add_if_refused : goal.returns-in_err-add_if_refused
returns-in_err-add_if_refused g c =
    let from = c.args.own.now in
    let to = c.args.settling.now.system in
    let word = c.args.settling.now.spool in
    let told = c.as_slice-one-items.result.now in
    let i = c.loop-one.one-index in
    let one = c.one-item.result in
    let before = c.loop-one.refused.items in
    let after = c.add_if_refused.new.refused.items in
    asked_goes_on (λ s. ⊤) (λ s done. (before ≡ refused_still from to word (take i told) s) × (after ≡ before ++ refused_still from to word (one ∷ []) s)) _ c.args.spool.now c.add_if_refused.new.spool
    c.from_residual.result c.in_err-add_if_refused.field-0.0 c.from_residual.ensures.1
    (asked_then (λ s. ⊤) (λ s done. before ≡ refused_still from to word (take i told) s) c.args.spool.now c.loop-one.spool c.add_if_refused.new.spool tt c.loop-one.invariant
    (λ s. ⊤) (λ s done. after ≡ before ++ refused_still from to word (one ∷ []) s) _ (λ s shown known is. tt) c.in_err-add_if_refused.ensures)

pub returns : goal.returns
returns g c =
    let from = c.args.own.now in
    let to = c.args.settling.now.system in
    let word = c.args.settling.now.spool in
    let told = c.as_slice-one-items.result.now in
    let i = c.loop-one.one-index in
    let past : length told ≤ i = omega (arith, c.loop-one-test.false) in
    asked_as (λ s. ⊤) (λ s done. c.loop-one.refused.items ≡ refused_still from to word (take i told) s) c.args.spool.now c.loop-one.spool
    (λ s (refused : Vec Refused Global). refused.items ≡ refused_still from to word c.args.settling.now.refused s) tt c.loop-one.refused
    (λ s shown known is. is ∙ ap (λ l. refused_still from to word l s) (take_all i told past ∙ c.as_slice-one-items.ensures))
    c.loop-one.invariant
