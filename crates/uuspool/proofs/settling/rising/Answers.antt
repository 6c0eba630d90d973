use Rattle.std.proofs.Common.{rules, arith, ◌≡◌, ◌≤◌, ◌∙◌, ◌++◌, ◌∷◌, suc, ◌+◌, ◌<◌, ap, append-nil, drop, length, sym}
use Rattle.std.proofs.lemmas.List.{drop_all}
use Rattle.uuspool.specs.Bundles.{rising}
use Rattle.uuspool.proofs.Places.{at_place}
use Rattle.uuspool.proofs.settling.rising.Goals as goal

pub loop-one-preserved : goal.loop-one-preserved
loop-one-preserved c =
    let i = c.loop-one.one-index in
    let told = c.args.told.now in
    let inside : i < length told = search rules in
    let found = at_place told i inside in
    let one = c.one-item.result in
    let same : one ≡ found.0 = c.one-item.is ∙ found.2 one in
    let on : i + 1 ≡ suc i = omega arith in
    ap (λ n. c.keep_if_greater.new.kept.items ++ rising c.in_ok-last.last (drop n told)) on
    ∙ c.in_ok-last.ensures (drop (suc i) told)
    ∙ ap (λ o. c.loop-one.kept.items ++ rising c.loop-one.last (o ∷ drop (suc i) told)) same
    ∙ ap (λ l. c.loop-one.kept.items ++ rising c.loop-one.last l) (sym found.1)
    ∙ c.loop-one.invariant

pub returns : goal.returns
returns c =
    let told = c.args.told.now in
    let past : length told ≤ c.loop-one.one-index = omega (arith, c.loop-one-test.false) in
    sym (append-nil c.loop-one.kept.items)
    ∙ ap (λ l. c.loop-one.kept.items ++ rising c.loop-one.last l) (sym (drop_all c.loop-one.one-index told past))
    ∙ c.loop-one.invariant
