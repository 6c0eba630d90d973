use Rattle.std.proofs.Common.{◌≡◌, ◌<◌, ◌≤◌, ◌++◌, ◌∷◌, [], ap, length, set, nat_cmp, refl, arith}
use Rattle.std.specs.List.{insert}
use Rattle.std.specs.declared.cmp.Ordering.TheVariants.{Less, Equal, Greater}
use Rattle.std.specs.Cmp.Lexicographic.{slice_cmp}
use Rattle.std.proofs.lemmas.List.Elements.{All-more}
use Rattle.uu_names.proofs.Basics.{all_from_take}
use Rattle.uu_core.specs.After.{put_by}
use Rattle.uu_plain.proofs.PlainLemmas.{made_of, item_stands, put_before, put_instead, put_last}
use Rattle.uu_plain.proofs.rows.put.Goals as goal

pub returns-in-Less-clause-done : goal.returns-in-Less-clause-done
returns-in-Less-clause-done g c =
    let all = c.args.items.now.items in
    let items = c.loop-i.items.items in
    let i = c.loop-i.i in
    let name = g.T.Named.name_of in
    let item = c.args.item in
    let there = c.index.result.now in
    let same : items ≡ all = c.loop-i.invariant.same in
    let within : i < length all = omega (arith, c.loop-i.items.ok.0, ap length same) in
    let less = item_stands name item there items all i c.name.result.now c.name-in-loop-i.result.now Less same c.index.ensures c.name.ensures c.name-in-loop-i.ensures c.in-Less.ensures in
    made_of (λ l. insert l i item) items all c.insert.new.self.items (put_by name item all) c.in_ok-insert-in-Less.ensures.items same (put_before name item all i there c.requires c.loop-i.invariant.passed within less)

pub returns-in-Equal-clause-done : goal.returns-in-Equal-clause-done
returns-in-Equal-clause-done g c =
    let all = c.args.items.now.items in
    let items = c.loop-i.items.items in
    let i = c.loop-i.i in
    let name = g.T.Named.name_of in
    let item = c.args.item in
    let there = c.index.result.now in
    let same : items ≡ all = c.loop-i.invariant.same in
    let within : i < length all = omega (arith, c.loop-i.items.ok.0, ap length same) in
    let equal = item_stands name item there items all i c.name.result.now c.name-in-loop-i.result.now Equal same c.index.ensures c.name.ensures c.name-in-loop-i.ensures c.in-Equal.ensures in
    made_of (λ l. set l i item) items all (set items i item) (put_by name item all) refl same (put_instead name item all i there c.requires c.loop-i.invariant.passed within equal)

pub loop-i-preserved : goal.loop-i-preserved
loop-i-preserved g c =
    let all = c.args.items.now.items in
    let items = c.loop-i.items.items in
    let i = c.loop-i.i in
    let name = g.T.Named.name_of in
    let item = c.args.item in
    let there = c.index.result.now in
    let same : items ≡ all = c.loop-i.invariant.same in
    let within : i < length all = omega (arith, c.loop-i.items.ok.0, ap length same) in
    let greater = item_stands name item there items all i c.name.result.now c.name-in-loop-i.result.now Greater same c.index.ensures c.name.ensures c.name-in-loop-i.ensures c.in-Greater.ensures in
    record {
      same = same;
      passed = All-more (λ x. slice_cmp nat_cmp (name item) (name x) ≡ Greater) all i there within c.loop-i.invariant.passed greater;
    }

pub returns-clause-done : goal.returns-clause-done
returns-clause-done g c =
    let all = c.args.items.now.items in
    let i = c.loop-i.i in
    let name = g.T.Named.name_of in
    let item = c.args.item in
    let past : length all ≤ i = omega (arith, c.loop-i.items.ok.0, ap length c.loop-i.invariant.same) in
    made_of (λ l. l ++ item ∷ []) c.loop-i.items.items all c.push.new.self.items (put_by name item all) c.in_ok-push.ensures.items c.loop-i.invariant.same
    (put_last name item all (all_from_take (λ x. slice_cmp nat_cmp (name item) (name x) ≡ Greater) all i past c.loop-i.invariant.passed))
