use Rattle.std.proofs.Common.{◌≡◌, ◌+◌, ◌∷◌, true, false, drop, sym, ap, ◌∙◌, arith}
use Rattle.std.specs.Prelude.{int_lt}
use Rattle.std.proofs.lemmas.Grind.{common_steps}
use Rattle.std.proofs.lemmas.List.{drop_more}
use Rattle.uu_adopt.proofs.Rowids.{rise, rise_from, as_rise, goes_on}
use Rattle.uu_adopt.proofs.reading.are_rowids.Goals as goal

pub returns-then-last-id : goal.returns-then-last-id
returns-then-last-id c =
    let rest = c.in-Some.rest.now in
    let i = c.loop-row.row-index in
    let row = c.row-item.result in
    let left : drop i rest ≡ row ∷ drop (i + 1) rest = drop_more rest i row (omega arith) ∙ ap (λ x. x ∷ drop (i + 1) rest) (sym c.row-item.is) in
    let past : int_lt c.loop-row.last.value c.in-Some-integer_in-2.id.value ≡ false = grind (arith, common_steps) in
    as_rise false c.args.rows.now (sym (c.loop-row.invariant ∙ ap (rise_from c.loop-row.last.value) left ∙ goes_on c.loop-row.last.value row (drop (i + 1) rest) c.in-Some-integer_in-2.id.value false c.in-Some-integer_in-2.ensures.value past))

pub returns : goal.returns
returns c = as_rise true c.args.rows.now (let e : true ≡ rise c.args.rows.now = grind (arith, common_steps) in e)
