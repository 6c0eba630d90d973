use Rattle.std.proofs.Common.{◌≡◌, take, ◌++◌, ◌∷◌, [], ◌+◌, sym, ap, subst, ◌∙◌, arith}
use Rattle.std.proofs.lemmas.List.{take_more}
use Rattle.sqlite_rules.proofs.ListLemmas.{has_at}
use Rattle.uu_adopt.specs.Version.{HasLater}
use Rattle.uu_adopt.proofs.Later.{later_more}
use Rattle.uu_adopt.proofs.version.later_in.Goals as goal

pub returns-then-is_later-clause-later : goal.returns-then-is_later-clause-later
returns-then-is_later-clause-later c is = record {
  row = c.row-item.result;
  there = has_at c.args.rows.now c.loop-row.row-index c.row-item.result (omega arith) c.row-item.is;
  shows = c.is_later.ensures.later c.if-is_later.true;
}

pub loop-row-preserved : goal.loop-row-preserved
loop-row-preserved c later =
    let rows = c.args.rows.now in
    let i = c.loop-row.row-index in
    let row = c.row-item.result in
    let longer : take (i + 1) rows ≡ take i rows ++ row ∷ [] = take_more rows i row (omega arith) ∙ ap (λ x. take i rows ++ x ∷ []) (sym c.row-item.is) in
    later_more (take i rows) row c.loop-row.invariant (c.is_later.ensures.none c.if-is_later.false) (subst HasLater longer later)
