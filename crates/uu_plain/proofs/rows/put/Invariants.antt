use Rattle.std.proofs.Common.{◌≡◌, All, take, nat_cmp}
use Rattle.std.specs.declared.cmp.Ordering.TheVariants.{Greater}
use Rattle.std.specs.Cmp.Lexicographic.{slice_cmp}
use Rattle.uu_plain.proofs.rows.put.Given as goal

abbrev pub invariant-loop-i : goal.invariant-loop-i
invariant-loop-i g l = record {
  same : l.items.items ≡ l.initial.items.items;
  passed : All (λ x. slice_cmp nat_cmp (g.T.Named.name_of l.item) (g.T.Named.name_of x) ≡ Greater) (take l.i l.initial.items.items);
}
