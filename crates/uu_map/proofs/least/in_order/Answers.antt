use Rattle.std.proofs.Common.{◌≡◌, ℕ, List, refl}
use Rattle.uu_map.specs.declared.entry.Cost.{Cost}
use Rattle.uu_map.specs.declared.entry.Cost.TheVariants.{Value, Dead}
use Rattle.uu_map.specs.declared.least.Ranked.{Ranked}
use Rattle.uu_map.specs.contracts.least.RankedPartialEq.TheImpl as derived
use Rattle.uu_map.proofs.Ranks.{ranked_eq, ordered_same, ordered_strictly}
use Rattle.uu_map.proofs.least.in_order.Goals as goal

-- the derived `==` by cases
tells : (a b : Ranked) → (derived.eq-value).it a b ≡ ranked_eq a b
tells a b = by_cost a.cost b.cost a.to b.to
  where
    by_cost : (c d : Cost) (s t : List ℕ) → (derived.eq-value).it (record { cost = c; to = s }) (record { cost = d; to = t }) ≡ ranked_eq (record { cost = c; to = s }) (record { cost = d; to = t })
    by_cost (Value m) (Value n) s t = refl
    by_cost (Value m) Dead s t = refl
    by_cost Dead (Value n) s t = refl
    by_cost Dead Dead s t = refl

pub returns-clause-same : goal.returns-clause-same
returns-clause-same c = ordered_same _ tells c.args.ranked.items c.in_ok-ranked.ranked.items c.dedup.new.self.items c.in_ok-ranked.ensures.same c.dedup.ensures.filtered

pub returns-clause-order : goal.returns-clause-order
returns-clause-order c = ordered_strictly _ tells c.in_ok-ranked.ranked.items c.dedup.new.self.items c.in_ok-ranked.ensures.sorted c.dedup.ensures.filtered
