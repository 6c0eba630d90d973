use Rattle.std.proofs.Common.{◌↔◌, ℕ, List, Contains, sym, subst}
use Rattle.uu_routes.specs.Routes.{mentioned}
use Rattle.uu_routes.proofs.answer.routes.Goals as goal

pub all_routes-requires-clause-same : goal.all_routes-requires-clause-same
all_routes-requires-clause-same c = subst (λ (xs : List (List ℕ)). (name : List ℕ) → Contains xs name ↔ Contains (mentioned c.args.first.now c.args.links.now c.args.networks.now) name) (sym c.deref.ensures.value) c.in_ok-names.ensures.same
