-- Ways over a net of numbered hosts.
use Rattle.std.specs.Prelude.{◌≡◌, ℕ, ◌+◌, ◌^◌, ◌≤◌, ◌<◌, ◌⊎◌, map, List, [], ◌∷◌, length, reverse, get_or, Option, Some, None, All, Contains, false}
use Rattle.std.specs.Ordering.{is_gt}
use Rattle.uu_routes.specs.declared.net.Edge.{Edge}
use Rattle.uu_routes.specs.declared.net.Net.{Net}
use Rattle.uu_routes.specs.declared.label.Label.{Label}
use Rattle.uu_routes.specs.Internal.Labels.{label_cmp, label_at}
pub use Rattle.uu_routes.specs.Routes.{most_cost}
use Rattle.uu_routes.specs.Way.{IsWay}

abbrev pub edge_to : Edge → ℕ
edge_to e = e.to

-- a network that has the host has this link
abbrev pub Joins : List (List Edge) → ℕ → Edge → Type 0
Joins networks u e = (es : List Edge) × (Contains networks es × (Contains (map edge_to es) u × Contains es e))

-- from a way, which is listed from its last host back, one goes on by this link
abbrev pub Follows : Net → List ℕ → Edge → Type 0
Follows net [] e = Contains net.first e
Follows net (u ∷ us) e = Contains (get_or net.links u []) e ⊎ Joins net.networks u e

abbrev pub Goes : Net → List ℕ → ℕ → ℕ → Type 0
Goes net us v d = Follows net us (record { to = v; cost = d })

-- this is a way of at most so many hosts to the host, with its cost
abbrev pub IsWayTo : Net → ℕ → ℕ → Label → Type 0
IsWayTo net most i l = (us : List ℕ) × ((l.path ≡ reverse (i ∷ us)) × IsWay (Goes net) (i ∷ us) l.cost × (length us < most))

-- the first doesn't come after the second
abbrev pub IsUpTo : Label → Label → Type 0
IsUpTo a b = is_gt (label_cmp a b) ≡ false

-- a way to the host, and no other comes before it
pub record IsLeastTo (net : Net) (most : ℕ) (i : ℕ) (l : Label) : Type 0 where
  pub way : IsWayTo net most i l
  pub least : (m : Label) → IsWayTo net most i m → IsUpTo l m

-- the least way to the host, or none if no way leads there
abbrev pub IsFound : Net → ℕ → ℕ → Option Label → Type 0
IsFound net most i (Some l) = IsLeastTo net most i l
IsFound net most i None = (m : Label) → IsWayTo net most i m → ⊥

-- a link leads to one of the hosts, and has a cost within the limit
pub record IsFit (hosts : ℕ) (e : Edge) : Type 0 where
  pub within : e.to < hosts
  pub cost : e.cost ≤ most_cost

-- a net within the limits
pub record IsFitNet (net : Net) : Type 0 where
  pub first : All (IsFit (length net.links)) net.first
  pub links : All (λ edges. All (IsFit (length net.links)) edges) net.links
  pub networks : All (λ edges. All (IsFit (length net.links)) edges) net.networks

-- each host has its least way of at most so many hosts
pub record AreFound (net : Net) (most : ℕ) (ls : List (Option Label)) : Type 0 where
  pub size : length ls ≡ length net.links
  pub each : (i : ℕ) → IsFound net most i (label_at ls i)

-- the links of networks lead to hosts, and a link after what is known costs less than 2^64
pub record AreSoundNetworks (networks : List (List Edge)) (known : List (Option Label)) : Type 0 where
  pub within : All (λ es. All (λ e. e.to < length known) es) networks
  pub sums : (u : ℕ) (base : Label) → label_at known u ≡ Some base → All (λ es. All (λ e. base.cost + e.cost < 2 ^ 64) es) networks

-- the links of each host lead to hosts, and a link after what is known costs less than 2^64
pub record AreSound (links : List (List Edge)) (known : List (Option Label)) : Type 0 where
  pub size : length known ≡ length links
  pub within : All (λ es. All (λ e. e.to < length known) es) links
  pub sums : (u : ℕ) (base : Label) → label_at known u ≡ Some base → All (λ e. base.cost + e.cost < 2 ^ 64) (get_or links u [])
