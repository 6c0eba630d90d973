-- The tables of a state are in the order of their keys, like the answers to questions with ORDER
-- BY.
use Rattle.std.proofs.Common.{◌≡◌, ◌<◌, map, Less}
use Rattle.sqlite.specs.Tree.{IsAscending}
use Rattle.sqlite_keyed.proofs.ListLemmas.{ascending_weaker}
use Rattle.uu_names.proofs.Basics.{lt-nat_cmp}
use Rattle.uu_core.specs.State.{State, IsWellFormed}
use Rattle.uu_tables.specs.Tables.{tables_of, system_columns, body_of}
use Rattle.uu_tables.specs.declared.rows.Body.{Body}
use Rattle.uu_check.proofs.WholeState.{in_order}
use Rattle.uu_tables.specs.Order.{system_cmp, body_cmp, link_cmp, taken_cmp}
use Rattle.uu_rows.proofs.InOrder.{ascending_pairs}

pub systems_rise : (s : State) → IsWellFormed s → IsAscending (λ a b. system_cmp a b ≡ Less) (map system_columns s.systems)
systems_rise s good = ascending_pairs (λ a b. system_cmp a b ≡ Less) (tables_of s).systems (in_order s good).systems

pub bodies_rise : (s : State) → IsWellFormed s → IsAscending (λ a b. body_cmp a b ≡ Less) (map body_of s.jobs)
bodies_rise s good = ascending_weaker (λ (a b : Body). a.job < b.job) (λ a b. body_cmp a b ≡ Less) (λ a b less. lt-nat_cmp a.job b.job less) (map body_of s.jobs) (ascending_pairs (λ (a b : Body). a.job < b.job) (tables_of s).bodies (in_order s good).bodies)

pub links_rise : (s : State) → IsWellFormed s → IsAscending (λ a b. link_cmp a b ≡ Less) (tables_of s).links
links_rise s good = ascending_pairs (λ a b. link_cmp a b ≡ Less) (tables_of s).links (in_order s good).links

pub taken_rise : (s : State) → IsWellFormed s → IsAscending (λ a b. taken_cmp a b ≡ Less) (tables_of s).taken
taken_rise s good = ascending_pairs (λ a b. taken_cmp a b ≡ Less) (tables_of s).taken (in_order s good).taken
