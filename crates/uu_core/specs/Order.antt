-- The order in which a state keeps what it holds.
use Rattle.std.specs.Prelude.{ℕ, ◌<◌, List, All, AllPairs}
use Rattle.uu_core.specs.State.{State, ComesBefore}

-- the items are in the order of their names, so no two have the same name
abbrev pub AreByName : {V : Type 0} → (V → List ℕ) → List V → Type 0
AreByName name items = AllPairs (λ first second. ComesBefore (name first) (name second)) items

-- the numbers rise and are below the next one, the systems and links are in order of their names
-- and the entries of their hosts, so no two are the same
pub record IsInOrder (state : State) : Type 0 where
  pub rising : AllPairs (λ a b. a.number < b.number) state.jobs
  pub below_next : All (λ job. job.number < state.next) state.jobs
  pub by_name : AreByName (λ row. row.def.name) state.systems
  pub by_host : AreByName (λ entry. entry.host) state.entries
  pub by_link : AreByName (λ link. link.name) state.links
