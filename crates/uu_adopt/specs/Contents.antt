-- Everything that a spool keeps, as it is copied into an empty one.
use Rattle.std.specs.Prelude.{◌≡◌, Vec}
use Rattle.std.specs.declared.alloc.Global.{Global}
use Rattle.sqlite.specs.Tree.{Trees}
use Rattle.uu_core.specs.State.{State, IsWellFormed}
use Rattle.uu_tables.specs.declared.rows.Body.{Body}
use Rattle.uu_tables.specs.Tables.{tables_of}
use Rattle.uu_schema.specs.declared.version.Version.TheVariants.{Fourth}
use Rattle.uu_schema.specs.Encoded.{HoldsState}
use Rattle.uu_adopt.specs.Reading.{FindsSystems, FindsJobs, FindsEntries, FindsNext, FindsLinks, FindsTaken}
use Rattle.uu_adopt.specs.declared.contents.Contents.{Contents}
use Rattle.uu_adopt.specs.declared.contents.Every.{Every}

-- these are all rows of the tables of a state, in the order of their keys
pub record AreContentsOf (s : State) (contents : Contents) : Type 0 where
  pub good : IsWellFormed s
  pub next : contents.next ≡ (tables_of s).next
  pub systems : contents.systems.items ≡ (tables_of s).systems
  pub jobs : contents.jobs.items ≡ (tables_of s).jobs
  pub bodies : contents.bodies.items ≡ (tables_of s).bodies
  pub entries : contents.entries.items ≡ (tables_of s).entries
  pub links : contents.links.items ≡ (tables_of s).links
  pub taken : contents.taken.items ≡ (tables_of s).taken

-- the same of a state that the tables of a database have
abbrev pub AreContentsIn : Trees → Contents → Type 0
AreContentsIn trees contents = (s : State) → HoldsState trees s → AreContentsOf s contents

-- these are the bodies of a state that the tables have, with all their bytes
abbrev pub HasBodies : Trees → Vec Body Global → Type 0
HasBodies trees bodies = (s : State) → HoldsState trees s → bodies.items ≡ (tables_of s).bodies

-- the rows of each table are found, or else they are the rows of no state
pub record FindsEvery (trees : Trees) (every : Every) : Type 0 where
  pub next : FindsNext Fourth trees every.next
  pub systems : FindsSystems trees every.systems
  pub jobs : FindsJobs Fourth trees every.jobs
  pub bodies : HasBodies trees every.bodies
  pub entries : FindsEntries Fourth trees every.entries
  pub links : FindsLinks Fourth trees every.links
  pub taken : FindsTaken Fourth trees every.taken
