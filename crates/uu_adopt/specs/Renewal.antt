-- What is written of the rows of a state into the tables of an empty spool: each row after the one
-- before it, at its place.
use Rattle.std.specs.Prelude.{◌≡◌, ℕ, List, [], ◌∷◌}
use Rattle.uu_core.specs.declared.job.JobHead.{JobHead}
use Rattle.uu_core.specs.State.{empty}
use Rattle.uu_tables.specs.declared.rows.SystemColumns.{SystemColumns}
use Rattle.uu_tables.specs.declared.rows.Body.{Body}
use Rattle.uu_tables.specs.declared.rows.EntryColumns.{EntryColumns}
use Rattle.uu_tables.specs.declared.rows.LinkColumns.{LinkColumns}
use Rattle.uu_tables.specs.declared.rows.TakenColumns.{TakenColumns}
use Rattle.uu_tables.specs.Tables.{Tables, tables_of}
use Rattle.uu_tables.specs.Changes.{insert_by, insert_at, append, alter, has_name, new_system}
use Rattle.uu_tables.specs.Order.{taken_cmp}
use Rattle.uu_adopt.specs.declared.renewal.NewRows.{NewRows}

-- ---- one row more

-- a system is added as one that was never called, and then gets its calls
abbrev pub add_system : SystemColumns → Tables → Tables
add_system system t = record t { systems = alter (has_name system.def.name) (λ row. record row { call = system.call }) (insert_by (λ row. row.def.name) (new_system system.def) t.systems) }

abbrev pub add_job : JobHead → Tables → Tables
add_job head t = record t { jobs = append head t.jobs }

abbrev pub add_body : Body → Tables → Tables
add_body body t = record t { bodies = append body t.bodies }

abbrev pub add_entry : EntryColumns → Tables → Tables
add_entry entry t = record t { entries = insert_by (λ row. row.host) entry t.entries }

abbrev pub add_link : LinkColumns → Tables → Tables
add_link link t = record t { links = insert_by (λ row. row.system) link t.links }

abbrev pub add_taken : TakenColumns → Tables → Tables
add_taken taken t = record t { taken = insert_at taken_cmp taken t.taken }

abbrev pub set_next : ℕ → Tables → Tables
set_next next t = record t { next = next }

-- ---- all of them

abbrev pub each : {X : Type 0} → (X → Tables → Tables) → List X → Tables → Tables
each add [] t = t
each add (row ∷ rows) t = each add rows (add row t)

-- the rows of all tables, written in this order
abbrev pub written : Tables → Tables
written t = set_next t.next (each add_taken t.taken (each add_link t.links (each add_entry t.entries (each add_body t.bodies (each add_job t.jobs (each add_system t.systems (tables_of empty)))))))

-- the rows are those of the tables
pub record AreRowsOf (rows : NewRows) (t : Tables) : Type 0 where
  pub next : rows.next ≡ t.next
  pub systems : rows.systems.now ≡ t.systems
  pub jobs : rows.jobs.now ≡ t.jobs
  pub bodies : rows.bodies.now ≡ t.bodies
  pub entries : rows.entries.now ≡ t.entries
  pub links : rows.links.now ≡ t.links
  pub taken : rows.taken.now ≡ t.taken
