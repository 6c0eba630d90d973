-- From the rows that are read to everything that a state has.
use Rattle.std.proofs.Common.{◌≡◌, ◌∙◌, List, [], ◌∷◌, map, true, refl, sym, ap, Option, None, Some, Vec, Result, Ok, Err, ℕ}
use Rattle.std.specs.Prelude.{IfOk, is_some, false}
use Rattle.std.specs.declared.alloc.Global.{Global}
use Rattle.uu_names.proofs.Basics.{filter_all}
use Rattle.sqlite.specs.Order.{Row}
use Rattle.sqlite.specs.State as db
use Rattle.sqlite.specs.Tree.{Trees}
use Rattle.uu_schema.specs.Steps.{Stands}
use Rattle.uu_schema.specs.Made.{spool_row_of}
use Rattle.uu_schema.specs.Schema.{spool, bodies}
use Rattle.uu_schema.specs.Cells.{body_cells}
use Rattle.uu_schema.specs.declared.version.Version.TheVariants.{Fourth}
use Rattle.uu_schema.specs.Earlier.{schema_of}
use Rattle.uu_schema.specs.Encoded.{HoldsState}
use Rattle.uu_core.specs.State.{State}
use Rattle.uu_core.specs.declared.job.JobHead.{JobHead}
use Rattle.uu_tables.specs.declared.rows.Body.{Body}
use Rattle.uu_tables.specs.declared.rows.SystemColumns.{SystemColumns}
use Rattle.uu_tables.specs.declared.rows.EntryColumns.{EntryColumns}
use Rattle.uu_tables.specs.declared.rows.LinkColumns.{LinkColumns}
use Rattle.uu_tables.specs.declared.rows.TakenColumns.{TakenColumns}
use Rattle.uu_tables.specs.Tables.{tables_of}
use Rattle.uu_rows.proofs.Back.{body_back}
use Rattle.uu_rows.proofs.InTables.{bodies_are}
use Rattle.uu_adopt.specs.Reading.{FindsNext, FindsSystems, FindsJobs, FindsEntries, FindsLinks, FindsTaken}
use Rattle.uu_adopt.specs.Adoption.{IsOfNone}
use Rattle.uu_adopt.specs.Contents.{AreContentsOf, FindsEvery, HasBodies}
use Rattle.uu_adopt.specs.declared.contents.Contents.{Contents}
use Rattle.uu_adopt.specs.declared.contents.Every.{Every}
use Rattle.uu_adopt.proofs.Meanings.{bodies_means}
use Rattle.uu_adopt.proofs.Rows.{systems_in_order, heads_in_order, bodies_in_order, entries_in_order, links_in_order, taken_in_order}
use Rattle.uu_adopt.proofs.Texts.{bodies_text}
use Rattle.uu_adopt.proofs.Verdict.{no_jobs}

-- ---- bodies

returned : (bs : List Body) → map body_back (map body_cells bs) ≡ bs
returned [] = refl
returned (b ∷ bs) = ap (λ (l : List Body). b ∷ l) (returned bs)

same_bodies : (one other : List Body) → map body_cells one ≡ map body_cells other → one ≡ other
same_bodies one other same = sym (returned one) ∙ ap (map body_back) same ∙ returned other

pub bodies_found : (a b : db.State) (rows : List Row) → Stands (schema_of Fourth) a.now → db.Shown bodies_text [] a b rows → (found : Vec Body Global) → rows ≡ map body_cells found.items → HasBodies a.now.trees found
bodies_found a b rows stands h found read s holds =
    let bs = (tables_of s).bodies in
    same_bodies found.items bs (sym read
    ∙ bodies_are (schema_of Fourth) a b rows stands.schema bodies_text _ [] [] h bodies.tree bodies_means (λ r. refl) bs holds.tables.bodies.same (bodies_in_order s holds.good) (λ x. true) (λ x. refl)
    ∙ ap (map body_cells) (filter_all bs))

-- ---- all tables

-- if the rows of the jobs aren't those of heads, they are those of no state
pub no_heads : (trees : Trees) (found : Option (Vec JobHead Global)) → false ≡ is_some found → FindsJobs Fourth trees found → IsOfNone Fourth trees
no_heads trees None none finds = no_jobs trees finds
no_heads trees (Some all) none finds = absurd (cc)

module _ (trees : Trees) (s : State) (holds : HoldsState trees s) where
  pub next_is : (found : Option ℕ) (next : ℕ) → found ≡ Some next → FindsNext Fourth trees found → next ≡ (tables_of s).next
  next_is (Some n) next is finds = let same = sym finds ∙ holds.tables.spool in let number : n ≡ s.next = cc in cc
  next_is None next is finds = absurd (cc)

  pub systems_are : (found : Option (Vec SystemColumns Global)) (all : Vec SystemColumns Global) → found ≡ Some all → FindsSystems trees found → all.items ≡ (tables_of s).systems
  systems_are found all is finds = rw is at (finds.only (tables_of s).systems (systems_in_order s holds.good) holds.tables.systems)

  pub jobs_are : (found : Option (Vec JobHead Global)) (all : Vec JobHead Global) → found ≡ Some all → FindsJobs Fourth trees found → all.items ≡ (tables_of s).jobs
  jobs_are found all is finds = rw is at (finds.only (tables_of s).jobs (heads_in_order s holds.good) holds.tables.jobs)

  pub entries_are : (found : Option (Vec EntryColumns Global)) (all : Vec EntryColumns Global) → found ≡ Some all → FindsEntries Fourth trees found → all.items ≡ (tables_of s).entries
  entries_are found all is finds = rw is at (finds.only (tables_of s).entries (entries_in_order s holds.good) holds.tables.entries)

  pub links_are : (found : Option (Vec LinkColumns Global)) (all : Vec LinkColumns Global) → found ≡ Some all → FindsLinks Fourth trees found → all.items ≡ (tables_of s).links
  links_are found all is finds = rw is at (finds.only (tables_of s).links (links_in_order s holds.good) holds.tables.links)

  pub taken_are : (found : Option (Vec TakenColumns Global)) (all : Vec TakenColumns Global) → found ≡ Some all → FindsTaken Fourth trees found → all.items ≡ (tables_of s).taken
  taken_are found all is finds = rw is at (finds.only (tables_of s).taken (taken_in_order s holds.good) holds.tables.taken)
