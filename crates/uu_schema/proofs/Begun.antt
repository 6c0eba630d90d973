-- The tables that are made are those of an empty spool.
use Rattle.std.proofs.Common.{◌≡◌, ℕ, List, [], subst, sym}
use Rattle.std.proofs.lemmas.List.Sorted.{IsPermutation-refl}
use Rattle.sqlite.specs.Order.{Row}
use Rattle.sqlite.specs.Tree.{Trees}
use Rattle.uu_schema.specs.Keyed.{Keyed}
use Rattle.uu_schema.specs.Made.{IsMadeAnew}
use Rattle.uu_schema.specs.Held.{MakesEmpty, system_key, job_key, body_key, entry_key, link_key, taken_key, system_places, job_places, body_places, entry_places, link_places, taken_places}
use Rattle.uu_schema.specs.Cells.{system_cells, job_cells, body_cells, entry_cells, link_cells, taken_cells}

none : {K X : Type 0} (key : X → K) (cells : X → Row) (places : List ℕ) (rows : List Row) → rows ≡ [] → Keyed key cells places [] rows
none key cells places rows is = subst (Keyed key cells places []) (sym is) (record { same = IsPermutation-refl []; numbered = tt; once = λ a b h. absurd h; apart = tt })

pub begins_empty : (old new : Trees) → IsMadeAnew old new → MakesEmpty old new
begins_empty old new made = let rows = made.others in record {
  spool = made.row;
  systems = none system_key system_cells system_places _ rows.0;
  jobs = none job_key job_cells job_places _ rows.1.0;
  bodies = none body_key body_cells body_places _ rows.1.1.0;
  entries = none entry_key entry_cells entry_places _ rows.1.1.1.0;
  links = none link_key link_cells link_places _ rows.1.1.1.1.0;
  taken = none taken_key taken_cells taken_places _ rows.1.1.1.1.1.0;
}
