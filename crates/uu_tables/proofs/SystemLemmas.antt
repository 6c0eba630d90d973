-- Systems that go, with all that is of them.
use Rattle.std.proofs.Common.{◌≡◌, ℕ, zero, suc, List, map, refl}
use Rattle.std.specs.List.{AllByRecursion, flat_map}
use Rattle.uu_core.specs.declared.command.Command.TheVariants.{Remove}
use Rattle.uu_core.specs.State.{State, Link, is_system, is_link}
use Rattle.uu_core.specs.After.{accept}
use Rattle.uu_tables.specs.declared.rows.LinkColumns.{LinkColumns}
use Rattle.uu_tables.specs.Tables.{links_from, links_of, taken_columns, taken_rows, tables_of, system_columns}
use Rattle.uu_tables.specs.Changes.{without, has_name, is_link_of, is_taken_of}
use Rattle.uu_tables.proofs.RowLemmas.{dropped, dropped_with, each_made}

-- what the row of a link has, if there is one
pub each_link : (P : LinkColumns → Type 0) (name : List ℕ) → ((below : ℕ) → P (record { system = name; below = below })) → (n : ℕ) → AllByRecursion P (links_from name n)
each_link P name h zero = tt
each_link P name h (suc n) = (h (suc n), tt)

-- the link of a system goes with it, with what was taken
pub links_without : (name : List ℕ) (links : List Link) → without (is_link_of name) (flat_map links_of links) ≡ flat_map links_of (without (is_link name) links)
links_without name links = dropped_with links_of (is_link name) (is_link_of name) (λ link. each_link (λ l. is_link_of name l ≡ is_link name link) link.name (λ below. refl) link.below) links

pub taken_without : (name : List ℕ) (links : List Link) → without (is_taken_of name) (flat_map taken_rows links) ≡ flat_map taken_rows (without (is_link name) links)
taken_without name links = dropped_with taken_rows (is_link name) (is_taken_of name) (λ link. each_made (λ row. is_taken_of name row ≡ is_link name link) (taken_columns link.name) (λ taken. refl) link.taken) links

pub removed : (s : State) (name : List ℕ) → record (tables_of s) { systems = without (has_name name) (map system_columns s.systems); links = without (is_link_of name) (flat_map links_of s.links); taken = without (is_taken_of name) (flat_map taken_rows s.links) } ≡ tables_of (accept s (Remove name))
removed s name = λ i. record (tables_of s) {
  systems = dropped system_columns (is_system name) (has_name name) (λ row. refl) s.systems i;
  links = links_without name s.links i;
  taken = taken_without name s.links i;
}
