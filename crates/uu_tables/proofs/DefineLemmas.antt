-- A system that is defined.
use Rattle.std.proofs.Common.{◌≡◌, List, ◌∷◌, ◌++◌, Bool, true, false, filter, map, refl, sym, ap, ◌∙◌}
use Rattle.uu_names.proofs.Basics.{AllPairsByRecursion}
use Rattle.uu_times.specs.System.{System}
use Rattle.uu_core.specs.declared.command.Command.TheVariants.{Define}
use Rattle.uu_core.specs.declared.system.CallState.{CallState}
use Rattle.uu_core.specs.declared.system.SystemRow.{SystemRow}
use Rattle.uu_core.specs.State.{State, is_system, has_system}
use Rattle.uu_core.specs.After.{accept, call_of, never_called}
use Rattle.uu_tables.specs.Tables.{tables_of, system_columns}
use Rattle.uu_tables.specs.Changes.{has_name, insert_by}
use Rattle.uu_tables.specs.Parts.{with_definition}
use Rattle.uu_tables.proofs.RowLemmas.{altered, none_go}
use Rattle.uu_tables.proofs.OrderLemmas.{before, found, none_passes}
use Rattle.uu_tables.proofs.InsertLemmas.{ahead, behind, inserted_mapped, replaced_is_put, changed_is, found_none}

module _ (s : State) (def : System) (ordered : AllPairsByRecursion (before (λ (row : SystemRow). row.def.name)) s.systems) where
  abbrev with_calls : CallState → SystemRow
  with_calls call = record { def = def; call = call }

  abbrev front : List SystemRow
  front = filter (ahead (λ row. row.def.name) (with_calls never_called)) s.systems

  abbrev back : List SystemRow
  back = filter (behind (λ row. row.def.name) (with_calls never_called)) s.systems

  -- the state with these calls of the system
  abbrev with_system : CallState → State
  with_system call = record s { systems = front ++ with_calls call ∷ back }

  -- a known system keeps its calls
  known : has_system s def.name ≡ true → with_definition true def (tables_of s) ≡ tables_of (accept s (Define def))
  known here =
      let it = found (is_system def.name) s.systems here in
      let row = it.0 in
      let systems : (with_definition true def (tables_of s)).systems ≡ map system_columns (front ++ with_calls row.call ∷ back) =
      altered system_columns (is_system def.name) (has_name def.name) (λ r. record r { def = def }) (λ r. record r { def = def }) (λ r. refl) (λ r. refl) s.systems
      ∙ ap (map system_columns) (changed_is (λ (r : SystemRow). r.def.name) (with_calls never_called) (λ r. record r { def = def }) row s.systems ordered it.1) in
      (λ i. record (tables_of s) { systems = systems i }) ∙ ap (λ o. tables_of (with_system (call_of o))) (sym it.1)

  unknown : has_system s def.name ≡ false → with_definition false def (tables_of s) ≡ tables_of (accept s (Define def))
  unknown missing =
      let none = none_passes (is_system def.name) s.systems missing in
      let same = none_go (is_system def.name) s.systems none in
      let systems : (with_definition false def (tables_of s)).systems ≡ map system_columns (front ++ with_calls never_called ∷ back) =
      inserted_mapped system_columns (λ r. r.def.name) (with_calls never_called) s.systems
      ∙ ap (λ rows. map system_columns (insert_by (λ (r : SystemRow). r.def.name) (with_calls never_called) rows)) (sym same)
      ∙ ap (map system_columns) (replaced_is_put (λ (r : SystemRow). r.def.name) (with_calls never_called) s.systems) in
      (λ i. record (tables_of s) { systems = systems i }) ∙ ap (λ o. tables_of (with_system (call_of o))) (sym (found_none (is_system def.name) s.systems none))

  pub defined : (is_known : Bool) → is_known ≡ has_system s def.name → with_definition is_known def (tables_of s) ≡ tables_of (accept s (Define def))
  defined true e = known (sym e)
  defined false e = unknown (sym e)
