-- The definitions of a state's systems are such as are printed and read back.
use Rattle.std.proofs.Common.{◌≡◌, ℕ, ◌≤◌, true, false, List, [], ◌∷◌, ◌++◌, length, map, filter, Option, Some, None, All, AllPairs, ap, ap₂, sym, subst, ◌∙◌, arith, append-nil, append_assoc}
use Rattle.std.specs.Cmp.Lexicographic.{bytes_decides}
use Rattle.std.specs.Ordering.{is_lt, ordering_reverse}
use Rattle.std.proofs.lemmas.Cmp.{nat_list_cmp_total}
use Rattle.std.proofs.lemmas.List.{map-append}
use Rattle.std.proofs.lemmas.List.Elements.{All-filter, All-head, All-map, All-nil, All-push, All-tail, All-weaker, filter_passes}
use Rattle.std.proofs.lemmas.List.Kept.{AllPairs-filter}
use Rattle.std.proofs.lemmas.Bool.{both_ways}
use Rattle.uu_names.specs.Text.{most_text}
use Rattle.uu_names.proofs.Basics.{pairs_first, pairs_rest, filter_none, filter_passing}
use Rattle.uu_times.specs.Printed.{IsSystem, NamesDiffer, sys_text}
use Rattle.uu_times.specs.System.{System}
use Rattle.uu_core.specs.Definitions.{definitions_of}
use Rattle.uu_core.specs.After.{call_of, is_before, put_system}
use Rattle.uu_core.specs.Run.{state_after}
use Rattle.uu_core.specs.declared.command.Command.TheVariants.{Define}
use Rattle.uu_core.specs.State.{State, empty, IsDefinition, IsWellFormed, ComesBefore, is_system, system_at}
use Rattle.uu_core.specs.declared.system.SystemRow.{SystemRow}
use Rattle.uu_core.proofs.NextCallLemmas.{not_same}

abbrev by_name : SystemRow → SystemRow → Type 0
by_name a b = ComesBefore a.def.name b.def.name

differ : (a b : List ℕ) → ComesBefore a b → ¬ (a ≡ b)
differ a b before same = both_ways _ (not_same a b before) ((bytes_decides a b).1 same)

are_systems : (rows : List SystemRow) → All (λ (row : SystemRow). IsDefinition row.def) rows → All IsSystem (map (λ (row : SystemRow). row.def) rows)
are_systems rows defined =
    All-map IsSystem (λ (row : SystemRow). row.def) rows
    (All-weaker (λ (row : SystemRow). IsDefinition row.def) (λ (row : SystemRow). IsSystem row.def) (λ row is. (is.name, is.limits, is.lines)) rows defined)

names_differ : (rows : List SystemRow) → AllPairs by_name rows → NamesDiffer (map (λ (row : SystemRow). row.def) rows)
names_differ [] ordered = tt
names_differ (row ∷ rows) ordered = (
  All-map (λ (other : System). ¬ (row.def.name ≡ other.name)) (λ (other : SystemRow). other.def) rows
      (All-weaker (by_name row) (λ (other : SystemRow). ¬ (row.def.name ≡ other.def.name)) (λ other before. differ row.def.name other.def.name before) rows (pairs_first by_name row rows ordered)),
  names_differ rows (pairs_rest by_name row rows ordered),
)

module _ (state : State) (good : IsWellFormed state) where
  pub printed_systems : (name : Option (List ℕ)) → All IsSystem (definitions_of name state.systems)
  printed_systems None = are_systems state.systems good.definitions
  printed_systems (Some name) =
      are_systems (filter (is_system name) state.systems) (All-filter (is_system name) (λ (row : SystemRow). IsDefinition row.def) state.systems good.definitions)

  pub printed_names : (name : Option (List ℕ)) → NamesDiffer (definitions_of name state.systems)
  printed_names None = names_differ state.systems good.by_name
  printed_names (Some name) = names_differ (filter (is_system name) state.systems) (AllPairs-filter by_name (is_system name) state.systems good.by_name)

-- of one name there is one at most
one_short : (name : List ℕ) (rows : List SystemRow) → ((system : System) → IsSystem system → length (sys_text (system ∷ [])) ≤ most_text)
    → All (λ (row : SystemRow). is_system name row ≡ true) rows → AllPairs by_name rows → All IsSystem (map (λ (row : SystemRow). row.def) rows)
    → length (sys_text (map (λ (row : SystemRow). row.def) rows)) ≤ most_text
one_short name [] short named ordered systems = omega arith
one_short name (row ∷ []) short named ordered systems = short row.def (All-head IsSystem row.def [] systems)
one_short name (row ∷ other ∷ rows) short named ordered systems =
    let passes = λ (r : SystemRow). is_system name r ≡ true in
    let first : row.def.name ≡ name = (bytes_decides row.def.name name).0 (All-head passes row (other ∷ rows) named) in
    let second : other.def.name ≡ name = (bytes_decides other.def.name name).0 (All-head passes other rows (All-tail passes row (other ∷ rows) named)) in
    absurd (differ row.def.name other.def.name (All-head (by_name row) other rows (pairs_first by_name row (other ∷ rows) ordered)) (first ∙ sym second))

pub short_text : (state : State) (name : List ℕ) → ((system : System) → IsSystem system → length (sys_text (system ∷ [])) ≤ most_text) → IsWellFormed state
    → length (sys_text (definitions_of (Some name) state.systems)) ≤ most_text
short_text state name short good =
    one_short name (filter (is_system name) state.systems) short (filter_passes (is_system name) state.systems)
    (AllPairs-filter by_name (is_system name) state.systems good.by_name) (printed_systems state good (Some name))

-- ---- loaded again

abbrev name_of : SystemRow → List ℕ
name_of row = row.def.name

-- a system whose name comes after all others is put last
put_last : (item : SystemRow) (rows : List SystemRow) → All (λ row. by_name row item) rows → put_system item rows ≡ rows ++ item ∷ []
put_last item rows before =
    ap₂ (λ (earlier later : List SystemRow). earlier ++ item ∷ later)
    (filter_passing (λ (other : SystemRow). is_before name_of other item) rows (All-weaker (λ row. by_name row item) (λ row. is_before name_of row item ≡ true) (λ row less. ap is_lt less) rows before))
    (filter_none (λ (other : SystemRow). is_before name_of item other) rows
    (All-weaker (λ row. by_name row item) (λ row. is_before name_of item row ≡ false)
    (λ row less. ap is_lt (nat_list_cmp_total.antisymm item.def.name row.def.name ∙ ap ordering_reverse less)) rows before))

-- systems that are defined in the order of their names stay in it, after those that come before
defined : (state : State) (rows : List SystemRow) → All (λ old. All (by_name old) rows) state.systems → AllPairs by_name rows
    → map (λ (row : SystemRow). row.def) (state_after state (map Define (map (λ (row : SystemRow). row.def) rows))).systems
    ≡ map (λ (row : SystemRow). row.def) state.systems ++ map (λ (row : SystemRow). row.def) rows
defined state [] before ordered = sym (append-nil (map (λ (row : SystemRow). row.def) state.systems))
defined state (row ∷ rows) before ordered =
    let def : SystemRow → System = λ r. r.def in
    let item : SystemRow = record { def = row.def; call = call_of (system_at state row.def.name) } in
    let placed : put_system item state.systems ≡ state.systems ++ item ∷ [] =
    put_last item state.systems
    (All-weaker (λ (old : SystemRow). All (by_name old) (row ∷ rows)) (λ (old : SystemRow). by_name old item) (λ old all. All-head (by_name old) row rows all) state.systems before) in
    let later = All-weaker (λ (old : SystemRow). All (by_name old) (row ∷ rows)) (λ (old : SystemRow). All (by_name old) rows) (λ old all. All-tail (by_name old) row rows all) state.systems before in
    defined (record state { systems = put_system item state.systems }) rows
    (subst (λ (systems : List SystemRow). All (λ old. All (by_name old) rows) systems) (sym placed)
    (All-push (λ (old : SystemRow). All (by_name old) rows) state.systems item later (pairs_first by_name row rows ordered)))
    (pairs_rest by_name row rows ordered)
    ∙ ap (λ (systems : List SystemRow). map def systems ++ map def rows) placed
    ∙ ap (λ l. l ++ map def rows) (map-append def state.systems (item ∷ []))
    ∙ append_assoc (map def state.systems) (row.def ∷ []) (map def rows)

pub defined_again : (state : State) (name : Option (List ℕ)) → IsWellFormed state
    → map (λ (row : SystemRow). row.def) (state_after empty (map Define (definitions_of name state.systems))).systems ≡ definitions_of name state.systems
defined_again state None good = defined empty state.systems (All-nil (λ (old : SystemRow). All (by_name old) state.systems)) good.by_name
defined_again state (Some name) good =
    let rows = filter (is_system name) state.systems in
    defined empty rows (All-nil (λ (old : SystemRow). All (by_name old) rows)) (AllPairs-filter by_name (is_system name) state.systems good.by_name)
