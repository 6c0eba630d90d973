-- Rows that are those of systems that a spool may have.
use Rattle.std.proofs.Common.{◌≡◌, ◌<◌, List, [], AllPairs, Bool, true, false, true≢false, Result, Ok, refl, sym, ap, subst, arith}
use Rattle.std.specs.Prelude.{◌↔◌, IfOk}
use Rattle.std.specs.declared.alloc.AllocError.{AllocError}
use Rattle.std.proofs.lemmas.List.Elements.{All-nil}
use Rattle.uu_core.specs.declared.system.SystemRow.{SystemRow}
use Rattle.uu_core.specs.State.{State, Job, MapEntry, Link, ComesBefore, IsWellFormed}
use Rattle.uu_tables.specs.declared.rows.SystemColumns.{SystemColumns}
use Rattle.uu_tables.specs.Tables.{Tables}
use Rattle.uu_check.specs.OfState.{AreTables}
use Rattle.uu_questions.specs.Systems.{holding, AreRowsOfSystems}

-- ---- a spool of systems alone

no_pairs : {X : Type 0} (R : X → X → Type 0) → AllPairs R []
no_pairs R i j d below within = absurd (omega (arith, within))

-- systems that a spool may hold beside jobs and entries, it may hold without them
holds_alone : (s : State) → IsWellFormed s → IsWellFormed (holding s.systems)
holds_alone s good = record {
  some_next = omega arith;
  next = omega arith;
  jobs = All-nil _;
  rising = no_pairs (λ (a b : Job). a.number < b.number);
  below_next = All-nil _;
  placed = All-nil _;
  definitions = good.definitions;
  calls = good.calls;
  by_name = good.by_name;
  hosts = All-nil _;
  by_host = no_pairs (λ (a b : MapEntry). ComesBefore a.host b.host);
  links = All-nil _;
  linked = All-nil _;
  taken = All-nil _;
  by_link = no_pairs (λ (a b : Link). ComesBefore a.name b.name);
}

-- ---- their tables

-- the tables that have these rows and no others
abbrev pub alone : List SystemColumns → Tables
alone systems = record { next = 1; systems = systems; jobs = []; bodies = []; entries = []; links = []; taken = [] }

module _ (systems : List SystemColumns) where
  of_tables : AreTables (alone systems) → (made : List SystemRow) × AreRowsOfSystems made systems
  of_tables h = (h.state.systems, record { good = holds_alone h.state h.good; are = ap (λ (t : Tables). t.systems) h.same })

  to_tables : (made : List SystemRow) → AreRowsOfSystems made systems → AreTables (alone systems)
  to_tables made h = record {
    state = holding made;
    good = h.good;
    same = λ i. record { next = 1; systems = h.are i; jobs = []; bodies = []; entries = []; links = []; taken = [] };
  }

  -- a verdict on the tables is one on the systems
  module _ (r : Result Bool AllocError) (verdict : IfOk r (λ good. (good ≡ true) ↔ AreTables (alone systems))) where
    pub are_theirs : r ≡ Ok true → (made : List SystemRow) × AreRowsOfSystems made systems
    are_theirs is = of_tables ((subst (λ q. IfOk q (λ good. (good ≡ true) ↔ AreTables (alone systems))) is verdict).0 refl)

    pub are_of_none : r ≡ Ok false → (made : List SystemRow) → AreRowsOfSystems made systems → ⊥
    are_of_none is made h = true≢false (sym ((subst (λ q. IfOk q (λ good. (good ≡ true) ↔ AreTables (alone systems))) is verdict).1 (to_tables made h)))
