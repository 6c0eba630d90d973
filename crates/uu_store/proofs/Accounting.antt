-- What is claimed of the state that is found after any stretches.
use Rattle.std.proofs.Common.{inl, inr, List, sym, subst}
use Rattle.std.proofs.Math.Logic.{∥∥₁_elim, ∥∥₁_map}
use Rattle.sqlite.specs.Tree.{Trees}
use Rattle.sqlite.specs.State as db
use Rattle.uu_schema.specs.Steps.{Rests}
use Rattle.uu_core.specs.declared.command.Command.{Command}
use Rattle.uu_core.specs.Run.{state_after}
use Rattle.uu_core.specs.State.{State, IsWellFormed, empty}
use Rattle.uu_store.specs.Kept.{Stores, Keeps, KeepsOnly}
use Rattle.uu_store.specs.Exchanges.{Exchange, Passes}
use Rattle.uu_store.specs.Stretches.{Stretch, exchanges, StoresAfter}
use Rattle.uu_store.proofs.Reopening.{Outcome}

-- what is kept is well-formed
pub good_of : IsWellFormed empty → (trees : Trees) (s : State) → Keeps trees s → IsWellFormed s
good_of none trees s (inl it) = it.2.good
good_of none trees s (inr it) = subst IsWellFormed (sym it.1) none

-- what was found stores the state after commands that count, and this holds of them
abbrev StoresWith : State → List Exchange → (List Command → Type 0) → db.State → Type 0
StoresWith s told Claim found = (counted : List Command) × Passes s told counted × Rests found × Stores found.now (state_after s counted) × Claim counted

-- what is so of a well-formed state and what counts is so with what was found
pub stores_claim : IsWellFormed empty → (before : Trees → Type 0) (stretches : List Stretch) (found : db.State) (s : State) (Claim : List Command → Type 0) → KeepsOnly before s
    → (IsWellFormed s → (counted : List Command) → Passes s (exchanges stretches) counted → Claim counted) → ∥ Outcome before ∥₁ → ∥ StoresAfter s (exchanges stretches) found ∥₁
    → ∥ StoresWith s (exchanges stretches) Claim found ∥₁
stores_claim none before stretches found s Claim keeps account left after =
    ∥∥₁_elim left squash₁ (λ l. ∥∥₁_map after (λ then. (then.0, then.1, then.2, then.3, account (good_of none l.0 s (keeps l.0 l.1)) then.0 then.1)))
