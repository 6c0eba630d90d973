-- A text that is refused by name was refused by a connection that is open, and changed nothing.
use Rattle.std.proofs.Common.{◌≡◌, ℕ, List, inl, inr}
use Rattle.sqlite.specs.Order.{Row}
use Rattle.sqlite.specs.State.{State, IsNotRun, IsUnchanged, store_error}
use Rattle.sqlite.specs.declared.error.Error.TheVariants.{SqlInputError}
use Rattle.sqlite_resolve.specs.declared.error.CompileError.{CompileError}
use Rattle.sqlite_trees.specs.declared.error.StoreError.{StoreError}
use Rattle.sqlite_trees.specs.declared.error.StoreError.TheVariants.{OutOfMemory, Io, Corrupt, Full, Broken, Unstorable}

no_cause : (cause : StoreError) (fault : CompileError) → SqlInputError fault ≡ store_error cause → ⊥
no_cause OutOfMemory fault same = cc
no_cause Io fault same = cc
no_cause Corrupt fault same = cc
no_cause Full fault same = cc
no_cause Broken fault same = cc
no_cause Unstorable fault same = cc

pub refused_by_name : (old new : State) (sql : List ℕ) (params : Row) (fault : CompileError) → IsNotRun old new sql params (SqlInputError fault) → IsUnchanged old new
unfolding IsNotRun
refused_by_name old new sql params fault (inl none) = none.1
refused_by_name old new sql params fault (inr failed) = absurd (no_cause failed.0 fault failed.1)
