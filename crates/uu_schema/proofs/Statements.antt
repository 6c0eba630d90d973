-- Statements in a transaction, one after the other, and the transaction over its connection.
use Rattle.std.proofs.Common.{◌≡◌, true, false, ℕ, List, Result, Ok, Err, IsTrue, ap, ◌∙◌}
use Rattle.std.specs.Prelude.{[], OnOk, IfErr, IsErr, is_ok}
use Rattle.sqlite.specs.Order.{Row}
use Rattle.sqlite.specs.Schema.{Schema}
use Rattle.sqlite.specs.Tree.{Trees}
use Rattle.sqlite.specs.Store.{Ghosts}
use Rattle.sqlite.specs.Held.{Held, state}
use Rattle.sqlite.specs.State.{HasCleanDisk, Survives, Shows, KeepsCommit, KeepsCounts, IsRolledBack, Executes, ExecutesInside}
use Rattle.sqlite.specs.Steps.{FailsToCommit}
use Rattle.sqlite.specs.declared.error.Error.{Error}
use Rattle.sqlite.specs.declared.error.Error.TheVariants.{SqliteFailure}
use Rattle.sqlite.specs.declared.error.ErrorCode.TheVariants.{TransactionState}
use Rattle.sqlite.specs.declared.transaction.Transaction.{Transaction}
use Rattle.sqlite.proofs.StateLemmas.{survives_then}
use Rattle.sqlite.proofs.Callers.{survives_begin}
use Rattle.uu_schema.specs.Steps.{Stands, Outcome, Both}
use Rattle.uu_schema.specs.Statements.{TakesStep, Transacts}
use Rattle.uu_schema.specs.declared.fault.Halt.{Halt}
use Rattle.uu_schema.specs.declared.fault.Halt.TheVariants.{Before}
use Rattle.uu_schema.proofs.Steps.{statement, outcome_then, weaker, refused, abandoned, committed, rolled_back, whole_as}

module _ {S : Type 0} {g : Ghosts S} where
  -- what `execute` ensures of a text whose meaning is known
  pub executed : {from to : Schema} {Step : Trees → Trees → Type 0} {old new : Transaction S} {r : Result ℕ Error} (sql : List ℕ) (params : Row) → new.conn.ghost_name ≡ old.conn.ghost_name
      → ((state g old.conn.now).in_transaction ≡ false → (r ≡ Err (SqliteFailure TransactionState)) × (new.conn.now ≡ old.conn.now))
      → (HasCleanDisk (state g new.conn.now) → IsTrue (state g old.conn.now).in_transaction → ExecutesInside 0 sql params (state g old.conn.now) (state g new.conn.now) r)
      → Survives (state g old.conn.now) (state g new.conn.now) (λ _. ⊥)
      → ((count : ℕ) → Stands from (state g old.conn.now).now → Executes sql params (state g old.conn.now) (state g new.conn.now) (Ok count)
      → Stands to (state g new.conn.now).now × Step (state g old.conn.now).now.trees (state g new.conn.now).now.trees)
      → TakesStep g from to Step old new r
  executed {from} {to} {Step} {old} {new} {r} sql params same ended runs survives means = record {
    same_reference = same;
    outcome = statement from to Step sql params (state g old.conn.now) (state g new.conn.now) means r (λ outside. ap (state g) (ended outside).1) runs survives;
  }

  pub step_then : {from mid to : Schema} {A B : Trees → Trees → Type 0} {T E U F : Type 0} {a b c : Transaction S} {x : U} {r : Result T E} → TakesStep {E = F} g from mid A a b (Ok x) → TakesStep g mid to B b c r
      → TakesStep g from to (Both A B) a c r
  step_then {from} {mid} {to} {A} {B} {a = a} {b = b} {c = c} {x = x} {r = r} first second = record {
    same_reference = second.same_reference ∙ first.same_reference;
    outcome = outcome_then from mid to A B (state g a.conn.now) (state g b.conn.now) (state g c.conn.now) r x first.outcome second.outcome;
  }

  pub step_weaker : {from to : Schema} {A B : Trees → Trees → Type 0} {T E : Type 0} {a b : Transaction S} {r : Result T E} → ((x y : Trees) → A x y → B x y) → TakesStep g from to A a b r → TakesStep g from to B a b r
  step_weaker {from} {to} {A} {B} {a = a} {b = b} {r = r} is step = record { same_reference = step.same_reference; outcome = weaker from to (state g a.conn.now) (state g b.conn.now) A B is r step.outcome }

  -- any value that a call that succeeded gave
  pub step_done : {from to : Schema} {A B : Trees → Trees → Type 0} {T E U F : Type 0} {a b : Transaction S} {x : T} {y : U} → ((x y : Trees) → A x y → B x y) → TakesStep {E = E} g from to A a b (Ok x) → TakesStep {E = F} g from to B a b (Ok y)
  step_done {B = B} is step = let it = step_weaker {B = B} is step in record { same_reference = it.same_reference; outcome = record { went = it.outcome.went; kept = it.outcome.kept; survives = it.outcome.survives } }

  -- what was refused took no step of any kind
  pub step_refused : {from mid to last : Schema} {A B : Trees → Trees → Type 0} {T E U F : Type 0} {a b : Transaction S} {r : Result T E} (q : Result U F) → IsErr q → TakesStep g from mid A a b r → TakesStep g last to B a b q
  step_refused {to = to} {last = last} {B = B} {a = a} {b = b} q fails step = record { same_reference = step.same_reference; outcome = refused last to (state g a.conn.now) (state g b.conn.now) B q fails step.outcome.kept step.outcome.survives }

-- ---- the transaction over its connection

module _ {S : Type 0} {g : Ghosts S} {from to : Schema} {Step : Trees → Trees → Type 0} (old begun last end : Held S) (is : begun ≡ record old { in_transaction = true }) (ended : end.in_transaction ≡ false)
    (settled : (db : Trees) → IsTrue (state g end).is_open → (state g end).may_leave db → db ≡ (state g end).committed.trees) where
  -- its statements succeeded, and its commit gave this
  pub transacted : {T E : Type 0} {x : T} (r : Result (Unit {0}) Error) (q : Result (Unit {0}) Halt) → Outcome {E = E} from to Step (state g begun) (state g last) (Ok x)
      → Survives (state g last) (state g end) (λ db. db ≡ (state g last).now.trees)
      → (HasCleanDisk (state g end) → OnOk r (IsTrue (state g last).in_transaction × Shows (state g last) (state g end) (state g last).now (state g last).now false × KeepsCounts (state g last) (state g end) × ((state g end).marks ≡ [])))
      → (HasCleanDisk (state g end) → IfErr r (FailsToCommit (state g last) (state g end))) → is_ok q ≡ is_ok r → ((error : Error) → q ≡ Err (Before error) → ⊥) → Transacts g from to Step old end q
  transacted {x = x} r q did over ok err same tried = record {
    idle = ended;
    whole = whole_as from to Step (state g old) (state g end) r q same (committed from to g Step old (state g last) (state g end) ended settled x r (rw is at did) over ok err);
    before = λ error early. absurd (tried error early);
    undone = λ error early. absurd (tried error early);
  }

  -- a statement was refused, and it was rolled back
  pub dropped : (q : Result (Unit {0}) Halt) → IsErr q → (HasCleanDisk (state g last) → KeepsCommit (state g begun) (state g last)) → Survives (state g begun) (state g last) (λ _. ⊥)
      → (HasCleanDisk (state g end) → IsRolledBack (state g last) (state g end)) → Survives (state g last) (state g end) (λ _. ⊥) → Transacts g from to Step old end q
  dropped q fails kept first back over =
      let begins = state g (record old { in_transaction = true }) in
      let first : Survives begins (state g last) (λ _. ⊥) = rw is at first in
      let kept : HasCleanDisk (state g last) → KeepsCommit begins (state g last) = rw is at kept in
      record {
        idle = ended;
        whole = abandoned from to g Step old (state g last) (state g end) ended settled q fails kept first back over;
        before = λ error early. survives_then (state g old) (state g last) (state g end) (λ _. ⊥) (λ _. ⊥) (λ _. ⊥) (λ _ db none. none) (λ _ db none. none) (survives_begin g old (state g last) (λ _. ⊥) first) over;
        undone = λ error early. rolled_back from to g Step old (state g last) (state g end) ended settled kept back over;
      }
