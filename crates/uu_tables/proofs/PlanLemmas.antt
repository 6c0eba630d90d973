-- Plans of commands that are accepted and of those that are refused.
use Rattle.std.proofs.Common.{◌≡◌, Bool, List, [], ◌∷◌, ◌++◌, Option, Some, None, Result, Ok, Err, IfOk, refl, sym, ap, ◌∙◌}
use Rattle.std.proofs.lemmas.Option.{none-some}
use Rattle.uu_core.specs.declared.command.Command.{Command}
use Rattle.uu_core.specs.declared.command.Reply.TheVariants.{Refused}
use Rattle.uu_core.specs.declared.refusal.Refusal.{Refusal}
use Rattle.uu_core.specs.Refusal.{first_reason, value_unless, decided}
use Rattle.uu_core.specs.State.{State}
use Rattle.uu_core.specs.Verdict.{verdict}
use Rattle.uu_core.specs.After.{accept, reply_to}
use Rattle.uu_tables.specs.declared.change.Change.{Change}
use Rattle.uu_tables.specs.declared.plan.Plan.{Plan}
use Rattle.uu_tables.specs.Tables.{Tables, tables_of}
use Rattle.uu_tables.specs.Changes.{apply, applied}
use Rattle.uu_tables.specs.Plans.{IsPlan}

-- ---- what a decision says

pub when_accepted : {V : Type 0} (reasons : List (Bool × Refusal)) (value given : V) → decided reasons value ≡ Ok given → (first_reason reasons ≡ None) × (value ≡ given)
when_accepted {V} reasons value given h = by_first (first_reason reasons) h
  where
    by_first : (o : Option Refusal) → value_unless o value ≡ Ok given → (o ≡ None) × (value ≡ given)
    by_first None h = (refl, cc)
    by_first (Some refusal) h = absurd (cc)

pub when_refused : {V : Type 0} (reasons : List (Bool × Refusal)) (value : V) (refusal : Refusal) → decided reasons value ≡ Err refusal → first_reason reasons ≡ Some refusal
when_refused {V} reasons value refusal h = by_first (first_reason reasons) h
  where
    by_first : (o : Option Refusal) → value_unless o value ≡ Err refusal → o ≡ Some refusal
    by_first None h = absurd (cc)
    by_first (Some other) h = cc

-- ---- any command

module _ (s : State) (command : Command) (plan : Plan) where
  pub accepts : verdict s command ≡ None → plan.reply ≡ reply_to s command → applied plan.changes.items (tables_of s) ≡ tables_of (accept s command) → IsPlan s command plan
  accepts none reply tables = record { reply = rw none reply; tables = rw none tables; refused = λ refusal some. absurd (none-some refusal (sym none ∙ some)) }

  pub refuses : (refusal : Refusal) → verdict s command ≡ Some refusal → plan.reply ≡ Refused refusal → plan.changes.items ≡ [] → IsPlan s command plan
  refuses refusal some reply changes = record { reply = rw some reply; tables = rw (some, changes) refl; refused = λ other same. changes }

-- the plan of these changes, if there is memory for it
pub accepts_with : {E : Type 0} (s : State) (command : Command) (changes : List Change) (result : Result Plan E) → verdict s command ≡ None → IfOk result (λ plan. plan.reply ≡ reply_to s command) → IfOk result (λ plan. plan.changes.items ≡ changes) → applied changes (tables_of s) ≡ tables_of (accept s command) → IfOk result (IsPlan s command)
accepts_with s command changes (Ok plan) none reply made tables = accepts s command plan none reply (ap (λ l. applied l (tables_of s)) made ∙ tables)
accepts_with s command changes (Err fault) none reply made tables = tt

-- ---- changes one after the other

pub applied_append : (first second : List Change) (t : Tables) → applied (first ++ second) t ≡ applied second (applied first t)
applied_append [] second t = refl
applied_append (change ∷ first) second t = applied_append first second (apply change t)
