-- What a stop leaves, by the law that while a connection is open it leaves the last commit.
use Rattle.std.proofs.Common.{◌≡◌, Ok, ◌⊎◌, inl, inr, ap, sym, subst, ◌∙◌}
use Rattle.std.specs.Prelude.{IsTrue}
use Rattle.sqlite.specs.Tree.{Trees}
use Rattle.sqlite.specs.Effect.{Database}
use Rattle.sqlite.specs.State as db
use Rattle.sqlite_catalog.specs.Listing.{IsSound}
use Rattle.uu_schema.specs.Steps.{Rests, Stands}
use Rattle.uu_core.specs.State.{State, empty}
use Rattle.uu_schema.specs.Schema.{spool_schema, no_schema}
use Rattle.uu_schema.specs.declared.version.Version.{Version}
use Rattle.uu_schema.specs.Encoded.{Encodes, EncodesAs, HoldsState, Leaves, LeavesEither}
use Rattle.uu_adopt.specs.Becoming.{CreatesTables, MigratesState}

-- the law of the store
abbrev pub Settles : db.State → Type 0
Settles a = (trees : Trees) → IsTrue a.is_open → a.may_leave trees → trees ≡ a.committed.trees

pub leaves : (s : State) (a : db.State) → Settles a → Rests a → Encodes a.now s → Leaves a s
leaves s a settles rests enc trees may =
    let is : trees ≡ a.now.trees = settles trees rests.is_open may ∙ sym (ap (λ (d : Database). d.trees) rests.settled) in
    (subst (IsSound spool_schema) (sym is) enc.stands.sound, subst (λ t. HoldsState t s) (sym is) enc.holds)

pub leaves_either : (s t : State) (a b : db.State) → Settles a → Rests a → Encodes a.now s
    → ((trees : Trees) → b.may_leave trees → a.may_leave trees ⊎ (IsSound spool_schema trees × HoldsState trees t)) → LeavesEither b s t
leaves_either s t a b settles rests enc stop trees may = elim (stop trees may) [
  | inl was ↦ (let it = leaves s a settles rests enc trees was in (it.0, inl it.1))
  | inr made ↦ (made.0, inr made.1)
]

-- ---- what a stop leaves of a database that is taken, if tables were made

pub adopt_creates : (a b : db.State) → Settles b → db.HasCleanDisk b → Rests a → CreatesTables a b (Ok tt) → Stands no_schema a.now → Leaves b empty
adopt_creates a b settles clean rests creates stands = let it = creates.ok clean rests stands in leaves empty b settles it.0 (record { stands = it.1; holds = it.2 })

pub adopt_migrates : (v : Version) (a b : db.State) → Settles b → db.HasCleanDisk b → Rests a → MigratesState v a b (Ok tt) → (s : State) → EncodesAs v a.now s → Leaves b s
adopt_migrates v a b settles clean rests migrates s enc =
    let it = migrates.ok clean rests enc.stands in leaves s b settles it.0 (record { stands = it.1; holds = it.2.again s enc.holds })
