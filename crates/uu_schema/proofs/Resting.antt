-- A connection at rest on the tables of a state.
use Rattle.std.proofs.Common.{◌≡◌, sym, subst, ◌∙◌}
use Rattle.std.specs.Prelude.{Result, Err}
use Rattle.sqlite.specs.Effect.{Database}
use Rattle.sqlite.specs.State as db
use Rattle.uu_schema.specs.Steps.{Rests, Ready}
use Rattle.uu_core.specs.State.{State}
use Rattle.uu_schema.specs.Schema.{spool_schema}
use Rattle.uu_schema.specs.declared.fault.StoreFault.{StoreFault}
use Rattle.uu_schema.specs.declared.fault.StoreFault.TheVariants.{Memory}
use Rattle.uu_schema.specs.Encoded.{Encodes}

pub ready : (s : State) (a : db.State) → Rests a → Encodes a.now s → Ready spool_schema a
ready s a rests enc = record { rests = rests; stands = enc.stands }

pub moved : (s : State) (a b : Database) → b ≡ a → Encodes a s → Encodes b s
moved s a b same enc = subst (λ d. Encodes d s) (sym same) enc

-- nothing differs, so the connection is at rest and encodes what it did
pub unchanged : (s : State) (b d : db.State) → db.IsUnchanged b d → Rests b → Encodes b.now s → Rests d × Encodes d.now s
unchanged s b d same rests enc =
    (record { is_open = same.0.is_open; idle = same.0.mode ∙ rests.idle; settled = same.0.now_is ∙ rests.settled ∙ sym same.0.committed_is }, moved s b.now d.now same.0.now_is enc)

pub is_memory : {T : Type 0} (fault : StoreFault) → ◌≡◌ {A = Result T StoreFault} (Err fault) (Err Memory) → fault ≡ Memory
is_memory fault h = cc
