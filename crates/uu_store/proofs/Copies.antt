-- Everything that a spool keeps, read by a question, and made in an empty spool.
use Rattle.std.proofs.Common.{◌≡◌, true, false, true≢false, inl, inr, Result, Ok, Err, refl, sym, subst, ◌∙◌, arith}
use Rattle.std.specs.Prelude.{IsTrue}
use Rattle.std.proofs.lemmas.Result.{IfOk-weaker}
use Rattle.sqlite.specs.declared.error.Error.{Error}
use Rattle.sqlite.specs.Effect.{Database}
use Rattle.sqlite.specs.Held.{Held, state}
use Rattle.sqlite.specs.Store.{Ghosts}
use Rattle.sqlite.specs.State as db
use Rattle.uu_core.specs.State.{State}
use Rattle.uu_schema.specs.Schema.{spool_schema}
use Rattle.uu_schema.specs.Steps.{Ready, Stands}
use Rattle.uu_schema.specs.declared.version.Version.TheVariants.{Fourth}
use Rattle.uu_schema.specs.declared.fault.StoreFault.{StoreFault}
use Rattle.uu_schema.specs.declared.fault.StoreFault.TheVariants.{Store, Failed}
use Rattle.uu_schema.specs.declared.fault.StoreKind.{StoreKind}
use Rattle.uu_questions.specs.Answers.{Answers}
use Rattle.uu_adopt.specs.Reading.{ReadsFrom}
use Rattle.uu_adopt.specs.Contents.{AreContentsIn, AreContentsOf}
use Rattle.uu_adopt.specs.declared.contents.Contents.{Contents}
use Rattle.uu_adopt.proofs.Settling.{Settles, leaves}
use Rattle.uu_store.specs.declared.spool.Spool.{Spool}
use Rattle.uu_store.specs.Commands.{IsStep}
use Rattle.uu_store.specs.Spool.{connection_of, disk, has_failed, Shows}

-- what was read of the tables is a question's answer
module _ {S : Type 0} (g : Ghosts S) (a b : Held S) (r : Result Contents Error) (it : ReadsFrom g Fourth AreContentsIn a b r) where
  still : db.HasCleanDisk (state g b) → Ready spool_schema (state g a) → IsTrue (state g b).is_open → Ready spool_schema (state g b) × ((state g b).now ≡ (state g a).now)
  still clean ready is_open =
      let same = it.reads.spares.same clean ready.rests is_open in
      (record { rests = same.0; stands = subst (Stands spool_schema) (sym same.1) ready.stands }, same.1)

  pub contents_answer : Answers AreContentsOf (state g a) (state g b) r
  contents_answer =
      let kept = it.reads.spares.survives in
      record {
        told = record {
          asked = record {
            same = still;
            survives = record {
              clean = kept.clean;
              shield = kept.shield;
              counts = kept.counts;
              limit = kept.limit;
              closes = kept.closes;
              crash = λ clean trees may. elim (kept.crash clean trees may) [ inl was ↦ inl was | inr none ↦ absurd none ];
            };
          };
          is_open = λ clean ready. it.reads.spares.is_open clean ready.rests;
        };
        same = λ clean stands. it.reads.same clean;
        exact = λ clean s of. IfOk-weaker r _ _ (λ contents are. are s (record { tables = of.holds; good = of.good })) (it.reads.found clean of.stands);
      }

module _ {S : Type 0} {g : Ghosts S} {R : Type 0} (s t : State) (IsReply : R → Type 0) where
  -- the spool had failed before
  pub step_failed : (spool : Spool S g) → has_failed spool ≡ true → IsStep s t IsReply spool spool (Err Failed)
  step_failed spool failed = record {
    ok = λ clean shows. tt;
    memory = λ clean shows is. shows;
    stop = λ clean shows. absurd (true≢false (sym failed ∙ shows.usable));
  }

  -- nothing was done over the connection
  pub step_refused : (old now : Spool S g) (kind : StoreKind) → connection_of now ≡ connection_of old → Settles (disk old) → IsStep s t IsReply old now (Err (Store kind))
  step_refused old now kind same settles = record {
    ok = λ clean shows. tt;
    memory = λ clean shows is. absurd (cc);
    stop = λ clean shows trees may. (let it = leaves s (disk old) settles shows.rests shows.encodes trees (subst (λ (h : Held S). (state g h).may_leave trees) same may) in (it.0, inl it.1));
  }
