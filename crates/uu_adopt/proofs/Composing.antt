-- Questions on the rows of tables, one after the other.
use Rattle.std.proofs.Common.{◌≡◌, Option, Some, None, Result, Ok, Err, sym, subst, ◌∙◌, refl, arith}
use Rattle.std.specs.Prelude.{IfOk, OnOk, IsOk, IsErr}
use Rattle.sqlite.specs.declared.error.Error.{Error}
use Rattle.sqlite.specs.Tree.{Trees}
use Rattle.sqlite.specs.State.{State as DbState, HasCleanDisk}
use Rattle.sqlite.specs.Held.{Held, state}
use Rattle.sqlite.specs.Store.{Ghosts}
use Rattle.uu_schema.specs.Steps.{Stands}
use Rattle.uu_schema.proofs.Questions.{spared_as, spared_then}
use Rattle.uu_schema.specs.declared.version.Version.{Version}
use Rattle.uu_schema.specs.Earlier.{schema_of}
use Rattle.uu_adopt.specs.Reading.{Reads, ReadsFrom}

from_ok : {T E P : Type 0} (r : Result T E) → IsOk r → OnOk r P → P
from_ok (Ok x) ok p = p
from_ok (Err e) ok p = absurd (cc)

-- the same question, answered otherwise
pub reads_as : (v : Version) {T U : Type 0} (P : Trees → T → Type 0) (R : Trees → U → Type 0) (a b : DbState) (p : Result T Error) (r : Result U Error) → Reads v P a b p → (IsOk r → IsOk p) → ((trees : Trees) → IfOk p (P trees) → IfOk r (R trees)) → Reads v R a b r
reads_as v P R a b p (Ok y) h ok step = record {
  spares = spared_as a b p (Ok y) ok h.spares;
  same = λ clean. from_ok p (ok refl) (h.same clean);
  found = λ clean stands. step a.now.trees (h.found clean stands);
}
reads_as v P R a b p (Err e) h ok step = record { spares = spared_as a b p (Err e) ok h.spares; same = λ clean. tt; found = λ clean stands. tt }

-- an error answers nothing
pub reads_none : (v : Version) {T U : Type 0} (P : Trees → T → Type 0) (R : Trees → U → Type 0) (a b : DbState) (p : Result T Error) (r : Result U Error) → IsErr r → Reads v P a b p → Reads v R a b r
reads_none v P R a b p (Ok y) fails h = absurd (cc)
reads_none v P R a b p (Err e) fails h = record { spares = spared_as a b p (Err e) (λ is. absurd (cc)) h.spares; same = λ clean. tt; found = λ clean stands. tt }

-- both answers are of the tables as they were before the first question
module _ (v : Version) {T V : Type 0} (P : Trees → T → Type 0) (Q : Trees → V → Type 0) (a b c : DbState) (x : T) (q : Result V Error) (first : Reads v P a b (Ok x)) (second : Reads v Q b c q) where
  early : HasCleanDisk c → HasCleanDisk b
  early clean = omega (arith, clean, second.spares.survives.clean)

  stays : HasCleanDisk c → b.now ≡ a.now
  stays clean = first.same (early clean)

  stands_still : HasCleanDisk c → Stands (schema_of v) a.now → Stands (schema_of v) b.now
  stands_still clean stands = subst (Stands (schema_of v)) (sym (stays clean)) stands

  same_after : (r : Result V Error) → b.now ≡ a.now → OnOk r (c.now ≡ b.now) → OnOk r (c.now ≡ a.now)
  same_after (Ok y) same h = h ∙ same
  same_after (Err e) same h = tt

  both_found : (r : Result V Error) → b.now ≡ a.now → P a.now.trees x → IfOk r (Q b.now.trees) → IfOk r (λ y. P a.now.trees x × Q a.now.trees y)
  both_found (Ok y) same h k = (h, subst (λ d. Q d.trees y) same k)
  both_found (Err e) same h k = tt

  pub then_reads : Reads v (λ trees y. P trees x × Q trees y) a c q
  then_reads = record {
    spares = spared_then a b (Ok x) c q refl first.spares second.spares;
    same = λ clean. same_after q (stays clean) (second.same clean);
    found = λ clean stands. both_found q (stays clean) (first.found (early clean) stands) (second.found clean (stands_still clean stands));
  }

-- ---- the same over connections

module _ {S : Type 0} {g : Ghosts S} {v : Version} where
  -- the same question, answered otherwise
  pub answers : {T U : Type 0} {P : Trees → T → Type 0} {R : Trees → U → Type 0} {a b : Held S} {p : Result T Error} {r : Result U Error} → ReadsFrom g v P a b p → (IsOk r → IsOk p) → ((trees : Trees) → IfOk p (P trees) → IfOk r (R trees)) → ReadsFrom g v R a b r
  answers h ok step = record { idle = h.idle; reads = reads_as v _ _ _ _ _ _ h.reads ok step }

  -- an error answers nothing
  pub stops : {T U : Type 0} {P : Trees → T → Type 0} {R : Trees → U → Type 0} {a b : Held S} {p : Result T Error} {r : Result U Error} → ReadsFrom g v P a b p → IsErr r → ReadsFrom g v R a b r
  stops h fails = record { idle = h.idle; reads = reads_none v _ _ _ _ _ _ fails h.reads }

  -- one question and then another
  pub and_then : {T U : Type 0} {P : Trees → T → Type 0} {Q : Trees → U → Type 0} {a b c : Held S} {x : T} {q : Result U Error} → ReadsFrom g v P a b (Ok x) → ReadsFrom g v Q b c q → ReadsFrom g v (λ trees y. P trees x × Q trees y) a c q
  and_then h k = record { idle = λ rests. k.idle (h.idle rests); reads = then_reads v _ _ _ _ _ _ _ h.reads k.reads }

-- what is read of the tables of one version is read of any, if that is this one
module _ {S T : Type 0} (g : Ghosts S) (P : Version → Trees → T → Type 0) (v w : Version) (a b : Held S) where
  if_same : (r : Result T Error) → (v ≡ w → IfOk r (P w (state g a).now.trees)) → IfOk r (λ x. v ≡ w → P v (state g a).now.trees x)
  if_same (Ok x) k = λ is. subst (λ u. P u (state g a).now.trees x) (sym is) (k is)
  if_same (Err e) k = tt

  pub of_version : (r : Result T Error) → ReadsFrom g w (P w) a b r → ReadsFrom g v (λ trees x. v ≡ w → P v trees x) a b r
  of_version r h = record {
    idle = h.idle;
    reads = record { spares = h.reads.spares; same = h.reads.same; found = λ clean stands. if_same r (λ is. h.reads.found clean (subst (λ u. Stands (schema_of u) (state g a).now) is stands)) };
  }

pub same_version : (tables : Option Version) (v w : Version) → tables ≡ Some v → tables ≡ Some w → v ≡ w
same_version tables v w is other = cc

pub not_some : (tables : Option Version) (v : Version) → tables ≡ None → tables ≡ Some v → ⊥
not_some tables v none is = cc
