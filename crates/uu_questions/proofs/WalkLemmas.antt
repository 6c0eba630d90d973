-- What holds of a walk along the rows of an answer.
use Rattle.std.proofs.Common.{◌≡◌, ◌⊎◌, inl, inr, refl, sym, subst, ◌∙◌, List, [], ◌∷◌, ◌++◌, ℕ, Result, Ok, Err}
use Rattle.std.specs.Prelude.{IsTrue, OnOk, IfOk, IfErr, IsErr, IsOk}
use Rattle.sqlite.specs.Order.{Row}
use Rattle.sqlite.specs.declared.error.Error.{Error}
use Rattle.sqlite.specs.Given.{IsPlain}
use Rattle.sqlite.specs.Listing.{understood, reads_listing, IsSourceOf}
use Rattle.sqlite.specs.Clock.{timed}
use Rattle.sqlite.specs.Effect.{Database}
use Rattle.sqlite.specs.Tree.{Trees}
use Rattle.sqlite.specs.State.{State as DbState, HasCleanDisk, Survives, Fails, IsUnchanged, IsRolledBack, IsNotRun, FailsToQuery, CommitsShowing, Shown, ShowsRows}
use Rattle.sqlite.proofs.StateLemmas.{survives_weaker, survives_then}
use Rattle.sqlite.proofs.Callers.{never_commits, unchanged_then}
use Rattle.uu_schema.specs.Steps.{Stands, Rests, Ready, Asked}
use Rattle.uu_schema.proofs.Steps.{told_also, told_not}
use Rattle.uu_core.specs.State.{State}
use Rattle.uu_schema.specs.Schema.{spool_schema}
use Rattle.uu_questions.specs.Answers.{Answers, IsStateOf}
use Rattle.uu_questions.specs.Walks.{Took, Walks}

pub took_more : {X : Type 0} (takes : X → Row → X → Type 0) (rows : List Row) (row : Row) (before mid after : X) → Took takes before rows mid → takes mid row after → Took takes before (rows ++ row ∷ []) after
took_more takes [] row before mid after h k = (after, subst (λ x. takes x row after) (sym h) k, refl)
took_more takes (r ∷ rows) row before mid after h k = (h.0, h.1, took_more takes rows row h.0 mid after h.2 k)

-- ---- what a question leaves that was refused, or stopped on the way

module _ (sql : List ℕ) (params : Row) (old new : DbState) (plain : IsPlain (understood spool_schema sql)) where
  pub plain_here : Stands spool_schema old.now → IsPlain (understood old.now.schema sql)
  plain_here stands = subst (λ s. IsPlain (understood s sql)) (sym stands.schema) plain

  not_run : (e : Error) → IsNotRun old new sql params e → IsUnchanged old new ⊎ IsRolledBack old new
  unfolding IsNotRun
  not_run e (inl none) = inl none.1
  not_run e (inr failed) = inr failed.3

  pub refused : Stands spool_schema old.now → (e : Error) → FailsToQuery sql params old new e → IsUnchanged old new ⊎ IsRolledBack old new
  unfolding FailsToQuery
  refused stands e (inl none) = not_run e none
  refused stands e (inr failed) =
      let bare = subst IsPlain failed.1.is (plain_here stands) in
      inl (rw bare.0 at failed.2).3

  pub commits_nothing : Survives old new (CommitsShowing sql params old) → Survives old new (λ _. ¬ Ready spool_schema old)
  commits_nothing = survives_weaker old new _ _ (λ _ db commits ready. never_commits sql params old db (plain_here ready.stands) commits)

rests : (old new : DbState) → IsUnchanged old new ⊎ IsRolledBack old new → Rests old → IsTrue new.is_open → Rests new × (new.now ≡ old.now)
rests old new (inl same) r is_open = (record { is_open = is_open; idle = same.0.mode ∙ r.idle; settled = same.0.now_is ∙ r.settled ∙ sym same.0.committed_is }, same.0.now_is)
rests old new (inr back) r is_open =
    let undone = back.undone is_open in
    (record { is_open = is_open; idle = back.autocommit; settled = undone.0 ∙ sym undone.1 }, undone.0 ∙ sym r.settled)

pub asked : (old new : DbState) → (HasCleanDisk new → Stands spool_schema old.now → IsUnchanged old new ⊎ IsRolledBack old new) → Survives old new (λ _. ¬ Ready spool_schema old) → Asked spool_schema old new
asked old new left survives = record {
  same = λ clean ready is_open.
      let it = rests old new (left clean ready.stands) ready.rests is_open in
      (record { rests = it.0; stands = subst (Stands spool_schema) (sym it.1) ready.stands }, it.1);
  survives = survives;
}

-- ---- how a walk ends

pub err_of : {T : Type 0} (P : Error → Type 0) (r : Result T Error) (e : Error) → r ≡ Err e → IfErr r P → P e
err_of P r e is h = subst (λ q. IfErr q P) is h

pub on_ok_of : {T : Type 0} (P : Type 0) (r : Result T Error) (x : T) → r ≡ Ok x → OnOk r P → P
on_ok_of P r x is h = subst (λ q. OnOk q P) is h

none_on_ok : {T : Type 0} (P : Type 0) (r : Result T Error) → IsErr r → OnOk r P
none_on_ok P (Ok x) fails = absurd (cc)
none_on_ok P (Err e) fails = tt

pub failed : {X T : Type 0} (takes : X → Row → X → Type 0) (text : List ℕ) (params : Row) (old new : DbState) (before after : X) (r : Result T Error) → IsErr r → Asked spool_schema old new → Walks takes text params old new before after r
failed takes text params old new before after r fails h = record {
  told = record { asked = h; is_open = λ clean ready. none_on_ok _ r fails };
  same = λ clean stands. none_on_ok _ r fails;
  rows = λ clean stands. none_on_ok _ r fails;
}

pub refused_by : (old new : DbState) (e : Error) → Fails old new ⊥ e ⊎ IsUnchanged old new → IsUnchanged old new ⊎ IsRolledBack old new
refused_by old new e (inl fails) = inr fails.3
refused_by old new e (inr same) = inl same

-- what is shown after nothing changed was shown before
pub shown_from : (sql : List ℕ) (params : Row) (a b c : DbState) (rows : List Row) → IsPlain (understood a.now.schema sql) → IsUnchanged a b → Shown sql params b c rows → Shown sql params a c rows
unfolding Shown
shown_from sql params a b c rows plain same h =
    let is = subst (λ (d : Database). understood d.schema sql ≡ Ok h.0) same.0.now_is h.1.is in
    let none = (subst IsPlain is plain).0 in
    let full = timed params h.0.formats h.1.now in
    let it = subst (ShowsRows b c sql h.0 full rows) none h.2 in (
      h.0,
      record { is = is; whole = h.1.whole; given = h.1.given; now = h.1.now },
      subst (ShowsRows a c sql h.0 full rows) (sym none) (it.0, subst (λ (d : Database). IsSourceOf (reads_listing d.schema sql) d it.0) same.0.now_is it.1, it.2, unchanged_then a b c same it.3),
    )

pub walked : {X : Type 0} (takes : X → Row → X → Type 0) (text : List ℕ) (params : Row) (old mid new : DbState) (before after : X) → IsPlain (understood spool_schema text) → Survives old new (λ _. ¬ Ready spool_schema old)
    → (HasCleanDisk new → Stands spool_schema old.now → (given : List Row) × IsUnchanged old mid × IsUnchanged mid new × Shown text params mid new given × Took takes before given after) → Walks {T = Unit {0}} takes text params old new before after (Ok tt)
walked takes text params old mid new before after plain survives ends = record {
  told = record {
    asked = asked old new (λ clean stands. let e = ends clean stands in inl (unchanged_then old mid new e.1 e.2)) survives;
    is_open = λ clean ready. let e = ends clean ready.stands in e.2.0.is_open;
  };
  same = λ clean stands. let e = ends clean stands in e.2.0.now_is ∙ e.1.0.now_is;
  rows = λ clean stands. let e = ends clean stands in (e.0, shown_from text params old mid new e.0 (plain_here text params old new plain stands) e.1 e.3, e.4);
}

pub survives_on : (a b c : DbState) (P : Trees → Type 0) → Survives a b P → Survives b c (λ _. ⊥) → Survives a c P
survives_on a b c P p q = survives_then a b c P (λ _. ⊥) P (λ _ db h. h) (λ _ db none. absurd none) p q

-- unchanged, and then refused
pub then_refused : (a b c : DbState) → IsUnchanged a b → IsUnchanged b c ⊎ IsRolledBack b c → IsUnchanged a c ⊎ IsRolledBack a c
then_refused a b c p (inl q) = inl (
  record { was_open = p.0.was_open; is_open = q.0.is_open; now_is = q.0.now_is ∙ p.0.now_is; committed_is = q.0.committed_is ∙ p.0.committed_is; mode = q.0.mode ∙ p.0.mode },
  record { changes = q.1.changes ∙ p.1.changes; last_rowid = q.1.last_rowid ∙ p.1.last_rowid },
  q.2 ∙ p.2,
)
then_refused a b c p (inr q) = inr (record {
  was_open = λ is_open. p.0.was_open;
  undone = λ is_open. let u = q.undone is_open in (u.0 ∙ p.0.committed_is, u.1 ∙ p.0.committed_is);
  autocommit = q.autocommit;
  unmarked = q.unmarked;
  counts = record { changes = q.counts.changes ∙ p.1.changes; last_rowid = q.counts.last_rowid ∙ p.1.last_rowid };
})

-- ---- what a walk answers of a state

from_ok : {T P : Type 0} (r : Result T Error) → IsOk r → OnOk r P → P
from_ok (Ok x) ok p = p
from_ok (Err e) ok p = absurd (cc)

pub walk_answers : {X T U : Type 0} (IsAnswer : State → U → Type 0) (takes : X → Row → X → Type 0) (text : List ℕ) (params : Row) (a b : DbState) (before after : X) (r : Result T Error) (q : Result U Error) → Walks takes text params a b before after r → (IsOk q → IsOk r)
    → ((s : State) → IsStateOf s a → (rows : List Row) → Shown text params a b rows → Took takes before rows after → IfOk q (IsAnswer s)) → Answers IsAnswer a b q
walk_answers IsAnswer takes text params a b before after r (Ok y) h ok step = record {
  told = told_also spool_schema a b r (Ok y) (ok refl) h.told;
  same = λ clean stands. from_ok r (ok refl) (h.same clean stands);
  exact = λ clean s of. let w = from_ok r (ok refl) (h.rows clean of.stands) in step s of w.0 w.1 w.2;
}
walk_answers IsAnswer takes text params a b before after r (Err e) h ok step = record { told = told_not spool_schema a b r (Err e) refl h.told; same = λ clean stands. tt; exact = λ clean s of. tt }
