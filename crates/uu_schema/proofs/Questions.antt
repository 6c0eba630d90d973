-- A text that asks means a query under every schema, so it changes no database, with any tables.
use Rattle.std.proofs.Common.{◌≡◌, ◌⊎◌, inl, inr, ℕ, Bool, true, false, List, Option, Some, None, Result, Ok, Err, refl, sym, ap, subst, ◌∙◌, arith}
use Rattle.std.specs.Prelude.{cond, ◌+◌, IsTrue, IsSome, IsOk, IfOk, IfErr, OnOk, Vec}
use Rattle.std.specs.declared.alloc.Global.{Global}
use Rattle.sqlite_ast.specs.declared.Statement.{Statement}
use Rattle.sqlite_ast.specs.declared.Statement.TheVariants as written
use Rattle.sqlite_syntax.specs.declared.statement.Parsed.{Parsed}
use Rattle.sqlite_schema.specs.declared.command.Command.{Command}
use Rattle.sqlite_schema.specs.declared.command.Returning.{Returning}
use Rattle.sqlite_resolve.specs.declared.compiled.Compiled.{Compiled}
use Rattle.sqlite_resolve.specs.declared.error.CompileError.TheVariants.{NoSuchTable}
use Rattle.sqlite_resolve.specs.Lowering.{Checked, and_then}
use Rattle.sqlite_resolve.specs.Scope.{Name}
use Rattle.sqlite_resolve.specs.Compile.{compiled, planned, meaning, returning, command, timed, first, small, with_command}
use Rattle.sqlite.specs.Order.{Row}
use Rattle.sqlite.specs.Schema.{Schema}
use Rattle.sqlite.specs.Tree.{Trees}
use Rattle.sqlite.specs.Listing.{understood, reads_listing, listing_schema, if_select, is_select}
use Rattle.sqlite.specs.declared.error.Error.{Error}
use Rattle.sqlite.specs.State.{State, HasCleanDisk, Survives, Shown, FailsToQuery, CommitsShowing, IsNotRun, IsUnchanged, IsRolledBack}
use Rattle.sqlite.proofs.StateLemmas.{survives_then, survives_weaker}
use Rattle.uu_schema.specs.Steps.{Stands, Rests, Asked, OpenIfAnswered}
use Rattle.uu_schema.specs.Spares.{Spares}
use Rattle.uu_schema.specs.Queries.{selects, asks, IsQuery}

ok_same : {A E : Type 0} (x y : A) → ◌≡◌ {A = Result A E} (Ok x) (Ok y) → x ≡ y
ok_same x y is = cc

shows_none : (schema : Schema) (base : ℕ) (s : Statement) → selects s ≡ true → returning schema base s ≡ Ok None
unfolding returning
shows_none schema base (written.Select query) is = refl
shows_none schema base _ is = absurd (cc)

-- the steps from a text to its meaning
abbrev meant_with : Checked (Option Returning) → Checked Command → Checked (Command × Option Returning)
meant_with shown meant = and_then shown (λ s. and_then meant (λ k. Ok (k, s)))

abbrev plan_with : List Name → Checked (Command × Option Returning) → Checked (List Name × (Command × Option Returning))
plan_with formats found = and_then found (λ f. Ok (formats, f))

abbrev made_of : Parsed → Checked (List Name × (Command × Option Returning)) → Checked Compiled
made_of p plan = and_then plan (λ it. Ok (with_command p it))

abbrev read_of : Schema → Checked Parsed → Checked Compiled
read_of schema r = and_then r (λ p. made_of p (planned schema p))

of_plan : (p : Parsed) (formats : List Name) (shown : Checked (Option Returning)) (meant : Checked Command) (c : Compiled) → shown ≡ Ok None → made_of p (plan_with formats (meant_with shown meant)) ≡ Ok c → c.returning ≡ None
of_plan p formats (Ok None) (Ok k) c is made = ap (λ (d : Compiled). d.returning) (sym (ok_same (with_command p (formats, (k, None))) c made))
of_plan p formats (Ok None) (Err e) c is made = absurd (cc)
of_plan p formats (Ok (Some what)) meant c is made = absurd (cc)
of_plan p formats (Err e) meant c is made = absurd (cc)

of_parsed : (schema : Schema) (p : Parsed) (c : Compiled) → selects p.statement ≡ true → made_of p (planned schema p) ≡ Ok c → c.returning ≡ None
unfolding planned meaning
of_parsed schema p c is made =
    let formats = timed schema p.formats p.statement in
    let base = small p.names + small formats in
    of_plan p formats (returning schema base p.statement) (command schema p.formats base p.statement) c (shows_none schema base p.statement is) made

of_first : (schema : Schema) (r : Checked Parsed) (c : Compiled) → asks r ≡ true → read_of schema r ≡ Ok c → c.returning ≡ None
of_first schema (Ok p) c is made = of_parsed schema p c is made
of_first schema (Err e) c is made = absurd (cc)

of_compiled : (schema : Schema) (text : List ℕ) → IsQuery text → (c : Compiled) → compiled schema text ≡ Ok c → c.returning ≡ None
unfolding compiled
of_compiled schema text is c made = of_first schema (first text) c is made

of_listing : (r : Checked Compiled) → ((k : Compiled) → r ≡ Ok k → k.returning ≡ None) → (c : Compiled) → if_select r ≡ Ok c → c.returning ≡ None
of_listing (Err e) from c made = absurd (cc)
of_listing (Ok k) from c made = go (is_select k.command) made
  where
    go : (b : Bool) → ◌≡◌ {A = Checked Compiled} (cond b (Ok k) (Err NoSuchTable)) (Ok c) → c.returning ≡ None
    go true same = subst (λ (d : Compiled). d.returning ≡ None) (ok_same k c same) (from k refl)
    go false same = absurd (cc)

-- a question has no RETURNING, under any schema
pub never_returns : (text : List ℕ) → IsQuery text → (schema : Schema) (c : Compiled) → understood schema text ≡ Ok c → c.returning ≡ None
unfolding understood
never_returns text is schema c made = go (reads_listing schema text) made
  where
    go : (b : Bool) → cond b (if_select (compiled listing_schema text)) (compiled schema text) ≡ Ok c → c.returning ≡ None
    go true same = of_listing (compiled listing_schema text) (λ k. of_compiled listing_schema text is k) c same
    go false same = of_compiled schema text is c same

-- ---- what a question leaves

is_none : {A : Type 0} (o : Option A) → o ≡ None → IsSome o → ⊥
is_none o is some = absurd (let none = rw is at some in cc)

module _ (text : List ℕ) (is : IsQuery text) (params : Row) (old new : State) where
  pub same_read : (rows : List Row) → Shown text params old new rows → IsUnchanged old new
  unfolding Shown
  same_read rows h = let none = never_returns text is old.now.schema h.0 h.1.is in (rw none at h.2).3

  not_run : (e : Error) → IsNotRun old new text params e → IsUnchanged old new ⊎ IsRolledBack old new
  unfolding IsNotRun
  not_run e (inl none) = inl none.1
  not_run e (inr failed) = inr failed.3

  refused : (e : Error) → FailsToQuery text params old new e → IsUnchanged old new ⊎ IsRolledBack old new
  unfolding FailsToQuery
  refused e (inl none) = not_run e none
  refused e (inr failed) = let none = never_returns text is old.now.schema failed.0 failed.1.is in inl (rw none at failed.2).3

  never_commits : (db : Trees) → CommitsShowing text params old db → ⊥
  unfolding CommitsShowing
  never_commits db h = is_none h.0.returning (never_returns text is old.now.schema h.0 h.1.is) h.2

  rests : IsUnchanged old new ⊎ IsRolledBack old new → Rests old → IsTrue new.is_open → Rests new × (new.now ≡ old.now)
  rests (inl same) r is_open = (record { is_open = is_open; idle = same.0.mode ∙ r.idle; settled = same.0.now_is ∙ r.settled ∙ sym same.0.committed_is }, same.0.now_is)
  rests (inr back) r is_open =
      let undone = back.undone is_open in
      (record { is_open = is_open; idle = back.autocommit; settled = undone.0 ∙ sym undone.1 }, undone.0 ∙ sym r.settled)

  commits_nothing : Survives old new (CommitsShowing text params old) → Survives old new (λ _. ⊥)
  commits_nothing = survives_weaker old new (CommitsShowing text params old) (λ _. ⊥) (λ _ db commits. never_commits db commits)

  pub spares : (r : Result (Vec Row Global) Error) → (HasCleanDisk new → IfOk r (λ rows. Shown text params old new rows.items)) → (HasCleanDisk new → IfErr r (FailsToQuery text params old new))
      → Survives old new (CommitsShowing text params old) → Spares old new r
  spares (Ok rows) ok err survives = record {
    same = λ clean. rests (inl (same_read rows.items (ok clean)));
    is_open = λ clean at_rest. (same_read rows.items (ok clean)).0.is_open;
    survives = commits_nothing survives;
  }
  spares (Err e) ok err survives = record {
    same = λ clean. rests (refused e (err clean));
    is_open = λ clean at_rest. tt;
    survives = commits_nothing survives;
  }

  module _ (expected : Schema) where
    asked : (HasCleanDisk new → IsUnchanged old new ⊎ IsRolledBack old new) → Survives old new (CommitsShowing text params old) → Asked expected old new
    asked left survives = record {
      same = λ clean ready is_open.
          let it = rests (left clean) ready.rests is_open in
          (record { rests = it.0; stands = subst (Stands expected) (sym it.1) ready.stands }, it.1);
      survives = survives_weaker old new (λ _. ⊥) _ (λ _ db none. absurd none) (commits_nothing survives);
    }

    pub told : (r : Result (Vec Row Global) Error) → (HasCleanDisk new → IfOk r (λ rows. Shown text params old new rows.items)) → (HasCleanDisk new → IfErr r (FailsToQuery text params old new))
        → Survives old new (CommitsShowing text params old) → OpenIfAnswered expected old new r
    told (Ok rows) ok err survives = record {
      asked = asked (λ clean. inl (same_read rows.items (ok clean))) survives;
      is_open = λ clean ready. (same_read rows.items (ok clean)).0.is_open;
    }
    told (Err e) ok err survives = record { asked = asked (λ clean. refused e (err clean)) survives; is_open = λ clean ready. tt }

-- ---- one question after the other

module _ {T E : Type 0} (a b : State) (r : Result T E) where
  answered : (q : Result T E) (P : Type 0) → IsOk q → OnOk q P → P
  answered (Ok x) P ok h = h
  answered (Err e) P ok h = absurd (cc)

  -- the answer is read, or not
  pub spared_as : {U F : Type 0} (s : Result U F) → (IsOk s → IsOk r) → Spares a b r → Spares a b s
  spared_as (Ok y) ok h = record { same = h.same; is_open = λ clean rests. answered r (IsTrue b.is_open) (ok refl) (h.is_open clean rests); survives = h.survives }
  spared_as (Err e) ok h = record { same = h.same; is_open = λ clean rests. tt; survives = h.survives }

  -- after an answer the connection shows what it showed
  pub spared_same : IsOk r → Spares a b r → HasCleanDisk b → Rests a → Rests b × (b.now ≡ a.now)
  spared_same ok h clean rests = h.same clean rests (answered r (IsTrue b.is_open) ok (h.is_open clean rests))

  pub spared_then : {U F : Type 0} (c : State) (s : Result U F) → IsOk r → Spares a b r → Spares b c s → Spares a c s
  spared_then c s ok p q = record {
    same = λ clean rests is_open. let one = spared_same ok p (omega (arith, q.survives.clean)) rests in let two = q.same clean one.0 is_open in (two.0, two.1 ∙ one.1);
    is_open = λ clean rests. q.is_open clean (spared_same ok p (omega (arith, q.survives.clean)) rests).0;
    survives = survives_then a b c (λ _. ⊥) (λ _. ⊥) (λ _. ⊥) (λ _ _ none. none) (λ _ _ none. none) p.survives q.survives;
  }
