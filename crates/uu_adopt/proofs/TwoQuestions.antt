-- What two questions on a table, on its rows and on its rowids, say of it, both ways.
use Rattle.std.proofs.Common.{◌≡◌, ℕ, List, [], ◌∷◌, map, refl, sym, ap, subst, ◌∙◌, Less, Ordering, Option, Some, None, Vec, Result, Ok, Err, arith}
use Rattle.std.specs.Prelude.{IfOk, IsOk, IsErr, OnOk}
use Rattle.std.specs.declared.alloc.Global.{Global}
use Rattle.std.specs.List.Sorted.{IsPermutation}
use Rattle.std.proofs.lemmas.List.Sorted.{IsPermutation-sym}
use Rattle.sqlite.specs.declared.error.Error.{Error}
use Rattle.sqlite.specs.Order.{Row, column}
use Rattle.sqlite.specs.Tree.{Trees, IsAscending}
use Rattle.sqlite.specs.Term.{eval_all}
use Rattle.sqlite.specs.Query.{IsAnswer}
use Rattle.sqlite.specs.Program.{overlay}
use Rattle.sqlite.specs.Effect.{Database}
use Rattle.sqlite.specs.State.{HasCleanDisk}
use Rattle.sqlite.specs.Held.{Held, state}
use Rattle.sqlite.specs.Store.{Ghosts}
use Rattle.sqlite_value.specs.declared.keys.Key.{Key}
use Rattle.sqlite.specs.Term.{Term}
use Rattle.sqlite_keyed.proofs.ListLemmas.{ascending-map, ascending_weaker, map_same}
use Rattle.sqlite_trees.proofs.ListLemmas.{ascending_from_map, pull_back}
use Rattle.uu_schema.specs.Steps.{Stands, StaysIdle}
use Rattle.uu_schema.specs.Spares.{Spares}
use Rattle.uu_schema.proofs.Questions.{spared_as, spared_then}
use Rattle.uu_schema.proofs.Asks.{ordered}
use Rattle.uu_schema.proofs.Rows.{all_stay}
use Rattle.uu_schema.proofs.Answers.{answer_moved}
use Rattle.uu_schema.specs.declared.version.Version.{Version}
use Rattle.uu_schema.specs.Keyed.{Keyed, columns}
use Rattle.uu_schema.specs.Earlier.{schema_of}
use Rattle.uu_rows.specs.Shows.{ShowsRows}
use Rattle.uu_adopt.specs.Reading.{FindsRows, ReadsFrom, IsRead}
use Rattle.uu_rows.proofs.Meanings.{at_places}
use Rattle.uu_adopt.proofs.Meanings.{rowids_of}
use Rattle.uu_rows.proofs.Back.{same_all}
use Rattle.uu_adopt.proofs.Rowids.{ids_found, ids_held}

-- the columns at some places, as a query shows them
pub at_columns : (places : List ℕ) (params r : Row) → eval_all (at_places places) (params ∷ r ∷ []) ≡ columns places r
at_columns [] params r = refl
at_columns (n ∷ places) params r = ap (λ l. column r n ∷ l) (at_columns places params r)

module _ {K X : Type 0} (key : X → K) (cells : X → Row) (places : List ℕ) (IsReadable : X → Type 0) (cmp : X → X → Ordering) (back : Row → X) (returns : (x : X) → IsReadable x → back (cells x) ≡ x)
    (same_key : (x y : X) → cells x ≡ cells y → key x ≡ key y)
    (tree : ℕ) (order : List (Term × Key)) (trees : Trees) (bare : overlay trees [] tree ≡ trees tree) (rows ids : List Row)
    (a : IsAnswer (ordered tree [] (at_places places) order) (overlay trees []) [] rows) (ids_answer : IsAnswer (rowids_of tree) (overlay trees []) [] ids)
    (rows_only : (xs : List X) → IsPermutation (map cells xs) (map (columns places) (trees tree)) → IsAscending (λ x y. cmp x y ≡ Less) xs → rows ≡ map cells xs) where
  moved : IsPermutation (map (columns places) (trees tree)) rows
  moved =
      subst (λ l. IsPermutation l rows) (map_same _ (columns places) (at_columns places []) (trees tree))
      (subst (λ l. IsPermutation (map (λ r. eval_all (at_places places) ([] ∷ r ∷ [])) l) rows) (sym (all_stay (trees tree))) (answer_moved tree [] (at_places places) order trees [] rows bare a))

  -- rows of different keys are different rows
  distinct : (xs : List X) → Keyed key cells places xs (trees tree) → (rs : List Row) × IsPermutation rs (trees tree) × IsAscending (λ x y. x ≡ y → ⊥) rs
  distinct xs keyed =
      let other = λ (u v : Row). u ≡ v → ⊥ in
      let from = pull_back (columns places) _ _ (IsPermutation-sym _ _ keyed.same) (trees tree) refl in
      let rs = from.0 in
      let apart : IsAscending other (map cells xs) = ascending-map other cells xs (ascending_weaker _ (λ x y. cells x ≡ cells y → ⊥) (λ x y h e. h (same_key x y e)) xs keyed.apart) in
      let shown : IsAscending (λ x y. columns places x ≡ columns places y → ⊥) rs = ascending_from_map other (columns places) rs (subst (IsAscending other) from.2 apart) in
      (rs, IsPermutation-sym (trees tree) rs from.1, ascending_weaker _ other (λ x y h e. h (ap (columns places) e)) rs shown)

  pub finds : (found : Option (Vec X Global)) → IsRead cells IsReadable rows ids found → FindsRows key cells places IsReadable cmp (trees tree) found
  finds None none = record {
    all = tt;
    only = λ xs good keyed.
        let rs = distinct xs keyed in
        none xs (record { rows_are = rows_only xs keyed.same good.rise; readable = good.readable; rowids = ids_held tree trees ids bare ids_answer rs.0 rs.1 rs.2 keyed.numbered keyed.once });
  }
  finds (Some all) read = record {
    all = (let apart = ids_found tree trees ids bare ids_answer read.rowids in (record { same = IsPermutation-sym _ _ (subst (IsPermutation (map (columns places) (trees tree))) read.rows_are moved); numbered = apart.0; once = apart.1 }, read.readable));
    only = λ xs good keyed. same_all cells back IsReadable returns all.items xs read.readable good.readable (sym read.rows_are ∙ rows_only xs keyed.same good.rise);
  }

-- ---- two questions, one after the other

any_told : {T E : Type 0} (P : Type 0) (r : Result T E) → P → OnOk r P
any_told P (Ok x) p = p
any_told P (Err e) p = tt

of_ok : {T E P : Type 0} (r : Result T E) → IsOk r → OnOk r P → P
of_ok (Ok x) ok p = p
of_ok (Err e) ok p = absurd (cc)

module _ {S : Type 0} (g : Ghosts S) (v : Version) {T : Type 0} {P : Trees → T → Type 0} (a b : Held S) where
  pub one_read : {text : List ℕ} (p : Result (Vec Row Global) Error) (r : Result T Error) → IsOk p → StaysIdle a b → ShowsRows text [] (state g a) (state g b) p → Spares (state g a) (state g b) p
      → (HasCleanDisk (state g b) → Stands (schema_of v) (state g a).now → IfOk r (P (state g a).now.trees)) → ReadsFrom g v P a b r
  one_read p r ok idle first spared step = record {
    idle = idle;
    reads = record {
      spares = spared_as (state g a) (state g b) p r (λ _. ok) spared;
      same = λ clean. any_told _ r (of_ok p ok (first.same clean));
      found = step;
    };
  }

module _ {S : Type 0} (g : Ghosts S) (v : Version) {T : Type 0} {P : Trees → T → Type 0} (a b c : Held S) (p : Result (Vec Row Global) Error) (ok : IsOk p) (idle : StaysIdle a b) (spared : Spares (state g a) (state g b) p) where
  pub both_read : {text more : List ℕ} (q : Result (Vec Row Global) Error) (r : Result T Error) → IsOk q → StaysIdle b c → ShowsRows text [] (state g a) (state g b) p → ShowsRows more [] (state g b) (state g c) q → Spares (state g b) (state g c) q
      → (HasCleanDisk (state g b) → HasCleanDisk (state g c) → Stands (schema_of v) (state g a).now → (state g b).now ≡ (state g a).now → IfOk r (P (state g a).now.trees)) → ReadsFrom g v P a c r
  both_read q r fine also_idle first second also_spared step =
      let early : HasCleanDisk (state g c) → HasCleanDisk (state g b) = λ clean. omega (arith, clean, also_spared.survives.clean) in
      let stays : HasCleanDisk (state g c) → (state g b).now ≡ (state g a).now = λ clean. of_ok p ok (first.same (early clean)) in
      record {
        idle = λ rests. also_idle (idle rests);
        reads = record {
          spares = spared_as (state g a) (state g c) q r (λ _. fine) (spared_then (state g a) (state g b) p (state g c) q ok spared also_spared);
          same = λ clean. any_told _ r (of_ok q fine (second.same clean) ∙ stays clean);
          found = λ clean stands. step (early clean) clean stands (stays clean);
        };
      }

  -- the second was refused
  pub none_read : (q : Result (Vec Row Global) Error) (r : Result T Error) → IsErr r → StaysIdle b c → Spares (state g b) (state g c) q → ReadsFrom g v P a c r
  none_read q (Ok x) fails also_idle also_spared = absurd (cc)
  none_read q (Err e) fails also_idle also_spared = record {
    idle = λ rests. also_idle (idle rests);
    reads = record { spares = spared_as (state g a) (state g c) q (Err e) (λ is. absurd (cc)) (spared_then (state g a) (state g b) p (state g c) q ok spared also_spared); same = λ clean. tt; found = λ clean stands. tt };
  }

  -- the same tables, asked after a question
  pub read_after : {text : List ℕ} (r : Result T Error) → ShowsRows text [] (state g a) (state g b) p → ReadsFrom g v P b c r → ReadsFrom g v P a c r
  read_after r first h =
      let stays : HasCleanDisk (state g c) → (state g b).now ≡ (state g a).now = λ clean. of_ok p ok (first.same (omega (arith, clean, h.reads.spares.survives.clean))) in
      record {
        idle = λ rests. h.idle (idle rests);
        reads = record {
          spares = spared_then (state g a) (state g b) p (state g c) r ok spared h.reads.spares;
          same = λ clean. go r (stays clean) (h.reads.same clean);
          found = λ clean stands. subst (λ (d : Database). IfOk r (P d.trees)) (stays clean) (h.reads.found clean (subst (Stands (schema_of v)) (sym (stays clean)) stands));
        };
      }
    where
      go : (q : Result T Error) → (state g b).now ≡ (state g a).now → OnOk q ((state g c).now ≡ (state g b).now) → OnOk q ((state g c).now ≡ (state g a).now)
      go (Ok x) same h = h ∙ same
      go (Err e) same h = tt

-- the first was refused
pub not_read : {S T : Type 0} (g : Ghosts S) (v : Version) {P : Trees → T → Type 0} (a b : Held S) (p : Result (Vec Row Global) Error) (r : Result T Error) → IsErr r → StaysIdle a b → Spares (state g a) (state g b) p → ReadsFrom g v P a b r
not_read g v a b p (Ok x) fails idle spared = absurd (cc)
not_read g v a b p (Err e) fails idle spared = record { idle = idle; reads = record { spares = spared_as (state g a) (state g b) p (Err e) (λ is. absurd (cc)) spared; same = λ clean. tt; found = λ clean stands. tt } }
