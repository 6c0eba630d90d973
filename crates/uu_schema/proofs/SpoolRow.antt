-- The row of `spool` in tables without rows.
use Rattle.std.proofs.Common.{◌≡◌, ◌≢◌, ℕ, pos, List, [], ◌∷◌, true, Ok, refl, ap, subst, ◌∙◌}
use Rattle.std.specs.Prelude.{nat_lt}
use Rattle.sqlite.specs.declared.types.Value.TheVariants.{Null, Int}
use Rattle.sqlite.specs.Term.{Term, lit}
use Rattle.sqlite.specs.Source.TheVariants.{Values}
use Rattle.sqlite.specs.Command.TheVariants.{Insert}
use Rattle.sqlite.specs.Tree.{put_row}
use Rattle.sqlite.specs.Edit.{Edit, Applies}
use Rattle.sqlite_schema.specs.declared.schema.Keys.TheVariants.{Enforced}
use Rattle.sqlite_tied.specs.Compute.{everything}
use Rattle.sqlite.specs.Listing.{understood}
use Rattle.sqlite.specs.State.{State, Executes}
use Rattle.sqlite.proofs.Callers.{IsPlain, command_of, statement_of, runs_as}
use Rattle.uu_schema.specs.Steps.{Stands}
use Rattle.uu_schema.specs.Schema.{spool_schema, spool}
use Rattle.uu_schema.specs.Made.{spool_row, BeginsEmpty}
use Rattle.uu_schema.proofs.Rows.{cast_int, cast_null}
use Rattle.uu_schema.proofs.Writes.{insert_ran, insert_applies, inserted}
use Rattle.uu_schema.proofs.Texts.{insert_spool}

abbrev terms : List Term
terms = lit (Int (pos 1)) ∷ lit Null ∷ lit (Int (pos 4)) ∷ lit (Int (pos 1)) ∷ []

insert_is : command_of (understood spool_schema insert_spool) ≡ Insert 0 (Values terms 4)
unfolding understood everything
insert_is = refl

insert_plain : IsPlain (understood spool_schema insert_spool)
unfolding understood everything
insert_plain = (refl, refl)

-- a tree that isn't the first
later : (n : ℕ) → nat_lt 0 n ≡ true → n ≢ 0
later n h e = let z : nat_lt 0 0 ≡ true = subst (λ k. nat_lt 0 k ≡ true) e h in cc

pub spool_begun : (old new : State) (count : ℕ) → Stands spool_schema old.now → Executes insert_spool [] old new (Ok count) → Stands spool_schema new.now × BeginsEmpty old.now.trees new.now.trees
spool_begun old new count stands h =
    let from = Values terms 4 in
    let w = runs_as insert_spool [] old new spool_schema stands.schema (Insert 0 from) insert_is insert_plain count h in
    let text = statement_of insert_spool (understood spool_schema insert_spool) in
    let ran = insert_ran old new spool_schema stands.schema 0 spool refl text [] count from w in
    let edit : Edit = record { table = spool; gone = []; news = spool_row 1 ∷ [] } in
    let is : inserted old new spool_schema stands.schema 0 spool refl text [] count terms 4 ≡ edit = rw (cast_null, cast_int (pos 1), cast_int (pos 4)) in
    let a = subst (λ (edit : Edit). Applies spool_schema Enforced old.now.trees edit new.now.trees) is (insert_applies old new spool_schema stands.schema 0 spool refl text [] count terms 4 ran) in
    let k = a.tables in (
      ran.stands,
      λ none. record {
        row = a.rows ∙ ap (put_row (spool_row 1)) none.0;
        others = (
          k.1.0 (later 1 refl) ∙ none.1.0,
          (k.1.1.0 (later 3 refl) ∙ none.1.1.0, (k.1.1.1.0 (later 4 refl) ∙ none.1.1.1.0, (k.1.1.1.1.0 (later 5 refl) ∙ none.1.1.1.1.0, (k.1.1.1.1.1.0 (later 7 refl) ∙ none.1.1.1.1.1.0, (k.1.1.1.1.1.1.0 (later 9 refl) ∙ none.1.1.1.1.1.1.0, tt))))),
        );
      },
    )
