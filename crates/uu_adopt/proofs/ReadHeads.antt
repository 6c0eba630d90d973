-- What the question on the heads of the jobs says of their table, both ways. A job's number is its
-- rowid.
use Rattle.std.proofs.Common.{◌≡◌, ◌<◌, true, List, [], ◌∷◌, map, refl, sym, ap, subst, ◌∙◌, arith, Less, Some, None}
use Rattle.std.specs.List.Sorted.{IsPermutation}
use Rattle.std.proofs.lemmas.List.Sorted.{IsPermutation-sym}
use Rattle.uu_names.proofs.Basics.{filter_all}
use Rattle.sqlite.specs.Order.{Row}
use Rattle.sqlite.specs.Tree.{IsAscending}
use Rattle.sqlite.specs.Term.{eval_all}
use Rattle.sqlite.specs.State as db
use Rattle.sqlite_keyed.proofs.ListLemmas.{map_same, ascending_weaker}
use Rattle.uu_schema.specs.Steps.{Stands}
use Rattle.uu_schema.proofs.Rows.{all_stay}
use Rattle.uu_schema.proofs.Answers.{answer_of, answer_moved}
use Rattle.uu_core.specs.declared.job.JobHead.{JobHead}
use Rattle.uu_schema.specs.declared.version.Version.{Version}
use Rattle.uu_schema.specs.Keyed.{columns}
use Rattle.uu_schema.specs.Held.{job_places}
use Rattle.uu_schema.specs.Cells.{job_cells}
use Rattle.uu_schema.specs.Earlier.{schema_of}
use Rattle.uu_rows.specs.Readable.{IsTypedHead}
use Rattle.uu_tables.specs.Order.{head_cmp}
use Rattle.uu_rows.proofs.Meanings.{at_places, by_places}
use Rattle.uu_rows.proofs.Back.{same_all, head_back, head_returns}
use Rattle.uu_rows.proofs.InTables.{bare, heads_are}
use Rattle.uu_adopt.proofs.Texts.{heads_text}
use Rattle.uu_adopt.specs.Reading.{AnswersJobs, AreRowids, jobs_at}
use Rattle.uu_adopt.proofs.Meanings.{heads_means}
use Rattle.uu_adopt.proofs.Rowids.{ids_apart, keys_rise}
use Rattle.uu_adopt.proofs.TwoQuestions.{at_columns}

module _ (v : Version) (a b : db.State) (rows : List Row) (stands : Stands (schema_of v) a.now) (h : db.Shown heads_text [] a b rows) where
  abbrev table : List Row
  table = a.now.trees (jobs_at v)

  moved : IsPermutation (map (columns job_places) table) rows
  moved =
      subst (λ l. IsPermutation l rows) (map_same _ (columns job_places) (at_columns job_places []) table)
      (subst (λ l. IsPermutation (map (λ r. eval_all (at_places job_places) ([] ∷ r ∷ [])) l) rows) (sym (all_stay table))
      (answer_moved (jobs_at v) [] (at_places job_places) (by_places (0 ∷ [])) a.now.trees [] rows (bare a.now.trees (jobs_at v)) (answer_of (schema_of v) heads_text _ _ [] a b (heads_means v) stands.schema rows h)))

  rows_only : (xs : List JobHead) → IsPermutation (map job_cells xs) (map (columns job_places) table) → IsAscending (λ x y. head_cmp x y ≡ Less) xs → rows ≡ map job_cells xs
  rows_only xs held rise = heads_are (schema_of v) a b rows stands.schema heads_text _ [] [] h (jobs_at v) (heads_means v) (λ r. refl) xs held rise (λ x. true) (λ x. refl) ∙ ap (map job_cells) (filter_all xs)

  number_less : (x y : JobHead) → head_cmp x y ≡ Less → x.number < y.number
  number_less x y h = grind (arith)

  -- what is read of the answer is the table's
  pub finds_heads : AnswersJobs v a.now.trees rows
  finds_heads None none = record {
    all = tt;
    only = λ xs good keyed.
        let is = rows_only xs keyed.same good.rise in
        none xs (record { rows_are = is; readable = good.readable; rowids = subst AreRowids (sym is) (keys_rise job_cells (λ (x : JobHead). x.number) (λ x. refl) xs (ascending_weaker _ (λ (x y : JobHead). x.number < y.number) number_less xs good.rise)) });
  }
  finds_heads (Some all) it = record {
    all = (let apart = ids_apart (columns job_places) (λ r. refl) table rows moved it.rowids in
        (record { same = IsPermutation-sym _ _ (subst (IsPermutation (map (columns job_places) table)) it.rows_are moved); numbered = apart.0; once = apart.1 }, it.readable));
    only = λ xs good keyed. same_all job_cells head_back IsTypedHead head_returns all.items xs it.readable good.readable (sym it.rows_are ∙ rows_only xs keyed.same good.rise);
  }
