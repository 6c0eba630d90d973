-- What is found of the spool's tables is what the format says of them.
use Rattle.std.proofs.Common.{◌≡◌, ℕ, Bool, true, false, ◌||◌, ◌&&◌, not, cond, List, [], ◌∷◌, Option, Some, None, codes, find, is_some, refl, sym, ap, subst, ◌∙◌}
use Rattle.std.specs.List.{AllByRecursion, list_all}
use Rattle.std.specs.Option.{option_map_or}
use Rattle.std.proofs.lemmas.Bool.{or_parts, and_parts, and_from, or_from}
use Rattle.uu_names.proofs.Basics.{cond_none}
use Rattle.sqlite.specs.Schema.{Schema}
use Rattle.sqlite.specs.Table.{Table}
use Rattle.sqlite_rules.proofs.ListLemmas.{some_has, some_from}
use Rattle.sqlite_schema.specs.Names.{same_name}
use Rattle.uu_schema.specs.Schema.{spool_schema, spool, systems, jobs, bodies, entries, links, taken}
use Rattle.uu_schema.specs.Earlier.{first_schema, old_systems, lines, ranges, old_jobs, pieces, old_entries, IsEarlierVersion}
use Rattle.uu_schema.specs.declared.version.Version.{Version}
use Rattle.uu_schema.specs.declared.version.Version.TheVariants.{First, Second, Third, Fourth}
use Rattle.uu_adopt.specs.declared.tables.Found.{Found}
use Rattle.uu_adopt.specs.declared.tables.Found.TheVariants.{Nothing, Spool, Other}
use Rattle.uu_adopt.specs.FoundTables.{system_column_names, old_system_column_names, line_column_names, range_column_names, job_column_names, body_column_names, piece_column_names, entry_column_names, wait_column_names, link_column_names, taken_column_names, table_of, has_column, has_table, has_jobs, has_old_systems, has_old_jobs, has_waits, has_links, is_whole, was_whole, is_name_used, is_link_name_used, is_old_name_used, is_any_name_used, added_with, tables_with, found_beside, found_of, HasNone, HasAllOf, HasUnversionedTables}
use Rattle.uu_adopt.specs.Format.{IsNameFree, HasColumn, HasTable, HasTableOf, HasNoName, HasTablesOf, TellsVersion, old_tables}

-- ---- a name

free_none : (name : List ℕ) (tables : List Table) → AllByRecursion (λ (table : Table). same_name table.name name ≡ false) tables → find (λ t. same_name t.name name) tables ≡ None
free_none name [] free = refl
free_none name (table ∷ tables) free = rw free.0 (free_none name tables free.1)

none_free : (name : List ℕ) (tables : List Table) → find (λ t. same_name t.name name) tables ≡ None → AllByRecursion (λ (table : Table). same_name table.name name ≡ false) tables
none_free name [] none = tt
none_free name (table ∷ tables) none = let first = cond_none (same_name table.name name) table (find (λ t. same_name t.name name) tables) none in (first.0, none_free name tables first.1)

untaken : (o : Option Table) → is_some o ≡ false → o ≡ None
untaken None is = refl
untaken (Some table) is = absurd (cc)

free : (schema : Schema) (name : List ℕ) → is_name_used schema name ≡ false → IsNameFree schema name
free schema name is = none_free name schema.tables (untaken (table_of schema name) is)

not_taken : (schema : Schema) (name : List ℕ) → IsNameFree schema name → is_name_used schema name ≡ false
not_taken schema name it = ap is_some (free_none name schema.tables it)

-- ---- a table

columns_there : (table : Table) (names : List (List ℕ)) → list_all (has_column table) names ≡ true → AllByRecursion (HasColumn table) names
columns_there table [] all = tt
columns_there table (name ∷ names) all = go (has_column table name) (list_all (has_column table) names) refl refl (columns_there table names) all
  where
    go : (a b : Bool) → has_column table name ≡ a → list_all (has_column table) names ≡ b → (list_all (has_column table) names ≡ true → AllByRecursion (HasColumn table) names) → (a && b) ≡ true
        → AllByRecursion (HasColumn table) (name ∷ names)
    go true true here later more both = (some_has (λ c. same_name c.name name) table.columns here, more later)
    go true false here later more both = absurd (cc)
    go false b here later more both = absurd (cc)

columns_found : (table : Table) (names : List (List ℕ)) → AllByRecursion (HasColumn table) names → list_all (has_column table) names ≡ true
columns_found table [] all = refl
columns_found table (name ∷ names) all =
    let here = some_from (λ c. same_name c.name name) table.columns all.0.0 all.0.1 all.0.2 in
    rw here (columns_found table names all.1)

table_there : (schema : Schema) (name : List ℕ) (columns : List (List ℕ)) → has_table schema name columns ≡ true → HasTable schema name columns
table_there schema name columns has = go (table_of schema name) refl has
  where
    go : (o : Option Table) → table_of schema name ≡ o → option_map_or (λ t. list_all (has_column t) columns) o false ≡ true → HasTable schema name columns
    go None is has = absurd (cc)
    go (Some table) is has = record { table = table; is_first = is; has_all = columns_there table columns has }

table_found : (schema : Schema) (name : List ℕ) (columns : List (List ℕ)) → HasTable schema name columns → has_table schema name columns ≡ true
table_found schema name columns it = ap (λ o. option_map_or (λ t. list_all (has_column t) columns) o false) it.is_first ∙ columns_found it.table columns it.has_all

lacks : (schema : Schema) (name : List ℕ) (columns : List (List ℕ)) → IsNameFree schema name → has_table schema name columns ≡ false
lacks schema name columns it = ap (λ o. option_map_or (λ t. list_all (has_column t) columns) o false) (free_none name schema.tables it)

-- ---- tests of several tables

three : (a b c : Bool) → (a && b && c) ≡ true → (a ≡ true) × (b ≡ true) × (c ≡ true)
three true true true is = (refl, refl, refl)
three true true false is = absurd (cc)
three true false c is = absurd (cc)
three false b c is = absurd (cc)

all_three : (a b c : Bool) → a ≡ true → b ≡ true → c ≡ true → (a && b && c) ≡ true
all_three true true true x y z = refl
all_three true true false x y z = absurd (cc)
all_three true false c x y z = absurd (cc)
all_three false b c x y z = absurd (cc)

four : (a b c d : Bool) → (a || b || c || d) ≡ false → (a ≡ false) × (b ≡ false) × (c ≡ false) × (d ≡ false)
four a b c d is =
    let last = or_parts (a || b || c) d is in
    let third = or_parts (a || b) c last.0 in
    let first = or_parts a b third.0 in
    (first.0, first.1, third.1, last.1)

none_of_four : (a b c d : Bool) → a ≡ false → b ≡ false → c ≡ false → d ≡ false → (a || b || c || d) ≡ false
none_of_four a b c d p q r s = or_from (a || b || c) d (or_from (a || b) c (or_from a b p q) r) s

-- ---- none of the tables

module _ (schema : Schema) where
  links_free : IsNameFree schema (codes "links") → IsNameFree schema (codes "taken") → is_link_name_used schema ≡ false
  links_free a b = or_from (is_name_used schema (codes "links")) (is_name_used schema (codes "taken")) (not_taken schema (codes "links") a) (not_taken schema (codes "taken") b)

  free_links : is_link_name_used schema ≡ false → IsNameFree schema (codes "links") × IsNameFree schema (codes "taken")
  free_links is = let it = or_parts (is_name_used schema (codes "links")) (is_name_used schema (codes "taken")) is in (free schema (codes "links") it.0, free schema (codes "taken") it.1)

  free_old : is_old_name_used schema ≡ false → AllByRecursion (λ (table : Table). IsNameFree schema table.name) old_tables
  free_old is =
      let it = four (is_name_used schema (codes "lines")) (is_name_used schema (codes "ranges")) (is_name_used schema (codes "pieces")) (is_name_used schema (codes "success_waits")) is in
      (free schema (codes "lines") it.0, (free schema (codes "ranges") it.1, (free schema (codes "pieces") it.2, (free schema (codes "success_waits") it.3, tt))))

  old_free : AllByRecursion (λ (table : Table). IsNameFree schema table.name) old_tables → is_old_name_used schema ≡ false
  old_free it =
      none_of_four (is_name_used schema (codes "lines")) (is_name_used schema (codes "ranges")) (is_name_used schema (codes "pieces")) (is_name_used schema (codes "success_waits"))
      (not_taken schema (codes "lines") it.0) (not_taken schema (codes "ranges") it.1.0) (not_taken schema (codes "pieces") it.1.1.0) (not_taken schema (codes "success_waits") it.1.1.1.0)

  names_free : table_of schema (codes "spool") ≡ None → is_any_name_used schema ≡ false → HasNoName schema
  names_free none is =
      let last = or_parts (is_name_used schema (codes "systems") || is_name_used schema (codes "jobs") || is_name_used schema (codes "bodies") || is_name_used schema (codes "entries") || is_link_name_used schema) (is_old_name_used schema) is in
      let those = or_parts (is_name_used schema (codes "systems") || is_name_used schema (codes "jobs") || is_name_used schema (codes "bodies") || is_name_used schema (codes "entries")) (is_link_name_used schema) last.0 in
      let it = four (is_name_used schema (codes "systems")) (is_name_used schema (codes "jobs")) (is_name_used schema (codes "bodies")) (is_name_used schema (codes "entries")) those.0 in
      let link = free_links those.1 in
      ((none_free (codes "spool") schema.tables none, (free schema (codes "systems") it.0, (free schema (codes "jobs") it.1, (free schema (codes "bodies") it.2, (free schema (codes "entries") it.3, (link.0, (link.1, tt))))))), free_old last.1)

  any_free : HasNoName schema → is_any_name_used schema ≡ false
  any_free it =
      or_from _ (is_old_name_used schema)
      (or_from _ (is_link_name_used schema)
      (none_of_four (is_name_used schema (codes "systems")) (is_name_used schema (codes "jobs")) (is_name_used schema (codes "bodies")) (is_name_used schema (codes "entries"))
      (not_taken schema (codes "systems") it.0.1.0) (not_taken schema (codes "jobs") it.0.1.1.0) (not_taken schema (codes "bodies") it.0.1.1.1.0) (not_taken schema (codes "entries") it.0.1.1.1.1.0))
      (links_free it.0.1.1.1.1.1.0 it.0.1.1.1.1.1.1.0))
      (old_free it.1)

  pub none_is : HasNone schema → HasNoName schema
  none_is none = go (table_of schema (codes "spool")) refl none
    where
      empty : (b : Bool) → is_any_name_used schema ≡ b → table_of schema (codes "spool") ≡ None → cond b Other Nothing ≡ Nothing → HasNoName schema
      empty false is none none_found = names_free none is
      empty true is none none_found = absurd (cc)

      some : (b : Bool) (tables : Option Version) → cond b (Spool tables) Other ≡ Nothing → ⊥
      some true tables is = cc
      some false tables is = cc

      go : (o : Option Table) → table_of schema (codes "spool") ≡ o → found_beside schema o ≡ Nothing → HasNoName schema
      go None is none_found = empty (is_any_name_used schema) refl is none_found
      go (Some table) is none_found = absurd (some (has_column table (codes "id") && has_column table (codes "version")) (tables_with schema table) none_found)

  pub is_none : HasNoName schema → HasNone schema
  is_none it = ap (found_beside schema) (free_none (codes "spool") schema.tables it.0.0) ∙ ap (λ b. cond b Other Nothing) (any_free it)

  -- ---- all of the tables of a version

  -- what the table `spool` says
  tells : (it : TellsVersion schema) → found_of schema ≡ Spool (tables_with schema it.table)
  tells it =
      let here = and_parts (has_column it.table (codes "id")) (list_all (has_column it.table) (codes "version" ∷ [])) (columns_found it.table (codes "id" ∷ codes "version" ∷ []) it.has_all) in
      let next = and_parts (has_column it.table (codes "version")) true here.1 in
      ap (found_beside schema) it.is_first ∙ ap (λ b. cond b (Spool (tables_with schema it.table)) Other) (and_from (has_column it.table (codes "id")) (has_column it.table (codes "version")) here.0 next.0)

  abbrev told : (table : Table) → table_of schema (codes "spool") ≡ Some table → has_column table (codes "id") ≡ true → has_column table (codes "version") ≡ true → TellsVersion schema
  told table first id version = record {
    table = table;
    is_first = first;
    has_all = columns_there table (codes "id" ∷ codes "version" ∷ [])
        (and_from (has_column table (codes "id")) (list_all (has_column table) (codes "version" ∷ [])) id (and_from (has_column table (codes "version")) true version refl));
  }

  pub record FoundWith (tables : Option Version) : Type 0 where
    pub it : TellsVersion schema
    pub with_tables : tables_with schema it.table ≡ tables

  with_spool : (tables : Option Version) → found_of schema ≡ Spool tables → FoundWith tables
  with_spool tables found = go (table_of schema (codes "spool")) refl found
    where
      none : (b : Bool) → cond b Other Nothing ≡ Spool tables → ⊥
      none true is = cc
      none false is = cc

      same : (given : Option Version) → Spool given ≡ Spool tables → given ≡ tables
      same given is = cc

      some : (table : Table) → table_of schema (codes "spool") ≡ Some table → (a b : Bool) → has_column table (codes "id") ≡ a → has_column table (codes "version") ≡ b
          → cond (a && b) (Spool (tables_with schema table)) Other ≡ Spool tables → FoundWith tables
      some table first true true id version found = record { it = told table first id version; with_tables = same (tables_with schema table) found }
      some table first true false id version found = absurd (cc)
      some table first false b id version found = absurd (cc)

      go : (o : Option Table) → table_of schema (codes "spool") ≡ o → found_beside schema o ≡ Spool tables → FoundWith tables
      go None is found = absurd (none (is_any_name_used schema) found)
      go (Some table) is found = some table is (has_column table (codes "id")) (has_column table (codes "version")) refl refl found

  spool_there : (it : TellsVersion schema) → has_column it.table (codes "next") ≡ true → HasTableOf schema spool
  spool_there it next = record { table = it.table; is_first = it.is_first; has_all = (it.has_all.0, (it.has_all.1.0, (some_has (λ c. same_name c.name (codes "next")) it.table.columns next, tt))) }

  next_there : (it : HasTableOf schema spool) → has_column it.table (codes "next") ≡ true
  next_there it = let next = it.has_all.1.1.0 in some_from (λ c. same_name c.name (codes "next")) it.table.columns next.0 next.1 next.2

  abbrev told_by : HasTableOf schema spool → TellsVersion schema
  told_by it = record { table = it.table; is_first = it.is_first; has_all = (it.has_all.0, (it.has_all.1.0, tt)) }

  links_there : has_links schema ≡ true → HasTableOf schema links × HasTableOf schema taken
  links_there is = let it = and_parts (has_table schema (codes "links") link_column_names) (has_table schema (codes "taken") taken_column_names) is in (table_there schema (codes "links") link_column_names it.0, table_there schema (codes "taken") taken_column_names it.1)

  links_found : HasTableOf schema links → HasTableOf schema taken → has_links schema ≡ true
  links_found a b = and_from (has_table schema (codes "links") link_column_names) (has_table schema (codes "taken") taken_column_names) (table_found schema (codes "links") link_column_names a) (table_found schema (codes "taken") taken_column_names b)

  no_links : IsNameFree schema (codes "links") → has_links schema ≡ false
  no_links it = ap (λ b. b && has_table schema (codes "taken") taken_column_names) (lacks schema (codes "links") link_column_names it)

  -- ---- those of version 4

  whole_there : (it : TellsVersion schema) → has_column it.table (codes "next") ≡ true → is_whole schema ≡ true → AllByRecursion (HasTableOf schema) spool_schema.tables
  whole_there it next whole =
      let all = three (has_table schema (codes "systems") system_column_names) (has_jobs schema) (has_links schema) whole in
      let a = three (has_table schema (codes "jobs") job_column_names) (has_table schema (codes "bodies") body_column_names) (has_table schema (codes "entries") entry_column_names) all.1 in
      let b = links_there all.2 in
      (spool_there it next, (table_there schema (codes "systems") system_column_names all.0, (table_there schema (codes "jobs") job_column_names a.0, (table_there schema (codes "bodies") body_column_names a.1, (table_there schema (codes "entries") entry_column_names a.2, (b.0, (b.1, tt)))))))

  whole_found : HasTableOf schema systems → HasTableOf schema jobs → HasTableOf schema bodies → HasTableOf schema entries → HasTableOf schema links → HasTableOf schema taken → is_whole schema ≡ true
  whole_found a b c d e f =
      all_three (has_table schema (codes "systems") system_column_names) (has_jobs schema) (has_links schema) (table_found schema (codes "systems") system_column_names a)
      (all_three (has_table schema (codes "jobs") job_column_names) (has_table schema (codes "bodies") body_column_names) (has_table schema (codes "entries") entry_column_names)
      (table_found schema (codes "jobs") job_column_names b) (table_found schema (codes "bodies") body_column_names c) (table_found schema (codes "entries") entry_column_names d))
      (links_found e f)

  without_bodies : (s j b e l : Bool) → b ≡ false → (s && (j && b && e) && l) ≡ false
  without_bodies true true false e l is = refl
  without_bodies true false false e l is = refl
  without_bodies false j false e l is = refl
  without_bodies s j true e l is = absurd (cc)

  not_whole : IsNameFree schema (codes "bodies") → is_whole schema ≡ false
  not_whole it =
      without_bodies (has_table schema (codes "systems") system_column_names) (has_table schema (codes "jobs") job_column_names) (has_table schema (codes "bodies") body_column_names) (has_table schema (codes "entries") entry_column_names) (has_links schema)
      (lacks schema (codes "bodies") body_column_names it)

  -- ---- those of earlier versions

  first_there : (it : TellsVersion schema) → has_column it.table (codes "next") ≡ true → was_whole schema ≡ true → AllByRecursion (HasTableOf schema) first_schema.tables
  first_there it next whole =
      let all = and_parts (has_old_systems schema) (has_old_jobs schema) whole in
      let a = three (has_table schema (codes "systems") old_system_column_names) (has_table schema (codes "lines") line_column_names) (has_table schema (codes "ranges") range_column_names) all.0 in
      let b = three (has_table schema (codes "jobs") job_column_names) (has_table schema (codes "pieces") piece_column_names) (has_table schema (codes "entries") entry_column_names) all.1 in
      (spool_there it next, (table_there schema (codes "systems") old_system_column_names a.0, (table_there schema (codes "lines") line_column_names a.1, (table_there schema (codes "ranges") range_column_names a.2, (table_there schema (codes "jobs") job_column_names b.0, (table_there schema (codes "pieces") piece_column_names b.1, (table_there schema (codes "entries") entry_column_names b.2, tt)))))))

  first_found : HasTableOf schema old_systems → HasTableOf schema lines → HasTableOf schema ranges → HasTableOf schema old_jobs → HasTableOf schema pieces → HasTableOf schema old_entries → was_whole schema ≡ true
  first_found a b c d e f =
      and_from (has_old_systems schema) (has_old_jobs schema)
      (all_three (has_table schema (codes "systems") old_system_column_names) (has_table schema (codes "lines") line_column_names) (has_table schema (codes "ranges") range_column_names)
      (table_found schema (codes "systems") old_system_column_names a) (table_found schema (codes "lines") line_column_names b) (table_found schema (codes "ranges") range_column_names c))
      (all_three (has_table schema (codes "jobs") job_column_names) (has_table schema (codes "pieces") piece_column_names) (has_table schema (codes "entries") entry_column_names)
      (table_found schema (codes "jobs") job_column_names d) (table_found schema (codes "pieces") piece_column_names e) (table_found schema (codes "entries") entry_column_names f))

  -- ---- which version is chosen

  abbrev added : Bool → Bool → Bool → Bool → Option Version
  added waits links named linked = cond waits (cond links (Some Third) (cond linked None (Some Second))) (cond (named || linked) None (Some First))

  abbrev chosen : Bool → Bool → Bool → Bool → Bool → Option Version → Option Version
  chosen next whole old was named rest = cond next (cond whole (cond old None (Some Fourth)) (cond (was && not named) rest None)) None

  not_fourth : (h l t n : Bool) → added h l t n ≡ Some Fourth → ⊥
  not_fourth true true t n is = cc
  not_fourth true false t true is = cc
  not_fourth true false t false is = cc
  not_fourth false l true n is = cc
  not_fourth false l false true is = cc
  not_fourth false l false false is = cc

  third_added : (h l t n : Bool) → added h l t n ≡ Some Third → (h ≡ true) × (l ≡ true)
  third_added true true t n is = (refl, refl)
  third_added true false t true is = absurd (cc)
  third_added true false t false is = absurd (let same : Second ≡ Third = cc in cc)
  third_added false l true n is = absurd (cc)
  third_added false l false true is = absurd (cc)
  third_added false l false false is = absurd (let same : First ≡ Third = cc in cc)

  second_added : (h l t n : Bool) → added h l t n ≡ Some Second → (h ≡ true) × (n ≡ false)
  second_added true true t n is = absurd (let same : Third ≡ Second = cc in cc)
  second_added true false t true is = absurd (cc)
  second_added true false t false is = (refl, refl)
  second_added false l true n is = absurd (cc)
  second_added false l false true is = absurd (cc)
  second_added false l false false is = absurd (let same : First ≡ Second = cc in cc)

  first_added : (h l t n : Bool) → added h l t n ≡ Some First → (t ≡ false) × (n ≡ false)
  first_added true true t n is = absurd (let same : Third ≡ First = cc in cc)
  first_added true false t true is = absurd (cc)
  first_added true false t false is = absurd (let same : Second ≡ First = cc in cc)
  first_added false l true n is = absurd (cc)
  first_added false l false true is = absurd (cc)
  first_added false l false false is = (refl, refl)

  earlier_chosen : (v : Version) → IsEarlierVersion v → (n w o b m : Bool) (rest : Option Version) → chosen n w o b m rest ≡ Some v → (n ≡ true) × (b ≡ true) × (m ≡ false) × (rest ≡ Some v)
  earlier_chosen v earlier true true true b m rest is = absurd (cc)
  earlier_chosen v earlier true true false b m rest is = absurd (let same : Fourth ≡ v = cc in subst IsEarlierVersion (sym same) earlier)
  earlier_chosen v earlier true false o true false rest is = (refl, refl, refl, is)
  earlier_chosen v earlier true false o true true rest is = absurd (cc)
  earlier_chosen v earlier true false o false m rest is = absurd (cc)
  earlier_chosen v earlier false w o b m rest is = absurd (cc)

  fourth_chosen : (n w o b m : Bool) (rest : Option Version) → (rest ≡ Some Fourth → ⊥) → chosen n w o b m rest ≡ Some Fourth → (n ≡ true) × (w ≡ true) × (o ≡ false)
  fourth_chosen true true true b m rest never is = absurd (cc)
  fourth_chosen true true false b m rest never is = (refl, refl, refl)
  fourth_chosen true false o true false rest never is = absurd (never is)
  fourth_chosen true false o true true rest never is = absurd (cc)
  fourth_chosen true false o false m rest never is = absurd (cc)
  fourth_chosen false w o b m rest never is = absurd (cc)

  choose_earlier : (n w o b m : Bool) (rest : Option Version) → n ≡ true → w ≡ false → b ≡ true → m ≡ false → chosen n w o b m rest ≡ rest
  choose_earlier n w o b m rest next whole was named = rw (next, whole, was, named) refl

  choose_fourth : (n w o b m : Bool) (rest : Option Version) → n ≡ true → w ≡ true → o ≡ false → chosen n w o b m rest ≡ Some Fourth
  choose_fourth n w o b m rest next whole old = rw (next, whole, old) refl

  choose_third : (h l t n : Bool) → h ≡ true → l ≡ true → added h l t n ≡ Some Third
  choose_third h l t n waits links = rw (waits, links) refl

  choose_second : (h l t n : Bool) → h ≡ true → l ≡ false → n ≡ false → added h l t n ≡ Some Second
  choose_second h l t n waits links linked = rw (waits, links, linked) refl

  choose_first : (h l t n : Bool) → h ≡ false → t ≡ false → n ≡ false → added h l t n ≡ Some First
  choose_first h l t n waits named linked = rw (waits, named, linked) refl

  -- ---- all of the tables of a version

  pub record Earlier (v : Version) : Type 0 where
    pub first : AllByRecursion (HasTableOf schema) first_schema.tables
    pub none : IsNameFree schema (codes "bodies")
    pub rest : added (has_waits schema) (has_links schema) (is_name_used schema (codes "success_waits")) (is_link_name_used schema) ≡ Some v

  found_earlier : (v : Version) → IsEarlierVersion v → HasAllOf v schema → Earlier v
  found_earlier v earlier all =
      let found = with_spool (Some v) all in
      let is = earlier_chosen v earlier (has_column found.it.table (codes "next")) (is_whole schema) (is_old_name_used schema) (was_whole schema) (is_name_used schema (codes "bodies")) (added_with schema) found.with_tables in
      record { first = first_there found.it is.0 is.1; none = free schema (codes "bodies") is.2; rest = is.3 }

  earlier_found : (v : Version) → AllByRecursion (HasTableOf schema) first_schema.tables → IsNameFree schema (codes "bodies") → added (has_waits schema) (has_links schema) (is_name_used schema (codes "success_waits")) (is_link_name_used schema) ≡ Some v → HasAllOf v schema
  earlier_found v it none is =
      tells (told_by it.0)
      ∙ ap Spool (choose_earlier (has_column it.0.table (codes "next")) (is_whole schema) (is_old_name_used schema) (was_whole schema) (is_name_used schema (codes "bodies")) (added_with schema) (next_there it.0) (not_whole none)
      (first_found it.1.0 it.1.1.0 it.1.1.1.0 it.1.1.1.1.0 it.1.1.1.1.1.0 it.1.1.1.1.1.1.0) (not_taken schema (codes "bodies") none) ∙ is)

  pub all_are : (v : Version) → HasAllOf v schema → HasTablesOf v schema
  all_are First all =
      let it = found_earlier First tt all in
      let is = first_added (has_waits schema) (has_links schema) (is_name_used schema (codes "success_waits")) (is_link_name_used schema) it.rest in
      let rest = free_links is.1 in
      record { all = it.first; none_other = (it.none, (free schema (codes "success_waits") is.0, (rest.0, (rest.1, tt)))) }
  all_are Second all =
      let it = found_earlier Second tt all in
      let is = second_added (has_waits schema) (has_links schema) (is_name_used schema (codes "success_waits")) (is_link_name_used schema) it.rest in
      let first = it.first in
      let rest = free_links is.1 in
      record { all = (first.0, (first.1.0, (first.1.1.0, (first.1.1.1.0, (first.1.1.1.1.0, (first.1.1.1.1.1.0, (first.1.1.1.1.1.1.0, (table_there schema (codes "success_waits") wait_column_names is.0, tt)))))))); none_other = (it.none, (rest.0, (rest.1, tt))) }
  all_are Third all =
      let it = found_earlier Third tt all in
      let is = third_added (has_waits schema) (has_links schema) (is_name_used schema (codes "success_waits")) (is_link_name_used schema) it.rest in
      let first = it.first in
      let rest = links_there is.1 in
      record { all = (first.0, (first.1.0, (first.1.1.0, (first.1.1.1.0, (first.1.1.1.1.0, (first.1.1.1.1.1.0, (first.1.1.1.1.1.1.0, (table_there schema (codes "success_waits") wait_column_names is.0, (rest.0, (rest.1, tt)))))))))); none_other = (it.none, tt) }
  all_are Fourth all =
      let found = with_spool (Some Fourth) all in
      let is = fourth_chosen (has_column found.it.table (codes "next")) (is_whole schema) (is_old_name_used schema) (was_whole schema) (is_name_used schema (codes "bodies")) (added_with schema)
      (not_fourth (has_waits schema) (has_links schema) (is_name_used schema (codes "success_waits")) (is_link_name_used schema)) found.with_tables in
      record { all = whole_there found.it is.0 is.1; none_other = free_old is.2 }

  abbrev early : {A B C D E F G Z : Type 0} → A × (B × (C × (D × (E × (F × (G × Z)))))) → A × (B × (C × (D × (E × (F × (G × Unit {0}))))))
  early it = (it.0, (it.1.0, (it.1.1.0, (it.1.1.1.0, (it.1.1.1.1.0, (it.1.1.1.1.1.0, (it.1.1.1.1.1.1.0, tt)))))))

  pub are_all : (v : Version) → HasTablesOf v schema → HasAllOf v schema
  are_all First it =
      earlier_found First it.all it.none_other.0
      (choose_first (has_waits schema) (has_links schema) (is_name_used schema (codes "success_waits")) (is_link_name_used schema)
      (lacks schema (codes "success_waits") wait_column_names it.none_other.1.0) (not_taken schema (codes "success_waits") it.none_other.1.0) (links_free it.none_other.1.1.0 it.none_other.1.1.1.0))
  are_all Second it =
      earlier_found Second (early it.all) it.none_other.0
      (choose_second (has_waits schema) (has_links schema) (is_name_used schema (codes "success_waits")) (is_link_name_used schema)
      (table_found schema (codes "success_waits") wait_column_names it.all.1.1.1.1.1.1.1.0) (no_links it.none_other.1.0) (links_free it.none_other.1.0 it.none_other.1.1.0))
  are_all Third it =
      earlier_found Third (early it.all) it.none_other.0
      (choose_third (has_waits schema) (has_links schema) (is_name_used schema (codes "success_waits")) (is_link_name_used schema)
      (table_found schema (codes "success_waits") wait_column_names it.all.1.1.1.1.1.1.1.0) (links_found it.all.1.1.1.1.1.1.1.1.0 it.all.1.1.1.1.1.1.1.1.1.0))
  are_all Fourth it =
      tells (told_by it.all.0)
      ∙ ap Spool (choose_fourth (has_column it.all.0.table (codes "next")) (is_whole schema) (is_old_name_used schema) (was_whole schema) (is_name_used schema (codes "bodies")) (added_with schema) (next_there it.all.0)
      (whole_found it.all.1.0 it.all.1.1.0 it.all.1.1.1.0 it.all.1.1.1.1.0 it.all.1.1.1.1.1.0 it.all.1.1.1.1.1.1.0) (old_free it.none_other))

  -- ---- something else

  none_or_other : found_of schema ≡ Nothing → found_of schema ≡ Other → ⊥
  none_or_other none other = cc

  some_or_other : (tables : Option Version) → found_of schema ≡ Spool tables → found_of schema ≡ Other → ⊥
  some_or_other tables some other = cc

  pub other_is : HasUnversionedTables schema → (¬ HasNoName schema) × (¬ TellsVersion schema)
  other_is other = ((λ none. none_or_other (is_none none) other), (λ it. some_or_other (tables_with schema it.table) (tells it) other))

  pub is_other : ¬ HasNoName schema → ¬ TellsVersion schema → HasUnversionedTables schema
  is_other named untold = go (found_of schema) refl
    where
      go : (found : Found) → found_of schema ≡ found → found_of schema ≡ Other
      go Nothing is = absurd (named (none_is is))
      go (Spool tables) is = absurd (untold (with_spool tables is).it)
      go Other is = is
