-- Systems, their links, and what was taken by these.
use Rattle.std.proofs.Common.{◌≡◌, ℕ, zero, suc, ◌≤◌, ◌<◌, Bool, true, false, not, cond, ◌==◌, List, [], ◌∷◌, ◌++◌, map, find, All, IsTrue, Some, unwrap_or, inl, inr, refl, sym, ap, subst, ◌∙◌, arith}
use Rattle.std.specs.Prelude.{◌||◌, nat_le}
use Rattle.std.specs.List.{AllByRecursion, flat_map, list_all, list_any}
use Rattle.std.proofs.lemmas.Bool.{and_parts, cases_Bool, leb-true, le-leb, ltb-true, lt-ltb, eqb-true, or_right}
use Rattle.std.proofs.lemmas.Cmp.{nat_list_cmp_total}
use Rattle.std.proofs.lemmas.List.Elements.{recursion_from_All, All-from_recursion}
use Rattle.uu_names.proofs.Basics.{later_other, earlier_other, less_is, text_from, text_to, pairs_by_recursion, all_weaker, all_mapped, all_append, AllPairsByRecursion, all_unit, list_all_both}
use Rattle.uu_core.specs.declared.custody.Taken.{Taken}
use Rattle.uu_core.specs.declared.system.SystemRow.{SystemRow}
use Rattle.uu_core.specs.Marks.{marks_end}
use Rattle.uu_core.specs.State.{Link, IsLink, ComesBefore, same_text, is_link, new_link, says_nothing, numbers_end}
use Rattle.uu_tables.specs.declared.earlier.BareSystem.{BareSystem}
use Rattle.uu_tables.specs.declared.rows.LinkColumns.{LinkColumns}
use Rattle.uu_tables.specs.declared.rows.TakenColumns.{TakenColumns}
use Rattle.uu_tables.specs.Earlier.{bare_system}
use Rattle.uu_tables.specs.Tables.{links_from, links_of, taken_columns, taken_rows}
use Rattle.uu_tables.proofs.OrderLemmas.{found}
use Rattle.uu_tables.proofs.InsertLemmas.{found_none}
use Rattle.uu_tables.proofs.OrderLemmas.{none_passes}
use Rattle.uu_tables.proofs.SystemLemmas.{each_link}
use Rattle.uu_tables.proofs.RowLemmas.{each_made}
use Rattle.uu_check.specs.Walk.{walk, rises}
use Rattle.uu_check.specs.Tests.{owns_link, fits_link, owns_taken, fits_taken, taken_before, is_given, may_be_asked, are_links, system_before}
use Rattle.uu_check.proofs.Walks.{Item, items_of, walked, Apart, is_nil, same_items}
use Rattle.uu_check.proofs.Lists.{pairs_by_place, weaker_pairs, both, unmapped_all, split_all, unflat, flat_pairs, mapped_pairs, risen, does_rise, Across, all_flat_of}

-- ---- lists

module _ {X : Type 0} (p : X → Bool) where
  each_from : (xs : List X) → list_all p xs ≡ true → AllByRecursion (λ x. p x ≡ true) xs
  each_from [] h = tt
  each_from (x ∷ xs) h = let it = and_parts (p x) (list_all p xs) h in (it.0, each_from xs it.1)

  each_to : (xs : List X) → AllByRecursion (λ x. p x ≡ true) xs → list_all p xs ≡ true
  each_to [] h = refl
  each_to (x ∷ xs) h = rw (h.0, each_to xs h.1) refl

-- ---- the rows of a system in the two tables

-- the row of a system, and the number of its link
pub record Below : Type 0 where
  pub columns : BareSystem
  pub below : ℕ

abbrev pub below_head : Below → BareSystem
below_head b = b.columns

abbrev pub below_rows : Below → List LinkColumns
below_rows b = links_from b.columns.name b.below

abbrev pub IsBelow : Below → Type 0
IsBelow b = b.below ≤ numbers_end

-- the row of a system, and what was taken from it
pub record Took : Type 0 where
  pub columns : BareSystem
  pub taken : List Taken

abbrev pub took_head : Took → BareSystem
took_head t = t.columns

abbrev pub took_rows : Took → List TakenColumns
took_rows t = map (taken_columns t.columns.name) t.taken

abbrev pub Lower : Taken → Taken → Type 0
Lower a b = a.number < b.number

abbrev pub IsTook : Took → Type 0
IsTook t = AllPairsByRecursion Lower t.taken

one_row : (s : BareSystem) (l : LinkColumns) (n : ℕ) → l.below ≡ n → 1 ≤ n → s.name ≡ l.system → links_from s.name n ≡ l ∷ []
one_row s l zero is some name = absurd (omega (arith, some))
one_row s l (suc n) is some name = λ i. record { system = name i; below = sym is i } ∷ []

pub below_of_rows : (s : BareSystem) (ls : List LinkColumns) → AllByRecursion (λ l. owns_link s l ≡ true) ls → fits_link s ls ≡ true → Item owns_link fits_link below_head below_rows IsBelow s ls
below_of_rows s [] own test = record { item = record { columns = s; below = 0 }; good = omega arith; row = refl; children = refl }
below_of_rows s (l ∷ []) own test =
    let parts = and_parts _ _ test in
    record { item = record { columns = s; below = l.below }; good = leb-true _ _ parts.1; row = refl; children = one_row s l l.below refl (leb-true _ _ parts.0) (text_from _ _ own.0) }
below_of_rows s (l ∷ other ∷ more) own test = absurd (cc)

abbrev taken_in : TakenColumns → Taken
taken_in t = t.taken

rows_back : (s : BareSystem) (ts : List TakenColumns) → AllByRecursion (λ t. owns_taken s t ≡ true) ts → map (taken_columns s.name) (map taken_in ts) ≡ ts
rows_back s [] own = refl
rows_back s (t ∷ ts) own = λ i. record { system = text_from s.name t.system own.0 i; taken = t.taken } ∷ rows_back s ts own.1 i

took_of_rows : (s : BareSystem) (ts : List TakenColumns) → AllByRecursion (λ t. owns_taken s t ≡ true) ts → fits_taken s ts ≡ true → Item owns_taken fits_taken took_head took_rows IsTook s ts
took_of_rows s ts own test = record {
  item = record { columns = s; taken = map taken_in ts };
  good = risen (taken_columns s.name) taken_before Lower (λ x y. ltb-true _ _) (λ x y z p q. omega (arith, p, q)) (map taken_in ts) (ap (rises taken_before) (rows_back s ts own) ∙ test);
  row = refl;
  children = rows_back s ts own;
}

-- ---- links that say nothing have no rows

abbrev said : Link → List Link
said l = cond (says_nothing l) [] (l ∷ [])

drop_silent : {Y : Type 0} (f : Link → List Y) → ((l : Link) → says_nothing l ≡ true → f l ≡ []) → (ls : List Link) → flat_map f (flat_map said ls) ≡ flat_map f ls
drop_silent f quiet [] = refl
drop_silent f quiet (l ∷ ls) = by_test (says_nothing l) refl (drop_silent f quiet ls)
  where
    by_test : (t : Bool) → says_nothing l ≡ t → flat_map f (flat_map said ls) ≡ flat_map f ls → flat_map f (cond t [] (l ∷ []) ++ flat_map said ls) ≡ f l ++ flat_map f ls
    by_test true e rest = rest ∙ ap (λ rows. rows ++ flat_map f ls) (sym (quiet l e))
    by_test false e rest = ap (λ rows. f l ++ rows) rest

quiet_link : (l : Link) → says_nothing l ≡ true → links_of l ≡ []
quiet_link l e = ap (links_from l.name) (eqb-true _ _ (and_parts (l.below == 0) _ e).0)

quiet_taken : (l : Link) → says_nothing l ≡ true → taken_rows l ≡ []
quiet_taken l e = ap (map (taken_columns l.name)) (is_nil l.taken (and_parts (l.below == 0) _ e).1)

all_said : (P Q : Link → Type 0) → ((l : Link) → says_nothing l ≡ false → P l → Q l) → (ls : List Link) → AllByRecursion P ls → AllByRecursion Q (flat_map said ls)
all_said P Q step [] h = tt
all_said P Q step (l ∷ ls) h = by_test (says_nothing l) refl (all_said P Q step ls h.1)
  where
    by_test : (t : Bool) → says_nothing l ≡ t → AllByRecursion Q (flat_map said ls) → AllByRecursion Q (cond t [] (l ∷ []) ++ flat_map said ls)
    by_test true e rest = rest
    by_test false e rest = (step l e h.0, rest)

said_all : (ls : List Link) → AllByRecursion (λ l. says_nothing l ≡ false) ls → flat_map said ls ≡ ls
said_all [] h = refl
said_all (l ∷ ls) h = rw h.0 (ap (λ rest. l ∷ rest) (said_all ls h.1))

-- ---- a system's two rows as one link

abbrev joined : Below → Took → Link
joined b t = record { name = b.columns.name; below = b.below; taken = t.taken }

abbrev paired : List Below → List Took → List Link
paired [] ts = []
paired (b ∷ bs) [] = []
paired (b ∷ bs) (t ∷ ts) = joined b t ∷ paired bs ts

paired_links : (bs : List Below) (ts : List Took) → map below_head bs ≡ map took_head ts → flat_map links_of (paired bs ts) ≡ flat_map below_rows bs
paired_links [] ts same = refl
paired_links (b ∷ bs) [] same = absurd (cc)
paired_links (b ∷ bs) (t ∷ ts) same = let rest : map below_head bs ≡ map took_head ts = cc in ap (λ rows. below_rows b ++ rows) (paired_links bs ts rest)

paired_taken : (bs : List Below) (ts : List Took) → map below_head bs ≡ map took_head ts → flat_map taken_rows (paired bs ts) ≡ flat_map took_rows ts
paired_taken [] [] same = refl
paired_taken [] (t ∷ ts) same = absurd (cc)
paired_taken (b ∷ bs) [] same = absurd (cc)
paired_taken (b ∷ bs) (t ∷ ts) same =
    let first : b.columns ≡ t.columns = cc in
    let rest : map below_head bs ≡ map took_head ts = cc in
    λ i. map (taken_columns (first i).name) t.taken ++ paired_taken bs ts rest i

each_paired : (P : Below → Type 0) (Q : Took → Type 0) (R : Link → Type 0) → ((b : Below) (t : Took) → P b → Q t → R (joined b t)) → (bs : List Below) (ts : List Took) → AllByRecursion P bs → AllByRecursion Q ts → AllByRecursion R (paired bs ts)
each_paired P Q R step [] ts h k = tt
each_paired P Q R step (b ∷ bs) [] h k = tt
each_paired P Q R step (b ∷ bs) (t ∷ ts) h k = (step b t h.0 k.0, each_paired P Q R step bs ts h.1 k.1)

abbrev pub LinkBefore : Link → Link → Type 0
LinkBefore a b = ComesBefore a.name b.name

abbrev pub BelowBefore : Below → Below → Type 0
BelowBefore a b = ComesBefore a.columns.name b.columns.name

paired_rise : (bs : List Below) (ts : List Took) → AllPairsByRecursion BelowBefore bs → AllPairsByRecursion LinkBefore (paired bs ts)
paired_rise [] ts h = tt
paired_rise (b ∷ bs) [] h = tt
paired_rise (b ∷ bs) (t ∷ ts) h = (each_paired (BelowBefore b) (λ _. Unit {0}) (LinkBefore (joined b t)) (λ c u before k. before) bs ts h.0 (all_unit ts), paired_rise bs ts h.1)

said_rise : (ls : List Link) → AllPairsByRecursion LinkBefore ls → AllPairsByRecursion LinkBefore (flat_map said ls)
said_rise ls rise = flat_pairs LinkBefore said (λ _. Unit {0}) (λ l k. one l (says_nothing l)) ls (all_unit ls) (weaker_pairs LinkBefore (λ x y. Across LinkBefore (said x) (said y)) (λ x y before. across x y before (says_nothing x) (says_nothing y)) ls rise)
  where
    one : (l : Link) (t : Bool) → AllPairsByRecursion LinkBefore (cond t [] (l ∷ []))
    one l true = tt
    one l false = (tt, tt)

    across : (x y : Link) → LinkBefore x y → (t u : Bool) → Across LinkBefore (cond t [] (x ∷ [])) (cond u [] (y ∷ []))
    across x y before true u = tt
    across x y before false true = (tt, tt)
    across x y before false false = ((before, tt), tt)

-- ---- names that are known

abbrev pub knows : List SystemRow → List ℕ → Bool
knows rows name = list_any (λ (row : SystemRow). same_text row.def.name name) rows

self_known : (rows : List SystemRow) → AllByRecursion (λ (row : SystemRow). IsTrue (knows rows row.def.name)) rows
self_known [] = tt
self_known (x ∷ xs) = (rw (text_to x.def.name) refl, all_weaker _ _ (λ (row : SystemRow) h. or_right (same_text x.def.name row.def.name) (knows xs row.def.name) h) xs (self_known xs))

below_known : (all rows : List SystemRow) (bs : List Below) → map below_head bs ≡ map bare_system rows → AllByRecursion (λ (row : SystemRow). IsTrue (knows all row.def.name)) rows → AllByRecursion (λ (b : Below). IsTrue (knows all b.columns.name)) bs
below_known all rows [] same h = tt
below_known all [] (b ∷ bs) same h = absurd (cc)
below_known all (x ∷ xs) (b ∷ bs) same h =
    let first : b.columns ≡ bare_system x = cc in
    let rest : map below_head bs ≡ map bare_system xs = cc in
    (subst (λ (c : BareSystem). IsTrue (knows all c.name)) (sym first) h.0, below_known all xs bs rest h.1)

-- ---- what was taken is not below the number of its link

all_parts : {X : Type 0} (p : X → Bool) (xs ys : List X) → list_all p (xs ++ ys) ≡ true → (list_all p xs ≡ true) × (list_all p ys ≡ true)
all_parts p [] ys h = (refl, h)
all_parts p (x ∷ xs) ys h = let it = and_parts (p x) (list_all p (xs ++ ys)) h in let more = all_parts p xs ys it.1 in (rw (it.0, more.0) refl, more.1)

abbrev pub IsLate : Link → Type 0
IsLate l = AllByRecursion (λ (t : Taken). l.below ≤ t.number) l.taken

abbrev may_ask : TakenColumns → LinkColumns → Bool
may_ask t l = not (same_text l.system t.system) || nat_le l.below t.taken.number

one_late : (name : List ℕ) (n : ℕ) (t : Taken) → may_be_asked (links_from name n) (taken_columns name t) ≡ true → n ≤ t.number
one_late name zero t h = omega arith
one_late name (suc n) t h = leb-true (suc n) t.number (subst (λ b. (not b || nat_le (suc n) t.number) ≡ true) (text_to name) (and_parts _ _ h).0)

late_from : (ls : List Link) → AllByRecursion (λ t. may_be_asked (flat_map links_of ls) t ≡ true) (flat_map taken_rows ls) → AllByRecursion IsLate ls
late_from [] h = tt
late_from (l ∷ ls) h =
    let rest = flat_map links_of ls in
    let parts = split_all (λ t. may_be_asked (links_of l ++ rest) t ≡ true) (taken_rows l) (flat_map taken_rows ls) h in (
      all_weaker _ _ (λ t k. one_late l.name l.below t (all_parts (may_ask (taken_columns l.name t)) (links_of l) rest k).0) l.taken (unmapped_all (λ t. may_be_asked (links_of l ++ rest) t ≡ true) (taken_columns l.name) l.taken parts.0),
      late_from ls (all_weaker _ _ (λ t k. (all_parts (may_ask t) (links_of l) rest k).1) (flat_map taken_rows ls) parts.1),
    )

others_late : (rows : List LinkColumns) (t : TakenColumns) → AllByRecursion (λ (r : LinkColumns). same_text r.system t.system ≡ false) rows → may_be_asked rows t ≡ true
others_late [] t h = refl
others_late (r ∷ rows) t h = rw (h.0, others_late rows t h.1) refl

own_late : (name : List ℕ) (n : ℕ) (t : Taken) → n ≤ t.number → may_be_asked (links_from name n) (taken_columns name t) ≡ true
own_late name zero t h = refl
own_late name (suc n) t h = rw (text_to name, le-leb (suc n) t.number h) refl

late_to : (ls : List Link) → AllPairsByRecursion LinkBefore ls → AllByRecursion IsLate ls → AllByRecursion (λ t. may_be_asked (flat_map links_of ls) t ≡ true) (flat_map taken_rows ls)
late_to [] up h = tt
late_to (l ∷ ls) up h =
    let rest = flat_map links_of ls in
    let behind : AllByRecursion (λ (r : LinkColumns). same_text r.system l.name ≡ false) rest = all_flat_of (λ (r : LinkColumns). same_text r.system l.name ≡ false) (LinkBefore l) links_of (λ x before. each_link (λ r. same_text r.system l.name ≡ false) x.name (λ below. later_other l.name x.name before) x.below) ls up.0 in
    let others : AllByRecursion (λ (t : TakenColumns). same_text l.name t.system ≡ false) (flat_map taken_rows ls) = all_flat_of (λ (t : TakenColumns). same_text l.name t.system ≡ false) (LinkBefore l) taken_rows (λ x before. each_made (λ (t : TakenColumns). same_text l.name t.system ≡ false) (taken_columns x.name) (λ taken. earlier_other l.name x.name before) x.taken) ls up.0 in
    all_append (λ t. may_be_asked (links_of l ++ rest) t ≡ true) (taken_rows l) (flat_map taken_rows ls)
    (all_mapped (λ t. may_be_asked (links_of l ++ rest) t ≡ true) (taken_columns l.name) l.taken (all_weaker _ _ (λ t k. list_all_both (may_ask (taken_columns l.name t)) (links_of l) rest (own_late l.name l.below t k) (others_late rest (taken_columns l.name t) behind)) l.taken h.0))
    (both (λ (t : TakenColumns). same_text l.name t.system ≡ false) (λ t. may_be_asked rest t ≡ true) (λ t. may_be_asked (links_of l ++ rest) t ≡ true)
    (λ t apart k. list_all_both (may_ask t) (links_of l) rest (others_late (links_of l) t (each_link (λ r. same_text r.system t.system ≡ false) l.name (λ below. apart) l.below)) k) (flat_map taken_rows ls) others (late_to ls up.1 h.1))

-- ---- the links whose rows these are

pub record Links (next : ℕ) (rows : List SystemRow) (links : List LinkColumns) (taken : List TakenColumns) : Type 0 where
  pub items : List Link
  pub good : AllByRecursion IsLink items
  pub known : AllByRecursion (λ (l : Link). IsTrue (knows rows l.name)) items
  pub given : AllByRecursion (λ (l : Link). All (λ (t : Taken). t.job < next) l.taken) items
  pub rise : AllPairsByRecursion LinkBefore items
  pub links_are : flat_map links_of items ≡ links
  pub taken_are : flat_map taken_rows items ≡ taken

abbrev IsGiven : ℕ → Link → Type 0
IsGiven next l = AllByRecursion (λ t. is_given next t ≡ true) (taken_rows l)

-- what the rows say of a link, whether it says something or not
record IsAlmost (next : ℕ) (l : Link) : Type 0 where
  below : l.below ≤ numbers_end
  rising : AllPairsByRecursion Lower l.taken
  given : IsGiven next l
  late : IsLate l

numbers_from : (next : ℕ) (name : List ℕ) (ts : List Taken) → AllByRecursion (λ t. is_given next t ≡ true) (map (taken_columns name) ts) → AllByRecursion (λ (t : Taken). (t.number ≤ numbers_end) × (t.mark < marks_end) × (1 ≤ t.job)) ts × AllByRecursion (λ (t : Taken). t.job < next) ts
numbers_from next name [] h = (tt, tt)
numbers_from next name (t ∷ ts) h =
    let c = and_parts _ _ h.0 in
    let b = and_parts _ _ c.0 in
    let a = and_parts _ _ b.0 in
    let more = numbers_from next name ts h.1 in
    (((leb-true _ _ b.1, ltb-true _ _ c.1, leb-true _ _ a.0), more.0), (ltb-true _ _ a.1, more.1))

whole : (next : ℕ) (l : Link) → says_nothing l ≡ false → IsAlmost next l → IsLink l
whole next l says it = record {
  below = it.below;
  says = says;
  numbers = All-from_recursion _ l.taken (numbers_from next l.name l.taken it.given).0;
  rising = pairs_by_place Lower l.taken it.rising;
  at_least = All-from_recursion _ l.taken it.late;
}

pub links_from_rows : (next : ℕ) (rows : List SystemRow) (links : List LinkColumns) (taken : List TakenColumns) → rises system_before (map bare_system rows) ≡ true → are_links next (map bare_system rows) links taken ≡ true → Links next rows links taken
links_from_rows next rows links taken rise h =
    let c = and_parts _ _ h in
    let b = and_parts _ _ c.0 in
    let a = and_parts _ _ b.0 in
    let low = items_of owns_link fits_link below_head below_rows IsBelow below_of_rows (map bare_system rows) links a.0 in
    let took = items_of owns_taken fits_taken took_head took_rows IsTook took_of_rows (map bare_system rows) taken a.1 in
    let same = low.heads ∙ sym took.heads in
    let all = paired low.items took.items in
    let links_same : flat_map links_of all ≡ links = paired_links low.items took.items same ∙ low.children in
    let taken_same : flat_map taken_rows all ≡ taken = paired_taken low.items took.items same ∙ took.children in
    let given : AllByRecursion (IsGiven next) all = unflat (λ t. is_given next t ≡ true) taken_rows all (subst (AllByRecursion (λ t. is_given next t ≡ true)) (sym taken_same) (each_from (is_given next) taken b.1)) in
    let late : AllByRecursion IsLate all = late_from all (subst (λ rows. AllByRecursion (λ t. may_be_asked rows t ≡ true) (flat_map taken_rows all)) (sym links_same) (subst (AllByRecursion (λ t. may_be_asked links t ≡ true)) (sym taken_same) (each_from (may_be_asked links) taken c.1))) in
    let order : AllPairsByRecursion BelowBefore low.items = risen below_head system_before BelowBefore (λ x y. less_is _) (λ x y z. nat_list_cmp_total.trans x.columns.name y.columns.name z.columns.name) low.items (ap (rises system_before) low.heads ∙ rise) in
    let known : AllByRecursion (λ (l : Link). IsTrue (knows rows l.name)) all = each_paired (λ (b : Below). IsTrue (knows rows b.columns.name)) (λ _. Unit {0}) (λ (l : Link). IsTrue (knows rows l.name)) (λ b t k u. k) low.items took.items (below_known rows rows low.items low.heads (self_known rows)) (all_unit took.items) in
    let parts = each_paired IsBelow IsTook (λ l. (l.below ≤ numbers_end) × AllPairsByRecursion Lower l.taken) (λ b t k u. (k, u)) low.items took.items low.good took.good in
    let almost : AllByRecursion (IsAlmost next) all =
    both (λ l. (l.below ≤ numbers_end) × AllPairsByRecursion Lower l.taken) (λ l. IsGiven next l × IsLate l) (IsAlmost next) (λ l p q. record { below = p.0; rising = p.1; given = q.0; late = q.1 }) all parts (both (IsGiven next) IsLate (λ l. IsGiven next l × IsLate l) (λ l p q. (p, q)) all given late) in
    record {
      items = flat_map said all;
      good = all_said (IsAlmost next) IsLink (whole next) all almost;
      known = all_said (λ (l : Link). IsTrue (knows rows l.name)) (λ (l : Link). IsTrue (knows rows l.name)) (λ l says k. k) all known;
      given = all_said (IsAlmost next) (λ (l : Link). All (λ (t : Taken). t.job < next) l.taken) (λ l says it. All-from_recursion _ l.taken (numbers_from next l.name l.taken it.given).1) all almost;
      rise = said_rise all (paired_rise low.items took.items order);
      links_are = drop_silent links_of quiet_link all ∙ links_same;
      taken_are = drop_silent taken_rows quiet_taken all ∙ taken_same;
    }

-- ---- the link of a system

abbrev pub Before : SystemRow → SystemRow → Type 0
Before a b = ComesBefore a.def.name b.def.name

abbrev its : List ℕ → List Link → Link
its name links = unwrap_or (find (is_link name) links) (new_link name)

its_name : (name : List ℕ) (links : List Link) → (its name links).name ≡ name
its_name name links = elim (cases_Bool (list_any (is_link name) links)) [
  | inl here ↦ let it = found (is_link name) links here in ap (λ o. (unwrap_or o (new_link name)).name) it.1 ∙ text_from it.0.name name it.2
  | inr missing ↦ ap (λ o. (unwrap_or o (new_link name)).name) (found_none (is_link name) links (none_passes (is_link name) links missing))
]

its_has : (P : Link → Type 0) → ((name : List ℕ) → P (new_link name)) → (name : List ℕ) (links : List Link) → AllByRecursion P links → P (its name links)
its_has P new name [] h = new name
its_has P new name (l ∷ ls) h = by_test (is_link name l) (its_has P new name ls h.1)
  where
    by_test : (t : Bool) → P (its name ls) → P (unwrap_or (cond t (Some l) (find (is_link name) ls)) (new_link name))
    by_test true rest = h.0
    by_test false rest = rest

pub known_later : (x : SystemRow) (xs : List SystemRow) (name : List ℕ) → same_text x.def.name name ≡ false → IsTrue (knows (x ∷ xs) name) → IsTrue (knows xs name)
known_later x xs name other h = rw other at h

known_after : (name : List ℕ) (xs : List SystemRow) → AllByRecursion (λ (row : SystemRow). ComesBefore name row.def.name) xs → (other : List ℕ) → IsTrue (knows xs other) → ComesBefore name other
known_after name [] h other k = absurd (cc)
known_after name (x ∷ xs) h other k = by_test (same_text x.def.name other) refl (known_after name xs h.1 other)
  where
    by_test : (t : Bool) → same_text x.def.name other ≡ t → (IsTrue (knows xs other) → ComesBefore name other) → ComesBefore name other
    by_test true e rest = subst (ComesBefore name) (text_from x.def.name other e) h.0
    by_test false e rest = rest (known_later x xs other e k)

-- the rows of links are those of the systems' links, one system after the other
module _ {Y : Type 0} (f : Link → List Y) (none : (name : List ℕ) → f (new_link name) ≡ []) where
  nothing : (rows : List SystemRow) → flat_map (λ (row : SystemRow). f (its row.def.name [])) rows ≡ []
  nothing [] = refl
  nothing (x ∷ xs) = λ i. none x.def.name i ++ nothing xs i

  skipped : (l : Link) (ls : List Link) (rows : List SystemRow) → AllByRecursion (λ (row : SystemRow). same_text l.name row.def.name ≡ false) rows → flat_map (λ (row : SystemRow). f (its row.def.name (l ∷ ls))) rows ≡ flat_map (λ (row : SystemRow). f (its row.def.name ls)) rows
  skipped l ls [] h = refl
  skipped l ls (x ∷ xs) h = λ i. f (unwrap_or (cond (h.0 i) (Some l) (find (is_link x.def.name) ls)) (new_link x.def.name)) ++ skipped l ls xs h.1 i

  merged : (rows : List SystemRow) (links : List Link) → AllPairsByRecursion Before rows → AllPairsByRecursion LinkBefore links → AllByRecursion (λ (l : Link). IsTrue (knows rows l.name)) links → flat_map f links ≡ flat_map (λ (row : SystemRow). f (its row.def.name links)) rows
  merged rows [] up vp known = sym (nothing rows)
  merged [] (l ∷ ls) up vp known = absurd (let no : IsTrue false = known.0 in cc)
  merged (x ∷ xs) (l ∷ ls) up vp known = by_test (same_text x.def.name l.name) refl (merged xs ls up.1 vp.1) (merged xs (l ∷ ls) up.1 vp)
    where
      by_test : (t : Bool) → same_text x.def.name l.name ≡ t → (AllByRecursion (λ (k : Link). IsTrue (knows xs k.name)) ls → flat_map f ls ≡ flat_map (λ (row : SystemRow). f (its row.def.name ls)) xs)
          → (AllByRecursion (λ (k : Link). IsTrue (knows xs k.name)) (l ∷ ls) → flat_map f (l ∷ ls) ≡ flat_map (λ (row : SystemRow). f (its row.def.name (l ∷ ls))) xs)
          → f l ++ flat_map f ls ≡ f (its x.def.name (l ∷ ls)) ++ flat_map (λ (row : SystemRow). f (its row.def.name (l ∷ ls))) xs
      by_test true e one all =
          let same : x.def.name ≡ l.name = text_from x.def.name l.name e in
          let later = both (LinkBefore l) (λ (k : Link). IsTrue (knows (x ∷ xs) k.name)) (λ (k : Link). IsTrue (knows xs k.name)) (λ k before h. known_later x xs k.name (earlier_other x.def.name k.name (subst (λ n. ComesBefore n k.name) (sym same) before)) h) ls vp.0 known.1 in
          let apart = all_weaker (Before x) (λ (row : SystemRow). same_text l.name row.def.name ≡ false) (λ row before. earlier_other l.name row.def.name (subst (λ n. ComesBefore n row.def.name) same before)) xs up.0 in
          let own : is_link x.def.name l ≡ true = subst (λ n. same_text l.name n ≡ true) (sym same) (text_to l.name) in
          let here : f (its x.def.name (l ∷ ls)) ≡ f l = ap (λ b. f (unwrap_or (cond b (Some l) (find (is_link x.def.name) ls)) (new_link x.def.name))) own in
          let rest = one later ∙ sym (skipped l ls xs apart) in
          λ i. sym here i ++ rest i
      by_test false e one all =
          let first : IsTrue (knows xs l.name) = known_later x xs l.name e known.0 in
          let ahead : ComesBefore x.def.name l.name = known_after x.def.name xs up.0 l.name first in
          let behind = all_weaker (LinkBefore l) (λ (k : Link). ComesBefore x.def.name k.name) (λ k before. nat_list_cmp_total.trans x.def.name l.name k.name ahead before) ls vp.0 in
          let later = both (λ (k : Link). ComesBefore x.def.name k.name) (λ (k : Link). IsTrue (knows (x ∷ xs) k.name)) (λ (k : Link). IsTrue (knows xs k.name)) (λ k before h. known_later x xs k.name (earlier_other x.def.name k.name before) h) ls behind known.1 in
          let missing = found_none (is_link x.def.name) (l ∷ ls) (later_other x.def.name l.name ahead, all_weaker (λ (k : Link). ComesBefore x.def.name k.name) (λ k. is_link x.def.name k ≡ false) (λ k before. later_other x.def.name k.name before) ls behind) in
          let here : f (its x.def.name (l ∷ ls)) ≡ [] = ap (λ o. f (unwrap_or o (new_link x.def.name))) missing ∙ none x.def.name in
          all (first, later) ∙ ap (λ rows. rows ++ flat_map (λ (row : SystemRow). f (its row.def.name (l ∷ ls))) xs) (sym here)

abbrev below_of : List Link → SystemRow → Below
below_of links row = record { columns = bare_system row; below = (its row.def.name links).below }

abbrev took_of : List Link → SystemRow → Took
took_of links row = record { columns = bare_system row; taken = (its row.def.name links).taken }

below_heads : (links : List Link) (rows : List SystemRow) → map below_head (map (below_of links) rows) ≡ map bare_system rows
below_heads links [] = refl
below_heads links (x ∷ xs) = ap (λ rest. bare_system x ∷ rest) (below_heads links xs)

took_heads : (links : List Link) (rows : List SystemRow) → map took_head (map (took_of links) rows) ≡ map bare_system rows
took_heads links [] = refl
took_heads links (x ∷ xs) = ap (λ rest. bare_system x ∷ rest) (took_heads links xs)

below_kids : (links : List Link) (rows : List SystemRow) → flat_map below_rows (map (below_of links) rows) ≡ flat_map (λ (row : SystemRow). links_of (its row.def.name links)) rows
below_kids links [] = refl
below_kids links (x ∷ xs) = λ i. links_from (sym (its_name x.def.name links) i) (its x.def.name links).below ++ below_kids links xs i

took_kids : (links : List Link) (rows : List SystemRow) → flat_map took_rows (map (took_of links) rows) ≡ flat_map (λ (row : SystemRow). taken_rows (its row.def.name links)) rows
took_kids links [] = refl
took_kids links (x ∷ xs) = λ i. map (taken_columns (sym (its_name x.def.name links) i)) (its x.def.name links).taken ++ took_kids links xs i

joined_kids : (links : List Link) (rows : List SystemRow) → flat_map said (paired (map (below_of links) rows) (map (took_of links) rows)) ≡ flat_map (λ (row : SystemRow). said (its row.def.name links)) rows
joined_kids links [] = refl
joined_kids links (x ∷ xs) = λ i. said (record (its x.def.name links) { name = sym (its_name x.def.name links) i }) ++ joined_kids links xs i

-- ---- rows that belong to a system

below_fits : (b : Below) → IsBelow b → fits_link b.columns (below_rows b) ≡ true
below_fits b few = go b.below few
  where
    go : (n : ℕ) → n ≤ numbers_end → fits_link b.columns (links_from b.columns.name n) ≡ true
    go zero few = refl
    go (suc n) few = rw (le-leb 1 (suc n) (omega arith), le-leb (suc n) numbers_end few) refl

below_owned : (name other : List ℕ) (n : ℕ) (t : Bool) → same_text name other ≡ t → AllByRecursion (λ (l : LinkColumns). same_text name l.system ≡ t) (links_from other n)
below_owned name other n t is = each_link (λ l. same_text name l.system ≡ t) other (λ below. is) n

took_owned : (name other : List ℕ) (ts : List Taken) (t : Bool) → same_text name other ≡ t → AllByRecursion (λ (r : TakenColumns). same_text name r.system ≡ t) (map (taken_columns other) ts)
took_owned name other ts t is = each_made (λ (r : TakenColumns). same_text name r.system ≡ t) (taken_columns other) (λ taken. is) ts

took_fits : (t : Took) → IsTook t → fits_taken t.columns (took_rows t) ≡ true
took_fits t rise = does_rise (taken_columns t.columns.name) taken_before Lower (λ x y. lt-ltb x.number y.number) t.taken rise

below_apart : (Good : Below → Type 0) (links : List Link) (rows : List SystemRow) → AllPairsByRecursion Before rows → AllPairsByRecursion (Apart owns_link fits_link below_head below_rows Good) (map (below_of links) rows)
below_apart Good links rows up = mapped_pairs (Apart owns_link fits_link below_head below_rows Good) (below_of links) rows (weaker_pairs Before _ (λ x y before. below_owned x.def.name y.def.name (its y.def.name links).below false (earlier_other x.def.name y.def.name before)) rows up)

took_apart : (Good : Took → Type 0) (links : List Link) (rows : List SystemRow) → AllPairsByRecursion Before rows → AllPairsByRecursion (Apart owns_taken fits_taken took_head took_rows Good) (map (took_of links) rows)
took_apart Good links rows up = mapped_pairs (Apart owns_taken fits_taken took_head took_rows Good) (took_of links) rows (weaker_pairs Before _ (λ x y before. took_owned x.def.name y.def.name (its y.def.name links).taken false (earlier_other x.def.name y.def.name before)) rows up)

-- ---- the rows of a state's links pass

each_row : {X : Type 0} (P : X → Type 0) (rows : List SystemRow) (f : SystemRow → X) → ((row : SystemRow) → P (f row)) → AllByRecursion P (map f rows)
each_row P [] f h = tt
each_row P (x ∷ xs) f h = (h x, each_row P xs f h)

given_to : (next : ℕ) (l : Link) → IsLink l × AllByRecursion (λ (t : Taken). t.job < next) l.taken → IsGiven next l
given_to next l it = go l.taken (recursion_from_All _ l.taken it.0.numbers) it.1
  where
    go : (ts : List Taken) → AllByRecursion (λ (t : Taken). (t.number ≤ numbers_end) × (t.mark < marks_end) × (1 ≤ t.job)) ts → AllByRecursion (λ (t : Taken). t.job < next) ts → AllByRecursion (λ t. is_given next t ≡ true) (map (taken_columns l.name) ts)
    go [] h k = tt
    go (t ∷ ts) h k = (rw (le-leb 1 t.job h.0.2, lt-ltb t.job next k.0, le-leb t.number numbers_end h.0.0, lt-ltb t.mark marks_end h.0.1) refl, go ts h.1 k.1)

pub links_to_rows : (next : ℕ) (rows : List SystemRow) (links : List Link) → AllPairsByRecursion Before rows → AllPairsByRecursion LinkBefore links → AllByRecursion (λ (l : Link). IsTrue (knows rows l.name)) links → AllByRecursion IsLink links
    → AllByRecursion (λ (l : Link). AllByRecursion (λ (t : Taken). t.job < next) l.taken) links → are_links next (map bare_system rows) (flat_map links_of links) (flat_map taken_rows links) ≡ true
links_to_rows next rows links up vp known good given =
    let low = its_has IsBelowLink (λ name. omega arith) in
    let a = walked owns_link fits_link below_head below_rows IsBelow below_fits (λ b. below_owned b.columns.name b.columns.name b.below true (text_to b.columns.name)) (map (below_of links) rows)
    (each_row IsBelow rows (below_of links) (λ row. low row.def.name links (all_weaker _ _ (λ l h. h.below) links good))) (below_apart IsBelow links rows up) in
    let b = walked owns_taken fits_taken took_head took_rows IsTook took_fits (λ t. took_owned t.columns.name t.columns.name t.taken true (text_to t.columns.name)) (map (took_of links) rows)
    (each_row IsTook rows (took_of links) (λ row. its_has (λ l. AllPairsByRecursion Lower l.taken) (λ name. tt) row.def.name links (all_weaker _ _ (λ l h. pairs_by_recursion Lower l.taken h.rising) links good))) (took_apart IsTook links rows up) in
    let first : walk owns_link fits_link (map bare_system rows) (flat_map links_of links) ≡ true = (λ i. walk owns_link fits_link (sym (below_heads links rows) i) ((merged links_of (λ name. refl) rows links up vp known ∙ sym (below_kids links rows)) i)) ∙ a in
    let second : walk owns_taken fits_taken (map bare_system rows) (flat_map taken_rows links) ≡ true = (λ i. walk owns_taken fits_taken (sym (took_heads links rows) i) ((merged taken_rows (λ name. refl) rows links up vp known ∙ sym (took_kids links rows)) i)) ∙ b in
    let third : list_all (is_given next) (flat_map taken_rows links) ≡ true =
    each_to (is_given next) (flat_map taken_rows links) (all_flat_of (λ t. is_given next t ≡ true) (λ l. IsLink l × AllByRecursion (λ (t : Taken). t.job < next) l.taken) taken_rows (given_to next) links (both IsLink _ _ (λ l h k. (h, k)) links good given)) in
    let fourth : list_all (may_be_asked (flat_map links_of links)) (flat_map taken_rows links) ≡ true = each_to (may_be_asked (flat_map links_of links)) (flat_map taken_rows links) (late_to links vp (all_weaker _ _ (λ l h. recursion_from_All _ l.taken h.at_least) links good)) in
    rw (first, second, third, fourth) refl
  where
    IsBelowLink : Link → Type 0
    IsBelowLink l = l.below ≤ numbers_end

-- ---- links that have the same rows are the same

rows_below : List LinkColumns → ℕ
rows_below [] = 0
rows_below (l ∷ more) = l.below

below_back : (name : List ℕ) (n : ℕ) → rows_below (links_from name n) ≡ n
unfolding rows_below
below_back name zero = refl
below_back name (suc n) = refl

taken_back : (name : List ℕ) (ts : List Taken) → map taken_in (map (taken_columns name) ts) ≡ ts
taken_back name [] = refl
taken_back name (t ∷ ts) = ap (λ rest. t ∷ rest) (taken_back name ts)

same_below : (x y : Below) → below_head x ≡ below_head y → below_rows x ≡ below_rows y → x ≡ y
same_below x y head rows =
    let n : x.below ≡ y.below = sym (below_back x.columns.name x.below) ∙ ap rows_below rows ∙ below_back y.columns.name y.below in
    λ i. record { columns = head i; below = n i }

same_took : (x y : Took) → took_head x ≡ took_head y → took_rows x ≡ took_rows y → x ≡ y
same_took x y head rows =
    let ts : x.taken ≡ y.taken = sym (taken_back x.columns.name x.taken) ∙ ap (map taken_in) rows ∙ taken_back y.columns.name y.taken in
    λ i. record { columns = head i; taken = ts i }

module _ (rows : List SystemRow) (up : AllPairsByRecursion Before rows) where
  pub record Good (links : List Link) : Type 0 where
    pub rise : AllPairsByRecursion LinkBefore links
    pub known : AllByRecursion (λ (l : Link). IsTrue (knows rows l.name)) links
    pub says : AllByRecursion (λ l. says_nothing l ≡ false) links

  as_rows : (links : List Link) → Good links → links ≡ flat_map said (paired (map (below_of links) rows) (map (took_of links) rows))
  as_rows links good = sym (said_all links good.says) ∙ merged said (λ name. refl) rows links up good.rise good.known ∙ sym (joined_kids links rows)

  pub same_links : (links others : List Link) → Good links → Good others → flat_map links_of links ≡ flat_map links_of others → flat_map taken_rows links ≡ flat_map taken_rows others → links ≡ others
  same_links links others good fine rows_same taken_same =
      let belows : map (below_of links) rows ≡ map (below_of others) rows = same_items owns_link fits_link below_head below_rows (λ _. Unit {0}) (λ b. below_owned b.columns.name b.columns.name b.below true (text_to b.columns.name)) same_below (map (below_of links) rows) (map (below_of others) rows)
      (below_apart (λ _. Unit {0}) links rows up) (below_apart (λ _. Unit {0}) others rows up) (below_heads links rows ∙ sym (below_heads others rows))
      (below_kids links rows ∙ sym (merged links_of (λ name. refl) rows links up good.rise good.known) ∙ rows_same ∙ merged links_of (λ name. refl) rows others up fine.rise fine.known ∙ sym (below_kids others rows)) in
      let tooks : map (took_of links) rows ≡ map (took_of others) rows = same_items owns_taken fits_taken took_head took_rows (λ _. Unit {0}) (λ t. took_owned t.columns.name t.columns.name t.taken true (text_to t.columns.name)) same_took (map (took_of links) rows) (map (took_of others) rows)
      (took_apart (λ _. Unit {0}) links rows up) (took_apart (λ _. Unit {0}) others rows up) (took_heads links rows ∙ sym (took_heads others rows))
      (took_kids links rows ∙ sym (merged taken_rows (λ name. refl) rows links up good.rise good.known) ∙ taken_same ∙ merged taken_rows (λ name. refl) rows others up fine.rise fine.known ∙ sym (took_kids others rows)) in
      as_rows links good ∙ (λ i. flat_map said (paired (belows i) (tooks i))) ∙ sym (as_rows others fine)
