-- The timetables that lines leave.
use Rattle.std.proofs.Common.{◌≡◌, ℕ, Bool, true, false, cond, Option, None, Some, List, [], ◌∷◌, IsTrue, refl, ap, sym, ◌∙◌}
use Rattle.std.proofs.lemmas.Bool.{cond-true, false≢true}
use Rattle.std.proofs.lemmas.Map.Text.{is_eq-slice_cmp}
use Rattle.std.proofs.lemmas.Slice.Eq.{bytes_eq-Decides}
use Rattle.std.specs.BTreeMap.{insert_entry, is_at}
use Rattle.std.specs.Cmp.Lexicographic.{slice_cmp}
use Rattle.std.specs.List.{filter_map, cons_option, last_or}
use Rattle.std.specs.Map.{lookup}
use Rattle.std.specs.Ordering.{nat_cmp, is_eq, match_ordering}
use Rattle.std.specs.Str.{bytes_eq}
use Rattle.std.specs.declared.cmp.Ordering.{Ordering}
use Rattle.std.specs.declared.cmp.Ordering.TheVariants.{Less, Equal, Greater}
use Rattle.uu_times.specs.declared.directive.Directive.{Directive}
use Rattle.uu_times.specs.declared.directive.Directive.TheVariants.{Begin, Time, Retries, SuccessWait, Table, Skip}
use Rattle.uu_times.specs.Grammar.{lower}
use Rattle.uu_times.specs.SysFile.{known, windows_named}
use Rattle.uu_times.specs.Tables.{Tables, is_table_name, table_at}

-- the timetable under a name in lower case
abbrev pub found : Tables → List ℕ → Option (List (ℕ × ℕ))
found tables name = lookup (is_at (slice_cmp nat_cmp name)) tables

abbrev pub adding : Tables → List ℕ → List (ℕ × ℕ) → Tables
adding tables name windows = insert_entry (slice_cmp nat_cmp) tables name windows

found-first : (name : List ℕ) (entry : List ℕ × List (ℕ × ℕ)) (tables : Tables) → found (entry ∷ tables) name ≡ cond (bytes_eq name entry.0) (Some entry.1) (found tables name)
found-first name entry tables = ap (λ b. cond b (Some entry.1) (found tables name)) (is_eq-slice_cmp name entry.0)

once : {X : Type 0} (b : Bool) (x y z : X) → cond b x z ≡ cond b x (cond b y z)
once true x y z = refl
once false x y z = refl

swapped : {X : Type 0} (a b : Bool) (x y z : X) → (a ≡ true → b ≡ true → ⊥) → cond a x (cond b y z) ≡ cond b y (cond a x z)
swapped true true x y z apart = absurd (apart refl refl)
swapped true false x y z apart = refl
swapped false true x y z apart = refl
swapped false false x y z apart = refl

-- names that come one after the other are not both that name
apart : (m first name : List ℕ) → slice_cmp nat_cmp m first ≡ Greater → bytes_eq name first ≡ true → bytes_eq name m ≡ true → ⊥
apart m first name greater is_first is_m =
    let same : m ≡ first = sym ((bytes_eq-Decides name m).0 is_m) ∙ (bytes_eq-Decides name first).0 is_first in
    false≢true (sym (ap is_eq greater) ∙ (is_eq-slice_cmp m first ∙ (bytes_eq-Decides m first).1 same))

found_with_by : (entry : List ℕ × List (ℕ × ℕ)) (tables : Tables) (m : List ℕ) (windows : List (ℕ × ℕ)) (name : List ℕ) (order : Ordering) → slice_cmp nat_cmp m entry.0 ≡ order
    → found (adding tables m windows) name ≡ cond (bytes_eq name m) (Some windows) (found tables name)
    → found (adding (entry ∷ tables) m windows) name ≡ cond (bytes_eq name m) (Some windows) (found (entry ∷ tables) name)
found_with_by entry tables m windows name Less is later =
    ap (λ o. found (match_ordering o ((m, windows) ∷ entry ∷ tables) ((entry.0, windows) ∷ tables) (entry ∷ adding tables m windows)) name) is
    ∙ found-first name (m, windows) (entry ∷ tables)
found_with_by entry tables m windows name Equal is later =
    let same : m ≡ entry.0 = (bytes_eq-Decides m entry.0).0 (sym (is_eq-slice_cmp m entry.0) ∙ ap is_eq is) in
    ap (λ o. found (match_ordering o ((m, windows) ∷ entry ∷ tables) ((entry.0, windows) ∷ tables) (entry ∷ adding tables m windows)) name) is
    ∙ found-first name (entry.0, windows) tables
    ∙ once (bytes_eq name entry.0) (Some windows) (Some entry.1) (found tables name)
    ∙ ap (λ k. cond (bytes_eq name k) (Some windows) (cond (bytes_eq name entry.0) (Some entry.1) (found tables name))) (sym same)
    ∙ ap (λ (o : Option (List (ℕ × ℕ))). cond (bytes_eq name m) (Some windows) o) (sym (found-first name entry tables))
found_with_by entry tables m windows name Greater is later =
    ap (λ o. found (match_ordering o ((m, windows) ∷ entry ∷ tables) ((entry.0, windows) ∷ tables) (entry ∷ adding tables m windows)) name) is
    ∙ found-first name entry (adding tables m windows)
    ∙ ap (λ (o : Option (List (ℕ × ℕ))). cond (bytes_eq name entry.0) (Some entry.1) o) later
    ∙ swapped (bytes_eq name entry.0) (bytes_eq name m) (Some entry.1) (Some windows) (found tables name) (apart m entry.0 name is)
    ∙ ap (λ (o : Option (List (ℕ × ℕ))). cond (bytes_eq name m) (Some windows) o) (sym (found-first name entry tables))

-- what is found for a name if a timetable was added
pub found_with : (tables : Tables) (m : List ℕ) (windows : List (ℕ × ℕ)) (name : List ℕ) → found (adding tables m windows) name ≡ cond (bytes_eq name m) (Some windows) (found tables name)
found_with [] m windows name = found-first name (m, windows) []
found_with (entry ∷ tables) m windows name = found_with_by entry tables m windows name (slice_cmp nat_cmp m entry.0) refl (found_with tables m windows name)

last_with : (b : Bool) (windows : List (ℕ × ℕ)) (before : Option (List (ℕ × ℕ))) (name other : List ℕ) (directives : List Directive) → bytes_eq name other ≡ b
    → last_or (cond b (Some windows) before) (filter_map (windows_named name) directives) ≡ last_or before (filter_map (windows_named name) (Table other windows ∷ directives))
last_with true windows before name other directives is =
    sym (ap (λ (t : Bool). last_or before (cons_option (cond t (Some windows) None) (filter_map (windows_named name) directives))) is)
last_with false windows before name other directives is =
    sym (ap (λ (t : Bool). last_or before (cons_option (cond t (Some windows) None) (filter_map (windows_named name) directives))) is)

-- the last timetable of the name counts
pub found_known : (tables : Tables) (directives : List Directive) (name : List ℕ) → found (known tables directives) name ≡ last_or (found tables name) (filter_map (windows_named name) directives)
found_known tables [] name = refl
found_known tables (Table other windows ∷ directives) name =
    found_known (adding tables other windows) directives name
    ∙ ap (λ (o : Option (List (ℕ × ℕ))). last_or o (filter_map (windows_named name) directives)) (found_with tables other windows name)
    ∙ last_with (bytes_eq name other) windows (found tables name) name other directives refl
found_known tables (Begin system ∷ directives) name = found_known tables directives name
found_known tables (Time line ∷ directives) name = found_known tables directives name
found_known tables (Retries number ∷ directives) name = found_known tables directives name
found_known tables (SuccessWait seconds ∷ directives) name = found_known tables directives name
found_known tables (Skip line ∷ directives) name = found_known tables directives name

pub table_known : (tables : Tables) (directives : List Directive) (name : List ℕ) → IsTrue (is_table_name name)
    → table_at (known tables directives) name ≡ last_or (table_at tables name) (filter_map (windows_named (lower name)) directives)
table_known tables directives name is =
    cond-true (is_table_name name) (found (known tables directives) (lower name)) None is
    ∙ found_known tables directives (lower name)
    ∙ ap (λ (o : Option (List (ℕ × ℕ))). last_or o (filter_map (windows_named (lower name)) directives)) (sym (cond-true (is_table_name name) (found tables (lower name)) None is))
