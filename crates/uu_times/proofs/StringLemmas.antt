-- What is read of a time string is what it means.
use Rattle.std.proofs.Common.{◌≡◌, ℕ, ◌<◌, Bool, true, false, ◌||◌, cond, Option, None, Some, Result, Ok, Err, IfOk, IfErr, MatchResult, List, [], ◌∷◌, map, refl, ap, sym, subst, ◌∙◌, codes}
use Rattle.std.proofs.lemmas.Bool.{false≢true}
use Rattle.std.proofs.lemmas.Slice.Eq.{bytes_eq-Decides}
use Rattle.std.specs.List.{list_any}
use Rattle.std.specs.Str.{bytes_eq}
use Rattle.uu_times.specs.declared.days.Simple.{Simple}
use Rattle.uu_times.specs.declared.fault.TimeFault.{TimeFault}
use Rattle.uu_times.specs.declared.fault.TimeFault.TheVariants.{MomentRange, OffsetRange, BadTime, UnknownTable, TableTwice, BadNumber, BadSystem, TooManyLines, SystemTwice, BadWords, Memory, BadZone}
use Rattle.uu_times.specs.Internal.Simples.{any_has, simple_of}
use Rattle.uu_times.specs.Fault.{AnswersUnlessMemory, UnlessMemory}
use Rattle.uu_times.specs.Grammar.{Spelling, has_spelled, lower}
use Rattle.uu_times.specs.Internal.Scan.{list_of}
use Rattle.uu_times.specs.Ranges.{maximal_runs}
use Rattle.uu_times.specs.Tables.{Tables, table_at, spelled_minutes, IsNever, IsTimeString, never, named, listed, unreadable, windows_in, time_of}
use Rattle.uu_times.proofs.GrammarFronts.{spelled-minutes}
use Rattle.uu_times.proofs.GrammarLemmas.{lists_read}
use Rattle.uu_times.proofs.GrammarReads.{reads_lists, none-some}
use Rattle.uu_times.proofs.Runs.{holds-maximal_runs, runs_maximal_runs, maximal_runs_runs}

-- sets with the same minutes have the same runs
same-runs : (set other : ℕ → Bool) → ((minute : ℕ) → minute < 10080 → set minute ≡ other minute) → maximal_runs set ≡ maximal_runs other
same-runs set other same =
    maximal_runs_runs set (maximal_runs other) (runs_maximal_runs other) (λ minute below. same minute below ∙ sym (holds-maximal_runs other minute below))

any_spelled : (spellings : List Spelling) (minute : ℕ) → minute < 10080 → any_has (map simple_of spellings) minute ≡ list_any (has_spelled minute) spellings
any_spelled [] minute below = refl
any_spelled (spelling ∷ spellings) minute below =
    ap (λ b. b || any_has (map simple_of spellings) minute) (spelled-minutes spelling minute below)
    ∙ ap (λ b. has_spelled minute spelling || b) (any_spelled spellings minute below)

-- the runs of what is read are those of what is written
pub read_minutes : (simples : List Simple) (spellings : List Spelling) → simples ≡ map simple_of spellings → maximal_runs (any_has simples) ≡ spelled_minutes spellings
read_minutes simples spellings are =
    ap (λ (ss : List Simple). maximal_runs (any_has ss)) are
    ∙ same-runs (any_has (map simple_of spellings)) (λ minute. list_any (has_spelled minute) spellings) (any_spelled spellings)

-- what an answer says of the text
abbrev pub Means : Tables → List ℕ → Result (List (ℕ × ℕ)) TimeFault → Type 0
Means tables text result = MatchResult result (IsTimeString tables text) (λ _. (windows : List (ℕ × ℕ)) → ¬ IsTimeString tables text windows)

err-ok : {X : Type 0} (at : ℕ) (x : X) (r : Result X ℕ) → r ≡ Err at → r ≡ Ok x → ⊥
err-ok at x r err ok = cc

no-list : (tables : Tables) (text : List ℕ) (at : ℕ) → ¬ IsNever text → table_at tables text ≡ None → list_of text ≡ Err at → (windows : List (ℕ × ℕ)) → ¬ IsTimeString tables text windows
no-list tables text at other none unread windows (never is) = other is
no-list tables text at other none unread windows (named w is_other found) = none-some w (table_at tables text) none found
no-list tables text at other none unread windows (listed spellings is_other is_none spells) =
    err-ok at (map simple_of spellings) (list_of text) unread (lists_read (lower text) spellings spells)

means_list : (tables : Tables) (line : ℕ) (text : List ℕ) → ¬ IsNever text → table_at tables text ≡ None → (list : Result (List Simple) ℕ) → list_of text ≡ list
    → Means tables text (elim list [ Ok simples ↦ Ok (maximal_runs (any_has simples)) | Err at ↦ Err (unreadable line text at) ])
means_list tables line text other none (Ok simples) read =
    let found = reads_lists (lower text) simples read in
    subst (λ (windows : List (ℕ × ℕ)). IsTimeString tables text windows) (sym (read_minutes simples found.spellings found.are)) (listed found.spellings other none found.spells)
means_list tables line text other none (Err at) unread = no-list tables text at other none unread

means_table : (tables : Tables) (line : ℕ) (text : List ℕ) → ¬ IsNever text → (found : Option (List (ℕ × ℕ))) → table_at tables text ≡ found
    → Means tables text (elim found [ Some windows ↦ Ok windows | None ↦ windows_in line text ])
means_table tables line text other (Some windows) found = named windows other found
means_table tables line text other None found = means_list tables line text other found (list_of text) refl

means_never : (tables : Tables) (line : ℕ) (text : List ℕ) (b : Bool) → bytes_eq (lower text) (codes "never") ≡ b
    → Means tables text (cond b (Ok []) (elim (table_at tables text) [ Some windows ↦ Ok windows | None ↦ windows_in line text ]))
means_never tables line text true is = never ((bytes_eq-Decides (lower text) (codes "never")).0 is)
means_never tables line text false is =
    means_table tables line text (λ same. false≢true (sym is ∙ (bytes_eq-Decides (lower text) (codes "never")).1 same)) (table_at tables text) refl

pub time_means : (tables : Tables) (line : ℕ) (text : List ℕ) → Means tables text (time_of tables line text)
time_means tables line text = means_never tables line text (bytes_eq (lower text) (codes "never")) refl

-- what is read is what the text means
pub read_string : (tables : Tables) (text : List ℕ) (result : Result (List (ℕ × ℕ)) TimeFault) → Means tables text result → IfOk result (IsTimeString tables text)
read_string tables text (Ok windows) means = means
read_string tables text (Err fault) means = tt

pub refused_string : (tables : Tables) (text : List ℕ) (result : Result (List (ℕ × ℕ)) TimeFault) → Means tables text result
    → IfErr result (λ _. (windows : List (ℕ × ℕ)) → ¬ IsTimeString tables text windows)
refused_string tables text (Ok windows) means = tt
refused_string tables text (Err fault) means = means

-- an answer as expected, or out of memory
abbrev pub MeansUnlessMemory : Tables → List ℕ → Result (List (ℕ × ℕ)) TimeFault → Type 0
MeansUnlessMemory tables text result =
    MatchResult result (IsTimeString tables text) (λ fault. UnlessMemory fault ((windows : List (ℕ × ℕ)) → ¬ IsTimeString tables text windows))

pub answer_means : (tables : Tables) (text : List ℕ) (answer expected : Result (List (ℕ × ℕ)) TimeFault) → Means tables text expected → AnswersUnlessMemory answer expected
    → MeansUnlessMemory tables text answer
answer_means tables text (Ok windows) expected means same = subst (Means tables text) (sym same) means
answer_means tables text (Err MomentRange) expected means same = subst (Means tables text) (sym same) means
answer_means tables text (Err OffsetRange) expected means same = subst (Means tables text) (sym same) means
answer_means tables text (Err (BadTime line at)) expected means same = subst (Means tables text) (sym same) means
answer_means tables text (Err (UnknownTable line)) expected means same = subst (Means tables text) (sym same) means
answer_means tables text (Err (TableTwice line)) expected means same = subst (Means tables text) (sym same) means
answer_means tables text (Err (BadNumber line)) expected means same = subst (Means tables text) (sym same) means
answer_means tables text (Err (BadSystem line)) expected means same = subst (Means tables text) (sym same) means
answer_means tables text (Err (TooManyLines line)) expected means same = subst (Means tables text) (sym same) means
answer_means tables text (Err (SystemTwice line)) expected means same = subst (Means tables text) (sym same) means
answer_means tables text (Err (BadWords line)) expected means same = subst (Means tables text) (sym same) means
answer_means tables text (Err Memory) expected means same = tt
answer_means tables text (Err BadZone) expected means same = subst (Means tables text) (sym same) means

pub string_of : (tables : Tables) (text : List ℕ) (answer : Result (List (ℕ × ℕ)) TimeFault) → MeansUnlessMemory tables text answer → IfOk answer (IsTimeString tables text)
string_of tables text (Ok windows) means = means
string_of tables text (Err fault) means = tt

pub refusal_of : (tables : Tables) (text : List ℕ) (answer : Result (List (ℕ × ℕ)) TimeFault) → MeansUnlessMemory tables text answer
    → IfErr answer (λ fault. UnlessMemory fault ((windows : List (ℕ × ℕ)) → ¬ IsTimeString tables text windows))
refusal_of tables text (Ok windows) means = tt
refusal_of tables text (Err fault) means = means
