-- The entries of a line that `clap` takes: what the program's own rules make of the checks that its
-- words pass.
use Rattle.std.proofs.Common.{◌≡◌, ◌&&◌, ◌||◌, ◌==◌, ◌≤◌, ◌⊎◌, ⊎_elim, sym, refl, subst, ℕ, Bool, true, false, not, cond, List, [], ◌∷◌, ◌++◌, length, codes, fold, Option, Some, None, is_some, true≢false, arith}
use Rattle.std.specs.Prelude.{⊤, IsSome, find, nat_le, nat_lt, option_and_then, option_map, slice_get, unwrap_or}
use Rattle.std.specs.List.{list_all, list_any}
use Rattle.std.specs.Option.{option_map_or}
use Rattle.std.specs.Str.{bytes_eq}
use Rattle.std.specs.Str.Parse.{digits_value, without_leading_plus}
use Rattle.std.proofs.lemmas.Bool.{leb-true, le-leb, and_from, or_left, or_right, or_cases, or_parts}
use Rattle.std.proofs.lemmas.Slice.Eq.{bytes_eq-Decides}
use Rattle.clap.specs.Facts.{explicit_source, parser_of_value, unwrap_or_range}
use Rattle.clap.specs.Values.{refused_kind}
use Rattle.clap.specs.ValueTests.{is_unsigned_in}
use Rattle.clap.specs.Walk.{Held, Names, Row, Rule, trailing, Text, Waiting, Walk, action_of, answers_to, at_row, default_rows, first_of, finished, has_row, is_empty, long_or_other, more_values, most_values, nothing_held, reading_by, rows_after, settled, subcommand_met, subcommand_or_other, values_or_missing, walk, walk_from, walked, walked_from, with_default, word_met}
use Rattle.clap.specs.Lexer.{long_of}
use Rattle.clap.specs.Simple.{App, Shape, entered, label_of, names_of}
use Rattle.clap.specs.Takes.{is_given}
use Rattle.clap.specs.Kinds.{Kinds, check_kinds, or_else, range_kinds, value_kinds, values_kinds}
use Rattle.clap.specs.Faults.{action_fault, built_fault, check_fault, defaults_fault, entered_fault, level_fault, other_fault, repeat_fault, settle_fault, step_fault, turn_fault, use_fault, values_fault, walk_fault, word_fault}
use Rattle.clap.specs.declared.builder.action.ArgAction.{ArgAction}
use Rattle.clap.specs.declared.builder.action.ArgAction.TheVariants as action
use Rattle.clap.specs.declared.builder.value_parser.Reading.{Reading}
use Rattle.clap.specs.declared.builder.value_parser.ValueParser.{ValueParser}
use Rattle.clap.specs.declared.builder.value_parser.ValueParser.TheVariants as vp
use Rattle.clap.specs.declared.parser.matches.ValueSource.TheVariants.{DefaultValue}
use Rattle.clap.specs.declared.error.kind.ErrorKind.{ErrorKind}
use Rattle.clap.specs.declared.error.kind.ErrorKind.TheVariants as kind
use Rattle.clap.proofs.SimpleLemmas.{is_false, is_nil}
use Rattle.clap.proofs.WalkLemmas.{both}
use Rattle.uu_line.specs.Internal.Entries.{AreNumbersUpTo, AreLineEntries, HasSubcommand, HaveTexts, IsEntered, most_job, most_second, most_size, subcommand_named, texts_of}
use Rattle.uu_line.specs.Lines.{texts_at}
use Rattle.uu_line.proofs.StopLemmas.{long_steps, steps_so, step_stops, stops_so}
use Rattle.uu_line.proofs.UseLemmas.{HoldsIfAny, RowsHold, RulesHold, UsesHold, all_pass, first_passes, is_counting, level_holds, then_passes}

-- ---- tests

where_it : (a b : Bool) → (not a || b) ≡ true → a ≡ true → b ≡ true
where_it true b e is = e
where_it false b e is = absurd (true≢false (sym is))

any_left : {X : Type 0} (p : X → Bool) (xs ys : List X) → list_any p xs ≡ true → list_any p (xs ++ ys) ≡ true
any_left p [] ys e = absurd (true≢false (sym e))
any_left p (x ∷ xs) ys e = ⊎_elim (λ here. or_left (p x) _ here) (λ later. or_right (p x) _ (any_left p xs ys later)) (or_cases (p x) (list_any p xs) e)

any_right : {X : Type 0} (p : X → Bool) (xs ys : List X) → list_any p ys ≡ true → list_any p (xs ++ ys) ≡ true
any_right p [] ys e = e
any_right p (x ∷ xs) ys e = or_right (p x) _ (any_right p xs ys e)

any_found : {X : Type 0} (p : X → Bool) (xs : List X) → list_any p xs ≡ true → is_some (find p xs) ≡ true
any_found p [] e = absurd (true≢false (sym e))
any_found p (x ∷ xs) e = go (p x) (any_found p xs) e
  where
    go : (b : Bool) → (list_any p xs ≡ true → is_some (find p xs) ≡ true) → (b || list_any p xs) ≡ true → is_some (cond b (Some x) (find p xs)) ≡ true
    go true more e = refl
    go false more e = more e

-- what is found passes, as all of the list do
found_passes : {X : Type 0} (p test : X → Bool) (xs : List X) (x : X) → list_all test xs ≡ true → Some x ≡ find p xs → (p x ≡ true) × (test x ≡ true)
found_passes p test [] x all is = absurd cc
found_passes p test (y ∷ ys) x all is = go (p y) refl (found_passes p test ys x (both (test y) (list_all test ys) all).1) is
  where
    go : (b : Bool) → p y ≡ b → (Some x ≡ find p ys → (p x ≡ true) × (test x ≡ true)) → Some x ≡ cond b (Some y) (find p ys) → (p x ≡ true) × (test x ≡ true)
    go true passes more is =
        let same : y ≡ x = cc in
        (subst (λ z. p z ≡ true) same passes, subst (λ z. test z ≡ true) same (both (test y) (list_all test ys) all).0)
    go false passes more is = more is

-- ---- uses with a value

abbrev SomeValues : List Text → Type 0
SomeValues [] = ⊥
SomeValues (v ∷ vs) = ⊤

some_joins : (xs ys : List Text) → SomeValues xs → SomeValues ys → SomeValues (xs ++ ys)
some_joins [] ys h k = absurd h
some_joins (x ∷ xs) ys h k = tt

-- each use of the argument has a value
abbrev takes_some : Rule → Bool
takes_some a = nat_lt 0 (unwrap_or_range a.range).start_inclusive && not (is_counting (action_of a))

no_values : (wanted : Bool) (rest : Kinds) → wanted ≡ true → cond (wanted && (0 == 0)) (kind.InvalidValue ∷ []) rest ≡ [] → ⊥
no_values true rest is e = absurd cc
no_values false rest is e = true≢false (sym is)

takes_some_holds : (a : Rule) → takes_some a ≡ true → UsesHold SomeValues a
takes_some_holds a test = record {
  counts = is_false (is_counting (action_of a)) parts.1;
  passing = by_values;
  default = by_default a.defaults;
}
  where
    parts : (nat_lt 0 (unwrap_or_range a.range).start_inclusive ≡ true) × (not (is_counting (action_of a)) ≡ true)
    parts = both _ _ test

    by_values : (again : Bool) (values : List Text) (rows : List Row) → use_fault again a values rows ≡ [] → SomeValues (values_or_missing a values)
    by_values again [] rows e =
        absurd (no_values (nat_lt 0 (unwrap_or_range a.range).start_inclusive) _ parts.0
        (first_passes (range_kinds (unwrap_or_range a.range).start_inclusive (most_values a) 0) (action_fault (action_of a) again a (values_or_missing a []) rows) e))
    by_values again (v ∷ vs) rows e = tt

    by_default : (vs : List Text) → HoldsIfAny SomeValues vs
    by_default [] = tt
    by_default (v ∷ vs) = tt

-- ---- uses with numbers

up_to_joins : (most : ℕ) (xs ys : List Text) → AreNumbersUpTo most xs → AreNumbersUpTo most ys → AreNumbersUpTo most (xs ++ ys)
up_to_joins most [] ys h k = k
up_to_joins most (x ∷ xs) ys h k =
    let parts = both (is_unsigned_in 0 most x) (list_all (is_unsigned_in 0 most) xs) h in
    and_from _ _ parts.0 (up_to_joins most xs ys parts.1 k)

abbrev reads_up_to : ℕ → ValueParser → Bool
reads_up_to most (vp.Unsigned low high) = nat_le high most
reads_up_to most _ = false

-- each value of a use is a whole number of at most this
abbrev takes_numbers : ℕ → Rule → Bool
takes_numbers most a =
    not (is_counting (action_of a)) && (reads_up_to most (parser_of_value a.parser) && is_empty a.defaults)

widened : (low high most : ℕ) (text : Text) → nat_le high most ≡ true → is_unsigned_in low high text ≡ true → is_unsigned_in 0 most text ≡ true
widened low high most text le e =
    let n = digits_value 10 (without_leading_plus text) in
    let numeral = both _ _ e in
    let fits = both _ _ numeral.1 in
    let bounds = both _ _ fits.1 in
    let above : n ≤ high = leb-true n high bounds.1 in
    let wide : high ≤ most = leb-true high most le in
    and_from _ _ numeral.0 (and_from _ _ fits.0 (and_from _ _ (le-leb 0 n (omega arith)) (le-leb n most (omega (arith, above, wide)))))

accepted : (b : Bool) (k : ErrorKind) → cond b [] (k ∷ []) ≡ [] → b ≡ true
accepted true k e = refl
accepted false k e = absurd cc

values_up_to : (ignore_case : Bool) (low high most : ℕ) (vs : List Text) → nat_le high most ≡ true → values_kinds ignore_case (vp.Unsigned low high) vs ≡ [] → AreNumbersUpTo most vs
values_up_to ignore_case low high most [] le e = refl
values_up_to ignore_case low high most (v ∷ vs) le e =
    let first = value_kinds ignore_case (vp.Unsigned low high) v in
    let rest = values_kinds ignore_case (vp.Unsigned low high) vs in
    and_from _ _ (widened low high most v le (accepted (is_unsigned_in low high v) (refused_kind (vp.Unsigned low high)) (first_passes first rest e)))
    (values_up_to ignore_case low high most vs le (then_passes first rest e))

parsed_up_to : (ignore_case : Bool) (p : ValueParser) (most : ℕ) (vs : List Text) → reads_up_to most p ≡ true → values_kinds ignore_case p vs ≡ [] → AreNumbersUpTo most vs
parsed_up_to ignore_case (vp.Unsigned low high) most vs le e = values_up_to ignore_case low high most vs le e
parsed_up_to ignore_case _ most vs le e = absurd (true≢false (sym le))

-- the values of any use pass the parser
action_values : (x : ArgAction) (again : Bool) (a : Rule) (values : List Text) (rows : List Row) → is_counting x ≡ false → action_fault x again a values rows ≡ [] → values_fault a values ≡ []
action_values action.Set again a values rows counts e = then_passes (repeat_fault again a.id rows) (values_fault a values) e
action_values action.SetTrue again a values rows counts e = then_passes (repeat_fault again a.id rows) (values_fault a values) e
action_values action.SetFalse again a values rows counts e = then_passes (repeat_fault again a.id rows) (values_fault a values) e
action_values action.Append again a values rows counts e = e
action_values action.Count again a values rows counts e = absurd (true≢false counts)
action_values action.Help again a values rows counts e = absurd cc
action_values action.HelpShort again a values rows counts e = absurd cc
action_values action.HelpLong again a values rows counts e = absurd cc
action_values action.Version again a values rows counts e = absurd cc

takes_numbers_holds : (most : ℕ) (a : Rule) → takes_numbers most a ≡ true → UsesHold (AreNumbersUpTo most) a
takes_numbers_holds most a test = record {
  counts = counts;
  passing = λ again values rows e. parsed_up_to a.ignore_case (parser_of_value a.parser) most (values_or_missing a values) others.0
      (action_values (action_of a) again a (values_or_missing a values) rows counts
      (then_passes (range_kinds (unwrap_or_range a.range).start_inclusive (most_values a) (length values)) (action_fault (action_of a) again a (values_or_missing a values) rows) e));
  default = subst (HoldsIfAny (AreNumbersUpTo most)) (sym (is_nil a.defaults others.1)) tt;
}
  where
    parts : (not (is_counting (action_of a)) ≡ true) × ((reads_up_to most (parser_of_value a.parser) && is_empty a.defaults) ≡ true)
    parts = both _ _ test

    counts : is_counting (action_of a) ≡ false
    counts = is_false (is_counting (action_of a)) parts.0

    others : (reads_up_to most (parser_of_value a.parser) ≡ true) × (is_empty a.defaults ≡ true)
    others = both _ _ parts.1

-- ---- rules of an id

abbrev fit : Text → (Rule → Bool) → List Rule → Bool
fit id test = list_all (λ a. not (bytes_eq a.id id) || test a)

rules_fit : (id : Text) (Q : List Text → Type 0) (test : Rule → Bool) → ((a : Rule) → test a ≡ true → UsesHold Q a) → (c : List Rule) → fit id test c ≡ true → RulesHold id Q c
rules_fit id Q test uses [] e = tt
rules_fit id Q test uses (a ∷ c) e =
    let parts = both _ _ e in
    ((λ is. uses a (where_it (bytes_eq a.id id) (test a) parts.0 is)), rules_fit id Q test uses c parts.1)

-- ---- entries that are there

first_value : (vs : List Text) → SomeValues vs → is_some (slice_get vs 0) ≡ true
first_value [] h = absurd h
first_value (v ∷ vs) h = refl

text_there : (id : Text) (rows : List Row) → RowsHold id SomeValues rows → is_some (find (λ r. bytes_eq r.id id) rows) ≡ true → IsSome (first_of id rows)
text_there id [] h e = absurd (true≢false (sym e))
text_there id (r ∷ rs) h e = go (bytes_eq r.id id) refl (text_there id rs h.1) e
  where
    go : (b : Bool) → bytes_eq r.id id ≡ b → (is_some (find (λ r. bytes_eq r.id id) rs) ≡ true → IsSome (first_of id rs))
        → is_some (cond b (Some r) (find (λ r. bytes_eq r.id id) rs)) ≡ true
        → is_some (option_and_then (λ (r : Row). slice_get r.values 0) (cond b (Some r) (find (λ r. bytes_eq r.id id) rs))) ≡ true
    go true is more e = first_value r.values (h.0 is)
    go false is more e = more e

numbers_there : (id : Text) (most : ℕ) (rows : List Row) → RowsHold id (AreNumbersUpTo most) rows → AreNumbersUpTo most (texts_at id rows)
numbers_there id most [] h = refl
numbers_there id most (r ∷ rs) h = go (bytes_eq r.id id) refl (numbers_there id most rs h.1)
  where
    go : (b : Bool) → bytes_eq r.id id ≡ b → AreNumbersUpTo most (texts_at id rs)
        → AreNumbersUpTo most (unwrap_or (option_map (λ (r : Row). r.values) (cond b (Some r) (find (λ r. bytes_eq r.id id) rs))) [])
    go true is more = h.0 is
    go false is more = more

-- an argument that has to be given was
given_there : (wanted given : Bool) → wanted ≡ true → (wanted && not given) ≡ false → given ≡ true
given_there true true is e = refl
given_there true false is e = absurd (true≢false e)
given_there false given is e = absurd (true≢false (sym is))

required_given : (rows : List Row) (id : Text) (c : List Rule) → list_any (λ a. a.required && not (is_given a.id rows)) c ≡ false
    → list_any (λ a. a.required && bytes_eq a.id id) c ≡ true → is_given id rows ≡ true
required_given rows id [] missing e = absurd (true≢false (sym e))
required_given rows id (a ∷ c) missing e =
    let none = or_parts _ _ missing in
    ⊎_elim
    (λ here.
    let wanted = both a.required (bytes_eq a.id id) here in
    subst (λ key. is_given key rows ≡ true) ((bytes_eq-Decides a.id id).0 wanted.1) (given_there a.required (is_given a.id rows) wanted.0 none.0))
    (λ later. required_given rows id c none.1 later)
    (or_cases (a.required && bytes_eq a.id id) _ e)

given_found : (o : Option Row) → option_map_or (λ r. explicit_source r.source) o false ≡ true → is_some o ≡ true
given_found None e = absurd (true≢false (sym e))
given_found (Some r) e = refl

-- a default is put in if nothing was given
row_stays : (id key : Text) (change : Row → List Row) (missing rows : List Row) → ((r : Row) → bytes_eq r.id id ≡ true → has_row id (change r) ≡ true)
    → has_row id rows ≡ true → has_row id (at_row key change missing rows) ≡ true
row_stays id key change missing [] each e = absurd (true≢false (sym e))
row_stays id key change missing (r ∷ rs) each e = go (bytes_eq r.id key) (row_stays id key change missing rs each)
  where
    go : (b : Bool) → (has_row id rs ≡ true → has_row id (at_row key change missing rs) ≡ true) → has_row id (cond b (change r ++ rs) (r ∷ at_row key change missing rs)) ≡ true
    go true more = ⊎_elim (λ here. any_left _ (change r) rs (each r here)) (λ later. any_right _ (change r) rs later) (or_cases (bytes_eq r.id id) (has_row id rs) e)
    go false more = ⊎_elim (λ here. or_left (bytes_eq r.id id) _ here) (λ later. or_right (bytes_eq r.id id) _ (more later)) (or_cases (bytes_eq r.id id) (has_row id rs) e)

row_added : (key : Text) (change : Row → List Row) (missing rows : List Row) → ((r : Row) → bytes_eq r.id key ≡ true → has_row key (change r) ≡ true)
    → has_row key missing ≡ true → has_row key (at_row key change missing rows) ≡ true
row_added key change missing [] each e = e
row_added key change missing (r ∷ rs) each e = go (bytes_eq r.id key) refl (row_added key change missing rs each e)
  where
    go : (b : Bool) → bytes_eq r.id key ≡ b → has_row key (at_row key change missing rs) ≡ true → has_row key (cond b (change r ++ rs) (r ∷ at_row key change missing rs)) ≡ true
    go true is more = any_left _ (change r) rs (each r is)
    go false is more = or_right (bytes_eq r.id key) _ more

default_stays : (id key : Text) (how : Reading) (values : List Text) (rows : List Row) → has_row id rows ≡ true → has_row id (default_rows key how values rows) ≡ true
default_stays id key how [] rows e = e
default_stays id key how (v ∷ vs) rows e = row_stays id key (more_values DefaultValue (v ∷ vs)) _ rows (λ r is. or_left (bytes_eq r.id id) false is) e

with_default_stays : (id : Text) (rows : List Row) (a : Rule) → has_row id rows ≡ true → has_row id (with_default rows a) ≡ true
with_default_stays id rows a e = go (has_row a.id rows)
  where
    go : (b : Bool) → has_row id (cond b rows (default_rows a.id (reading_by a) a.defaults rows)) ≡ true
    go true = e
    go false = default_stays id a.id (reading_by a) a.defaults rows e

defaults_stay : (id : Text) (c : List Rule) (rows : List Row) → has_row id rows ≡ true → has_row id (fold with_default rows c) ≡ true
defaults_stay id [] rows e = e
defaults_stay id (a ∷ c) rows e = defaults_stay id c (with_default rows a) (with_default_stays id rows a e)

default_added : (key : Text) (how : Reading) (values : List Text) (rows : List Row) → not (is_empty values) ≡ true → has_row key (default_rows key how values rows) ≡ true
default_added key how [] rows some = absurd (true≢false (sym some))
default_added key how (v ∷ vs) rows some =
    let itself : bytes_eq key key ≡ true = (bytes_eq-Decides key key).1 refl in
    row_added key (more_values DefaultValue (v ∷ vs)) _ rows (λ r is. or_left (bytes_eq r.id key) false is) (or_left (bytes_eq key key) false itself)

with_default_added : (rows : List Row) (a : Rule) → not (is_empty a.defaults) ≡ true → has_row a.id (with_default rows a) ≡ true
with_default_added rows a some = go (has_row a.id rows) refl
  where
    go : (b : Bool) → has_row a.id rows ≡ b → has_row a.id (cond b rows (default_rows a.id (reading_by a) a.defaults rows)) ≡ true
    go true is = is
    go false is = default_added a.id (reading_by a) a.defaults rows some

default_there : (id : Text) (c : List Rule) (rows : List Row) → list_any (λ a. not (is_empty a.defaults) && bytes_eq a.id id) c ≡ true → has_row id (fold with_default rows c) ≡ true
default_there id [] rows e = absurd (true≢false (sym e))
default_there id (a ∷ c) rows e =
    ⊎_elim
    (λ here.
    let parts = both (not (is_empty a.defaults)) (bytes_eq a.id id) here in
    defaults_stay id c (with_default rows a) (subst (λ key. has_row key (with_default rows a) ≡ true) ((bytes_eq-Decides a.id id).0 parts.1) (with_default_added rows a parts.0)))
    (λ later. default_there id c (with_default rows a) later)
    (or_cases (not (is_empty a.defaults) && bytes_eq a.id id) _ e)

-- ---- one level of the words

checks_pass : (a b c : Bool) → check_kinds a b c ≡ [] → (b ≡ false) × (c ≡ false)
checks_pass true b c e = absurd cc
checks_pass false true c e = absurd cc
checks_pass false false true e = absurd cc
checks_pass false false false e = (refl, refl)

none_missing : (negates missing : Bool) → (not (negates && false) && missing) ≡ false → missing ≡ false
none_missing true missing e = e
none_missing false missing e = e

abbrev has_required : Text → Shape → Bool
has_required id s = list_any (λ a. a.required && bytes_eq a.id id) s.rules

abbrev has_default : Text → Shape → Bool
has_default id s = list_any (λ a. not (is_empty a.defaults) && bytes_eq a.id id) s.rules

-- every line of the level has a text under this id
abbrev has_text : Text → Shape → Bool
has_text id s = fit id takes_some s.rules && (has_required id s || has_default id s)

module _ (s : Shape) (names : Names) (words : List Text) where
  rows_pass : (has : Bool) (below : Kinds) → level_fault s names nothing_held words has below ≡ []
      → (walk_fault s names (walk_from nothing_held) words ≡ []) × (below ≡ []) × (check_fault s (rows_after s.rules names words) has ≡ [])
  rows_pass has below e =
      let end = (walk s.rules names nothing_held words).held in
      let passes = all_pass (walk_fault s names (walk_from nothing_held) words) below (settle_fault s.rules s.args_override_self end)
      (defaults_fault (settled s.rules end).rows s.rules) (check_fault s (finished s.rules end) has) e in
      (passes.0, passes.1, passes.4)

  default_text : (id : Text) (has : Bool) (below : Kinds) → level_fault s names nothing_held words has below ≡ [] → fit id takes_some s.rules ≡ true → has_default id s ≡ true
      → IsSome (first_of id (rows_after s.rules names words))
  default_text id has below e fits there =
      let end = (walk s.rules names nothing_held words).held in
      text_there id (rows_after s.rules names words)
      (level_holds id SomeValues some_joins s (rules_fit id SomeValues takes_some takes_some_holds s.rules fits) names words has below e)
      (any_found (λ r. bytes_eq r.id id) (rows_after s.rules names words) (default_there id s.rules (settled s.rules end).rows there))

  required_text : (id : Text) (below : Kinds) → level_fault s names nothing_held words false below ≡ [] → fit id takes_some s.rules ≡ true → has_required id s ≡ true
      → IsSome (first_of id (rows_after s.rules names words))
  required_text id below e fits there =
      let rows = rows_after s.rules names words in
      let missing = none_missing s.subcommand_negates_reqs (list_any (λ a. a.required && not (is_given a.id rows)) s.rules)
      (checks_pass (not false && (s.arg_required_else_help && not (list_any (λ r. explicit_source r.source) rows))) (not false && s.subcommand_required)
      (not (s.subcommand_negates_reqs && false) && list_any (λ a. a.required && not (is_given a.id rows)) s.rules) (rows_pass false below e).2).1 in
      text_there id rows
      (level_holds id SomeValues some_joins s (rules_fit id SomeValues takes_some takes_some_holds s.rules fits) names words false below e)
      (given_found (find (λ r. bytes_eq r.id id) rows) (required_given rows id s.rules missing there))

  level_text : (id : Text) (below : Kinds) → level_fault s names nothing_held words false below ≡ [] → has_text id s ≡ true → IsSome (first_of id (rows_after s.rules names words))
  level_text id below e test =
      let parts = both (fit id takes_some s.rules) (has_required id s || has_default id s) test in
      ⊎_elim (λ required. required_text id below e parts.0 required) (λ default. default_text id false below e parts.0 default) (or_cases (has_required id s) (has_default id s) parts.1)

  level_texts : (ids : List Text) (below : Kinds) → level_fault s names nothing_held words false below ≡ [] → list_all (λ id. has_text id s) ids ≡ true → HaveTexts ids (rows_after s.rules names words)
  level_texts [] below e test = tt
  level_texts (id ∷ ids) below e test =
      let parts = both (has_text id s) (list_all (λ id. has_text id s) ids) test in
      (level_text id below e parts.0, level_texts ids below e parts.1)

  level_numbers : (id : Text) (most : ℕ) (has : Bool) (below : Kinds) → level_fault s names nothing_held words has below ≡ [] → fit id (takes_numbers most) s.rules ≡ true
      → AreNumbersUpTo most (texts_at id (rows_after s.rules names words))
  level_numbers id most has below e fits =
      numbers_there id most (rows_after s.rules names words)
      (level_holds id (AreNumbersUpTo most) (up_to_joins most) s (rules_fit id (AreNumbersUpTo most) (takes_numbers most) (takes_numbers_holds most) s.rules fits) names words has below e)

-- ---- where the words stop for a subcommand: never at `help`

abbrev is_other : Text → Bool
is_other name = not (bytes_eq name (codes "help"))

no_help : (is_help disabled : Bool) (k : ErrorKind) (ks : Kinds) → disabled ≡ false → cond (is_help && not disabled) (k ∷ ks) [] ≡ [] → not is_help ≡ true
no_help true true k ks off e = absurd (true≢false off)
no_help true false k ks off e = absurd cc
no_help false disabled k ks off e = refl

module _ (s : Shape) (names : Names) (helps : s.disable_help_subcommand ≡ false) where
  other_steps : (o : Option Text) (waiting : Waiting) (position : ℕ) (word : Text) (h : Held) → other_fault s o word h ≡ []
      → steps_so is_other (subcommand_or_other s.rules o waiting position word h).1 ≡ true
  other_steps (Some name) waiting position word h e = no_help (bytes_eq name (codes "help")) s.disable_help_subcommand kind.DisplayHelp (kind.InvalidSubcommand ∷ []) helps e
  other_steps None waiting position word h e = go (bytes_eq word (45 ∷ 45 ∷ []))
    where
      go : (b : Bool) → steps_so is_other (cond b (h, trailing position) (long_or_other s.rules waiting word (long_of word) h)).1 ≡ true
      go true = refl
      go false = long_steps is_other s.rules (long_of word) waiting word h

  word_steps : (is_trailing : Bool) (waiting : Waiting) (position : ℕ) (word : Text) (h : Held) → word_fault s names is_trailing waiting word h ≡ []
      → steps_so is_other (word_met s.rules names is_trailing waiting position word h).1 ≡ true
  word_steps true waiting position word h e = refl
  word_steps false waiting position word h e = other_steps (subcommand_met names waiting word) waiting position word h e

  turn_stops : (w : Walk) (word : Text) → turn_fault s names w word ≡ [] → stops_so is_other w.stopped ≡ true → stops_so is_other (walked s.rules names w word).stopped ≡ true
  unfolding walked
  turn_stops w word e so_far = go w.stopped e so_far
    where
      go : (o : Option (Text × List Text))
          → (let met = word_met s.rules names w.is_trailing w.waiting w.position word w.held in
          cond (is_some o) [] (or_else (word_fault s names w.is_trailing w.waiting word w.held) (step_fault s w.position met.0 met.1)) ≡ [])
          → stops_so is_other o ≡ true → stops_so is_other (walked_from s.rules names o w word).stopped ≡ true
      go (Some p) e well = well
      go None e well =
          let met = word_met s.rules names w.is_trailing w.waiting w.position word w.held in
          step_stops is_other s.rules word w met.0 met.1
          (word_steps w.is_trailing w.waiting w.position word w.held
          (first_passes (word_fault s names w.is_trailing w.waiting word w.held) (step_fault s w.position met.0 met.1) e)) so_far

  walk_stops : (w : Walk) (words : List Text) → walk_fault s names w words ≡ [] → stops_so is_other w.stopped ≡ true → stops_so is_other (fold (walked s.rules names) w words).stopped ≡ true
  unfolding walk_fault
  walk_stops w [] e so_far = so_far
  walk_stops w (word ∷ words) e so_far =
      let turn = turn_fault s names w word in
      let after = walked s.rules names w word in
      walk_stops after words (then_passes turn (walk_fault s names after words) e) (turn_stops w word (first_passes turn (walk_fault s names after words) e) so_far)

-- ---- a command with its subcommands

-- its jobs are numbers, and so are its sizes
abbrev has_numbers : Shape → Bool
has_numbers s = fit (codes "job") (takes_numbers most_job) s.rules && fit (codes "most") (takes_numbers most_size) s.rules

-- what a subcommand of the program passes
abbrev pub passes_below : Shape → Bool
passes_below s = is_empty s.aliases
    && (bytes_eq s.name (codes "help")
    || (is_some (subcommand_named s.name) && (list_all (λ id. has_text id s) (texts_of s.name) && has_numbers s)))

-- and what its own level does
abbrev pub passes_on_top : Shape → Bool
passes_on_top s = (fit (codes "as") takes_some s.rules && has_default (codes "as") s)
    && (fit (codes "at") (takes_numbers most_second) s.rules && (s.subcommand_required && not s.disable_help_subcommand))

met_there : (has wanted : Bool) → wanted ≡ true → (not has && wanted) ≡ false → has ≡ true
met_there true wanted is e = refl
met_there false true is e = absurd (true≢false e)
met_there false false is e = absurd (true≢false (sym is))

answered_by : (word name : Text) (aliases : List Text) → is_empty aliases ≡ true → answers_to word (name, aliases) ≡ true → bytes_eq name word ≡ true
answered_by word name aliases none e =
    ⊎_elim (λ own. own)
    (λ other. absurd (true≢false (sym (subst (λ (l : List Text). list_any (λ alias. bytes_eq alias word) l ≡ true) (is_nil aliases none) other))))
    (or_cases (bytes_eq name word) (list_any (λ alias. bytes_eq alias word) aliases) e)

-- the entries below, of a subcommand that is not `help`
below_taken : (s : Shape) (word : Text) (words : List Text) → passes_below s ≡ true → answers_to word (label_of s) ≡ true → is_other word ≡ true
    → level_fault s [] nothing_held words false [] ≡ [] → IsEntered s.name (rows_after s.rules [] words)
below_taken s word words test answers other e = record {
  known = parts.0;
  texts = level_texts s [] words (texts_of s.name) [] e more.0;
  jobs = level_numbers s [] words (codes "job") most_job false [] e numbers.0;
  sizes = level_numbers s [] words (codes "most") most_size false [] e numbers.1;
}
  where
    outer : (is_empty s.aliases ≡ true)
        × ((bytes_eq s.name (codes "help")
        || (is_some (subcommand_named s.name) && (list_all (λ id. has_text id s) (texts_of s.name) && has_numbers s))) ≡ true)
    outer = both _ _ test

    named_so : s.name ≡ word
    named_so = (bytes_eq-Decides s.name word).0 (answered_by word s.name s.aliases outer.0 answers)

    inner : (is_some (subcommand_named s.name) && (list_all (λ id. has_text id s) (texts_of s.name) && has_numbers s)) ≡ true
    inner = ⊎_elim
        (λ help. absurd (true≢false (sym (subst (λ b. not b ≡ true) (subst (λ t. bytes_eq t (codes "help") ≡ true) named_so help) other))))
        (λ own. own) (or_cases (bytes_eq s.name (codes "help")) _ outer.1)

    parts : (is_some (subcommand_named s.name) ≡ true) × ((list_all (λ id. has_text id s) (texts_of s.name) && has_numbers s) ≡ true)
    parts = both _ _ inner

    more : (list_all (λ id. has_text id s) (texts_of s.name) ≡ true) × (has_numbers s ≡ true)
    more = both _ _ parts.1

    numbers : (fit (codes "job") (takes_numbers most_job) s.rules ≡ true) × (fit (codes "most") (takes_numbers most_size) s.rules ≡ true)
    numbers = both _ _ more.1

module _ (b : App) (below : list_all passes_below b.subs ≡ true) (on_top : passes_on_top b.top ≡ true) where
  subcommand_taken : (stop : Option (Text × List Text)) → is_some (entered b stop) ≡ true → entered_fault b stop ≡ [] → stops_so is_other stop ≡ true → HasSubcommand (entered b stop)
  subcommand_taken None has e well = absurd (true≢false (sym has))
  subcommand_taken (Some p) has e well = go (find (λ s. answers_to p.0 (label_of s)) b.subs) refl has e
    where
      go : (o : Option Shape) → o ≡ find (λ s. answers_to p.0 (label_of s)) b.subs
          → is_some {T = Text × List Row} (option_map (λ (s : Shape). (s.name, rows_after s.rules [] p.1)) o) ≡ true
          → option_map_or (λ (s : Shape). level_fault s [] nothing_held p.1 false []) o [] ≡ []
          → HasSubcommand (option_map (λ (s : Shape). (s.name, rows_after s.rules [] p.1)) o)
      go None is has e = absurd (true≢false (sym has))
      go (Some s) is has e =
          let found = found_passes (λ s. answers_to p.0 (label_of s)) passes_below b.subs s below is in
          below_taken s p.0 p.1 found.1 found.0 well e

  pub all_taken : (words : List Text) → built_fault b nothing_held words ≡ []
      → AreLineEntries (rows_after b.top.rules (names_of b) words) (entered b (walk b.top.rules (names_of b) nothing_held words).stopped)
  all_taken words e = record {
    texts = (default_text b.top names words (codes "as") has lower e user.0 user.1, tt);
    second = level_numbers b.top names words (codes "at") most_second has lower e second.0;
    subcommand = subcommand_taken stop
        (met_there has b.top.subcommand_required needs.0
        (checks_pass (not has && (b.top.arg_required_else_help && not (list_any (λ r. explicit_source r.source) rows))) (not has && b.top.subcommand_required)
        (not (b.top.subcommand_negates_reqs && has) && list_any (λ a. a.required && not (is_given a.id rows)) b.top.rules) passes.2).0)
        passes.1 (walk_stops b.top names (is_false b.top.disable_help_subcommand needs.1) (walk_from nothing_held) words passes.0 refl);
  }
    where
      names : Names
      names = names_of b

      stop : Option (Text × List Text)
      stop = (walk b.top.rules (names_of b) nothing_held words).stopped

      has : Bool
      has = is_some (entered b (walk b.top.rules (names_of b) nothing_held words).stopped)

      lower : Kinds
      lower = entered_fault b (walk b.top.rules (names_of b) nothing_held words).stopped

      rows : List Row
      rows = rows_after b.top.rules (names_of b) words

      passes : (walk_fault b.top (names_of b) (walk_from nothing_held) words ≡ []) × (lower ≡ []) × (check_fault b.top rows has ≡ [])
      passes = rows_pass b.top (names_of b) words has lower e

      others : ((fit (codes "as") takes_some b.top.rules && has_default (codes "as") b.top) ≡ true)
          × ((fit (codes "at") (takes_numbers most_second) b.top.rules && (b.top.subcommand_required && not b.top.disable_help_subcommand)) ≡ true)
      others = both _ _ on_top

      user : (fit (codes "as") takes_some b.top.rules ≡ true) × (has_default (codes "as") b.top ≡ true)
      user = both _ _ others.0

      second : (fit (codes "at") (takes_numbers most_second) b.top.rules ≡ true) × ((b.top.subcommand_required && not b.top.disable_help_subcommand) ≡ true)
      second = both _ _ others.1

      needs : (b.top.subcommand_required ≡ true) × (not b.top.disable_help_subcommand ≡ true)
      needs = both _ _ second.1
