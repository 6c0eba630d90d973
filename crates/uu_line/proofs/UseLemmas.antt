-- What the entries of words have that `clap` takes. Each use of an argument passes that argument's
-- checks, so what they ask of the values of a use holds of every entry at the end.
use Rattle.std.proofs.Common.{◌≡◌, ◌+◌, ◌&&◌, sym, refl, subst, ℕ, zero, suc, Bool, true, false, cond, List, [], ◌∷◌, ◌++◌, length, drop, min, fold, Option, Some, None, is_some, true≢false}
use Rattle.std.specs.Prelude.{⊤, find, encode_utf8, slice_get}
use Rattle.std.specs.Option.{option_map_or}
use Rattle.std.specs.Str.{bytes_eq, chars}
use Rattle.std.proofs.lemmas.Slice.Eq.{bytes_eq-Decides}
use Rattle.clap.specs.Lexer.{long_of, short_of}
use Rattle.clap.specs.Matches.{count_text}
use Rattle.clap.specs.Walk.{Held, Names, Outcome, done, waits, plain, refused, Row, Rule, Step, next, trailing, subcommand, value, Text, Waiting, idle, option, positional, Walk, action_of, after_flag, after_step, arg_by_id, arg_by_index, arg_by_long, arg_by_short, at_row, attached_value, bundle, bundle_met, bundle_step, count_of, counted, default_rows, finished, flag_met, has_row, is_pending, long_met, long_or_other, more_values, new_count, nothing_held, option_met, option_word, plain_word, positional_held, pushed, reacted, reading_by, settled, settled_rows, short_met, short_or_plain, subcommand_met, subcommand_or_other, takes_several, takes_values, to_positional, used, used_as, used_by_id, values_or_missing, walk, walk_from, walked, walked_from, with_count, with_default, with_values, without, word_met}
use Rattle.clap.specs.Simple.{Shape}
use Rattle.clap.specs.Kinds.{Kinds, or_else}
use Rattle.clap.specs.Faults.{bundle_fault, bundle_step_fault, check_fault, defaults_fault, flag_word_fault, flags_fault, level_fault, long_fault, option_fault, other_fault, positional_fault, react_fault, settle_fault, short_fault, step_fault, stray_fault, turn_fault, use_fault, walk_fault, word_fault}
use Rattle.clap.specs.declared.builder.action.ArgAction.{ArgAction}
use Rattle.clap.specs.declared.builder.action.ArgAction.TheVariants as action
use Rattle.clap.specs.declared.builder.value_parser.Reading.{Reading}
use Rattle.clap.specs.declared.parser.matches.ValueSource.{ValueSource}
use Rattle.clap.specs.declared.parser.matches.ValueSource.TheVariants.{CommandLine, DefaultValue}
use Rattle.clap.specs.declared.error.kind.ErrorKind.TheVariants as kind

-- ---- steps, none of which fails

pub first_passes : (a b : Kinds) → or_else a b ≡ [] → a ≡ []
first_passes [] b e = refl
first_passes (k ∷ ks) b e = e

pub then_passes : (a b : Kinds) → or_else a b ≡ [] → b ≡ []
then_passes [] b e = e
then_passes (k ∷ ks) b e = absurd cc

-- all five of a level
pub all_pass : (a b c d e : Kinds) → or_else a (or_else b (or_else c (or_else d e))) ≡ [] → (a ≡ []) × (b ≡ []) × (c ≡ []) × (d ≡ []) × (e ≡ [])
all_pass a b c d e none =
    let after_a = then_passes a (or_else b (or_else c (or_else d e))) none in
    let after_b = then_passes b (or_else c (or_else d e)) after_a in
    let after_c = then_passes c (or_else d e) after_b in
    (first_passes a _ none, first_passes b _ after_a, first_passes c _ after_b, first_passes d e after_c, then_passes d e after_c)

same_id : (a b c : Text) → bytes_eq a b ≡ true → bytes_eq a c ≡ true → bytes_eq b c ≡ true
same_id a b c ab ac = subst (λ t. bytes_eq t c ≡ true) ((bytes_eq-Decides a b).0 ab) ac

-- ---- rows and rules

-- Q holds of the values of a row, if the row is of this id
abbrev pub RowHolds : Text → (List Text → Type 0) → Row → Type 0
RowHolds id Q row = bytes_eq row.id id ≡ true → Q row.values

-- and of each row
abbrev pub RowsHold : Text → (List Text → Type 0) → List Row → Type 0
RowsHold id Q [] = ⊤
RowsHold id Q (row ∷ rows) = RowHolds id Q row × RowsHold id Q rows

abbrev pub is_counting : ArgAction → Bool
is_counting action.Count = true
is_counting _ = false

-- Q holds of values that are there
abbrev pub HoldsIfAny : (List Text → Type 0) → List Text → Type 0
HoldsIfAny Q [] = ⊤
HoldsIfAny Q (v ∷ vs) = Q (v ∷ vs)

-- Q holds of the values of each use of the argument that passes its checks, and of its default
pub record UsesHold (Q : List Text → Type 0) (a : Rule) : Type 0 where
  pub counts : is_counting (action_of a) ≡ false
  pub passing : (again : Bool) (values : List Text) (rows : List Row) → use_fault again a values rows ≡ [] → Q (values_or_missing a values)
  pub default : HoldsIfAny Q a.defaults

abbrev pub RuleHolds : Text → (List Text → Type 0) → Rule → Type 0
RuleHolds id Q a = bytes_eq a.id id ≡ true → UsesHold Q a

abbrev pub RulesHold : Text → (List Text → Type 0) → List Rule → Type 0
RulesHold id Q [] = ⊤
RulesHold id Q (a ∷ rules) = RuleHolds id Q a × RulesHold id Q rules

-- a rule that is found is one of them
found_holds : (id : Text) (Q : List Text → Type 0) (p : Rule → Bool) (c : List Rule) (a : Rule) → RulesHold id Q c → Some a ≡ find p c → RuleHolds id Q a
found_holds id Q p [] a holds is = absurd cc
found_holds id Q p (x ∷ rest) a holds is = go (p x) (found_holds id Q p rest a holds.1) is
  where
    go : (b : Bool) → (Some a ≡ find p rest → RuleHolds id Q a) → Some a ≡ cond b (Some x) (find p rest) → RuleHolds id Q a
    go true more is =
        let same : x ≡ a = cc in
        subst (λ (r : Rule). RuleHolds id Q r) same holds.0
    go false more is = more is

module _ (id : Text) (Q : List Text → Type 0) (joins : (xs ys : List Text) → Q xs → Q ys → Q (xs ++ ys)) where
  rows_append : (xs ys : List Row) → RowsHold id Q xs → RowsHold id Q ys → RowsHold id Q (xs ++ ys)
  rows_append [] ys h k = k
  rows_append (x ∷ xs) ys h k = (h.0, rows_append xs ys h.1 k)

  at_row_holds : (key : Text) (change : Row → List Row) (missing rows : List Row)
      → ((r : Row) → bytes_eq r.id key ≡ true → RowHolds id Q r → RowsHold id Q (change r)) → RowsHold id Q missing
      → RowsHold id Q rows → RowsHold id Q (at_row key change missing rows)
  at_row_holds key change missing [] each rest h = rest
  at_row_holds key change missing (r ∷ rs) each rest h = go (bytes_eq r.id key) refl (at_row_holds key change missing rs each rest h.1)
    where
      go : (b : Bool) → bytes_eq r.id key ≡ b → RowsHold id Q (at_row key change missing rs)
          → RowsHold id Q (cond b (change r ++ rs) (r ∷ at_row key change missing rs))
      go true is more = rows_append (change r) rs (each r is h.0) h.1
      go false is more = (h.0, more)

  with_values_holds : (key : Text) (how : Reading) (s : ValueSource) (values : List Text) (rows : List Row)
      → (bytes_eq key id ≡ true → Q values) → RowsHold id Q rows → RowsHold id Q (with_values key how s values rows)
  with_values_holds key how s values rows given h =
      at_row_holds key (more_values s values) (record { id = key; values = values; count = None; source = Some s; reading = how } ∷ []) rows
      (λ r same holds. ((λ is. joins r.values values (holds is) (given (same_id r.id key id same is))), tt)) (given, tt) h

  without_holds : (key : Text) (rows : List Row) → RowsHold id Q rows → RowsHold id Q (without key rows)
  without_holds key rows h = at_row_holds key (λ _. []) [] rows (λ r same holds. tt) tt h

  with_count_holds : (key : Text) (how : Reading) (s : ValueSource) (n : ℕ) (rows : List Row)
      → (bytes_eq key id ≡ true → ⊥) → RowsHold id Q rows → RowsHold id Q (with_count key how s n rows)
  with_count_holds key how s n rows never h =
      at_row_holds key (new_count s n) (record { id = key; values = count_text n ∷ []; count = Some n; source = Some s; reading = how } ∷ []) rows
      (λ r same holds. ((λ is. absurd (never (same_id r.id key id same is))), tt)) ((λ is. absurd (never is)), tt) h

  counted_holds : (key : Text) (how : Reading) (values : List Text) (rows : List Row)
      → (bytes_eq key id ≡ true → ⊥) → RowsHold id Q rows → RowsHold id Q (counted key how values rows)
  counted_holds key how [] rows never h =
      with_count_holds key how CommandLine (min (count_of key rows + 1) 255) (without key rows) never (without_holds key rows h)
  counted_holds key how (v ∷ vs) rows never h =
      with_values_holds key how CommandLine (v ∷ vs) (without key rows) (λ is. absurd (never is)) (without_holds key rows h)

  used_as_holds : (x : ArgAction) (key : Text) (how : Reading) (values : List Text) (rows : List Row)
      → (bytes_eq key id ≡ true → (is_counting x ≡ false) × Q values) → RowsHold id Q rows → RowsHold id Q (used_as x key how values rows)
  used_as_holds action.Set key how values rows of h = with_values_holds key how CommandLine values (without key rows) (λ is. (of is).1) (without_holds key rows h)
  used_as_holds action.SetTrue key how values rows of h = with_values_holds key how CommandLine values (without key rows) (λ is. (of is).1) (without_holds key rows h)
  used_as_holds action.SetFalse key how values rows of h = with_values_holds key how CommandLine values (without key rows) (λ is. (of is).1) (without_holds key rows h)
  used_as_holds action.Append key how values rows of h = with_values_holds key how CommandLine values rows (λ is. (of is).1) h
  used_as_holds action.Count key how values rows of h = counted_holds key how values rows (λ is. true≢false (of is).0) h
  used_as_holds action.Help key how values rows of h = h
  used_as_holds action.HelpShort key how values rows of h = h
  used_as_holds action.HelpLong key how values rows of h = h
  used_as_holds action.Version key how values rows of h = h

  -- a use that passes
  used_holds : (a : Rule) → RuleHolds id Q a → (again : Bool) (values : List Text) (rows : List Row) → use_fault again a values rows ≡ []
      → RowsHold id Q rows → RowsHold id Q (used a values rows)
  used_holds a of again values rows e h =
      used_as_holds (action_of a) a.id (reading_by a) (values_or_missing a values) rows (λ is. ((of is).counts, (of is).passing again values rows e)) h

  -- a default, if the argument wasn't used
  default_rows_holds : (key : Text) (how : Reading) (values : List Text) (rows : List Row)
      → (bytes_eq key id ≡ true → HoldsIfAny Q values) → RowsHold id Q rows → RowsHold id Q (default_rows key how values rows)
  default_rows_holds key how [] rows of h = h
  default_rows_holds key how (v ∷ vs) rows of h = with_values_holds key how DefaultValue (v ∷ vs) rows of h

  with_default_holds : (rows : List Row) (a : Rule) → RuleHolds id Q a → RowsHold id Q rows → RowsHold id Q (with_default rows a)
  with_default_holds rows a of h = go (has_row a.id rows)
    where
      go : (b : Bool) → RowsHold id Q (cond b rows (default_rows a.id (reading_by a) a.defaults rows))
      go true = h
      go false = default_rows_holds a.id (reading_by a) a.defaults rows (λ is. (of is).default) h

  defaults_hold : (c : List Rule) (rows : List Row) → RulesHold id Q c → RowsHold id Q rows → RowsHold id Q (fold with_default rows c)
  defaults_hold [] rows holds h = h
  defaults_hold (a ∷ c) rows holds h = defaults_hold c (with_default rows a) holds.1 (with_default_holds rows a holds.0 h)

-- ---- the walk over the words

module _ (id : Text) (Q : List Text → Type 0) (joins : (xs ys : List Text) → Q xs → Q ys → Q (xs ++ ys)) (c : List Rule) (again : Bool) (holds : RulesHold id Q c) where
  pending_holds : (pending : Option (Text × List Text)) (rows : List Row)
      → option_map_or (λ p. option_map_or (λ a. use_fault again a p.1 rows) (arg_by_id c p.0) []) pending [] ≡ []
      → RowsHold id Q rows → RowsHold id Q (settled_rows c pending rows)
  pending_holds None rows e h = h
  pending_holds (Some p) rows e h = go (arg_by_id c p.0) refl e
    where
      go : (o : Option Rule) → o ≡ arg_by_id c p.0 → option_map_or (λ a. use_fault again a p.1 rows) o [] ≡ [] → RowsHold id Q (used_by_id o p.1 rows)
      go None is e = h
      go (Some a) is e = used_holds id Q joins a (found_holds id Q (λ a. bytes_eq a.id p.0) c a holds is) again p.1 rows e h

  settled_holds : (h : Held) → settle_fault c again h ≡ [] → RowsHold id Q h.rows → RowsHold id Q (settled c h).rows
  settled_holds h e rows = pending_holds h.pending h.rows e rows

  reacted_holds : (a : Rule) (values : List Text) (h : Held) → RuleHolds id Q a → react_fault c again a values h ≡ [] → RowsHold id Q h.rows
      → RowsHold id Q (reacted c a values h).rows
  reacted_holds a values h of e rows =
      let first = settle_fault c again h in
      let second = use_fault again a values (settled c h).rows in
      used_holds id Q joins a of again values (settled c h).rows (then_passes first second e) (settled_holds h (first_passes first second e) rows)

  option_holds : (a : Rule) (v : Option Text) (h : Held) → RuleHolds id Q a → option_fault c again a v h ≡ [] → RowsHold id Q h.rows
      → RowsHold id Q (option_met c a v h).0.rows
  option_holds a (Some v) h of e rows = reacted_holds a (v ∷ []) h of e rows
  option_holds a None h of e rows = settled_holds h e rows

  flag_holds : (a : Rule) (v : Option Text) (h : Held) → RuleHolds id Q a → cond (is_some v) (kind.TooManyValues ∷ []) (react_fault c again a [] h) ≡ []
      → RowsHold id Q h.rows → RowsHold id Q (flag_met c a v h).0.rows
  flag_holds a (Some v) h of e rows = rows
  flag_holds a None h of e rows = reacted_holds a [] h of e rows

  long_holds : (found : Option Rule) (v : Option Text) (h : Held) → ((a : Rule) → Some a ≡ found → RuleHolds id Q a) → long_fault c again found v h ≡ []
      → RowsHold id Q h.rows → RowsHold id Q (long_met c found v h).0.rows
  long_holds None v h of e rows = rows
  long_holds (Some a) v h of e rows = go (takes_values a) e
    where
      go : (b : Bool) → cond b (option_fault c again a v h) (cond (is_some v) (kind.TooManyValues ∷ []) (react_fault c again a [] h)) ≡ []
          → RowsHold id Q (cond b (option_met c a v h) (flag_met c a v h)).0.rows
      go true e = option_holds a v h (of a refl) e rows
      go false e = flag_holds a v h (of a refl) e rows

  short_holds : (found : Option Rule) (rest : Text) (h : Held) (more : Held → Held × Outcome) (more_fault : Held → Kinds)
      → ((a : Rule) → Some a ≡ found → RuleHolds id Q a) → ((k : Held) → more_fault k ≡ [] → RowsHold id Q k.rows → RowsHold id Q (more k).0.rows)
      → short_fault c again found rest h more_fault ≡ [] → RowsHold id Q h.rows → RowsHold id Q (short_met c found rest h more).0.rows
  short_holds None rest h more more_fault of after e rows = rows
  short_holds (Some a) rest h more more_fault of after e rows = go (takes_values a) e
    where
      go : (b : Bool) → cond b (option_fault c again a (attached_value rest) h) (or_else (react_fault c again a [] h) (more_fault (reacted c a [] h))) ≡ []
          → RowsHold id Q (cond b (option_met c a (attached_value rest) h) (more (reacted c a [] h))).0.rows
      go true e = option_holds a (attached_value rest) h (of a refl) e rows
      go false e =
          let first = react_fault c again a [] h in
          let second = more_fault (reacted c a [] h) in
          after (reacted c a [] h) (then_passes first second e) (reacted_holds a [] h (of a refl) (first_passes first second e) rows)

  bundle_step_holds : (o : Option ℕ) (skip : ℕ) (flags : Text) (so_far : Outcome) (h : Held) (more : Text → ℕ → Outcome → Held → Held × Outcome) (more_fault : Text → ℕ → Held → Kinds)
      → ((t : Text) (n : ℕ) (s : Outcome) (k : Held) → more_fault t n k ≡ [] → RowsHold id Q k.rows → RowsHold id Q (more t n s k).0.rows)
      → bundle_step_fault c again o flags skip h more_fault ≡ [] → RowsHold id Q h.rows → RowsHold id Q (bundle_step c o flags skip so_far h more).0.rows
  bundle_step_holds None skip flags so_far h more more_fault after e rows = rows
  bundle_step_holds (Some x) zero flags so_far h more more_fault after e rows =
      let rest = drop (length (encode_utf8 x)) flags in
      short_holds (arg_by_short c x) rest h (more rest 0 done) (more_fault rest 0)
      (λ a is. found_holds id Q _ c a holds is) (λ k. after rest 0 done k) e rows
  bundle_step_holds (Some x) (suc skip) flags so_far h more more_fault after e rows = after (drop (length (encode_utf8 x)) flags) skip so_far h e rows

  bundle_holds : (k : ℕ) (flags : Text) (skip : ℕ) (so_far : Outcome) (h : Held) → flags_fault c again k flags skip h ≡ [] → RowsHold id Q h.rows
      → RowsHold id Q (bundle_met c k flags skip so_far h).0.rows
  unfolding flags_fault bundle_met
  bundle_holds zero flags skip so_far h e rows = rows
  bundle_holds (suc k) flags skip so_far h e rows =
      bundle_step_holds (slice_get (chars flags) 0) skip flags so_far h (bundle_met c k) (flags_fault c again k) (bundle_holds k) e rows

  -- a word that isn't a flag, and what comes after a flag, leave the rows
  option_word_rows : (o : Option Rule) (key word : Text) (h : Held) → (option_word o key word h).0.rows ≡ h.rows
  option_word_rows None key word h = refl
  option_word_rows (Some a) key word h = refl

  plain_word_rows : (waiting : Waiting) (word : Text) (h : Held) → (plain_word c waiting word h).0.rows ≡ h.rows
  plain_word_rows idle word h = refl
  plain_word_rows (option key) word h = option_word_rows (arg_by_id c key) key word h
  plain_word_rows positional word h = refl

  after_flag_rows : (waiting : Waiting) (word : Text) (h : Held) (o : Outcome) → (after_flag c waiting word h o).0.rows ≡ h.rows
  after_flag_rows waiting word h done = refl
  after_flag_rows waiting word h (waits key) = refl
  after_flag_rows waiting word h plain = plain_word_rows waiting word h
  after_flag_rows waiting word h refused = plain_word_rows waiting word h

  short_word_holds : (o : Option Text) (waiting : Waiting) (word : Text) (h : Held) → option_map_or (λ flags. bundle_fault c again flags h) o [] ≡ []
      → RowsHold id Q h.rows → RowsHold id Q (short_or_plain c waiting word o h).0.rows
  short_word_holds None waiting word h e rows = subst (RowsHold id Q) (sym (plain_word_rows waiting word h)) rows
  short_word_holds (Some flags) waiting word h e rows =
      let met = bundle c flags h in
      subst (RowsHold id Q) (sym (after_flag_rows waiting word met.0 met.1)) (bundle_holds (length flags) flags h.skip plain (record h { skip = 0 }) e rows)

  flag_word_holds : (l : Option (Text × Option Text)) (waiting : Waiting) (word : Text) (h : Held) → flag_word_fault c again l word h ≡ []
      → RowsHold id Q h.rows → RowsHold id Q (long_or_other c waiting word l h).0.rows
  flag_word_holds None waiting word h e rows = short_word_holds (short_of word) waiting word h e rows
  flag_word_holds (Some p) waiting word h e rows =
      let met = long_met c (arg_by_long c p.0) p.1 h in
      subst (RowsHold id Q) (sym (after_flag_rows waiting word met.0 met.1))
      (long_holds (arg_by_long c p.0) p.1 h (λ a is. found_holds id Q _ c a holds is) e rows)

module _ (id : Text) (Q : List Text → Type 0) (joins : (xs ys : List Text) → Q xs → Q ys → Q (xs ++ ys)) (s : Shape) (holds : RulesHold id Q s.rules) where
  other_holds : (o : Option Text) (waiting : Waiting) (position : ℕ) (word : Text) (h : Held) → other_fault s o word h ≡ []
      → RowsHold id Q h.rows → RowsHold id Q (subcommand_or_other s.rules o waiting position word h).0.rows
  other_holds (Some name) waiting position word h e rows = rows
  other_holds None waiting position word h e rows = go (bytes_eq word (45 ∷ 45 ∷ [])) e
    where
      go : (b : Bool) → cond b [] (flag_word_fault s.rules s.args_override_self (long_of word) word h) ≡ []
          → RowsHold id Q (cond b (h, trailing position) (long_or_other s.rules waiting word (long_of word) h)).0.rows
      go true e = rows
      go false e = flag_word_holds id Q joins s.rules s.args_override_self holds (long_of word) waiting word h e rows

  word_holds : (names : Names) (is_trailing : Bool) (waiting : Waiting) (position : ℕ) (word : Text) (h : Held)
      → word_fault s names is_trailing waiting word h ≡ [] → RowsHold id Q h.rows
      → RowsHold id Q (word_met s.rules names is_trailing waiting position word h).0.rows
  word_holds names true waiting position word h e rows = rows
  word_holds names false waiting position word h e rows = other_holds (subcommand_met names waiting word) waiting position word h e rows

  positional_holds : (a : Rule) (word : Text) (h : Held) → positional_fault s.rules s.args_override_self a h ≡ [] → RowsHold id Q h.rows
      → RowsHold id Q (positional_held s.rules a word h).rows
  positional_holds a word h e rows = go (is_pending a h.pending && takes_several a) e
    where
      go : (b : Bool) → cond b [] (settle_fault s.rules s.args_override_self h) ≡ []
          → RowsHold id Q (pushed a.id word (cond b h (settled s.rules h))).rows
      go true e = rows
      go false e = settled_holds id Q joins s.rules s.args_override_self holds h e rows

  step_holds : (word : Text) (w : Walk) (h : Held) (step : Step) → step_fault s w.position h step ≡ [] → RowsHold id Q h.rows
      → RowsHold id Q (after_step s.rules word w h step).held.rows
  step_holds word w h (next waiting) e rows = rows
  step_holds word w h (trailing position) e rows = rows
  step_holds word w h (subcommand name) e rows = rows
  step_holds word w h value e rows = go (arg_by_index s.rules w.position) e
    where
      go : (o : Option Rule) → option_map_or (λ a. positional_fault s.rules s.args_override_self a h) o (stray_fault s) ≡ []
          → RowsHold id Q (to_positional s.rules o word w h).held.rows
      go None e = rows
      go (Some a) e = positional_holds a word h e rows

  turn_holds : (names : Names) (w : Walk) (word : Text) → turn_fault s names w word ≡ [] → RowsHold id Q w.held.rows
      → RowsHold id Q (walked s.rules names w word).held.rows
  unfolding walked
  turn_holds names w word e rows = go w.stopped e
    where
      go : (o : Option (Text × List Text))
          → (let met = word_met s.rules names w.is_trailing w.waiting w.position word w.held in
          cond (is_some o) [] (or_else (word_fault s names w.is_trailing w.waiting word w.held) (step_fault s w.position met.0 met.1)) ≡ [])
          → RowsHold id Q (walked_from s.rules names o w word).held.rows
      go (Some p) e = rows
      go None e =
          let met = word_met s.rules names w.is_trailing w.waiting w.position word w.held in
          let first = word_fault s names w.is_trailing w.waiting word w.held in
          let second = step_fault s w.position met.0 met.1 in
          step_holds word w met.0 met.1 (then_passes first second e)
          (word_holds names w.is_trailing w.waiting w.position word w.held (first_passes first second e) rows)

  walk_holds : (names : Names) (w : Walk) (words : List Text) → walk_fault s names w words ≡ [] → RowsHold id Q w.held.rows
      → RowsHold id Q (fold (walked s.rules names) w words).held.rows
  unfolding walk_fault
  walk_holds names w [] e rows = rows
  walk_holds names w (word ∷ words) e rows =
      let first = turn_fault s names w word in
      let after = walked s.rules names w word in
      walk_holds names after words (then_passes first (walk_fault s names after words) e)
      (turn_holds names w word (first_passes first (walk_fault s names after words) e) rows)

  -- all the entries of words that pass
  pub level_holds : (names : Names) (words : List Text) (has_subcommand : Bool) (below : Kinds) → level_fault s names nothing_held words has_subcommand below ≡ []
      → RowsHold id Q (finished s.rules (walk s.rules names nothing_held words).held)
  level_holds names words has_subcommand below e =
      let end = (walk s.rules names nothing_held words).held in
      let passes = all_pass (walk_fault s names (walk_from nothing_held) words) below (settle_fault s.rules s.args_override_self end)
      (defaults_fault (settled s.rules end).rows s.rules) (check_fault s (finished s.rules end) has_subcommand) e in
      defaults_hold id Q joins s.rules (settled s.rules end).rows holds
      (settled_holds id Q joins s.rules s.args_override_self holds end passes.2 (walk_holds names (walk_from nothing_held) words passes.0 tt))
