-- The readings of a line's parts.
use Rattle.std.proofs.Common.{◌≡◌, ◌≢◌, ◌∙◌, ◌^◌, ◌≤◌, ◌&&◌, if◌then◌else◌, codes, ap, sym, refl, ℕ, zero, suc, ◌<◌, Bool, true, false, List, [], ◌∷◌, ◌++◌, Option, Some, None, Result, Ok, Err, is_some, map, drop, take, length, get_or, slice_index_or, subst, true≢false, arith}
use Rattle.std.specs.Prelude.{⊤, cond, find, nat_le, option_and_then, option_map, slice_get, unwrap_or}
use Rattle.std.specs.List.{All, list_all, prefix_len}
use Rattle.std.specs.String.{string_bytes}
use Rattle.std.specs.Str.{bytes_eq}
use Rattle.std.specs.Str.Parse.{IsNumeral, digits_value, without_leading_plus}
use Rattle.std.proofs.Math.Seq.{take-suc}
use Rattle.std.proofs.lemmas.Slice.Eq.{bytes_eq-Decides}
use Rattle.uu_names.specs.declared.fault.NameFault.{NameFault}
use Rattle.std.proofs.lemmas.List.{get_or-map, length-map}
use Rattle.std.proofs.lemmas.List.Elements.{All-append}
use Rattle.uu_names.specs.Path.{IsPathFault, IsPathText, rest_of}
use Rattle.uu_names.specs.Name.{has_form, is_word, is_word_byte, most_word}
use Rattle.uu_names.specs.Fault.{UnlessMemory as UnlessMemoryOf}
use Rattle.uu_names.specs.declared.fault.NameFault.TheVariants as name
use Rattle.uu_names.specs.declared.fault.NameFault.TheVariants.{BadName, BadWord, TooLong}
use Rattle.clap.specs.Words.{IsAmong, Row, Text, all_of, first_of, found_of, matches_of, rows_of, fault_of, subcommand_of, subcommand_rows_of}
use Rattle.clap.specs.Simple.{subcommand_rows}
use Rattle.clap.specs.declared.error.kind.ErrorKind.{ErrorKind}
use Rattle.clap.specs.declared.parser.matches.ArgMatches.{ArgMatches}
use Rattle.clap.specs.declared.parser.matches.ArgMatches.TheViews.{out-SubCommand}
use Rattle.clap.specs.declared.parser.matches.SubCommand.{SubCommand}
use Rattle.std.specs.Box.{box_value}
use Rattle.std.specs.Prelude.{Box}
use Rattle.uu_line.specs.Commands.{program}
use Rattle.uu_line.specs.declared.line.CommandLine.{CommandLine}
use Rattle.uu_line.specs.declared.task.Task.{Task}
use Rattle.uu_line.specs.Faults.{fault_of_name}
use Rattle.clap.specs.ValueTests.{is_unsigned_in}
use Rattle.clap.specs.declared.builder.value_parser.ValueParser.TheVariants as vp
use Rattle.clap.proofs.ValueTestLemmas.{accepts-Accepts}
use Rattle.clap.proofs.WalkLemmas.{both}
use Rattle.uu_line.specs.Internal.Entries.{AreNumbersUpTo, AreLineEntries, HasSubcommand}
use Rattle.uu_line.specs.Lines.{texts_at}
use Rattle.uu_line.specs.Lines.{AnswersUnlessMemory, AreNumbers, HasEntriesOf, IsAddressFault, IsAnswerTo, IsBadAddress, IsNumber, IsNumberOf, IsWordsOf, LineView, Means, MeansEntered, MeansEntries, MeansLineOf, UnlessMemory, WithText, and_then, each_of, line_or_fault, named, line_view, word_of}
use Rattle.uu_line.proofs.ProgramLemmas.{program_takes}
use Rattle.uu_line.specs.declared.fault.LineFault.{LineFault}
use Rattle.uu_line.specs.declared.fault.LineFault.TheVariants as fault

-- a fault of words with a kind with P is one with a kind with Q
pub IsWordsOf_weaker : (P Q : ErrorKind → Type 0) (f : LineFault) → ((kind : ErrorKind) → P kind → Q kind) → IsWordsOf P f → IsWordsOf Q f
IsWordsOf_weaker P Q (fault.Words text help) weaker it = (it.0, weaker it.0 it.1, it.2)
IsWordsOf_weaker P Q (fault.Name why) weaker it = it
IsWordsOf_weaker P Q fault.TwoSystems weaker it = it
IsWordsOf_weaker P Q fault.Memory weaker it = tt

-- what holds of a fault that isn't out of memory
pub err_weaker : {V W : Type 0} (P : Result V LineFault → Type 0) (Q : Result W LineFault → Type 0) (f : LineFault)
    → (P (Err f) → Q (Err f)) → UnlessMemory P (Err f) → UnlessMemory Q (Err f)
err_weaker P Q (fault.Words text help) weaker holds = holds
err_weaker P Q (fault.Name why) weaker holds = weaker holds
err_weaker P Q fault.TwoSystems weaker holds = weaker holds
err_weaker P Q fault.Memory weaker holds = tt

-- a fault of the first reading is that of both
pub answers_then : {V W : Type 0} (f : LineFault) (first : Result V LineFault) (next : V → Result W LineFault)
    → AnswersUnlessMemory (Err f) first → AnswersUnlessMemory (Err f) (and_then first next)
answers_then f first next answers =
    err_weaker (λ a. a ≡ first) (λ a. a ≡ and_then first next) f (λ is. ap (λ r. and_then r next) is) answers

-- a text that passes as a number up to a limit is a numeral of so many bits
pub numeral_of : (bits most : ℕ) (text : Text) → most < 2 ^ bits → is_unsigned_in 0 most text ≡ true
    → IsNumeral 10 (without_leading_plus text) × (digits_value 10 (without_leading_plus text) < 2 ^ bits)
numeral_of bits most text less e =
    let accepts = accepts-Accepts false (vp.Unsigned 0 most) text e in
    let within : digits_value 10 (without_leading_plus text) ≤ most = accepts.3 in
    (accepts.0, omega (arith, within, less))

pub none_is_no : {X : Type 0} (o : Option X) → None ≡ o → is_some o ≡ true → ⊥
none_is_no None is some = true≢false (sym some)
none_is_no (Some x) is some = absurd cc

pub same_some : {X : Type 0} (x y : X) (o : Option X) → Some x ≡ o → Some y ≡ o → x ≡ y
same_some x y None is also = absurd cc
same_some x y (Some z) is also = cc

pub memory_meets : {V : Type 0} (P : Result V LineFault → Type 0) (f : LineFault) → f ≡ fault.Memory → UnlessMemory P (Err f)
memory_meets P f is = subst (λ g. UnlessMemory P (Err g)) (sym is) tt

-- the answer has the property that the expected one has
pub meaning : {V : Type 0} (P : Result V LineFault → Type 0) (answer expected : Result V LineFault) → P expected → AnswersUnlessMemory answer expected → UnlessMemory P answer
meaning P (Ok value) expected holds is = subst P (sym is) holds
meaning P (Err (fault.Words text help)) expected holds is = is
meaning P (Err (fault.Name why)) expected holds is = subst P (sym is) holds
meaning P (Err fault.TwoSystems) expected holds is = subst P (sym is) holds
meaning P (Err fault.Memory) expected holds is = tt

-- a name that isn't in the table isn't found in it
abbrev pub IsNone : Text → List (Text × List Text) → Type 0
IsNone name [] = ⊤
IsNone name (subcommand ∷ more) = (name ≢ subcommand.0) × IsNone name more

pub never_strange : (name : Text) (table : List (Text × List Text)) → IsNone name table → is_some (find (λ subcommand. bytes_eq subcommand.0 name) table) ≡ true → ⊥
never_strange name [] other found = true≢false (sym found)
never_strange name (subcommand ∷ more) other found = go (bytes_eq subcommand.0 name) refl (never_strange name more other.1) found
  where
    go : (b : Bool) → bytes_eq subcommand.0 name ≡ b → (is_some (find (λ subcommand. bytes_eq subcommand.0 name) more) ≡ true → ⊥)
        → is_some (cond b (Some subcommand) (find (λ subcommand. bytes_eq subcommand.0 name) more)) ≡ true → ⊥
    go true is later found = other.0 (sym ((bytes_eq-Decides subcommand.0 name).0 is))
    go false is later found = later found

-- a name that isn't in the first rows is found in the others
pub found_later : (name : Text) (n : ℕ) (table : List (Text × List Text)) → IsNone name (take n table)
    → is_some (find (λ subcommand. bytes_eq subcommand.0 name) table) ≡ true → is_some (find (λ subcommand. bytes_eq subcommand.0 name) (drop n table)) ≡ true
found_later name zero table other found = found
found_later name (suc n) [] other found = found
found_later name (suc n) (subcommand ∷ more) other found =
    found_later name n more other.1 (go (bytes_eq subcommand.0 name) refl found)
  where
    go : (b : Bool) → bytes_eq subcommand.0 name ≡ b → is_some (cond b (Some subcommand) (find (λ subcommand. bytes_eq subcommand.0 name) more)) ≡ true
        → is_some (find (λ subcommand. bytes_eq subcommand.0 name) more) ≡ true
    go true is found = absurd (other.0 (sym ((bytes_eq-Decides subcommand.0 name).0 is)))
    go false is found = found

-- the texts of an entry that has one
pub texts_given : (id : Text) (rows : List Row) → is_some (first_of id rows) ≡ true
    → (first : Text) × (others : List Text) × (Some (first ∷ others) ≡ all_of id rows) × (texts_at id rows ≡ first ∷ others)
texts_given id rows some = go (find (λ r. bytes_eq r.id id) rows) some
  where
    by_values : (vs : List Text) → is_some (slice_get vs 0) ≡ true
        → (first : Text) × (others : List Text) × (Some (first ∷ others) ≡ Some vs) × (vs ≡ first ∷ others)
    by_values [] some = absurd (true≢false (sym some))
    by_values (v ∷ vs) some = (v, vs, refl, refl)

    go : (o : Option Row) → is_some (option_and_then (λ (r : Row). slice_get r.values 0) o) ≡ true
        → (first : Text) × (others : List Text) × (Some (first ∷ others) ≡ option_map (λ (r : Row). r.values) o)
        × (unwrap_or (option_map (λ (r : Row). r.values) o) [] ≡ first ∷ others)
    go None some = absurd (true≢false (sym some))
    go (Some r) some = by_values r.values some

-- a fault of addresses is that of the first bad one
pub address_fault : {V : Type 0} (P : Result V LineFault → Type 0) (texts : List Text) (f : LineFault) → IsAddressFault texts f
    → ((why : NameFault) → IsBadAddress texts why → P (Err (fault.Name why))) → UnlessMemory P (Err f)
address_fault P texts (fault.Words text help) bad meant = bad
address_fault P texts (fault.Name why) bad meant = meant why bad
address_fault P texts fault.TwoSystems bad meant = absurd bad
address_fault P texts fault.Memory bad meant = tt

-- the first text of an entry is one of its texts
pub first_number : (id : Text) (rows : List Row) (most : ℕ) (text : Text) → Some text ≡ first_of id rows → AreNumbersUpTo most (texts_at id rows)
    → is_unsigned_in 0 most text ≡ true
first_number id rows most text is numbers = go (find (λ r. bytes_eq r.id id) rows) is numbers
  where
    by_values : (vs : List Text) → Some text ≡ slice_get vs 0 → list_all (is_unsigned_in 0 most) vs ≡ true → is_unsigned_in 0 most text ≡ true
    by_values [] is all = absurd cc
    by_values (v ∷ vs) is all =
        let same : v ≡ text = cc in
        subst (λ t. is_unsigned_in 0 most t ≡ true) same (both (is_unsigned_in 0 most v) (list_all (is_unsigned_in 0 most) vs) all).0

    go : (o : Option Row) → Some text ≡ option_and_then (λ (r : Row). slice_get r.values 0) o
        → list_all (is_unsigned_in 0 most) (unwrap_or (option_map (λ (r : Row). r.values) o) []) ≡ true → is_unsigned_in 0 most text ≡ true
    go None is all = absurd cc
    go (Some r) is all = by_values r.values is all

-- each text is a number
pub each_number : {B : Type 0} (f : B → Text) (xs : List B) (i : ℕ) (d : B) (most : ℕ) → i < length xs → AreNumbersUpTo most (map f xs)
    → is_unsigned_in 0 most (f (slice_index_or xs i d)) ≡ true
each_number f [] i d most inside all = absurd (omega arith)
each_number f (x ∷ xs) zero d most inside all = (both (is_unsigned_in 0 most (f x)) (list_all (is_unsigned_in 0 most) (map f xs)) all).0
each_number f (x ∷ xs) (suc i) d most inside all =
    each_number f xs i d most (omega arith) (both (is_unsigned_in 0 most (f x)) (list_all (is_unsigned_in 0 most) (map f xs)) all).1

-- one more number
pub numbers_next : {B : Type 0} (bits : ℕ) (f : B → Text) (xs : List B) (i : ℕ) (d : B) (numbers : List ℕ) (number : ℕ) → i < length xs
    → AreNumbers bits (take i (map f xs)) numbers → IsNumber bits (f (slice_index_or xs i d)) number
    → AreNumbers bits (take (suc i) (map f xs)) (numbers ++ number ∷ [])
numbers_next bits f [] i d numbers number inside so_far is = absurd (omega arith)
numbers_next bits f (x ∷ xs) zero d [] number inside so_far is = (is, tt)
numbers_next bits f (x ∷ xs) zero d (n ∷ numbers) number inside so_far is = absurd so_far
numbers_next bits f (x ∷ xs) (suc i) d [] number inside so_far is = absurd so_far
numbers_next bits f (x ∷ xs) (suc i) d (n ∷ numbers) number inside so_far is =
    (so_far.0, numbers_next bits f xs i d numbers number (omega arith) so_far.1 is)

-- both readings came to a value
pub both_ok : (first : Result (List ℕ) LineFault) (others : Result (List (List ℕ)) LineFault) (words : List (List ℕ))
    → and_then first (λ word. and_then others (λ more. Ok (word ∷ more))) ≡ Ok words
    → (word : List ℕ) × (more : List (List ℕ)) × (first ≡ Ok word) × (others ≡ Ok more) × (words ≡ word ∷ more)
both_ok (Err f) others words is = absurd cc
both_ok (Ok word) (Err f) words is = absurd cc
both_ok (Ok word) (Ok more) words is = (word, more, refl, refl, cc)

-- one more text
pub values_next : {B : Type 0} (read : Text → Result (List ℕ) LineFault) (f : B → Text) (xs : List B) (i : ℕ) (d : B) (values : List (List ℕ)) (value : List ℕ) → i < length xs
    → each_of read (take i (map f xs)) ≡ Ok values → Ok value ≡ read (f (slice_index_or xs i d))
    → each_of read (take (suc i) (map f xs)) ≡ Ok (values ++ value ∷ [])
values_next read f [] i d values value inside so_far is = absurd (omega arith)
values_next read f (x ∷ xs) zero d values value inside so_far is =
    let none : [] ≡ values = cc in
    ap (λ r. and_then r (λ w. Ok (w ∷ []))) (sym is) ∙ ap (λ ws. Ok (ws ++ value ∷ [])) none
values_next read f (x ∷ xs) (suc i) d values value inside so_far is =
    let (head, more, first, others, whole) = both_ok (read (f x)) (each_of read (take i (map f xs))) values so_far in
    let next = values_next read f xs i d more value (omega arith) others is in
    ap (λ r. and_then r (λ w. and_then (each_of read (take (suc i) (map f xs))) (λ ws. Ok (w ∷ ws)))) first
    ∙ ap (λ r. and_then r (λ ws. Ok (head ∷ ws))) next
    ∙ ap (λ ws. Ok (ws ++ value ∷ [])) (sym whole)

-- a text that isn't such a value stops the reading
pub values_stop : {B : Type 0} (read : Text → Result (List ℕ) LineFault) (f : B → Text) (xs : List B) (i : ℕ) (d : B) (values : List (List ℕ)) (why : LineFault) → i < length xs
    → each_of read (take i (map f xs)) ≡ Ok values → Err why ≡ read (f (slice_index_or xs i d)) → Err why ≡ each_of read (map f xs)
values_stop read f [] i d values why inside so_far is = absurd (omega arith)
values_stop read f (x ∷ xs) zero d values why inside so_far is =
    ap (λ r. and_then r (λ w. and_then (each_of read (map f xs)) (λ ws. Ok (w ∷ ws)))) is
values_stop read f (x ∷ xs) (suc i) d values why inside so_far is =
    let (head, more, first, others, whole) = both_ok (read (f x)) (each_of read (take i (map f xs))) values so_far in
    ap (λ r. and_then r (λ ws. Ok (head ∷ ws))) (values_stop read f xs i d more why (omega arith) others is)
    ∙ ap (λ r. and_then r (λ w. and_then (each_of read (map f xs)) (λ ws. Ok (w ∷ ws)))) (sym first)

-- one more path
pub paths_next : {B : Type 0} (f : B → Text) (xs : List B) (i : ℕ) (d : B) (paths : List Text) (path : Text) → i < length xs
    → (paths ≡ take i (map f xs)) × All IsPathText (take i (map f xs)) → path ≡ f (slice_index_or xs i d)
    → IsPathText (f (slice_index_or xs i d)) → (paths ++ path ∷ [] ≡ take (suc i) (map f xs)) × All IsPathText (take (suc i) (map f xs))
paths_next f xs i d paths path inside so_far is is_path =
    let within : i < length (map f xs) = rw (length-map xs f) inside in
    let item : get_or (map f xs) i (f d) ≡ f (slice_index_or xs i d) = get_or-map f xs i d (f d) inside in
    let more : take (suc i) (map f xs) ≡ take i (map f xs) ++ f (slice_index_or xs i d) ∷ [] =
    take-suc (map f xs) i (f d) within ∙ ap (λ t. take i (map f xs) ++ t ∷ []) item in
    let last : All IsPathText (f (slice_index_or xs i d) ∷ []) = λ k e lt. one_path (f (slice_index_or xs i d)) is_path k e lt in (
      ap (λ ps. ps ++ path ∷ []) so_far.0 ∙ ap (λ t. take i (map f xs) ++ t ∷ []) is ∙ sym more,
      subst (λ ts. All IsPathText ts) (sym more) (All-append IsPathText (take i (map f xs)) (f (slice_index_or xs i d) ∷ []) so_far.1 last),
    )
  where
    one_path : (t : Text) → IsPathText t → All IsPathText (t ∷ [])
    one_path t is zero e lt = is
    one_path t is (suc k) e lt = absurd (omega arith)

-- what the entries mean is what the words mean
means_words : (words : List Text) (found : ArgMatches) (meant : Result LineView LineFault) → HasEntriesOf words found
    → MeansEntries (rows_of (found_of found)) (subcommand_rows_of found) meant → Means words meant
means_words words found meant entries means =
    subst (λ entered. MeansEntries (matches_of program words) entered meant) entries.2
    (subst (λ rows. MeansEntries rows (subcommand_rows_of found) meant) entries.1 means)

-- the entries are those that the program's lines have
pub found_taken : (words : List Text) (found : ArgMatches) → HasEntriesOf words found → AreLineEntries (rows_of (found_of found)) (subcommand_rows_of found)
found_taken words found entries =
    subst (λ entered. AreLineEntries (rows_of (found_of found)) entered) (sym entries.2)
    (subst (λ rows. AreLineEntries rows (subcommand_of program words)) (sym entries.1) (program_takes words entries.0))

-- and so the answer is the words'
pub answers_words : (words : List Text) (found : ArgMatches) (answer : Result CommandLine LineFault) → HasEntriesOf words found
    → UnlessMemory (λ a. MeansEntries (rows_of (found_of found)) (subcommand_rows_of found) (line_or_fault a)) answer
    → IsAnswerTo words answer
answers_words words found (Ok line) entries means = (entries.0, means_words words found (Ok (line_view line)) entries means)
answers_words words found (Err (fault.Words text help)) entries means = absurd means
answers_words words found (Err (fault.Name why)) entries means = (entries.0, means_words words found (Err (fault.Name why)) entries means)
answers_words words found (Err fault.TwoSystems) entries means = (entries.0, means_words words found (Err fault.TwoSystems) entries means)
answers_words words found (Err fault.Memory) entries means = tt

-- `clap` refuses the words
pub refuses_words : (words : List Text) (why : LineFault) → IsWordsOf (λ kind. IsAmong kind (fault_of program words)) why
    → (let answer : Result CommandLine LineFault = Err why in IsAnswerTo words answer)
refuses_words words (fault.Words text help) refused = refused
refuses_words words (fault.Name why) refused = absurd refused
refuses_words words fault.TwoSystems refused = absurd refused
refuses_words words fault.Memory refused = tt

-- the subcommand that was entered, by its name and its entries
pub entered_is : {Z : Type 0} (sub : Option (Box SubCommand Z)) (said : Text) (rows : List Row)
    → option_map (λ b. (out-SubCommand (box_value b)).name.now) sub ≡ Some said
    → option_map (λ p. p.1) (subcommand_rows sub) ≡ Some rows → subcommand_rows sub ≡ Some (said, rows)
entered_is None said rows name_is rows_are = absurd cc
entered_is (Some b) said rows name_is rows_are = cc

pub no_subcommand : (o : Option (Text × List Row)) → None ≡ option_map (λ p. p.1) o → HasSubcommand o → ⊥
no_subcommand None is has = has
no_subcommand (Some subcommand) is has = absurd cc

-- if the answer is known to be a value, a fault is out of memory
pub only_memory : {V : Type 0} (f : LineFault) (expected : Result V LineFault) (value : V) → expected ≡ Ok value → AnswersUnlessMemory (Err f) expected → f ≡ fault.Memory
only_memory (fault.Words text help) expected value known answers = absurd answers
only_memory (fault.Name why) expected value known answers = absurd cc
only_memory fault.TwoSystems expected value known answers = absurd cc
only_memory fault.Memory expected value known answers = refl

-- a word is itself as a word, and a site name as a site name
pub word_known : (text : Text) → is_word text ≡ true → word_of text ≡ Ok text
word_known text is = go (has_form is_word_byte text) (nat_le (length text) most_word) is
  where
    go : (form short : Bool) → (form && short) ≡ true
        → (let read : Result (List ℕ) NameFault = if form then (if short then Ok text else Err TooLong) else Err (BadWord (prefix_len is_word_byte text)) in named read ≡ Ok text)
    go true true is = refl
    go true false is = absurd (true≢false (sym is))
    go false short is = absurd (true≢false (sym is))

-- the fault of a text that isn't a bang path is that of a list of addresses with only this text
pub address_alone : (text : Text) (why : NameFault) → IsPathFault text why → UnlessMemoryOf why (¬ IsPathText text) → IsAddressFault (text ∷ []) (fault_of_name why)
address_alone text name.BadGrade is none = absurd is
address_alone text (name.BadName at) is none = absurd is
address_alone text (name.BadPath at) is none = record { place = 0; address = text; at = refl; first = λ k d inside. absurd (omega arith); none = none; why = is; told = λ same. absurd cc }
address_alone text (name.BadWord at) is none = absurd is
address_alone text name.NoEnvelope is none = absurd is
address_alone text name.TooLong is none = record { place = 0; address = text; at = refl; first = λ k d inside. absurd (omega arith); none = none; why = is; told = λ same. absurd cc }
address_alone text name.Memory is none = tt

the_one : (text : Text) (place : ℕ) (address : Text) → slice_get (text ∷ []) place ≡ Some address → address ≡ text
the_one text zero address at = cc
the_one text (suc place) address at = absurd cc

item_at : {B : Type 0} (f : B → Text) (xs : List B) (i : ℕ) (d : B) → i < length xs → slice_get (map f xs) i ≡ Some (f (slice_index_or xs i d))
item_at f [] i d inside = absurd (omega arith)
item_at f (x ∷ xs) zero d inside = refl
item_at f (x ∷ xs) (suc i) d inside = item_at f xs i d (omega arith)

-- a text that isn't a bang path, after texts that are, is the first of the list that isn't
pub address_stop : {B : Type 0} (f : B → Text) (xs : List B) (i : ℕ) (d : B) (why : LineFault) → i < length xs → All IsPathText (take i (map f xs))
    → IsAddressFault (f (slice_index_or xs i d) ∷ []) why → IsAddressFault (map f xs) why
address_stop f xs i d (fault.Words text help) inside before bad = bad
address_stop f xs i d (fault.Name why) inside before bad =
    let same = the_one (f (slice_index_or xs i d)) bad.place bad.address bad.at in
    record {
      place = i;
      address = f (slice_index_or xs i d);
      at = item_at f xs i d inside;
      first = before;
      none = subst (λ text. ¬ IsPathText text) same bad.none;
      why = subst (λ text. IsPathFault text why) same bad.why;
      told = bad.told;
    }
address_stop f xs i d fault.TwoSystems inside before bad = bad
address_stop f xs i d fault.Memory inside before bad = tt

-- one more rest
pub rests_next : (paths : List Text) (i : ℕ) (d : Text) (rests : List Text) (rest : Text) → i < length paths → rests ≡ map rest_of (take i paths)
    → rest ≡ rest_of (slice_index_or paths i d) → rests ++ rest ∷ [] ≡ map rest_of (take (suc i) paths)
rests_next [] i d rests rest inside so_far is = absurd (omega arith)
rests_next (path ∷ paths) zero d rests rest inside so_far is = ap (λ r. r ++ rest ∷ []) so_far ∙ ap (λ r. r ∷ []) is
rests_next (path ∷ paths) (suc i) d rests rest inside so_far is =
    ap (λ r. r ++ rest ∷ []) so_far ∙ ap (λ r. rest_of path ∷ r) (rests_next paths i d (map rest_of (take i paths)) rest (omega arith) refl is)

-- the line if the user isn't valid, if the task isn't valid, and if both are valid
pub user_fault : (rows : List Row) (entered : Option (Text × List Row)) (user : Text) (at : Option ℕ) (f : LineFault)
    → Some user ≡ first_of (codes "as") rows → IsNumberOf 64 (first_of (codes "at") rows) at
    → (let answer : Result (List ℕ) LineFault = Err f in AnswersUnlessMemory answer (word_of user))
    → (let answer : Result CommandLine LineFault = Err f in UnlessMemory (λ a. MeansEntries rows entered (line_or_fault a)) answer)
user_fault rows entered user at f is_user is_at answers =
    err_weaker (λ a. a ≡ word_of user) (λ a. MeansEntries rows entered (line_or_fault a)) f
    (λ is. (user, is_user, (at, is_at, subst (λ read. MeansLineOf (first_of (codes "config") rows) at read entered (Err f)) is refl))) answers

pub task_fault : (rows : List Row) (entered : Option (Text × List Row)) (user : Text) (at : Option ℕ) (word : List ℕ) (f : LineFault)
    → Some user ≡ first_of (codes "as") rows → IsNumberOf 64 (first_of (codes "at") rows) at
    → Ok word ≡ word_of user → (let answer : Result Task LineFault = Err f in UnlessMemory (MeansEntered entered) answer)
    → (let answer : Result CommandLine LineFault = Err f in UnlessMemory (λ a. MeansEntries rows entered (line_or_fault a)) answer)
task_fault rows entered user at word f is_user is_at is_word means =
    err_weaker (MeansEntered entered) (λ a. MeansEntries rows entered (line_or_fault a)) f
    (λ means. (user, is_user, (at, is_at, subst (λ read. MeansLineOf (first_of (codes "config") rows) at read entered (Err f)) is_word (Err f, means, refl)))) means

pub line_meant : (rows : List Row) (entered : Option (Text × List Row)) (user : Text) (line : CommandLine) → option_map string_bytes line.config ≡ first_of (codes "config") rows
    → Some user ≡ first_of (codes "as") rows → IsNumberOf 64 (first_of (codes "at") rows) line.at → Ok line.user ≡ word_of user
    → MeansEntered entered (Ok line.task) → MeansEntries rows entered (Ok (line_view line))
line_meant rows entered user line is_config is_user is_at is_word means =
    subst (λ config. WithUser config) is_config
    (user, is_user, (line.at, is_at, subst (λ read. MeansLineOf (option_map string_bytes line.config) line.at read entered (Ok (line_view line))) is_word (Ok line.task, means, refl)))
  where
    WithUser : Option Text → Type 0
    WithUser config =
        WithText (codes "as") rows (λ user.
        (at : Option ℕ) × IsNumberOf 64 (first_of (codes "at") rows) at × MeansLineOf config at (word_of user) entered (Ok (line_view line)))

-- a task that means what its subcommand does
pub task_meant : (P Q : Result Task LineFault → Type 0) (answer : Result Task LineFault) → ((meant : Result Task LineFault) → P meant → Q meant)
    → UnlessMemory P answer → UnlessMemory Q answer
task_meant P Q (Ok value) weaker means = weaker (Ok value) means
task_meant P Q (Err (fault.Words text help)) weaker means = means
task_meant P Q (Err (fault.Name why)) weaker means = weaker (Err (fault.Name why)) means
task_meant P Q (Err fault.TwoSystems) weaker means = weaker (Err fault.TwoSystems) means
task_meant P Q (Err fault.Memory) weaker means = tt

pub word_is : (text : Text) (word : List ℕ) → is_word text ≡ true → Ok word ≡ word_of text → word ≡ text
word_is text word is answers = let known = answers ∙ word_known text is in cc
