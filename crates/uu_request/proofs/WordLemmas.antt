-- Texts that are words.
use Rattle.std.proofs.Common.{◌≡◌, ◌≢◌, ◌∙◌, ap, not, ◌==◌, ◌<◌, Bor, Option, ◌&&◌, ◌+◌, sym, refl, Bool, true, false, true≢false, ℕ, zero, suc, ◌≤◌, List, [], ◌∷◌, drop, length, Some, None, Result, Ok, Err, codes, subst, arith}
use Rattle.std.specs.Prelude.{◌++◌, ◌-◌, MatchOption, cond, find, nat_le, take}
use Rattle.std.specs.List.{after_first, All, before_first, list_all, list_any, slice_split}
use Rattle.std.proofs.lemmas.List.Splits.{length-slice_split, slice_split_first, slice_split_none}
use Rattle.std.proofs.lemmas.List.Sums.{fails_before_first}
use Rattle.std.proofs.Math.Dec.{eqb-suc-zero}
use Rattle.std.proofs.lemmas.Bool.{leb-true, le-leb, and_parts, and_from}
use Rattle.std.proofs.lemmas.List.{length-append, length-drop, length-take}
use Rattle.std.proofs.Math.Seq.{take-append-add}
use Rattle.uu_names.specs.Fault.{AnswersUnlessMemory}
use Rattle.uu_names.specs.Name.{has_form, is_site_byte, is_site_name, is_word, is_word_byte, most_name, most_word, word_of}
use Rattle.uu_names.specs.Path.{first_hop, is_bang, rest_of}
use Rattle.uu_names.specs.declared.fault.NameFault.{NameFault}
use Rattle.uu_names.specs.declared.fault.NameFault.TheVariants as name
use Rattle.uu_names.proofs.Basics.{list_all_both, list_all_weaker, word_from_site}
use Rattle.uu_core.specs.declared.job.Kind.{Kind}
use Rattle.uu_core.specs.declared.job.Kind.TheVariants as kind
use Rattle.uu_line.specs.Lines.{same_text}
use Rattle.uu_request.specs.Unpacking.{are_steps, have_rests, is_by_way_of, next_hop, user_of}
use Rattle.std.specs.List.{position_or_len}

all_dropped : (p : ℕ → Bool) (n : ℕ) (xs : List ℕ) → list_all p xs ≡ true → list_all p (drop n xs) ≡ true
all_dropped p zero xs e = e
all_dropped p (suc n) [] e = refl
all_dropped p (suc n) (x ∷ xs) e = all_dropped p n xs (and_parts (p x) (list_all p xs) e).1

all_taken : (p : ℕ → Bool) (n : ℕ) (xs : List ℕ) → list_all p xs ≡ true → list_all p (take n xs) ≡ true
all_taken p zero xs e = refl
all_taken p (suc n) [] e = refl
all_taken p (suc n) (x ∷ xs) e =
    let parts = and_parts (p x) (list_all p xs) e in and_from (p x) (list_all p (take n xs)) parts.0 (all_taken p n xs parts.1)

-- the user of a site's user begins with the site and a `!`
pub user_at : (site user : List ℕ) → is_site_name site ≡ true → user_of site user ≡ site ++ 33 ∷ take (254 - length site) user
user_at site user e =
    let parts = and_parts (has_form is_site_byte site) (nat_le (length site) most_name) e in
    let short : length site ≤ 63 = leb-true (length site) 63 parts.1 in
    let room : 255 ≡ length site + suc (254 - length site) = omega (arith, short) in
    ap (λ n. take n (site ++ 33 ∷ user)) room ∙ take-append-add site (33 ∷ user) (suc (254 - length site))

-- and is a word
pub user_word : (site user : List ℕ) → is_site_name site ≡ true → is_word user ≡ true → is_word (user_of site user) ≡ true
user_word site user e word =
    let named = and_parts (has_form is_site_byte site) (nat_le (length site) most_name) e in
    let site_form = and_parts (nat_le 1 (length site)) (list_all is_site_byte site) named.0 in
    let parts = and_parts (has_form is_word_byte user) (nat_le (length user) most_word) word in
    let form = and_parts (nat_le 1 (length user)) (list_all is_word_byte user) parts.0 in
    let bytes : list_all is_word_byte (site ++ 33 ∷ user) ≡ true =
    list_all_both is_word_byte site (33 ∷ user) (list_all_weaker is_site_byte is_word_byte site word_from_site site_form.1) form.1 in
    let short : length (user_of site user) ≤ 255 = subst (λ n. n ≤ 255) (sym (length-take 255 (site ++ 33 ∷ user))) (omega arith) in
    let some : 1 ≤ length (user_of site user) = subst (λ n. 1 ≤ n) (sym (ap length (user_at site user e) ∙ length-append site (33 ∷ take (254 - length site) user))) (omega arith) in
    and_from (has_form is_word_byte (user_of site user)) (nat_le (length (user_of site user)) most_word)
    (and_from (nat_le 1 (length (user_of site user))) (list_all is_word_byte (user_of site user)) (le-leb 1 (length (user_of site user)) some) (all_taken is_word_byte 255 (site ++ 33 ∷ user) bytes))
    (le-leb (length (user_of site user)) 255 short)

-- what comes after the first `!` of a word is a word, if anything does
pub rest_word : (text : List ℕ) → is_word text ≡ true → nat_le 1 (length (rest_of text)) ≡ true → is_word (rest_of text) ≡ true
rest_word text e some =
    let parts = and_parts (has_form is_word_byte text) (nat_le (length text) most_word) e in
    let form = and_parts (nat_le 1 (length text)) (list_all is_word_byte text) parts.0 in
    let short : length text ≤ 255 = leb-true (length text) 255 parts.1 in
    let behind = position_or_len is_bang text + 1 in
    and_from (has_form is_word_byte (rest_of text)) (nat_le (length (rest_of text)) most_word)
    (and_from (nat_le 1 (length (rest_of text))) (list_all is_word_byte (rest_of text)) some (all_dropped is_word_byte behind text form.1))
    (le-leb (length (rest_of text)) 255 (omega (arith, short, length-drop behind text)))

-- a word is read as one
word_read : (text : List ℕ) → is_word text ≡ true → word_of text ≡ Ok text
word_read text e =
    let parts = and_parts (has_form is_word_byte text) (nat_le (length text) most_word) e in rw (parts.0, parts.1) refl

pub word_made : (text word : List ℕ) → is_word text ≡ true → (let read : Result (List ℕ) NameFault = Ok word in AnswersUnlessMemory read (word_of text)) → word ≡ text
word_made text word e read = let is = read ∙ word_read text e in cc

pub never_refused : (text : List ℕ) (fault : NameFault) → is_word text ≡ true → fault ≢ name.Memory
    → (let read : Result (List ℕ) NameFault = Err fault in AnswersUnlessMemory read (word_of text)) → ⊥
never_refused text name.BadGrade e other read = let is = read ∙ word_read text e in cc
never_refused text (name.BadName at) e other read = let is = read ∙ word_read text e in cc
never_refused text (name.BadWord at) e other read = let is = read ∙ word_read text e in cc
never_refused text (name.BadPath at) e other read = let is = read ∙ word_read text e in cc
never_refused text name.TooLong e other read = let is = read ∙ word_read text e in cc
never_refused text name.NoEnvelope e other read = let is = read ∙ word_read text e in cc
never_refused text name.Memory e other read = absurd (other refl)

-- a message that goes on has addresses that say more
found_passes : (p : List ℕ → Bool) (xs : List (List ℕ)) (x : List ℕ) → Some x ≡ find p xs → p x ≡ true
found_passes p [] x is = absurd cc
found_passes p (y ∷ ys) x is = go (p y) refl (found_passes p ys x) is
  where
    go : (b : Bool) → p y ≡ b → (Some x ≡ find p ys → p x ≡ true) → Some x ≡ cond b (Some y) (find p ys) → p x ≡ true
    go true passes more is =
        let same : y ≡ x = cc in
        subst (λ z. p z ≡ true) same passes
    go false passes more is = more is

some_behind : (rest : List ℕ) → are_steps (slice_split is_bang rest) ≡ true → nat_le 1 (length rest) ≡ true
some_behind [] steps = absurd (true≢false (sym steps))
some_behind (byte ∷ rest) steps = le-leb 1 (suc (length rest)) (omega arith)

pub more_said : (onward : List (List ℕ)) (k : Kind) (system : List ℕ) → Some system ≡ next_hop onward k → have_rests k ≡ true
more_said onward (kind.Send source target) system is = refl
more_said onward (kind.Request source target) system is = refl
more_said onward (kind.Execute command addresses) system is = go (same_text command (codes "rmail") && nat_le 1 (length addresses)) is
  where
    go : (b : Bool) → Some system ≡ cond b (find (λ one. list_all (is_by_way_of one) addresses) onward) None
        → list_all (λ address. nat_le 1 (length (rest_of address))) addresses ≡ true
    go true is =
        list_all_weaker (is_by_way_of system) (λ address. nat_le 1 (length (rest_of address))) addresses (λ address passes.
        some_behind (rest_of address) (and_parts (same_text (first_hop address) system && list_any is_bang address) (are_steps (slice_split is_bang (rest_of address))) passes).1)
        (found_passes (λ one. list_all (is_by_way_of one) addresses) onward system is)
    go false is = absurd cc

-- ---- the parts of a text around its first `!`

no_bang : (text : List ℕ) → position_or_len is_bang text ≡ length text → All (λ byte. is_bang byte ≡ false) text
no_bang text none = λ k d inside. fails_before_first is_bang text k d (let at = none in omega (arith, inside, at))

pub is_cut : (text : List ℕ) (cut : Option (Bor (List ℕ) × Bor (List ℕ)))
    → MatchOption cut (position_or_len is_bang text ≡ length text)
    (λ parts. (position_or_len is_bang text < length text) × (parts.0.now ≡ before_first is_bang text) × (parts.1.now ≡ after_first is_bang text))
    → MatchOption cut (slice_split is_bang text ≡ text ∷ [])
    (λ parts. (slice_split is_bang text ≡ parts.0.now ∷ slice_split is_bang parts.1.now) × (length parts.1.now < length text))
is_cut text None none = slice_split_none is_bang text (no_bang text none)
is_cut text (Some parts) at = (
  slice_split_first is_bang text 0 at.0 ∙ ap (λ first. first ∷ slice_split is_bang (after_first is_bang text)) (sym at.1)
      ∙ ap (λ rest. parts.0.now ∷ slice_split is_bang rest) (sym at.2),
  let size : length parts.1.now ≡ length (after_first is_bang text) = ap length at.2 in
      omega (arith, at.0, size, length-drop (position_or_len is_bang text + 1) text),
)

-- a text has one part at least
split_some : (text : List ℕ) → slice_split is_bang text ≡ [] → ⊥
split_some text none = let size = ap length none in omega (arith, size, length-slice_split is_bang text)

-- one part more, and what is left
pub step_on : (site rest text : List ℕ) → slice_split is_bang text ≡ site ∷ slice_split is_bang rest → is_site_name site ≡ true
    → are_steps (slice_split is_bang text) ≡ are_steps (slice_split is_bang rest)
step_on site rest text parts is =
    ap are_steps parts ∙ go (slice_split is_bang rest) (split_some rest)
  where
    go : (others : List (List ℕ)) → (others ≡ [] → ⊥) → are_steps (site ∷ others) ≡ are_steps others
    go [] some = absurd (some refl)
    go (next ∷ others) some = ap (λ b. b && are_steps (next ∷ others)) is

pub step_off : (site rest text : List ℕ) → slice_split is_bang text ≡ site ∷ slice_split is_bang rest → is_site_name site ≡ false
    → are_steps (slice_split is_bang text) ≡ false
step_off site rest text parts is =
    ap are_steps parts ∙ go (slice_split is_bang rest) (split_some rest)
  where
    go : (others : List (List ℕ)) → (others ≡ [] → ⊥) → are_steps (site ∷ others) ≡ false
    go [] some = absurd (some refl)
    go (next ∷ others) some = ap (λ b. b && are_steps (next ∷ others)) is

-- the last part
pub last_step : (text : List ℕ) → nat_le 1 (length text) ≡ not (length text == 0)
last_step [] = refl
last_step (byte ∷ text) = le-leb 1 (suc (length text)) (omega arith) ∙ sym (ap not (eqb-suc-zero (length text)))
