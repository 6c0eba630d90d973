-- A link, an alias or a cost is read exactly if the text is one.
use Rattle.std.proofs.Common.{◌≡◌, ◌≢◌, ℕ, ◌+◌, Bool, true, false, cond, ◌&&◌, ◌==◌, List, [], ◌∷◌, ◌++◌, length, take, drop, map, Option, Some, None, option_map, option_and_then, nat_le, ℤ, pos, refl, sym, ap, ◌∙◌, inl, inr, arith}
use Rattle.std.specs.List.{prefix_len, list_all, onto_first}
use Rattle.std.specs.Char.{is_ascii_digit, is_ascii_uppercase}
use Rattle.std.specs.Str.{bytes_eq}
use Rattle.std.specs.Prelude.{codes, IsTrue}
use Rattle.std.proofs.lemmas.Bool.Decides.{nat_tests}
use Rattle.std.proofs.lemmas.List.{take-append-drop, take_at, drop_at}
use Rattle.std.proofs.lemmas.Option.{same_Some}
use Rattle.uu_names.specs.Name.{is_site_byte, is_site_name}
use Rattle.uu_map.specs.declared.entry.Cost.{Cost}
use Rattle.uu_map.specs.declared.entry.Cost.TheVariants.{Value}
use Rattle.uu_map.specs.declared.entry.Link.{Link}
use Rattle.uu_map.specs.declared.token.Token.{Token}
use Rattle.uu_map.specs.declared.token.Token.TheVariants as tokens
use Rattle.uu_map.specs.declared.token.Additive.TheVariants.{Plus, Minus}
use Rattle.uu_map.specs.declared.token.Multiplicative.TheVariants.{Times, Over}
use Rattle.uu_map.specs.Expression.{kept, Sum, sum_text, sum_value, sum_fits, sum_is_dead, cost_of}
use Rattle.uu_map.specs.Token as token
use Rattle.uu_map.specs.Token.{begins, runs_on, words, symbol_amount, amount_token, symbol_token, sign_token, word_token, decimal}
use Rattle.uu_names.specs.Text.{is_blank}
use Rattle.uu_names.proofs.Basics.{and_first, and_second, front_passes}
use Rattle.uu_map.specs.Internal.Reading.{run, start}
use Rattle.uu_map.specs.Statement.{is_mark, all_blank, IsMarkAtMost, IsPriced, IsCost, IsLink, IsAlias}
use Rattle.uu_map.specs.Internal.StatementReading.{skip, skip_mark, cost_behind, site_name, named_link, link_of, named_alias, alias_of}
use Rattle.uu_map.proofs.Expressions.{reads_expression}
use Rattle.uu_map.proofs.Accepted.{accepted_expression}

-- ---- fronts

-- the longest prefix that passes, if what follows it doesn't begin so
pub prefix_len_front : (p : ℕ → Bool) (xs rest : List ℕ) → list_all p xs ≡ true → begins p rest ≡ false → prefix_len p (xs ++ rest) ≡ length xs
prefix_len_front p [] [] all stops = refl
prefix_len_front p [] (r ∷ rest) all stops = ap (λ b. cond b (1 + prefix_len p rest) 0) stops
prefix_len_front p (x ∷ xs) rest all stops = go (p x) all (λ more. prefix_len_front p xs rest more stops)
  where
    go : (b : Bool) → (b && list_all p xs) ≡ true → (list_all p xs ≡ true → prefix_len p (xs ++ rest) ≡ length xs) → cond b (1 + prefix_len p (xs ++ rest)) 0 ≡ length (x ∷ xs)
    go true e ih = let n : prefix_len p (xs ++ rest) ≡ length xs = ih e in omega arith
    go false e ih = absurd cc

pub skip_front : (p : ℕ → Bool) (xs rest : List ℕ) → list_all p xs ≡ true → begins p rest ≡ false → skip p (xs ++ rest) ≡ rest
skip_front p xs rest all stops = ap (λ n. drop n (xs ++ rest)) (prefix_len_front p xs rest all stops) ∙ drop_at xs rest (length xs) refl

pub take-front : (p : ℕ → Bool) (xs rest : List ℕ) → list_all p xs ≡ true → begins p rest ≡ false → take (prefix_len p (xs ++ rest)) (xs ++ rest) ≡ xs
take-front p xs rest all stops = ap (λ n. take n (xs ++ rest)) (prefix_len_front p xs rest all stops) ∙ take_at xs rest (length xs) refl

-- ---- answers

when_fits : (t : Bool) (o : Option Cost) (cost : Cost) → cond t o None ≡ Some cost → (t ≡ true) × (o ≡ Some cost)
when_fits true o cost e = (refl, e)
when_fits false o cost e = absurd cc

-- ---- bytes

pub site_byte_is_not_blank : (b : ℕ) → is_site_byte b ≡ true → is_blank b ≡ false
site_byte_is_not_blank b h = grind (arith, nat_tests)

pub site_byte_is_no_mark : (b : ℕ) → is_site_byte b ≡ true → is_mark b ≡ false
site_byte_is_no_mark b h = grind (arith, nat_tests)

pub mark_is_not_blank : (b : ℕ) → is_mark b ≡ true → is_blank b ≡ false
mark_is_not_blank b h = grind (arith, nat_tests)

mark_is_no_site_byte : (b : ℕ) → is_mark b ≡ true → is_site_byte b ≡ false
mark_is_no_site_byte b h = grind (arith, nat_tests)

pub blank_is_no_site_byte : (b : ℕ) → is_blank b ≡ true → is_site_byte b ≡ false
blank_is_no_site_byte b h = grind (arith, nat_tests)

blank_is_no_mark : (b : ℕ) → is_blank b ≡ true → is_mark b ≡ false
blank_is_no_mark b h = grind (arith, nat_tests)

pub name_passes : (name : List ℕ) → is_site_name name ≡ true → list_all is_site_byte name ≡ true
name_passes name h = and_second (nat_le 1 (length name)) (list_all is_site_byte name) (and_first (nat_le 1 (length name) && list_all is_site_byte name) (nat_le (length name) 63) h)

pub empty_is_no_name : is_site_name [] ≡ true → ⊥
empty_is_no_name h = cc

-- ---- the first token

first_word : (b : ℕ) (bs : List ℕ) → is_blank b ≡ false → (w : List ℕ) × (ws : List (List ℕ)) × (words (b ∷ bs) ≡ (b ∷ w) ∷ ws)
first_word b bs h = go (is_blank b) (runs_on b bs) (words bs) h
  where
    go : (t r : Bool) (ws : List (List ℕ)) → t ≡ false → (w : List ℕ) × (vs : List (List ℕ)) × (cond t ws (cond r (onto_first b ws) ((b ∷ []) ∷ ws)) ≡ (b ∷ w) ∷ vs)
    go true r ws e = absurd cc
    go false true [] e = ([], [], refl)
    go false true (v ∷ vs) e = (v, vs, refl)
    go false false ws e = ([], ws, refl)

amount_is_not_open : (o : Option ℤ) → amount_token o ≢ tokens.Open
amount_is_not_open None e = cc
amount_is_not_open (Some z) e = cc

symbol_is_not_open : (name : List ℕ) → symbol_token name ≢ tokens.Open
symbol_is_not_open name = go (bytes_eq name (codes "DEAD"))
  where
    go : (t : Bool) → cond t tokens.Dead (amount_token (symbol_amount name)) ≢ tokens.Open
    go true e = cc
    go false e = amount_is_not_open (symbol_amount name) e

open_is_sign : (b : ℕ) → sign_token b ≡ tokens.Open → (b == 40) ≡ true
open_is_sign b = go (b == 40) (b == 41) (b == 43) (b == 45) (b == 42) (b == 47)
  where
    go : (t u v w x y : Bool) → cond t tokens.Open (cond u tokens.Close (cond v (tokens.Additive Plus) (cond w (tokens.Additive Minus) (cond x (tokens.Multiplicative Times) (cond y (tokens.Multiplicative Over) tokens.Other))))) ≡ tokens.Open → t ≡ true
    go true u v w x y e = refl
    go false true v w x y e = absurd cc
    go false false true w x y e = absurd cc
    go false false false true x y e = absurd cc
    go false false false false true y e = absurd cc
    go false false false false false true e = absurd cc
    go false false false false false false e = absurd cc

open_begins : (b : ℕ) (w : List ℕ) → word_token (b ∷ w) ≡ tokens.Open → (b == 40) ≡ true
open_begins b w = go (is_ascii_digit b) (is_ascii_uppercase b)
  where
    go : (d u : Bool) → cond d (tokens.Amount (kept (pos (decimal (b ∷ w))))) (cond u (symbol_token (b ∷ w)) (sign_token b)) ≡ tokens.Open → (b == 40) ≡ true
    go true u e = absurd cc
    go false true e = absurd (symbol_is_not_open (b ∷ w) e)
    go false false e = open_is_sign b e

parenthesis_is_no_site_byte : (b : ℕ) → (b == 40) ≡ true → is_site_byte b ≡ false
parenthesis_is_no_site_byte b h = grind (arith, nat_tests)

parenthesis_is_no_mark : (b : ℕ) → (b == 40) ≡ true → is_mark b ≡ false
parenthesis_is_no_mark b h = grind (arith, nat_tests)

-- what comes after a name begins with a blank or a parenthesis, if it isn't empty
pub record BehindName (text : List ℕ) : Type 0 where
  pub no_site_byte : begins is_site_byte text ≡ false
  pub no_mark : begins is_mark text ≡ false

pub cost_begins : (text : List ℕ) (cost : Cost) → IsCost text cost → BehindName text
cost_begins [] cost h = record { no_site_byte = refl; no_mark = refl }
cost_begins (b ∷ bs) cost h = go (is_blank b) refl h
  where
    open_first : (w : List ℕ) (ws : List (List ℕ)) → words (b ∷ bs) ≡ (b ∷ w) ∷ ws → (ts : List Token) → token.tokens (b ∷ bs) ≡ tokens.Open ∷ ts → BehindName (b ∷ bs)
    open_first w ws e ts f =
        let first : word_token (b ∷ w) ∷ map word_token ws ≡ tokens.Open ∷ ts = sym (ap (map word_token) e) ∙ f in
        let is : word_token (b ∷ w) ≡ tokens.Open = cc in
        record { no_site_byte = parenthesis_is_no_site_byte b (open_begins b w is); no_mark = parenthesis_is_no_mark b (open_begins b w is) }

    nothing_first : (w : List ℕ) (ws : List (List ℕ)) → words (b ∷ bs) ≡ (b ∷ w) ∷ ws → token.tokens (b ∷ bs) ≡ [] → ⊥
    nothing_first w ws e f = let none_left : word_token (b ∷ w) ∷ map word_token ws ≡ [] = sym (ap (map word_token) e) ∙ f in cc

    go : (t : Bool) → is_blank b ≡ t → IsCost (b ∷ bs) cost → BehindName (b ∷ bs)
    go true e h = record { no_site_byte = blank_is_no_site_byte b e; no_mark = blank_is_no_mark b e }
    go false e (inl (none_left, _)) = let (w, ws, f) = first_word b bs e in absurd (nothing_first w ws f none_left)
    go false e (inr (sum, priced)) = let (w, ws, f) = first_word b bs e in open_first w ws f (sum_text sum ++ tokens.Close ∷ []) priced.written

-- ---- costs

pub cost_tokens : (text : List ℕ) (cost : Cost) (ts : List Token) → token.tokens text ≡ ts → cost_behind ts ≡ Some cost → IsCost text cost
cost_tokens text cost [] e h = inl (e, sym (same_Some (Value 4000) cost h))
cost_tokens text cost (tokens.Open ∷ ts) e h =
    let (tree, et) = accepted_expression 32 ts cost h in
    inr (tree, priced tree et)
  where
    priced : (tree : Sum) → ts ≡ sum_text tree ++ tokens.Close ∷ [] → IsPriced text cost tree
    priced tree et =
        let (fits, price) = when_fits (sum_fits 32 tree) (cost_of (sum_is_dead tree) (sum_value tree)) cost (sym (reads_expression 32 tree) ∙ (ap (run (start 32)) (sym et) ∙ h)) in
        record { written = e ∙ ap (λ r. tokens.Open ∷ r) et; fits = fits; price = price }
cost_tokens text cost (tokens.Amount v ∷ ts) e h = absurd cc
cost_tokens text cost (tokens.Dead ∷ ts) e h = absurd cc
cost_tokens text cost (tokens.Close ∷ ts) e h = absurd cc
cost_tokens text cost (tokens.Additive op ∷ ts) e h = absurd cc
cost_tokens text cost (tokens.Multiplicative op ∷ ts) e h = absurd cc
cost_tokens text cost (tokens.Other ∷ ts) e h = absurd cc

pub cost_is_read : (text : List ℕ) (cost : Cost) → IsCost text cost → cost_behind (token.tokens text) ≡ Some cost
cost_is_read text cost (inl (e, is)) = ap cost_behind e ∙ ap Some (sym is)
cost_is_read text cost (inr (tree, priced)) =
    ap cost_behind priced.written ∙ (reads_expression 32 tree ∙ (ap (λ b. cond b (cost_of (sum_is_dead tree) (sum_value tree)) None) priced.fits ∙ priced.price))

-- ---- links

pub front_mark : (text : List ℕ) → (mark : List ℕ) × IsMarkAtMost mark × (text ≡ mark ++ skip_mark text)
front_mark [] = ([], tt, refl)
front_mark (b ∷ bs) = go (is_mark b) refl
  where
    go : (t : Bool) → is_mark b ≡ t → (mark : List ℕ) × IsMarkAtMost mark × (b ∷ bs ≡ mark ++ cond t bs (b ∷ bs))
    go true e = (b ∷ [], e, refl)
    go false e = ([], tt, refl)

pub site_name_is : (text name : List ℕ) → site_name text ≡ Some name → (IsTrue (is_site_name name)) × (text ≡ name)
site_name_is text name = go (is_site_name text) refl
  where
    go : (t : Bool) → is_site_name text ≡ t → cond t (Some text) None ≡ Some name → (IsTrue (is_site_name name)) × (text ≡ name)
    go true e h = let same : text ≡ name = same_Some text name h in (ap is_site_name (sym same) ∙ e, same)
    go false e h = absurd cc

record Named (text : List ℕ) (link : Link) : Type 0 where
  written : text ≡ link.to ++ skip is_site_byte text
  name : IsTrue (is_site_name link.to)
  cost : cost_behind (token.tokens (skip_mark (skip is_site_byte text))) ≡ Some link.cost

named : (text : List ℕ) (link : Link) → named_link text ≡ Some link → Named text link
unfolding named_link
named text link h = go (cost_behind (token.tokens (skip_mark (skip is_site_byte text)))) refl (site_name (take (prefix_len is_site_byte text) text)) refl h
  where
    go : (c : Option Cost) → cost_behind (token.tokens (skip_mark (skip is_site_byte text))) ≡ c → (n : Option (List ℕ)) → site_name (take (prefix_len is_site_byte text) text) ≡ n → option_and_then (λ cost. option_map (λ name. record { to = name; cost = cost }) n) c ≡ Some link → Named text link
    go None ec n en h = absurd cc
    go (Some cost) ec None en h = absurd cc
    go (Some cost) ec (Some name) en h =
        let is : record { to = name; cost = cost } ≡ link = same_Some (record { to = name; cost = cost }) link h in
        let (good, same) = site_name_is (take (prefix_len is_site_byte text) text) name en in
        let to : name ≡ link.to = ap (λ (l : Link). l.to) is in
        record {
          written = sym (take-append-drop (prefix_len is_site_byte text) text) ∙ ap (λ n. n ++ skip is_site_byte text) (same ∙ to);
          name = ap is_site_name (sym to) ∙ good;
          cost = ec ∙ ap Some (ap (λ (l : Link). l.cost) is);
        }

-- what is read as a link is one
pub link_is : (text : List ℕ) (link : Link) → link_of text ≡ Some link → IsLink text link
unfolding link_of
link_is text link h =
    let rest : List ℕ = skip is_blank text in
    let n : Named (skip_mark rest) link = named (skip_mark rest) link h in
    let (front, is_front, ef) = front_mark rest in
    let (back, is_back, eb) = front_mark (skip is_site_byte (skip_mark rest)) in
    record {
      blanks = take (prefix_len is_blank text) text;
      front = front;
      back = back;
      behind = skip_mark (skip is_site_byte (skip_mark rest));
      written = sym (take-append-drop (prefix_len is_blank text) text)
          ∙ ap (λ r. take (prefix_len is_blank text) text ++ r) (ef ∙ ap (λ r. front ++ r) (n.written ∙ ap (λ r. link.to ++ r) eb));
      before = front_passes is_blank text;
      front_mark = is_front;
      name = n.name;
      back_mark = is_back;
      cost = cost_tokens (skip_mark (skip is_site_byte (skip_mark rest))) link.cost (token.tokens (skip_mark (skip is_site_byte (skip_mark rest)))) refl n.cost;
    }

-- a name that is followed by something begins neither with a blank nor with a mark
name_begins : (name rest : List ℕ) → is_site_name name ≡ true → (begins is_blank (name ++ rest) ≡ false) × (skip_mark (name ++ rest) ≡ name ++ rest)
name_begins [] rest h = absurd (empty_is_no_name h)
name_begins (b ∷ bs) rest h =
    let passes : is_site_byte b ≡ true = and_first (is_site_byte b) (list_all is_site_byte bs) (name_passes (b ∷ bs) h) in
    (site_byte_is_not_blank b passes, ap (λ t. cond t (bs ++ rest) (b ∷ (bs ++ rest))) (site_byte_is_no_mark b passes))

pub behind_mark : (mark text : List ℕ) → IsMarkAtMost mark → begins is_mark text ≡ false → skip_mark (mark ++ text) ≡ text
behind_mark [] [] m h = refl
behind_mark [] (b ∷ bs) m h = ap (λ t. cond t bs (b ∷ bs)) h
behind_mark (b ∷ []) text m h = ap (λ t. cond t text (b ∷ text)) m
behind_mark (b ∷ c ∷ mark) text m h = absurd m

mark_stops : (mark text : List ℕ) → IsMarkAtMost mark → begins is_site_byte text ≡ false → begins is_site_byte (mark ++ text) ≡ false
mark_stops [] text m h = h
mark_stops (b ∷ []) text m h = mark_is_no_site_byte b m
mark_stops (b ∷ c ∷ mark) text m h = absurd m

front_begins : (front name rest : List ℕ) → IsMarkAtMost front → is_site_name name ≡ true → (begins is_blank (front ++ (name ++ rest)) ≡ false) × (skip_mark (front ++ (name ++ rest)) ≡ name ++ rest)
front_begins [] name rest m h = name_begins name rest h
front_begins (b ∷ []) name rest m h = (mark_is_not_blank b m, ap (λ t. cond t (name ++ rest) (b ∷ (name ++ rest))) m)
front_begins (b ∷ c ∷ front) name rest m h = absurd m

named_is_read : (link : Link) (back behind : List ℕ) → IsTrue (is_site_name link.to) → IsMarkAtMost back → IsCost behind link.cost → named_link (link.to ++ (back ++ behind)) ≡ Some link
unfolding named_link
named_is_read link back behind name mark cost =
    let starts : BehindName behind = cost_begins behind link.cost cost in
    let all : list_all is_site_byte link.to ≡ true = name_passes link.to name in
    let stops : begins is_site_byte (back ++ behind) ≡ false = mark_stops back behind mark starts.no_site_byte in
    let front : take (prefix_len is_site_byte (link.to ++ (back ++ behind))) (link.to ++ (back ++ behind)) ≡ link.to = take-front is_site_byte link.to (back ++ behind) all stops in
    let rest : skip is_site_byte (link.to ++ (back ++ behind)) ≡ back ++ behind = skip_front is_site_byte link.to (back ++ behind) all stops in
    let after : skip_mark (back ++ behind) ≡ behind = behind_mark back behind mark starts.no_mark in
    ap (λ t. option_and_then (λ cost. option_map (λ name. let l : Link = record { to = name; cost = cost } in l) (site_name (take (prefix_len is_site_byte (link.to ++ (back ++ behind))) (link.to ++ (back ++ behind))))) (cost_behind (token.tokens (skip_mark t)))) rest
    ∙ (ap (λ t. option_and_then (λ cost. option_map (λ name. let l : Link = record { to = name; cost = cost } in l) (site_name (take (prefix_len is_site_byte (link.to ++ (back ++ behind))) (link.to ++ (back ++ behind))))) (cost_behind (token.tokens t))) after
    ∙ (ap (λ c. option_and_then (λ cost. option_map (λ name. let l : Link = record { to = name; cost = cost } in l) (site_name (take (prefix_len is_site_byte (link.to ++ (back ++ behind))) (link.to ++ (back ++ behind))))) c) (cost_is_read behind link.cost cost)
    ∙ (ap (λ n. option_map (λ name. let l : Link = record { to = name; cost = link.cost } in l) (site_name n)) front
    ∙ ap (λ b. option_map (λ name. let l : Link = record { to = name; cost = link.cost } in l) (cond b (Some link.to) None)) name)))

-- a link is read as it is
pub link_is_read : (text : List ℕ) (link : Link) → IsLink text link → link_of text ≡ Some link
unfolding link_of
link_is_read text link l =
    let (stops, after) = front_begins l.front link.to (l.back ++ l.behind) l.front_mark l.name in
    ap (λ t. named_link (skip_mark (skip is_blank t))) l.written
    ∙ (ap (λ t. named_link (skip_mark t)) (skip_front is_blank l.blanks (l.front ++ (link.to ++ (l.back ++ l.behind))) l.before stops)
    ∙ (ap named_link after
    ∙ named_is_read link l.back l.behind l.name l.back_mark l.cost))

-- ---- aliases

named_alias_is : (text name : List ℕ) → named_alias text ≡ Some name → (IsTrue (is_site_name name)) × (text ≡ name ++ skip is_site_byte text) × IsTrue (all_blank (skip is_site_byte text))
unfolding named_alias
named_alias_is text name = go (all_blank (skip is_site_byte text)) refl
  where
    go : (t : Bool) → all_blank (skip is_site_byte text) ≡ t → cond t (site_name (take (prefix_len is_site_byte text) text)) None ≡ Some name → (IsTrue (is_site_name name)) × (text ≡ name ++ skip is_site_byte text) × IsTrue (all_blank (skip is_site_byte text))
    go true e h =
        let (good, same) = site_name_is (take (prefix_len is_site_byte text) text) name h in
        (good, sym (take-append-drop (prefix_len is_site_byte text) text) ∙ ap (λ n. n ++ skip is_site_byte text) same, e)
    go false e h = absurd cc

pub alias_is : (text name : List ℕ) → alias_of text ≡ Some name → IsAlias text name
unfolding alias_of
alias_is text name h =
    let (good, written, blank) = named_alias_is (skip is_blank text) name h in
    record {
      blanks = take (prefix_len is_blank text) text;
      behind = skip is_site_byte (skip is_blank text);
      written = sym (take-append-drop (prefix_len is_blank text) text) ∙ ap (λ r. take (prefix_len is_blank text) text ++ r) written;
      before = front_passes is_blank text;
      is_name = good;
      after = blank;
    }

blanks_stop : (text : List ℕ) → all_blank text ≡ true → begins is_site_byte text ≡ false
blanks_stop [] h = refl
blanks_stop (b ∷ bs) h = blank_is_no_site_byte b (and_first (is_blank b) (all_blank bs) h)

named_alias_is_read : (name behind : List ℕ) → IsTrue (is_site_name name) → IsTrue (all_blank behind) → named_alias (name ++ behind) ≡ Some name
unfolding named_alias
named_alias_is_read name behind good blank =
    let all : list_all is_site_byte name ≡ true = name_passes name good in
    let stops : begins is_site_byte behind ≡ false = blanks_stop behind blank in
    ap (λ t. cond (all_blank t) (site_name (take (prefix_len is_site_byte (name ++ behind)) (name ++ behind))) None) (skip_front is_site_byte name behind all stops)
    ∙ (ap (λ b. cond b (site_name (take (prefix_len is_site_byte (name ++ behind)) (name ++ behind))) None) blank
    ∙ (ap site_name (take-front is_site_byte name behind all stops)
    ∙ ap (λ b. cond b (Some name) None) good))

pub alias_is_read : (text name : List ℕ) → IsAlias text name → alias_of text ≡ Some name
unfolding alias_of
alias_is_read text name a =
    let (stops, _) = name_begins name a.behind a.is_name in
    ap (λ t. named_alias (skip is_blank t)) a.written
    ∙ (ap named_alias (skip_front is_blank a.blanks (name ++ a.behind) a.before stops)
    ∙ named_alias_is_read name a.behind a.is_name a.after)
