-- The lines of a key file.
use Rattle.std.proofs.Common.{◌≡◌, ◌≢◌, ◌∙◌, ap, sym, subst, ℕ, ◌≤◌, List, [], ◌∷◌, ◌++◌, Ok, drop, length, take, arith}
use Rattle.std.proofs.lemmas.List.{append-nil, append_assoc, drop_at, length-append, take-append-drop}
use Rattle.hex.specs.Hex.{decode_sized}
use Rattle.uu_seal.specs.Keys.{AreKeyLines, AreKeys, IsKeyLine}
use Rattle.uu_seal.proofs.Reading.{same_fronts}

line_long : (line key : List ℕ) → IsKeyLine line key → length line ≡ 64
line_long line key is = grind (arith)

-- with the keys so far, and those of the rest, the text is what it is
pub record Progress (text rest : List ℕ) (keys : List (List ℕ)) : Type 0 where
  pub more : (others : List (List ℕ)) → AreKeyLines rest others → AreKeyLines text (keys ++ others)
  pub less : (all : List (List ℕ)) → AreKeyLines text all → (others : List (List ℕ)) × AreKeyLines rest others
  pub some : rest ≡ [] → keys ≢ []

pub begun : (text : List ℕ) (keys : List (List ℕ)) → keys ≡ [] → text ≢ [] → Progress text text keys
begun text keys none some = record {
  more = λ others are. subst (λ ks. AreKeyLines text (ks ++ others)) (sym none) are;
  less = λ all are. (all, are);
  some = λ empty. absurd (some empty);
}

-- a line that is cut off is that of the first key
first_is : (rest line behind : List ℕ) (key : List ℕ) (keys : List (List ℕ)) → length line ≡ 64 → rest ≡ line ++ 10 ∷ behind → AreKeyLines rest (key ∷ keys) → IsKeyLine line key × AreKeyLines behind keys
first_is rest line behind key keys long is (l, b, digits, e, others) =
    let same = same_fronts line l (10 ∷ behind) (10 ∷ b) (long ∙ sym (line_long l key digits)) (sym is ∙ e) in
    let tails : behind ≡ b = cc in
    (subst (λ t. IsKeyLine t key) (sym same.0) digits, subst (λ t. AreKeyLines t keys) (sym tails) others)

pub one_more : (text rest line behind : List ℕ) (keys items : List (List ℕ)) (key : List ℕ) → Progress text rest keys → length line ≡ 64 → rest ≡ line ++ 10 ∷ behind → IsKeyLine line key → items ≡ keys ++ key ∷ [] → Progress text behind items
one_more text rest line behind keys items key so_far long is digits kept = record {
  more = λ others are. subst (AreKeyLines text) (sym (append_assoc keys (key ∷ []) others) ∙ ap (λ ks. ks ++ others) (sym kept)) (so_far.more (key ∷ others) (line, behind, digits, is, are));
  less = λ all are. from (so_far.less all are);
  some = λ empty none. absurd (not_none (sym kept ∙ none));
}
  where
    not_none : keys ++ key ∷ [] ≡ [] → ⊥
    not_none e = omega (arith, ap length e, length-append {A = List ℕ} keys (key ∷ []))

    by : (others : List (List ℕ)) → AreKeyLines rest others → (more : List (List ℕ)) × AreKeyLines behind more
    by [] none = absurd (omega (arith, ap length (sym is ∙ none), length-append {A = ℕ} line (10 ∷ behind)))
    by (k ∷ others) are = (others, (first_is rest line behind k others long is are).1)

    from : (others : List (List ℕ)) × AreKeyLines rest others → (more : List (List ℕ)) × AreKeyLines behind more
    from found = by found.0 found.1

pub all_read : (text rest : List ℕ) (keys items : List (List ℕ)) → Progress text rest keys → rest ≡ [] → items ≡ keys → AreKeys text items
all_read text rest keys items so_far empty kept = (
  λ none. so_far.some empty (sym kept ∙ none),
  subst (AreKeyLines text) (append-nil keys ∙ sym kept) (so_far.more [] empty),
)

-- a rest that isn't lines of keys
pub bad_rest : (text rest : List ℕ) (keys : List (List ℕ)) → Progress text rest keys → ((others : List (List ℕ)) → ¬ AreKeyLines rest others) → (all : List (List ℕ)) → ¬ AreKeyLines text all
bad_rest text rest keys so_far bad all are = let found = so_far.less all are in bad found.0 found.1

pub no_line : (rest : List ℕ) → 1 ≤ length rest → ((line behind : List ℕ) → length line ≡ 64 → rest ≢ line ++ 10 ∷ behind) → (others : List (List ℕ)) → ¬ AreKeyLines rest others
no_line rest some none [] are = omega (arith, ap length are)
no_line rest some none (key ∷ others) (line, behind, digits, is, more) = none line behind (line_long line key digits) is

pub no_key : (rest line behind : List ℕ) → 1 ≤ length rest → length line ≡ 64 → rest ≡ line ++ 10 ∷ behind → ((key : List ℕ) → decode_sized line 32 ≢ Ok key) → (others : List (List ℕ)) → ¬ AreKeyLines rest others
no_key rest line behind some long is none [] are = omega (arith, ap length are)
no_key rest line behind some long is none (key ∷ others) are = none key (first_is rest line behind key others long is are).0

-- ---- the first 64 bytes

pub cut_here : (text line rest behind : List ℕ) → line ≡ take 64 text → rest ≡ drop 64 text → rest ≡ 10 ∷ behind → text ≡ line ++ 10 ∷ behind
cut_here text line rest behind of_line of_rest is = sym (take-append-drop 64 text) ∙ ap (λ l. l ++ drop 64 text) (sym of_line) ∙ ap (λ r. line ++ r) (sym of_rest ∙ is)

pub cut_not : (text rest : List ℕ) → rest ≡ drop 64 text → ((behind : List ℕ) → rest ≢ 10 ∷ behind) → (line behind : List ℕ) → length line ≡ 64 → text ≢ line ++ 10 ∷ behind
cut_not text rest of_rest none line behind long is = none behind (of_rest ∙ ap (drop 64) is ∙ drop_at line (10 ∷ behind) 64 long)
