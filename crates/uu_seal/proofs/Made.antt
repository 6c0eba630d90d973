-- What is opened was sealed, if nobody forges tags.
use Rattle.std.proofs.Common.{◌≡◌, ◌≢◌, ◌∙◌, ◌⊎◌, inl, inr, ap, sym, refl, subst, ℕ, zero, suc, ◌≤◌, List, [], ◌∷◌, ◌++◌, All, Contains, codes, length, arith}
use Rattle.std.specs.List.{flat_map}
use Rattle.std.proofs.lemmas.List.{append_assoc, append_cancel_left, length-append}
use Rattle.std.proofs.lemmas.List.Elements.{All-cons, All-contains, All-contains_itself, All-head, All-tail, All-weaker, Contains-append_cases, Contains-append_left, Contains-append_right, Contains-push, Contains-push_cases}
use Rattle.uu_seal.specs.Hmac.{hmac}
use Rattle.uu_seal.specs.Laws.{BeginsOneOf, NoneIsForged, TagsTellApart, tagged, tagged_after, tagged_in}
use Rattle.uu_seal.specs.Opening.{IsOpened, IsOpenedWith, joined}
use Rattle.uu_seal.specs.Texts.{first_line, last_tag, name_of, pieces_of, pieces_text, sealed, tag_of}
use Rattle.uu_seal.proofs.Cutting.{are_pieces, joined_pieces}
use Rattle.uu_seal.proofs.Opened.{hmac_long, joined_append, last_long, last_one_more}
use Rattle.uu_seal.proofs.Reading.{same_fronts}
use Rattle.uu_seal.proofs.Sealed.{are_first}

-- ---- lists

contains_first : {X : Type 0} (x : X) (xs : List X) → Contains (x ∷ xs) x
contains_first x xs = Contains-append_left (x ∷ []) xs x (Contains-push [] x)

contains_later : {X : Type 0} (y x : X) (xs : List X) → Contains xs x → Contains (y ∷ xs) x
contains_later y x xs in_xs = Contains-append_right (y ∷ []) xs x in_xs

not_in_none : {X : Type 0} (x : X) → Contains [] x → ⊥
not_in_none x it = let below = it.1 in omega arith

first_or_later : {X : Type 0} (y x : X) (xs : List X) → Contains (y ∷ xs) x → (y ≡ x) ⊎ Contains xs x
first_or_later y x xs it = by (Contains-append_cases (y ∷ []) xs x it)
  where
    one : Contains [] x ⊎ (y ≡ x) → (y ≡ x) ⊎ Contains xs x
    one (inl none) = absurd (not_in_none x none)
    one (inr same) = inl same

    by : Contains (y ∷ []) x ⊎ Contains xs x → (y ≡ x) ⊎ Contains xs x
    by (inl here) = one (Contains-push_cases [] y x here)
    by (inr later) = inr later

in_one : (f : List ℕ → List (List ℕ)) (texts : List (List ℕ)) (m : List ℕ) → Contains (flat_map f texts) m → (text : List ℕ) × Contains texts text × Contains (f text) m
in_one f [] m it = absurd (not_in_none m it)
in_one f (text ∷ texts) m it = by (Contains-append_cases (f text) (flat_map f texts) m it) (in_one f texts m)
  where
    by : Contains (f text) m ⊎ Contains (flat_map f texts) m → (Contains (flat_map f texts) m → (one : List ℕ) × Contains texts one × Contains (f one) m) → (one : List ℕ) × Contains (text ∷ texts) one × Contains (f one) m
    by (inl here) more = (text, contains_first text texts, here)
    by (inr later) more = let found = more later in (found.0, contains_later text found.0 texts found.1, found.2)

in_all : (f : List ℕ → List (List ℕ)) (texts : List (List ℕ)) (text m : List ℕ) → Contains texts text → Contains (f text) m → Contains (flat_map f texts) m
in_all f [] text m of_texts it = absurd (not_in_none text of_texts)
in_all f (one ∷ texts) text m of_texts it = by (first_or_later one text texts of_texts) (λ later. in_all f texts text m later it)
  where
    by : (one ≡ text) ⊎ Contains texts text → (Contains texts text → Contains (flat_map f texts) m) → Contains (f one ++ flat_map f texts) m
    by (inl same) more = Contains-append_left (f one) (flat_map f texts) m (subst (λ t. Contains (f t) m) (sym same) it)
    by (inr later) more = Contains-append_right (f one) (flat_map f texts) m (more later)

-- none, or some and a last one
last_of : (ps : List (List ℕ)) → (ps ≡ []) ⊎ ((front : List (List ℕ)) × (last : List ℕ) × (ps ≡ front ++ last ∷ []))
last_of [] = inl refl
last_of (p ∷ ps) = by (last_of ps)
  where
    by : (ps ≡ []) ⊎ ((front : List (List ℕ)) × (last : List ℕ) × (ps ≡ front ++ last ∷ [])) → (p ∷ ps ≡ []) ⊎ ((front : List (List ℕ)) × (last : List ℕ) × (p ∷ ps ≡ front ++ last ∷ []))
    by (inl none) = inr ([], p, ap (λ t. p ∷ t) none)
    by (inr some) = inr (p ∷ some.0, some.1, ap (λ t. p ∷ t) some.2)

-- ---- what tags are made from

tagged_more : (key before : List ℕ) (ps qs : List (List ℕ)) → tagged_after key before (ps ++ qs) ≡ tagged_after key before ps ++ tagged_after key (last_tag key before ps) qs
tagged_more key before [] qs = refl
tagged_more key before (p ∷ ps) qs = ap (λ t. (before ++ p) ∷ t) (tagged_more key (tag_of key before p) ps qs)

-- the piece from which a tag was made, with what came before it
made_from : (key before m : List ℕ) (qs : List (List ℕ)) → Contains (tagged_after key before qs) m → (front : List (List ℕ)) × (piece : List ℕ) × (behind : List (List ℕ)) × (qs ≡ front ++ piece ∷ behind) × (m ≡ last_tag key before front ++ piece)
made_from key before m [] it = absurd (not_in_none m it)
made_from key before m (q ∷ qs) it = by (first_or_later (before ++ q) m (tagged_after key (tag_of key before q) qs) it) (made_from key (tag_of key before q) m qs)
  where
    by : (before ++ q ≡ m) ⊎ Contains (tagged_after key (tag_of key before q) qs) m
        → (Contains (tagged_after key (tag_of key before q) qs) m → (front : List (List ℕ)) × (piece : List ℕ) × (behind : List (List ℕ)) × (qs ≡ front ++ piece ∷ behind) × (m ≡ last_tag key (tag_of key before q) front ++ piece))
        → (front : List (List ℕ)) × (piece : List ℕ) × (behind : List (List ℕ)) × (q ∷ qs ≡ front ++ piece ∷ behind) × (m ≡ last_tag key before front ++ piece)
    by (inl same) more = ([], q, qs, refl, sym same)
    by (inr later) more = let found = more later in (q ∷ found.0, found.1, found.2, ap (λ t. q ∷ t) found.3, found.4)

-- those of a beginning are among these
of_front : (T : List (List ℕ)) (key before : List ℕ) (ps qs : List (List ℕ)) → ((m : List ℕ) → Contains (tagged_after key before (ps ++ qs)) m → Contains T m) → (m : List ℕ) → Contains (tagged_after key before ps) m → Contains T m
of_front T key before ps qs among m it =
    among m (subst (λ ms. Contains ms m) (sym (tagged_more key before ps qs)) (Contains-append_left (tagged_after key before ps) (tagged_after key (last_tag key before ps) qs) m it))

of_last : (T : List (List ℕ)) (key before : List ℕ) (front : List (List ℕ)) (last : List ℕ) → ((m : List ℕ) → Contains (tagged_after key before (front ++ last ∷ [])) m → Contains T m) → Contains T (last_tag key before front ++ last)
of_last T key before front last among =
    among (last_tag key before front ++ last)
    (subst (λ ms. Contains ms (last_tag key before front ++ last)) (sym (tagged_more key before front (last ∷ [])))
    (Contains-append_right (tagged_after key before front) ((last_tag key before front ++ last) ∷ []) (last_tag key before front ++ last) (Contains-push [] (last_tag key before front ++ last))))

name_long : (key : List ℕ) → length (name_of key) ≡ 32
name_long key = hmac_long key (codes "sealed")

not_the_name : (key : List ℕ) (front : List (List ℕ)) (last : List ℕ) → codes "sealed" ≢ last_tag key (name_of key) front ++ last
not_the_name key front last e = omega (arith, ap length e, length-append {A = ℕ} (last_tag key (name_of key) front) last, last_long key (name_of key) front (name_long key))

-- all that these pieces' tags are made from is among these
abbrev AreAmong : List (List ℕ) → List ℕ → List (List ℕ) → Type 0
AreAmong T key ps = (m : List ℕ) → Contains (tagged_after key (name_of key) ps) m → Contains T m

abbrev Apart : List (List ℕ) → List ℕ → Type 0
Apart T key = (one other : List ℕ) → Contains T one → Contains T other → hmac key one ≡ hmac key other → one ≡ other

-- no pieces and some pieces have different last tags
none_or_some : (T : List (List ℕ)) (key : List ℕ) (front : List (List ℕ)) (last : List ℕ) → Apart T key → Contains T (codes "sealed") → AreAmong T key (front ++ last ∷ []) → name_of key ≢ last_tag key (name_of key) (front ++ last ∷ [])
none_or_some T key front last apart named among same =
    not_the_name key front last (apart (codes "sealed") (last_tag key (name_of key) front ++ last) named (of_last T key (name_of key) front last among) (same ∙ last_one_more key (name_of key) front last))

-- the last two of two lists of pieces with the same last tag
same_last : (T : List (List ℕ)) (key : List ℕ) (front back : List (List ℕ)) (last end : List ℕ) → Apart T key → AreAmong T key (front ++ last ∷ []) → AreAmong T key (back ++ end ∷ [])
    → last_tag key (name_of key) (front ++ last ∷ []) ≡ last_tag key (name_of key) (back ++ end ∷ []) → (last_tag key (name_of key) front ≡ last_tag key (name_of key) back) × (last ≡ end)
same_last T key front back last end apart of_front_ of_back same =
    let one = apart (last_tag key (name_of key) front ++ last) (last_tag key (name_of key) back ++ end) (of_last T key (name_of key) front last of_front_) (of_last T key (name_of key) back end of_back)
    (sym (last_one_more key (name_of key) front last) ∙ same ∙ last_one_more key (name_of key) back end) in
    same_fronts (last_tag key (name_of key) front) (last_tag key (name_of key) back) last end (last_long key (name_of key) front (name_long key) ∙ sym (last_long key (name_of key) back (name_long key))) one

-- one tag is the last of one list of pieces only
same_chain : (n : ℕ) (T : List (List ℕ)) (key : List ℕ) (ps qs : List (List ℕ)) → length ps ≤ n → Apart T key → Contains T (codes "sealed") → AreAmong T key ps → AreAmong T key qs
    → last_tag key (name_of key) ps ≡ last_tag key (name_of key) qs → ps ≡ qs
same_chain zero T key (p ∷ ps) qs within apart named of_ps of_qs same = absurd (omega arith)
same_chain zero T key [] qs within apart named of_ps of_qs same = by (last_of qs)
  where
    by : (qs ≡ []) ⊎ ((front : List (List ℕ)) × (last : List ℕ) × (qs ≡ front ++ last ∷ [])) → [] ≡ qs
    by (inl none) = sym none
    by (inr some) = absurd (none_or_some T key some.0 some.1 apart named (subst (AreAmong T key) some.2 of_qs) (same ∙ ap (last_tag key (name_of key)) some.2))
same_chain (suc n) T key ps qs within apart named of_ps of_qs same = by (last_of ps) (last_of qs) (λ front back. same_chain n T key front back)
  where
    by : (ps ≡ []) ⊎ ((front : List (List ℕ)) × (last : List ℕ) × (ps ≡ front ++ last ∷ [])) → (qs ≡ []) ⊎ ((back : List (List ℕ)) × (end : List ℕ) × (qs ≡ back ++ end ∷ []))
        → ((front back : List (List ℕ)) → length front ≤ n → Apart T key → Contains T (codes "sealed") → AreAmong T key front → AreAmong T key back → last_tag key (name_of key) front ≡ last_tag key (name_of key) back → front ≡ back) → ps ≡ qs
    by (inl none) (inl also) more = none ∙ sym also
    by (inl none) (inr some) more = absurd (none_or_some T key some.0 some.1 apart named (subst (AreAmong T key) some.2 of_qs) (ap (last_tag key (name_of key)) (sym none) ∙ same ∙ ap (last_tag key (name_of key)) some.2))
    by (inr some) (inl none) more = absurd (none_or_some T key some.0 some.1 apart named (subst (AreAmong T key) some.2 of_ps) (ap (last_tag key (name_of key)) (sym none) ∙ sym same ∙ ap (last_tag key (name_of key)) some.2))
    by (inr some) (inr other) more =
        let one = subst (AreAmong T key) some.2 of_ps in
        let two = subst (AreAmong T key) other.2 of_qs in
        let ends = same_last T key some.0 other.0 some.1 other.1 apart one two (ap (last_tag key (name_of key)) (sym some.2) ∙ same ∙ ap (last_tag key (name_of key)) other.2) in
        let shorter : length some.0 ≤ n = omega (arith, ap length some.2, length-append {A = List ℕ} some.0 (some.1 ∷ [])) in
        let fronts = more some.0 other.0 shorter apart named (of_front T key (name_of key) some.0 (some.1 ∷ []) one) (of_front T key (name_of key) other.0 (other.1 ∷ []) two) ends.0 in
        some.2 ∙ ap (λ f. f ++ some.1 ∷ []) fronts ∙ ap (λ l. other.0 ++ l ∷ []) ends.1 ∙ sym other.2

-- ---- one of the texts

-- of a text that was sealed
of_text : (key : List ℕ) (texts : List (List ℕ)) (text : List ℕ) → Contains texts text → AreAmong (tagged key texts) key (pieces_of text)
of_text key texts text is_one m it = in_all (λ t. tagged_in key (pieces_of t)) texts text m is_one (contains_later (codes "sealed") m (tagged_after key (name_of key) (pieces_of text)) it)

-- the last piece was in this text
begins_this : (key : List ℕ) (texts : List (List ℕ)) (front : List (List ℕ)) (last bytes text : List ℕ) → TagsTellApart key texts → Contains (tagged key texts) (codes "sealed") → AreAmong (tagged key texts) key (front ++ last ∷ []) → bytes ≡ joined (front ++ last ∷ [])
    → Contains texts text → Contains (tagged_after key (name_of key) (pieces_of text)) (last_tag key (name_of key) front ++ last) → BeginsOneOf texts bytes
begins_this key texts front last bytes text apart named among is is_one made =
    let from = made_from key (name_of key) (last_tag key (name_of key) front ++ last) (pieces_of text) made in
    let ends = same_fronts (last_tag key (name_of key) front) (last_tag key (name_of key) from.0) last from.1 (last_long key (name_of key) front (name_long key) ∙ sym (last_long key (name_of key) from.0 (name_long key))) from.4 in
    let there = subst (AreAmong (tagged key texts) key) from.3 (of_text key texts text is_one) in
    let chain = same_chain (length front) (tagged key texts) key front from.0 (omega arith) apart named (of_front (tagged key texts) key (name_of key) front (last ∷ []) among) (of_front (tagged key texts) key (name_of key) from.0 (from.1 ∷ from.2) there) ends.0 in
    let pieces : (front ++ last ∷ []) ++ from.2 ≡ pieces_of text = append_assoc front (last ∷ []) from.2 ∙ ap (λ f. f ++ last ∷ from.2) chain ∙ ap (λ l. from.0 ++ l ∷ from.2) ends.1 ∙ sym from.3 in
    record {
      whole = text;
      is_one = is_one;
      cut = joined from.2;
      is_front = ap (λ t. t ++ joined from.2) is ∙ sym (joined_append (front ++ last ∷ []) from.2) ∙ ap joined pieces ∙ joined_pieces text;
    }

begins_one : (key : List ℕ) (texts : List (List ℕ)) (front : List (List ℕ)) (last bytes : List ℕ) → TagsTellApart key texts → Contains (tagged key texts) (codes "sealed") → AreAmong (tagged key texts) key (front ++ last ∷ []) → bytes ≡ joined (front ++ last ∷ [])
    → BeginsOneOf texts bytes
begins_one key texts front last bytes apart named among is =
    let found = in_one (λ t. tagged_in key (pieces_of t)) texts (last_tag key (name_of key) front ++ last) (of_last (tagged key texts) key (name_of key) front last among) in
    by found.0 found.1 (first_or_later (codes "sealed") (last_tag key (name_of key) front ++ last) (tagged_after key (name_of key) (pieces_of found.0)) found.2)
  where
    by : (text : List ℕ) → Contains texts text → (codes "sealed" ≡ last_tag key (name_of key) front ++ last) ⊎ Contains (tagged_after key (name_of key) (pieces_of text)) (last_tag key (name_of key) front ++ last) → BeginsOneOf texts bytes
    by text is_one (inl name) = absurd (not_the_name key front last name)
    by text is_one (inr later) = begins_this key texts front last bytes text apart named among is is_one later

pub were_sealed : (key : List ℕ) (texts : List (List ℕ)) (input opened : List ℕ) → NoneIsForged key texts input → TagsTellApart key texts → IsOpenedWith key input opened → BeginsOneOf texts opened
were_sealed key texts input opened unforged apart it =
    let all = unforged it.pieces it.are.rest it.are.each (it.is_text ∙ ap (λ b. first_line key ++ b) it.are.is_text) in
    let named = All-head (Contains (tagged key texts)) (codes "sealed") (tagged_after key (name_of key) it.pieces) all in
    let rest = All-tail (Contains (tagged key texts)) (codes "sealed") (tagged_after key (name_of key) it.pieces) all in
    by named (λ (m : List ℕ) (is : Contains (tagged_after key (name_of key) it.pieces) m). All-contains (Contains (tagged key texts)) (tagged_after key (name_of key) it.pieces) m rest is) (last_of it.pieces)
  where
    by : Contains (tagged key texts) (codes "sealed") → AreAmong (tagged key texts) key it.pieces → (it.pieces ≡ []) ⊎ ((front : List (List ℕ)) × (last : List ℕ) × (it.pieces ≡ front ++ last ∷ [])) → BeginsOneOf texts opened
    by named among (inl none) =
        let found = in_one (λ t. tagged_in key (pieces_of t)) texts (codes "sealed") named in
        record { whole = found.0; is_one = found.1; cut = found.0; is_front = ap (λ b. b ++ found.0) (it.bytes_are ∙ ap joined none) }
    by named among (inr some) = begins_one key texts some.0 some.1 opened apart named (subst (AreAmong (tagged key texts) key) some.2 among) (it.bytes_are ∙ ap joined some.2)

pub any_were_sealed : (keys : List (List ℕ)) (texts : List ℕ → List (List ℕ)) (input opened : List ℕ) → All (λ key. NoneIsForged key (texts key) input) keys → All (λ key. TagsTellApart key (texts key)) keys → IsOpened keys input opened
    → (key : List ℕ) × Contains keys key × BeginsOneOf (texts key) opened
any_were_sealed keys texts input opened unforged apart it =
    let is_key = subst (λ ks. Contains ks it.key) (sym it.keys_are) (Contains-append_right it.earlier (it.key ∷ it.later) it.key (contains_first it.key it.later)) in
    (it.key, is_key, were_sealed it.key (texts it.key) input opened (All-contains (λ key. NoneIsForged key (texts key) input) keys it.key unforged is_key) (All-contains (λ key. TagsTellApart key (texts key)) keys it.key apart is_key) it.opened)

-- ---- whoever has the key forges nothing

pub cut_is_unforged : (key text cut missing : List ℕ) (texts : List (List ℕ)) → Contains texts text → cut ++ missing ≡ sealed key text → NoneIsForged key texts cut
cut_is_unforged key text cut missing texts is_one is pieces rest each e =
    let whole : first_line key ++ (pieces_text key (name_of key) pieces ++ (rest ++ missing)) ≡ sealed key text =
    ap (λ t. first_line key ++ t) (sym (append_assoc (pieces_text key (name_of key) pieces) rest missing)) ∙ sym (append_assoc (first_line key) (pieces_text key (name_of key) pieces ++ rest) missing) ∙ ap (λ t. t ++ missing) (sym e) ∙ is in
    let behind = append_cancel_left (first_line key) (pieces_text key (name_of key) pieces ++ (rest ++ missing)) (pieces_text key (name_of key) (pieces_of text)) whole in
    let more = are_first key (name_of key) (rest ++ missing) pieces (pieces_of text) each (are_pieces text) behind in
    let among = of_front (tagged key texts) key (name_of key) pieces more.0 (subst (AreAmong (tagged key texts) key) (sym more.1) (of_text key texts text is_one)) in
    All-cons (Contains (tagged key texts)) (codes "sealed") (tagged_after key (name_of key) pieces)
    (in_all (λ t. tagged_in key (pieces_of t)) texts text (codes "sealed") is_one (contains_first (codes "sealed") (tagged_after key (name_of key) (pieces_of text))))
    (All-weaker (Contains (tagged_after key (name_of key) pieces)) (Contains (tagged key texts)) among (tagged_after key (name_of key) pieces) (All-contains_itself (tagged_after key (name_of key) pieces)))
