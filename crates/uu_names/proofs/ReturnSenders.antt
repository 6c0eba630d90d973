-- What a line says, read from its ends: a sender is in a line in one way.
use Rattle.std.proofs.Common.{◌≡◌, ℕ, suc, ◌+◌, ◌-◌, ◌<◌, ◌≤◌, Bool, true, false, eqb, ltb, List, [], ◌∷◌, ◌++◌, length, take, drop, get_or, Some, position, refl, ap, sym, ◌∙◌, inl, inr, IsTrue, codes, arith, append_assoc, length-append, nat_eq}
use Rattle.std.specs.Cmp.Lexicographic.{pointwise, bytes_decides}
use Rattle.std.specs.List.{list_all, position_or_len, suffix_len}
use Rattle.std.proofs.lemmas.Bool.Decides.{nat_tests}
use Rattle.std.proofs.lemmas.List.{take_at, drop_at, take-append-drop, get_or-append-add, get_or_at, drop_more}
use Rattle.std.proofs.lemmas.List.Sums.{suffix_len_is, passes_at_first, AllPass-from_list_all}
use borrow.Author.Tests.{lt-ltb}
use Rattle.uu_names.proofs.ReturnLines.{found_at}
use Rattle.uu_names.specs.Name.{is_site_byte, has_form, is_site_name}
use Rattle.uu_names.specs.ReturnPath.{is_no_space, Sender, IsSpaced, IsLeadingLine}
use Rattle.uu_names.proofs.PathScan.{form_bytes, form_from}
use Rattle.uu_names.proofs.Basics.{and_first, and_second, list_all_weaker, front_passes}

-- a text that begins with another
pub begins_with : (xs p : List ℕ) → pointwise nat_eq (take (length p) xs) p ≡ true → xs ≡ p ++ drop (length p) xs
begins_with xs p e = sym (take-append-drop (length p) xs) ∙ ap (λ t. t ++ drop (length p) xs) ((bytes_decides (take (length p) xs) p).0 e)

pub begins_back : (xs p rest : List ℕ) → xs ≡ p ++ rest → pointwise nat_eq (take (length p) xs) p ≡ true
begins_back xs p rest e = (bytes_decides (take (length p) xs) p).1 (ap (take (length p)) e ∙ take_at p rest (length p) refl)

-- the first space
abbrev pub is_space : ℕ → Bool
is_space b = eqb b 32

pub space_after : (user rest : List ℕ) → list_all is_no_space user ≡ true → position_or_len is_space (user ++ (32 ∷ rest)) ≡ length user
space_after [] rest e = refl
space_after (b ∷ user) rest e =
    rw (and_first (is_no_space b) (list_all is_no_space user) e, space_after user rest (and_second (is_no_space b) (list_all is_no_space user) e)) (omega arith)

-- the bytes after the last space
pub word_after : (front word : List ℕ) → list_all is_no_space word ≡ true → suffix_len is_no_space (front ++ (32 ∷ word)) ≡ length word
word_after front word e =
    let total = length-append front (32 ∷ word) in
    suffix_len_is is_no_space (front ++ (32 ∷ word)) (length front + 1) 0 (omega (arith, total)) inside (λ _. outside) ∙ omega (arith, total)
  where
    all : (k : ℕ) → k < length word → is_no_space (get_or word k 0) ≡ true
    all k h = AllPass-from_list_all is_no_space word e k 0 h

    inside : (k : ℕ) → length front + 1 ≤ k → k < length (front ++ (32 ∷ word)) → is_no_space (get_or (front ++ (32 ∷ word)) k 0) ≡ true
    inside k low high =
        let h : k - length front - 1 < length word = omega (arith, length-append front (32 ∷ word)) in
        let split : k ≡ length front + suc (k - length front - 1) = omega arith in
        let at : get_or (front ++ (32 ∷ word)) k 0 ≡ get_or word (k - length front - 1) 0 = ap (λ n. get_or (front ++ (32 ∷ word)) n 0) split ∙ get_or-append-add front (32 ∷ word) (suc (k - length front - 1)) 0 in
        ap is_no_space at ∙ all (k - length front - 1) h

    outside : is_no_space (get_or (front ++ (32 ∷ word)) (length front + 1 - 1) 0) ≡ false
    outside =
        let n : length front ≡ length front + 1 - 1 = omega arith in
        ap is_no_space (get_or_at front 32 word 0 (length front + 1 - 1) n)

-- a site name has no space
pub site_has_no_space : (site : List ℕ) → IsTrue (is_site_name site) → list_all is_no_space site ≡ true
site_has_no_space site e = list_all_weaker is_site_byte is_no_space site no_space (form_bytes is_site_byte site (and_first (has_form is_site_byte site) _ e))
  where
    no_space : (b : ℕ) → is_site_byte b ≡ true → is_no_space b ≡ true
    no_space b h = grind (arith, nat_tests)

-- ---- what comes after the user

abbrev pub remote : List ℕ
remote = codes " remote from "

spaced_from : (between rest more : List ℕ) → between ++ rest ≡ 32 ∷ more → IsSpaced between
spaced_from [] rest more e = inl refl
spaced_from (b ∷ between) rest more e = let h : b ≡ 32 = cc in inr (between, λ i. h i ∷ between)

-- ---- what the code reads is a leading line

pub leading_from : (marker line rest user back front site : List ℕ) (n k : ℕ) → pointwise nat_eq (take (length marker) line) marker ≡ true → rest ≡ drop (length marker) line → Some n ≡ position is_space rest → user ≡ take n rest → back ≡ drop n rest → front ≡ take k back → site ≡ drop k back → 0 < length user → pointwise nat_eq remote (drop (length front - 13) front) ≡ true → is_site_name site ≡ true → IsLeadingLine marker line (record { user = user; site = site })
leading_from marker line rest user back front site n k starts er es eu eb ef et some ends named = record {
  between = between;
  text = begins_with line marker starts ∙ ap (λ t. marker ++ t) (sym er ∙ halves ∙ ap (λ t. user ++ t) (parts ∙ ap (λ t. t ++ site) tail ∙ append_assoc between remote site));
  user = form_from is_no_space user some all;
  spaced = spaced_from between (remote ++ site) (drop (n + 1) rest) (sym (append_assoc between remote site) ∙ ap (λ t. t ++ site) (sym tail) ∙ sym parts ∙ opens);
  site = named;
}
  where
    at : (position_or_len is_space rest ≡ n) × (n < length rest)
    at = found_at is_space rest n es

    between : List ℕ
    between = take (length front - 13) front

    halves : rest ≡ user ++ back
    halves = sym (take-append-drop n rest) ∙ (λ i. sym eu i ++ sym eb i)

    parts : back ≡ front ++ site
    parts = sym (take-append-drop k back) ∙ (λ i. sym ef i ++ sym et i)

    tail : front ≡ between ++ remote
    tail = sym (take-append-drop (length front - 13) front) ∙ ap (λ t. between ++ t) (sym ((bytes_decides remote (drop (length front - 13) front)).0 ends))

    all : list_all is_no_space user ≡ true
    all = ap (list_all is_no_space) (eu ∙ ap (λ m. take m rest) (sym at.0)) ∙ front_passes is_no_space rest

    space : get_or rest n 0 ≡ 32
    space = is_space_is (get_or rest n 0) (ap (λ m. is_space (get_or rest m 0)) (sym at.0) ∙ passes_at_first is_space rest 0 (omega (arith, at.0, at.1)))
      where
        is_space_is : (b : ℕ) → is_space b ≡ true → b ≡ 32
        is_space_is b h = grind (arith, nat_tests)

    opens : back ≡ 32 ∷ drop (n + 1) rest
    opens = eb ∙ drop_more rest n 0 at.1 ∙ ap (λ b. b ∷ drop (n + 1) rest) space

-- ---- a leading line is read as what it says

pub record IsRead (marker line : List ℕ) (sender : Sender) : Type 0 where
  pub front : List ℕ
  pub starts : pointwise nat_eq (take (length marker) line) marker ≡ true
  pub rest : drop (length marker) line ≡ sender.user ++ (front ++ sender.site)
  pub space : position is_space (sender.user ++ (front ++ sender.site)) ≡ Some (length sender.user)
  pub word : suffix_len is_no_space (front ++ sender.site) ≡ length sender.site
  pub ends : pointwise nat_eq remote (drop (length front - 13) front) ≡ true

pub is_read : (marker line : List ℕ) (sender : Sender) → IsLeadingLine marker line sender → IsRead marker line sender
is_read marker line sender l = record {
  front = front;
  starts = begins_back line marker (sender.user ++ (front ++ sender.site)) text;
  rest = ap (drop (length marker)) text ∙ drop_at marker (sender.user ++ (front ++ sender.site)) (length marker) refl;
  space = found;
  word = ap (suffix_len is_no_space) last ∙ word_after (l.between ++ codes " remote from") sender.site (site_has_no_space sender.site l.site);
  ends = (bytes_decides remote (drop (length front - 13) front)).1 (sym (ap (λ m. drop m front) cut ∙ drop_at l.between remote (length l.between) refl));
}
  where
    front : List ℕ
    front = l.between ++ remote

    text : line ≡ marker ++ (sender.user ++ (front ++ sender.site))
    text = l.text ∙ ap (λ t. marker ++ (sender.user ++ t)) (sym (append_assoc l.between remote sender.site))

    last : front ++ sender.site ≡ (l.between ++ codes " remote from") ++ (32 ∷ sender.site)
    last = append_assoc l.between remote sender.site ∙ sym (append_assoc l.between (codes " remote from") (32 ∷ sender.site))

    cut : length front - 13 ≡ length l.between
    cut = omega (arith, length-append l.between remote)

    opened : (between : List ℕ) → IsSpaced between → (more : List ℕ) × ((between ++ remote) ++ sender.site ≡ 32 ∷ more)
    opened between (inl e) = (drop 1 (remote ++ sender.site), ap (λ t. (t ++ remote) ++ sender.site) e)
    opened between (inr m) = ((m.0 ++ remote) ++ sender.site, ap (λ t. (t ++ remote) ++ sender.site) m.1)

    after : position_or_len is_space (sender.user ++ (front ++ sender.site)) ≡ length sender.user
    after = let o = opened l.between l.spaced in
        ap (λ t. position_or_len is_space (sender.user ++ t)) o.1 ∙ space_after sender.user o.0 (form_bytes is_no_space sender.user l.user)

    found : position is_space (sender.user ++ (front ++ sender.site)) ≡ Some (length sender.user)
    found =
        let within : ltb (position_or_len is_space (sender.user ++ (front ++ sender.site))) (length (sender.user ++ (front ++ sender.site))) ≡ true =
        lt-ltb _ _ (omega (arith, after, length-append sender.user (front ++ sender.site), length-append front sender.site, length-append l.between remote)) in
        rw (within, after)

-- what the code reads of a leading line is what the line says
pub record ReadsAs (user front site : List ℕ) (sender : Sender) (front' : List ℕ) : Type 0 where
  pub same_user : user ≡ sender.user
  pub same_front : front ≡ front'
  pub same_site : site ≡ sender.site

pub reads_as : (marker line rest user back front site : List ℕ) (n k : ℕ) (sender : Sender) (r : IsRead marker line sender) → rest ≡ drop (length marker) line → Some n ≡ position is_space rest → user ≡ take n rest → back ≡ drop n rest → k + suffix_len is_no_space back ≡ length back → front ≡ take k back → site ≡ drop k back → ReadsAs user front site sender r.front
reads_as marker line rest user back front site n k sender r er es eu eb ek ef et = record {
  same_user = eu ∙ (λ i. take (at i) (whole i)) ∙ take_at sender.user (r.front ++ sender.site) (length sender.user) refl;
  same_front = ef ∙ (λ i. take (cut i) (after i)) ∙ take_at r.front sender.site (length r.front) refl;
  same_site = et ∙ (λ i. drop (cut i) (after i)) ∙ drop_at r.front sender.site (length r.front) refl;
}
  where
    whole : rest ≡ sender.user ++ (r.front ++ sender.site)
    whole = er ∙ r.rest

    at : n ≡ length sender.user
    at = let e : Some n ≡ Some (length sender.user) = es ∙ ap (position is_space) whole ∙ r.space in cc

    after : back ≡ r.front ++ sender.site
    after = eb ∙ (λ i. drop (at i) (whole i)) ∙ drop_at sender.user (r.front ++ sender.site) (length sender.user) refl

    cut : k ≡ length r.front
    cut = omega (arith, ap (suffix_len is_no_space) after, r.word, ap length after, length-append r.front sender.site)
