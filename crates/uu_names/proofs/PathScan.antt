-- What a scan over a path's bytes knows, and why it may go on or has to stop.
use Rattle.std.proofs.Common.{◌≡◌, ◌≢◌, ℕ, zero, suc, ◌+◌, ◌<◌, ◌≤◌, Bool, true, false, not, ltb, leb, ◌&&◌, ◌||◌, List, [], ◌∷◌, ◌++◌, length, take, drop, Option, Some, None, refl, ap, sym, ◌∙◌, inl, inr, ◌⊎◌, subst, IsTrue, arith, append_assoc, append-nil, length-append, get_or}
use Rattle.std.proofs.lemmas.List.{take_all, take_more, drop_more, take-append-drop, length-take-le}
use Rattle.std.specs.Option.{option_or}
use Rattle.std.specs.List.{list_all, list_any, join_with_byte, position_or_len}
use Rattle.std.proofs.lemmas.Bool.Decides.{nat_tests}
use Rattle.std.proofs.lemmas.List.Folds.{list_all-append}
use Rattle.std.proofs.Math.Bool.{and-true}
use Rattle.uu_names.specs.Name.{is_site_byte, is_word_byte, has_form, is_site_name, is_word}
use Rattle.uu_names.specs.Path.{BangPath, is_bang, path_text, is_local_byte, has_path_form, is_within_limits, IsPathText, BeginsPath, IsBadPathAt, IsLongPath, IsPathFault}
use Rattle.uu_names.specs.Fault.{UnlessMemory}
use Rattle.uu_names.specs.declared.fault.NameFault.{NameFault}
use Rattle.uu_names.specs.declared.fault.NameFault.TheVariants.{BadGrade, BadName, BadPath, BadWord, NoEnvelope, TooLong, Memory}
use Rattle.uu_names.proofs.Basics.{and_first, and_second, list_all_weaker, any_push}

-- ---- the text of some sites and a part, from the front and from the end

abbrev pub whole : List (List ℕ) → List ℕ → List ℕ
whole sites part = join_with_byte 33 (sites ++ part ∷ [])

pub whole-cons : (site : List ℕ) (sites : List (List ℕ)) (part : List ℕ) → whole (site ∷ sites) part ≡ site ++ (33 ∷ whole sites part)
whole-cons site [] part = refl
whole-cons site (next ∷ sites) part = refl

pub whole_push_byte : (sites : List (List ℕ)) (part : List ℕ) (b : ℕ) → whole sites (part ++ b ∷ []) ≡ whole sites part ++ b ∷ []
whole_push_byte [] part b = refl
whole_push_byte (site ∷ sites) part b =
    whole-cons site sites (part ++ b ∷ []) ∙ ap (λ t. site ++ (33 ∷ t)) (whole_push_byte sites part b)
    ∙ sym (append_assoc site (33 ∷ whole sites part) (b ∷ [])) ∙ ap (λ t. t ++ b ∷ []) (sym (whole-cons site sites part))

pub whole_push_part : (sites : List (List ℕ)) (part : List ℕ) → whole (sites ++ part ∷ []) [] ≡ whole sites part ++ 33 ∷ []
whole_push_part [] part = refl
whole_push_part (site ∷ sites) part =
    whole-cons site (sites ++ part ∷ []) [] ∙ ap (λ t. site ++ (33 ∷ t)) (whole_push_part sites part)
    ∙ sym (append_assoc site (33 ∷ whole sites part) (33 ∷ [])) ∙ ap (λ t. t ++ 33 ∷ []) (sym (whole-cons site sites part))

-- ---- cutting at the first `!`

abbrev pub has_no_bang : List ℕ → Bool
has_no_bang = list_all (λ b. not (is_bang b))

-- if neither prefix has a `!`, the prefixes up to the first `!` are the same
pub same_front : (x y xs ys : List ℕ) → has_no_bang x ≡ true → has_no_bang y ≡ true → x ++ (33 ∷ xs) ≡ y ++ (33 ∷ ys) → (x ≡ y) × (xs ≡ ys)
same_front [] [] xs ys p q e = (refl, cc)
same_front [] (b ∷ y) xs ys p q e =
    let h : 33 ≡ b = cc in let t = and_first _ (has_no_bang y) q in let r = rw (← h) at t in cc
same_front (a ∷ x) [] xs ys p q e =
    let h : 33 ≡ a = cc in let t = and_first _ (has_no_bang x) p in let r = rw (← h) at t in cc
same_front (a ∷ x) (b ∷ y) xs ys p q e =
    let h : a ≡ b = cc in
    let t : x ++ (33 ∷ xs) ≡ y ++ (33 ∷ ys) = cc in
    let r = same_front x y xs ys (and_second _ _ p) (and_second _ _ q) t in
    (λ i. h i ∷ r.0 i, r.1)

-- a list without `!` has none in its midst
pub no_bang_within : (x y xs : List ℕ) → has_no_bang x ≡ true → x ≡ y ++ (33 ∷ xs) → ⊥
no_bang_within [] [] xs p e = cc
no_bang_within [] (b ∷ y) xs p e = cc
no_bang_within (a ∷ x) [] xs p e =
    let h : a ≡ 33 = cc in let t = and_first _ (has_no_bang x) p in let r = rw h at t in cc
no_bang_within (a ∷ x) (b ∷ y) xs p e = no_bang_within x y xs (and_second _ _ p) cc

-- a byte other than `!` that comes before the first `!` is one of the front
pub byte_of_front : (p : ℕ → Bool) (x y xs ys : List ℕ) (b : ℕ) → has_no_bang y ≡ true → is_bang b ≡ false → list_all p x ≡ true → x ++ (33 ∷ xs) ≡ y ++ (b ∷ ys) → p b ≡ true
byte_of_front p [] [] xs ys b n f q e = let h : 33 ≡ b = cc in let r = rw (← h) at f in cc
byte_of_front p [] (c ∷ y) xs ys b n f q e =
    let h : 33 ≡ c = cc in let t = and_first _ (has_no_bang y) n in let r = rw (← h) at t in cc
byte_of_front p (a ∷ x) [] xs ys b n f q e =
    let h : a ≡ b = cc in let t = and_first _ (list_all p x) q in rw h at t
byte_of_front p (a ∷ x) (c ∷ y) xs ys b n f q e =
    byte_of_front p x y xs ys b (and_second _ _ n) f (and_second _ _ q) cc

-- a byte of a list
pub byte_within : (p : ℕ → Bool) (x y xs : List ℕ) (b : ℕ) → list_all p x ≡ true → x ≡ y ++ (b ∷ xs) → p b ≡ true
byte_within p [] [] xs b q e = cc
byte_within p [] (c ∷ y) xs b q e = cc
byte_within p (a ∷ x) [] xs b q e = let h : a ≡ b = cc in let t = and_first _ (list_all p x) q in rw h at t
byte_within p (a ∷ x) (c ∷ y) xs b q e = byte_within p x y xs b (and_second _ _ q) cc

-- ---- what the classes of bytes have to do with each other

-- a byte of a site name is one of a local part, and neither is `!`
pub local_from_site : (b : ℕ) → is_site_byte b ≡ true → is_local_byte b ≡ true
local_from_site b h = grind (arith, nat_tests)

pub no_bang_from_local : (b : ℕ) → is_local_byte b ≡ true → not (is_bang b) ≡ true
no_bang_from_local b h = and_second (is_word_byte b) _ h

pub local_has_no_bang : (xs : List ℕ) → list_all is_local_byte xs ≡ true → has_no_bang xs ≡ true
local_has_no_bang xs e = list_all_weaker is_local_byte (λ b. not (is_bang b)) xs no_bang_from_local e

pub site_has_no_bang : (xs : List ℕ) → list_all is_site_byte xs ≡ true → has_no_bang xs ≡ true
site_has_no_bang xs e = local_has_no_bang xs (list_all_weaker is_site_byte is_local_byte xs local_from_site e)

-- the bytes of a text of some form, and that it has one
pub form_bytes : (p : ℕ → Bool) (xs : List ℕ) → has_form p xs ≡ true → list_all p xs ≡ true
form_bytes p xs e = and_second (leb 1 (length xs)) _ e

pub form_some : (p : ℕ → Bool) (xs : List ℕ) → has_form p xs ≡ true → 0 < length xs
form_some p xs e = let t = and_first (leb 1 (length xs)) _ e in grind (arith, nat_tests)

pub form_from : (p : ℕ → Bool) (xs : List ℕ) → 0 < length xs → list_all p xs ≡ true → has_form p xs ≡ true
form_from p xs l e = let t : leb 1 (length xs) ≡ true = grind (arith, nat_tests) in rw (t, e)

-- ---- a text that is some sites and a part, against a path's text

abbrev all_sites : List (List ℕ) → Bool
all_sites = list_all (has_form is_site_byte)

-- If a path's text goes on after some sites and a part, the path has these sites first.
pub record GoesOn (sites others : List (List ℕ)) (part last rest : List ℕ) : Type 0 where
  pub more : List (List ℕ)
  pub sites_are : others ≡ sites ++ more
  pub text : whole more last ≡ part ++ rest

pub goes_on : (sites others : List (List ℕ)) (part last rest : List ℕ) → all_sites sites ≡ true → all_sites others ≡ true → list_all is_local_byte last ≡ true → whole others last ≡ whole sites part ++ rest → GoesOn sites others part last rest
goes_on [] others part last rest p q r e = record { more = others; sites_are = refl; text = e }
goes_on (site ∷ sites) [] part last rest p q r e =
    let f : last ≡ site ++ (33 ∷ (whole sites part ++ rest)) = e ∙ ap (λ t. t ++ rest) (whole-cons site sites part) ∙ append_assoc site (33 ∷ whole sites part) rest in
    absurd (no_bang_within last site _ (local_has_no_bang last r) f)
goes_on (site ∷ sites) (other ∷ others) part last rest p q r e =
    let f : other ++ (33 ∷ whole others last) ≡ site ++ (33 ∷ (whole sites part ++ rest)) = sym (whole-cons other others last) ∙ e ∙ ap (λ t. t ++ rest) (whole-cons site sites part) ∙ append_assoc site (33 ∷ whole sites part) rest in
    let s = form_bytes is_site_byte other (and_first _ (all_sites others) q) in
    let t = form_bytes is_site_byte site (and_first _ (all_sites sites) p) in
    let same = same_front other site _ _ (site_has_no_bang other s) (site_has_no_bang site t) f in
    let next = goes_on sites others part last rest (and_second _ _ p) (and_second _ _ q) r same.1 in
    record { more = next.more; sites_are = λ i. same.0 i ∷ next.sites_are i; text = next.text }

-- ---- the scan

-- the bytes that the part after the last `!` may have: before the first `!` those of a site name
-- alone
abbrev pub part_byte : List (List ℕ) → ℕ → Bool
part_byte [] = is_site_byte
part_byte (site ∷ sites) = is_local_byte

-- the place of the first `!`
abbrev pub first_len : List (List ℕ) → Option ℕ
first_len [] = None
first_len (site ∷ sites) = Some (length site)

abbrev pub is_long_site : List ℕ → Bool
is_long_site site = ltb 63 (length site)

-- the bytes so far are some sites and a part, and the scan's variables say how they are
pub record IsScanned (seen : List ℕ) (first_bang : Option ℕ) (part_len : ℕ) (part_is_site long_site : Bool) : Type 0 where
  pub sites : List (List ℕ)
  pub part : List ℕ
  pub text : seen ≡ whole sites part
  pub named : all_sites sites ≡ true
  pub bytes : list_all (part_byte sites) part ≡ true
  pub first : first_bang ≡ first_len sites
  pub len : part_len ≡ length part
  pub is_site : part_is_site ≡ list_all is_site_byte part
  pub long : long_site ≡ list_any is_long_site sites

all_sites_push : (sites : List (List ℕ)) (part : List ℕ) → all_sites sites ≡ true → has_form is_site_byte part ≡ true → all_sites (sites ++ part ∷ []) ≡ true
all_sites_push [] part p q = rw q
all_sites_push (site ∷ sites) part p q =
    rw (and_first (has_form is_site_byte site) (all_sites sites) p, all_sites_push sites part (and_second (has_form is_site_byte site) (all_sites sites) p) q)

-- the place of the first `!`, if there is one more at this place
abbrev pub or_at : Option ℕ → ℕ → Option ℕ
or_at first at = option_or first (Some at)

first_len_push : (sites : List (List ℕ)) (part : List ℕ) (at : ℕ) → at ≡ length (whole sites part) → first_len (sites ++ part ∷ []) ≡ or_at (first_len sites) at
first_len_push [] part at e = ap Some (sym e)
first_len_push (site ∷ sites) part at e = refl

-- a `!` after a part of the form of a site name
pub scan_bang : {seen : List ℕ} {first : Option ℕ} {n : ℕ} {s l : Bool} → IsScanned seen first n s l → 0 < n → s ≡ true → IsScanned (seen ++ 33 ∷ []) (or_at first (length seen)) 0 true (l || ltb 63 n)
scan_bang {seen} {first} {n} {s} {l} k some site =
    let form : has_form is_site_byte k.part ≡ true = form_from is_site_byte k.part (omega (arith, k.len)) (sym k.is_site ∙ site) in
    record {
      sites = k.sites ++ k.part ∷ [];
      part = [];
      text = ap (λ t. t ++ 33 ∷ []) k.text ∙ sym (whole_push_part k.sites k.part);
      named = all_sites_push k.sites k.part k.named form;
      bytes = nothing (k.sites ++ k.part ∷ []);
      first = ap (λ f. or_at f (length seen)) k.first ∙ sym (first_len_push k.sites k.part (length seen) (ap length k.text));
      len = refl;
      is_site = refl;
      long = (λ i. k.long i || ltb 63 (k.len i)) ∙ sym (any_push is_long_site k.sites k.part);
    }
  where
    nothing : (sites : List (List ℕ)) → list_all (part_byte sites) [] ≡ true
    nothing [] = refl
    nothing (site ∷ sites) = refl

-- a byte that the part may have
pub scan_byte : {seen : List ℕ} {first : Option ℕ} {n : ℕ} {s l : Bool} (b : ℕ) (site : Bool) (k : IsScanned seen first n s l) → site ≡ is_site_byte b → part_byte k.sites b ≡ true → IsScanned (seen ++ b ∷ []) first (n + 1) (s && site) l
scan_byte {seen} {first} {n} {s} {l} b site k is ok = record {
  sites = k.sites;
  part = k.part ++ b ∷ [];
  text = ap (λ t. t ++ b ∷ []) k.text ∙ sym (whole_push_byte k.sites k.part b);
  named = k.named;
  bytes = list_all-append (part_byte k.sites) k.part (b ∷ []) ∙ rw (k.bytes, ok);
  first = k.first;
  len = omega (arith, k.len, length-append k.part (b ∷ []));
  is_site = (λ i. k.is_site i && is i) ∙ ap (λ t. list_all is_site_byte k.part && t) (sym (and-true (is_site_byte b))) ∙ sym (list_all-append is_site_byte k.part (b ∷ []));
  long = k.long;
}

-- ---- what has been scanned begins a path

has_sites : (sites : List (List ℕ)) (part : List ℕ) → 0 < length sites → all_sites sites ≡ true → has_form is_local_byte part ≡ true → IsTrue (has_path_form (record { sites = sites; local_part = part }))
has_sites sites part some named form =
    let t : leb 1 (length sites) ≡ true = grind (arith, nat_tests) in rw (t, named, form)

begins_from : (sites : List (List ℕ)) (part : List ℕ) → all_sites sites ≡ true → list_all (part_byte sites) part ≡ true → BeginsPath (whole sites part)
begins_from [] [] named bytes = record { path = record { sites = (97 ∷ []) ∷ []; local_part = 97 ∷ [] }; rest = 97 ∷ 33 ∷ 97 ∷ []; is_text = refl; form = refl }
begins_from [] (b ∷ part) named bytes =
    let form : has_form is_site_byte (b ∷ part) ≡ true = form_from is_site_byte (b ∷ part) (omega arith) bytes in
    record {
      path = record { sites = (b ∷ part) ∷ []; local_part = 97 ∷ [] };
      rest = 33 ∷ 97 ∷ [];
      is_text = refl;
      form = has_sites ((b ∷ part) ∷ []) (97 ∷ []) (omega arith) (rw form) refl;
    }
begins_from (site ∷ sites) [] named bytes = record {
  path = record { sites = site ∷ sites; local_part = 97 ∷ [] };
  rest = 97 ∷ [];
  is_text = whole_push_byte (site ∷ sites) [] 97;
  form = has_sites (site ∷ sites) (97 ∷ []) (omega arith) named refl;
}
begins_from (site ∷ sites) (b ∷ part) named bytes = record {
  path = record { sites = site ∷ sites; local_part = b ∷ part };
  rest = [];
  is_text = sym (append-nil (whole (site ∷ sites) (b ∷ part)));
  form = has_sites (site ∷ sites) (b ∷ part) (omega arith) named (form_from is_local_byte (b ∷ part) (omega arith) bytes);
}

pub scan_begins : {seen : List ℕ} {first : Option ℕ} {n : ℕ} {s l : Bool} → IsScanned seen first n s l → BeginsPath seen
scan_begins k = subst BeginsPath (sym k.text) (begins_from k.sites k.part k.named k.bytes)

-- ---- a whole path

-- how the scan's variables tell whether the limits hold
fits_from_long : (sites : List (List ℕ)) → list_all (λ site. leb (length site) 63) sites ≡ not (list_any is_long_site sites)
fits_from_long [] = refl
fits_from_long (site ∷ sites) = (λ i. single i && fits_from_long sites i) ∙ not-or (is_long_site site) _
  where
    single : leb (length site) 63 ≡ not (is_long_site site)
    single = grind (arith, nat_tests)

    not-or : (a b : Bool) → not a && not b ≡ not (a || b)
    not-or true b = refl
    not-or false b = refl

-- a path of this text, and whether it is within the limits
pub record IsWhole (text : List ℕ) (hop_len : ℕ) (long : Bool) : Type 0 where
  pub path : BangPath
  pub is_text : path_text path ≡ text
  pub form : IsTrue (has_path_form path)
  pub limits : is_within_limits path ≡ not long && leb (length text) 255
  pub hop : first_len path.sites ≡ Some hop_len

pub scan_whole : {text : List ℕ} {k n : ℕ} {s l : Bool} → IsScanned text (Some k) n s l → 0 < n → IsWhole text k l
scan_whole {text} {k} {n} {s} {l} z some = by_sites z.sites z.part z.text z.named z.bytes z.first z.long (omega (arith, z.len))
  where
    by_sites : (sites : List (List ℕ)) (part : List ℕ) → text ≡ whole sites part → all_sites sites ≡ true → list_all (part_byte sites) part ≡ true → Some k ≡ first_len sites → l ≡ list_any is_long_site sites → 0 < length part → IsWhole text k l
    by_sites [] part e named bytes f g some = cc
    by_sites (site ∷ sites) part e named bytes f g some = record {
      path = record { sites = site ∷ sites; local_part = part };
      is_text = sym e;
      form = has_sites (site ∷ sites) part (omega arith) named (form_from is_local_byte part some bytes);
      limits = (λ i. (fits_from_long (site ∷ sites) ∙ ap not (sym g)) i && leb (length (sym e i)) 255);
      hop = sym f;
    }

-- ---- where the scan stops, no path goes on

path_sites : (path : BangPath) → IsTrue (has_path_form path) → (0 < length path.sites) × (all_sites path.sites ≡ true) × (has_form is_local_byte path.local_part ≡ true)
path_sites path form =
    let a = and_first (leb 1 (length path.sites) && all_sites path.sites) _ form in
    let b = and_first (leb 1 (length path.sites)) _ a in
    (grind (arith, nat_tests), and_second (leb 1 (length path.sites)) _ a, and_second (leb 1 (length path.sites) && all_sites path.sites) _ form)

-- why a byte cannot follow
abbrev pub IsStuck : Option ℕ → ℕ → Bool → ℕ → Type 0
IsStuck first n s b = ((is_bang b ≡ true) × ((n ≡ 0) ⊎ (s ≡ false))) ⊎ ((is_bang b ≡ false) × (is_site_byte b ≡ false) × ((first ≡ None) ⊎ (is_word_byte b ≡ false)))

false-true : {A : Type 0} (b : Bool) → b ≡ true → b ≡ false → A
false-true b p q = cc

part_has_no_bang : (sites : List (List ℕ)) (part : List ℕ) → list_all (part_byte sites) part ≡ true → has_no_bang part ≡ true
part_has_no_bang [] part e = site_has_no_bang part e
part_has_no_bang (site ∷ sites) part e = local_has_no_bang part e

is_bang_is : (b : ℕ) → is_bang b ≡ true → b ≡ 33
is_bang_is b h = grind (arith, nat_tests)

-- the byte would belong to the local part
stuck_local : (sites : List (List ℕ)) (part last rest : List ℕ) (b : ℕ) → 0 < length (sites ++ []) → has_form is_local_byte last ≡ true → IsStuck (first_len sites) (length part) (list_all is_site_byte part) b → last ≡ part ++ (b ∷ rest) → ⊥
stuck_local sites part last rest b some form why e =
    elim why [
      | inl w ↦ false-true (not (is_bang b)) (no_bang_from_local b local) (ap not w.0)
      | inr w ↦ elim w.2 [
        | inl none ↦ no_sites sites some none
        | inr no_word ↦ false-true (is_word_byte b) (and_first (is_word_byte b) _ local) no_word
      ]
    ]
  where
    local : is_local_byte b ≡ true
    local = byte_within is_local_byte last part rest b (form_bytes is_local_byte last form) e

    no_sites : (sites : List (List ℕ)) → 0 < length (sites ++ []) → first_len sites ≡ None → ⊥
    no_sites [] some none = omega arith
    no_sites (site ∷ sites) some none = cc

-- the byte would belong to a site name, or would end one
stuck_site : (part site rest others : List ℕ) (first : Option ℕ) (b : ℕ) → has_form is_site_byte site ≡ true → has_no_bang part ≡ true → IsStuck first (length part) (list_all is_site_byte part) b → site ++ (33 ∷ others) ≡ part ++ (b ∷ rest) → ⊥
stuck_site part site rest others first b form no_bang why e =
    elim why [
      | inl w ↦ ended w.0 w.1
      | inr w ↦ false-true (is_site_byte b) (byte_of_front is_site_byte site part others rest b no_bang w.0 (form_bytes is_site_byte site form) e) w.1
    ]
  where
    ended : is_bang b ≡ true → (length part ≡ 0) ⊎ (list_all is_site_byte part ≡ false) → ⊥
    ended bang why =
        let f : site ++ (33 ∷ others) ≡ part ++ (33 ∷ rest) = e ∙ ap (λ c. part ++ (c ∷ rest)) (is_bang_is b bang) in
        let same = same_front site part others rest (site_has_no_bang site (form_bytes is_site_byte site form)) no_bang f in
        elim why [
          | inl empty ↦ omega (arith, form_some is_site_byte site form, ap length same.0)
          | inr no_site ↦ false-true (list_all is_site_byte part) (ap (list_all is_site_byte) (sym same.0) ∙ form_bytes is_site_byte site form) no_site
        ]

stuck_from : (sites more : List (List ℕ)) (part last rest : List ℕ) (b : ℕ) → 0 < length (sites ++ more) → all_sites more ≡ true → has_form is_local_byte last ≡ true → list_all (part_byte sites) part ≡ true → IsStuck (first_len sites) (length part) (list_all is_site_byte part) b → whole more last ≡ part ++ (b ∷ rest) → ⊥
stuck_from sites [] part last rest b some named form bytes why e = stuck_local sites part last rest b some form why e
stuck_from sites (site ∷ more) part last rest b some named form bytes why e =
    stuck_site part site rest _ (first_len sites) b (and_first _ (all_sites more) named) (part_has_no_bang sites part bytes) why (sym (whole-cons site more last) ∙ e)

all_sites_right : (xs ys : List (List ℕ)) → all_sites (xs ++ ys) ≡ true → all_sites ys ≡ true
all_sites_right [] ys e = e
all_sites_right (x ∷ xs) ys e = all_sites_right xs ys (and_second (has_form is_site_byte x) _ e)

-- how a path's text goes on after what has been scanned
record Onward (sites : List (List ℕ)) (part rest : List ℕ) : Type 0 where
  more : List (List ℕ)
  last : List ℕ
  some : 0 < length (sites ++ more)
  named : all_sites more ≡ true
  form : has_form is_local_byte last ≡ true
  text : whole more last ≡ part ++ rest

onward : {seen : List ℕ} {first : Option ℕ} {n : ℕ} {s l : Bool} → (k : IsScanned seen first n s l) → (path : BangPath) (rest : List ℕ) → IsTrue (has_path_form path) → path_text path ≡ seen ++ rest → Onward k.sites k.part rest
onward k path rest form e =
    let f = path_sites path form in
    let g = goes_on k.sites path.sites k.part path.local_part rest k.named f.1 (form_bytes is_local_byte path.local_part f.2) (e ∙ ap (λ t. t ++ rest) k.text) in
    record {
      more = g.more;
      last = path.local_part;
      some = subst (λ (xs : List (List ℕ)). 0 < length xs) g.sites_are f.0;
      named = all_sites_right k.sites g.more (ap all_sites (sym g.sites_are) ∙ f.1);
      form = f.2;
      text = g.text;
    }

pub stuck : {seen : List ℕ} {first : Option ℕ} {n : ℕ} {s l : Bool} → IsScanned seen first n s l → (b : ℕ) → IsStuck first n s b → (path : BangPath) (rest : List ℕ) → IsTrue (has_path_form path) → path_text path ≡ seen ++ (b ∷ rest) → ⊥
stuck {seen} {first} {n} {s} {l} k b why path rest form e =
    let o = onward k path (b ∷ rest) form e in
    let same : IsStuck (first_len k.sites) (length k.part) (list_all is_site_byte k.part) b = same_why in
    stuck_from k.sites o.more k.part o.last rest b o.some o.named o.form k.bytes same o.text
  where
    same_why : IsStuck (first_len k.sites) (length k.part) (list_all is_site_byte k.part) b
    same_why = subst (λ (f : Option ℕ). IsStuck f (length k.part) (list_all is_site_byte k.part) b) k.first
        (subst (λ (m : ℕ). IsStuck first m (list_all is_site_byte k.part) b) k.len
        (subst (λ (t : Bool). IsStuck first n t b) k.is_site why))

-- what has been scanned isn't itself a path if the last part is empty or no `!` was seen
no_end : (sites more : List (List ℕ)) (part last : List ℕ) → 0 < length (sites ++ more) → all_sites more ≡ true → has_form is_local_byte last ≡ true → list_all (part_byte sites) part ≡ true → (first_len sites ≡ None) ⊎ (length part ≡ 0) → whole more last ≡ part ++ [] → ⊥
no_end [] [] part last some named form bytes why e = omega arith
no_end (site ∷ sites) [] part last some named form bytes why e =
    elim why [ inl none ↦ some-none none | inr empty ↦ omega (arith, form_some is_local_byte last form, ap length e, length-append part []) ]
  where
    some-none : Some (length site) ≡ None → ⊥
    some-none q = cc
no_end sites (other ∷ more) part last some named form bytes why e =
    no_bang_within part other (whole more last) (part_has_no_bang sites part bytes) (sym (append-nil part) ∙ sym e ∙ whole-cons other more last)

pub unfinished : {seen : List ℕ} {first : Option ℕ} {n : ℕ} {s l : Bool} → IsScanned seen first n s l → (first ≡ None) ⊎ (n ≡ 0) → (path : BangPath) → IsTrue (has_path_form path) → path_text path ≡ seen → ⊥
unfinished {seen} {first} {n} {s} {l} k why path form e =
    let o = onward k path [] form (e ∙ sym (append-nil seen)) in
    no_end k.sites o.more k.part o.last o.some o.named o.form k.bytes (elim why [ inl none ↦ inl (sym k.first ∙ none) | inr empty ↦ inr (sym k.len ∙ empty) ]) o.text

-- ---- the faults

-- a longer front of the text goes on with the next byte
front : (text : List ℕ) (at m : ℕ) → at < length text → at < m → (rest : List ℕ) × (take m text ≡ take at text ++ (get_or text at 0 ∷ rest))
front [] at m h l = absurd (omega arith)
front (x ∷ xs) zero zero h l = absurd (omega arith)
front (x ∷ xs) zero (suc m) h l = (take m xs, refl)
front (x ∷ xs) (suc at) zero h l = absurd (omega arith)
front (x ∷ xs) (suc at) (suc m) h l =
    let r = front xs at m (omega arith) (omega arith) in (r.0, ap (λ t. x ∷ t) r.1)

-- the scan stops within the text
pub bad_within : (text : List ℕ) (at : ℕ) (b : ℕ) (first : Option ℕ) (n : ℕ) (s l : Bool) → IsScanned (take at text) first n s l → at < length text → b ≡ get_or text at 0 → IsStuck first n s b → IsBadPathAt text at
bad_within text at b first n s l k within is why = record {
  no_path = λ path form e. stuck k b why path (drop (at + 1) text) form (e ∙ sym split);
  within = omega arith;
  begins = scan_begins k;
  longest = λ m above fits begun. stuck k b why begun.path ((front text at m within above).0 ++ begun.rest) begun.form (begun.is_text ∙ goes_on_with m above begun.rest);
}
  where
    split : take at text ++ (b ∷ drop (at + 1) text) ≡ text
    split = ap (λ c. take at text ++ (c ∷ drop (at + 1) text)) is ∙ ap (λ t. take at text ++ t) (sym (drop_more text at 0 within)) ∙ take-append-drop at text

    goes_on_with : (m : ℕ) (above : at < m) (rest : List ℕ) → take m text ++ rest ≡ take at text ++ (b ∷ ((front text at m within above).0 ++ rest))
    goes_on_with m above rest =
        let f = front text at m within above in
        ap (λ t. t ++ rest) (f.1 ∙ ap (λ c. take at text ++ (c ∷ f.0)) (sym is)) ∙ append_assoc (take at text) (b ∷ f.0) rest

-- the scan comes to the end, and the text isn't a path yet
pub bad_at_end : (text : List ℕ) (first : Option ℕ) (n : ℕ) (s l : Bool) → IsScanned text first n s l → (first ≡ None) ⊎ (n ≡ 0) → IsBadPathAt text (length text)
bad_at_end text first n s l k why = record {
  no_path = λ path form e. unfinished k why path form e;
  within = omega arith;
  begins = subst BeginsPath (sym (take_all (length text) text (omega arith))) (scan_begins k);
  longest = λ m above fits _. omega arith;
}

-- ---- the steps as the loop takes them

take_next : (text : List ℕ) (at : ℕ) (b : ℕ) → at < length text → b ≡ get_or text at 0 → take (at + 1) text ≡ take at text ++ b ∷ []
take_next text at b h is = take_more text at 0 h ∙ ap (λ c. take at text ++ c ∷ []) (sym is)

pub loop_bang : (text : List ℕ) (at b : ℕ) (first first' : Option ℕ) (n n' : ℕ) (s s' l l' : Bool) → IsScanned (take at text) first n s l → at < length text → b ≡ get_or text at 0 → b ≡ 33 → 0 < n → s ≡ true → first' ≡ or_at first at → n' ≡ 0 → s' ≡ true → l' ≡ (l || ltb 63 n) → IsScanned (take (at + 1) text) first' n' s' l'
loop_bang text at b first first' n n' s s' l l' k h is bang some site ef en es el =
    let z : IsScanned (take at text ++ 33 ∷ []) (or_at first (length (take at text))) 0 true (l || ltb 63 n) = scan_bang k some site in
    let t : take at text ++ 33 ∷ [] ≡ take (at + 1) text = sym (take_next text at 33 h (sym bang ∙ is)) in
    let f : or_at first (length (take at text)) ≡ first' = ap (or_at first) (length-take-le at text (omega arith)) ∙ sym ef in
    subst (λ (u : Bool). IsScanned (take (at + 1) text) first' n' s' u) (sym el)
    (subst (λ (u : Bool). IsScanned (take (at + 1) text) first' n' u (l || ltb 63 n)) (sym es)
    (subst (λ (u : ℕ). IsScanned (take (at + 1) text) first' u true (l || ltb 63 n)) (sym en)
    (subst (λ (u : Option ℕ). IsScanned (take (at + 1) text) u 0 true (l || ltb 63 n)) f
    (subst (λ (u : List ℕ). IsScanned u (or_at first (length (take at text))) 0 true (l || ltb 63 n)) t z))))

pub loop_byte : (text : List ℕ) (at b : ℕ) (first first' : Option ℕ) (n n' : ℕ) (s s' l l' site : Bool) → IsScanned (take at text) first n s l → at < length text → b ≡ get_or text at 0 → is_bang b ≡ false → site ≡ is_site_byte b → (site ≡ true) ⊎ ((first ≢ None) × (is_word_byte b ≡ true)) → first' ≡ first → n' ≡ n + 1 → s' ≡ (s && site) → l' ≡ l → IsScanned (take (at + 1) text) first' n' s' l'
loop_byte text at b first first' n n' s s' l l' site k h is no_bang of ok ef en es el =
    let z : IsScanned (take at text ++ b ∷ []) first (n + 1) (s && site) l = scan_byte b site k of (allowed k.sites k.first ok) in
    let t : take at text ++ b ∷ [] ≡ take (at + 1) text = sym (take_next text at b h is) in
    subst (λ (u : Bool). IsScanned (take (at + 1) text) first' n' s' u) (sym el)
    (subst (λ (u : Bool). IsScanned (take (at + 1) text) first' n' u l) (sym es)
    (subst (λ (u : ℕ). IsScanned (take (at + 1) text) first' u (s && site) l) (sym en)
    (subst (λ (u : Option ℕ). IsScanned (take (at + 1) text) u (n + 1) (s && site) l) (sym ef)
    (subst (λ (u : List ℕ). IsScanned u first (n + 1) (s && site) l) t z))))
  where
    is_local : is_word_byte b ≡ true → is_local_byte b ≡ true
    is_local w = rw (w, no_bang)

    allowed : (sites : List (List ℕ)) → first ≡ first_len sites → (site ≡ true) ⊎ ((first ≢ None) × (is_word_byte b ≡ true)) → part_byte sites b ≡ true
    allowed [] f (inl t) = sym of ∙ t
    allowed [] f (inr w) = absurd (w.0 f)
    allowed (name ∷ sites) f (inl t) = local_from_site b (sym of ∙ t)
    allowed (name ∷ sites) f (inr w) = is_local w.1

-- ---- the outcomes

pub position_front : (site rest : List ℕ) → has_no_bang site ≡ true → position_or_len is_bang (site ++ (33 ∷ rest)) ≡ length site
position_front [] rest e = refl
position_front (b ∷ site) rest e =
    rw (and_first (not (is_bang b)) (has_no_bang site) e, position_front site rest (and_second (not (is_bang b)) (has_no_bang site) e)) (omega arith)

hop_of : (text part : List ℕ) (sites : List (List ℕ)) (hop_len : ℕ) → whole sites part ≡ text → all_sites sites ≡ true → first_len sites ≡ Some hop_len → hop_len ≡ position_or_len is_bang text
hop_of text part [] hop_len e named f = cc
hop_of text part (site ∷ sites) hop_len e named f =
    let no_bang = site_has_no_bang site (form_bytes is_site_byte site (and_first (has_form is_site_byte site) (all_sites sites) named)) in
    let h : hop_len ≡ length site = cc in
    h ∙ sym (position_front site (whole sites part) no_bang) ∙ ap (position_or_len is_bang) (sym (whole-cons site sites part) ∙ e)

pub is_path : (text : List ℕ) (hop_len n : ℕ) (first : Option ℕ) (s l : Bool) → IsScanned text first n s l → first ≡ Some hop_len → 0 < n → l ≡ false → length text ≤ 255 → IsPathText text × (hop_len ≡ position_or_len is_bang text)
is_path text hop_len n first s l k f some short fits =
    let w : IsWhole text hop_len l = scan_whole (subst (λ (u : Option ℕ). IsScanned text u n s l) f k) some in
    let t : leb (length text) 255 ≡ true = grind (arith, nat_tests) in (
      record { path = w.path; is_text = w.is_text; form = w.form; limits = w.limits ∙ rw (short, t) },
      hop_of text w.path.local_part w.path.sites hop_len w.is_text (path_sites w.path w.form).1 w.hop,
    )

pub is_long : (text : List ℕ) (hop_len n : ℕ) (first : Option ℕ) (s l : Bool) → IsScanned text first n s l → first ≡ Some hop_len → 0 < n → (l ≡ true) ⊎ (255 < length text) → IsLongPath text
is_long text hop_len n first s l k f some over =
    let w : IsWhole text hop_len l = scan_whole (subst (λ (u : Option ℕ). IsScanned text u n s l) f k) some in
    record { path = w.path; is_text = w.is_text; form = w.form; over = λ fit. broken over (sym w.limits ∙ fit) }
  where
    broken : (l ≡ true) ⊎ (255 < length text) → not l && leb (length text) 255 ≡ true → ⊥
    broken (inl long) e = let t = and_first (not l) _ e in false-true (not l) t (ap not long)
    broken (inr h) e = let t = and_second (not l) _ e in grind (arith, nat_tests)

-- ---- a path's text, cut at its first `!`

pub record IsCut (text : List ℕ) : Type 0 where
  pub site : List ℕ
  pub rest : List ℕ
  pub split : text ≡ site ++ (33 ∷ rest)
  pub no_bang : has_no_bang site ≡ true
  pub is_site : is_site_name site ≡ true
  pub is_rest : is_word rest ≡ true

whole_bytes : (sites : List (List ℕ)) (part : List ℕ) → all_sites sites ≡ true → has_form is_local_byte part ≡ true → has_form is_word_byte (whole sites part) ≡ true
whole_bytes [] part named form =
    form_from is_word_byte part (form_some is_local_byte part form) (list_all_weaker is_local_byte is_word_byte part (λ b h. and_first (is_word_byte b) _ h) (form_bytes is_local_byte part form))
whole_bytes (site ∷ sites) part named form =
    let site_form = and_first (has_form is_site_byte site) (all_sites sites) named in
    let front = list_all_weaker is_site_byte is_word_byte site (λ b h. and_first (is_word_byte b) _ (local_from_site b h)) (form_bytes is_site_byte site site_form) in
    let back = form_bytes is_word_byte (whole sites part) (whole_bytes sites part (and_second (has_form is_site_byte site) (all_sites sites) named) form) in
    ap (has_form is_word_byte) (whole-cons site sites part) ∙ form_from is_word_byte (site ++ (33 ∷ whole sites part)) (omega (arith, length-append site (33 ∷ whole sites part)))
    (list_all-append is_word_byte site (33 ∷ whole sites part) ∙ rw (front, back))

cut_sites : (text : List ℕ) (sites : List (List ℕ)) (part : List ℕ) → whole sites part ≡ text → IsTrue (has_path_form (record { sites = sites; local_part = part })) → IsTrue (is_within_limits (record { sites = sites; local_part = part })) → IsCut text
cut_sites text [] part e form limits = absurd (omega (arith, (path_sites (record { sites = []; local_part = part }) form).0))
cut_sites text (site ∷ sites) part e form limits =
    let f = path_sites (record { sites = site ∷ sites; local_part = part }) form in
    let site_form : has_form is_site_byte site ≡ true = and_first (has_form is_site_byte site) (all_sites sites) f.1 in
    let lens = and_first (leb (length site) 63 && list_all (λ (u : List ℕ). leb (length u) 63) sites) _ limits in
    let short = and_first (leb (length site) 63) _ lens in
    let total : leb (length (whole (site ∷ sites) part)) 255 ≡ true = and_second (leb (length site) 63 && list_all (λ (u : List ℕ). leb (length u) 63) sites) _ limits in
    let split = whole-cons site sites part in
    let parts : length (whole (site ∷ sites) part) ≡ length site + length (33 ∷ whole sites part) = ap length split ∙ length-append site (33 ∷ whole sites part) in
    let rest_fits : leb (length (whole sites part)) 255 ≡ true = grind (arith, nat_tests) in
    record {
      site = site;
      rest = whole sites part;
      split = sym e ∙ split;
      no_bang = site_has_no_bang site (form_bytes is_site_byte site site_form);
      is_site = rw (site_form, short);
      is_rest = rw (whole_bytes sites part (and_second (has_form is_site_byte site) (all_sites sites) f.1) f.2, rest_fits);
    }

pub cut_path : (text : List ℕ) → IsPathText text → IsCut text
cut_path text p = cut_sites text p.path.sites p.path.local_part p.is_text p.form p.limits

-- at the loop's end all of the text has been scanned
pub scan_all : (text : List ℕ) (at : ℕ) (first : Option ℕ) (n : ℕ) (s l : Bool) → IsScanned (take at text) first n s l → length text ≤ at → IsScanned text first n s l
scan_all text at first n s l k h = subst (λ (u : List ℕ). IsScanned u first n s l) (take_all at text h) k

-- each byte of a path is one of a word
pub path_bytes : (text : List ℕ) → IsPathText text → list_all is_word_byte text ≡ true
path_bytes text p =
    let f = path_sites p.path p.form in
    subst (λ (t : List ℕ). list_all is_word_byte t ≡ true) p.is_text (form_bytes is_word_byte (whole p.path.sites p.path.local_part) (whole_bytes p.path.sites p.path.local_part f.1 f.2))

pub path_fits : (text : List ℕ) → IsPathText text → length text ≤ 255
path_fits text p =
    let t : leb (length (path_text p.path)) 255 ≡ true = and_second (list_all (λ (u : List ℕ). leb (length u) 63) p.path.sites) _ p.limits in
    let e = ap length p.is_text in
    let h : length (path_text p.path) ≤ 255 = grind (arith, nat_tests) in
    omega arith

-- ---- a text is cut in one way

cut_alike : (sites more : List (List ℕ)) (part last : List ℕ) → has_no_bang part ≡ true → whole more last ≡ part ++ [] → (sites ++ more ≡ sites) × (last ≡ part)
cut_alike sites [] part last no_bang e = (append-nil sites, e ∙ append-nil part)
cut_alike sites (other ∷ more) part last no_bang e =
    absurd (no_bang_within part other (whole more last) no_bang (sym (append-nil part) ∙ sym e ∙ whole-cons other more last))

pub one_path : (p q : BangPath) → IsTrue (has_path_form p) → IsTrue (has_path_form q) → path_text q ≡ path_text p → (q.sites ≡ p.sites) × (q.local_part ≡ p.local_part)
one_path p q f g e =
    let a = path_sites p f in
    let b = path_sites q g in
    let on = goes_on p.sites q.sites p.local_part q.local_part [] a.1 b.1 (form_bytes is_local_byte q.local_part b.2) (e ∙ sym (append-nil (path_text p))) in
    let same = cut_alike p.sites on.more p.local_part q.local_part (local_has_no_bang p.local_part (form_bytes is_local_byte p.local_part a.2)) on.text in
    (on.sites_are ∙ same.0, same.1)

no_long_path : (text : List ℕ) → IsLongPath text → ¬ IsPathText text
no_long_path text long p =
    let same = one_path long.path p.path long.form p.form (p.is_text ∙ sym long.is_text) in
    long.over ((λ i. is_within_limits (record { sites = sym same.0 i; local_part = sym same.1 i })) ∙ p.limits)

-- what is refused isn't a path
pub fault_no_path : (text : List ℕ) (fault : NameFault) → IsPathFault text fault → UnlessMemory fault (¬ IsPathText text)
fault_no_path text (BadPath at) f = λ p. f.no_path p.path p.form p.is_text
fault_no_path text TooLong f = no_long_path text f
fault_no_path text Memory f = tt
fault_no_path text BadGrade f = absurd f
fault_no_path text (BadName at) f = absurd f
fault_no_path text (BadWord at) f = absurd f
fault_no_path text NoEnvelope f = absurd f

pub ruleset faults = (fault_no_path)
