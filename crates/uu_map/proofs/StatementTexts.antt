-- A statement is read exactly if the text is one.
use Rattle.std.proofs.Common.{◌≡◌, ℕ, ◌+◌, Bool, true, false, not, cond, ◌&&◌, List, [], ◌∷◌, ◌++◌, length, take, drop, Option, Some, None, option_map, option_and_then, refl, sym, ap, ◌∙◌, subst, arith}
use Rattle.std.specs.List.{prefix_len, onto_first, filter, AllZip}
use Rattle.std.specs.Str.{byte, bytes_eq}
use Rattle.std.proofs.lemmas.Bool.Decides.{nat_tests}
use Rattle.std.proofs.lemmas.List.{append-nil, take-append-drop, take_at, drop_at}
use Rattle.std.proofs.lemmas.Slice.Eq.{bytes_eq-Decides}
use Rattle.std.proofs.Math.Numerals.{one-add}
use Rattle.std.proofs.lemmas.Option.{same_Some}
use Rattle.uu_names.specs.Name.{is_site_byte}
use Rattle.uu_map.specs.declared.entry.Cost.{Cost}
use Rattle.uu_map.specs.declared.entry.Link.{Link}
use Rattle.uu_map.specs.Token as token
use Rattle.uu_map.specs.Token.{begins}
use Rattle.uu_names.specs.Text.{is_blank}
use Rattle.uu_names.proofs.Basics.{front_passes}
use Rattle.uu_map.specs.Statement.{is_mark, is_comma, all_blank, cut, elements, IsLink, IsAlias, Meaning, IsStatement, alone, with_links, with_aliases}
use Rattle.uu_map.specs.Internal.StatementReading.{skip, skip_mark, cost_behind, site_name, named_link, link_of, alias_of, each_of, list_of, is_equals, said_by, statement_of}
use Rattle.uu_map.proofs.LinkTexts.{skip_front, link_is, link_is_read, alias_is, alias_is_read}

-- ---- lists

module _ {Y : Type 0} (read : List ℕ → Option Y) (R : List ℕ → Y → Type 0) where
  each_is : ((x : List ℕ) (y : Y) → read x ≡ Some y → R x y) → (xs : List (List ℕ)) (ys : List Y) → each_of read xs ≡ Some ys → AllZip R xs ys
  each_is sound [] [] e = tt
  each_is sound [] (y ∷ ys) e = absurd cc
  each_is sound (x ∷ xs) ys e = go (read x) refl (each_of read xs) refl ys e (each_is sound xs)
    where
      go : (o : Option Y) → read x ≡ o → (os : Option (List Y)) → each_of read xs ≡ os → (ys : List Y) → option_and_then (λ y. option_map (λ zs. y ∷ zs) os) o ≡ Some ys → ((zs : List Y) → each_of read xs ≡ Some zs → AllZip R xs zs) → AllZip R (x ∷ xs) ys
      go None eo os es ys e rec = absurd cc
      go (Some y) eo None es ys e rec = absurd cc
      go (Some y) eo (Some zs) es [] e rec = absurd cc
      go (Some y) eo (Some zs) es (v ∷ vs) e rec =
          let heads : y ≡ v = cc in
          let tails : zs ≡ vs = cc in
          (subst (λ w. R x w) heads (sound x y eo), subst (λ ws. AllZip R xs ws) tails (rec zs es))

  each_is_read : ((x : List ℕ) (y : Y) → R x y → read x ≡ Some y) → (xs : List (List ℕ)) (ys : List Y) → AllZip R xs ys → each_of read xs ≡ Some ys
  each_is_read complete [] [] h = refl
  each_is_read complete [] (y ∷ ys) h = absurd h
  each_is_read complete (x ∷ xs) [] h = absurd h
  each_is_read complete (x ∷ xs) (y ∷ ys) h =
      ap (λ o. option_and_then (λ y. option_map (λ zs. y ∷ zs) (each_of read xs)) o) (complete x y h.0) ∙ ap (λ os. option_map (λ zs. y ∷ zs) os) (each_is_read complete xs ys h.1)

links_are : (list : List ℕ) (links : List Link) → list_of link_of list ≡ Some links → AllZip IsLink (elements list) links
unfolding list_of
links_are list links e = each_is link_of IsLink link_is (elements list) links e

links_are_read : (list : List ℕ) (links : List Link) → AllZip IsLink (elements list) links → list_of link_of list ≡ Some links
unfolding list_of
links_are_read list links h = each_is_read link_of IsLink link_is_read (elements list) links h

pub aliases_are : (list : List ℕ) (aliases : List (List ℕ)) → list_of alias_of list ≡ Some aliases → AllZip IsAlias (elements list) aliases
unfolding list_of
aliases_are list aliases e = each_is alias_of IsAlias alias_is (elements list) aliases e

pub aliases_are_read : (list : List ℕ) (aliases : List (List ℕ)) → AllZip IsAlias (elements list) aliases → list_of alias_of list ≡ Some aliases
unfolding list_of
aliases_are_read list aliases h = each_is_read alias_of IsAlias alias_is_read (elements list) aliases h

-- ---- no list of links begins with an equals sign

skip_blank : (b : ℕ) (bs : List ℕ) → is_blank b ≡ true → skip is_blank (b ∷ bs) ≡ skip is_blank bs
skip_blank b bs h = ap (λ t. drop (cond t (1 + prefix_len is_blank bs) 0) (b ∷ bs)) h ∙ ap (λ n. drop n (b ∷ bs)) (one-add (prefix_len is_blank bs))

skip_other : (b : ℕ) (bs : List ℕ) → is_blank b ≡ false → skip is_blank (b ∷ bs) ≡ b ∷ bs
skip_other b bs h = ap (λ t. drop (cond t (1 + prefix_len is_blank bs) 0) (b ∷ bs)) h

skip-all : (text : List ℕ) → all_blank text ≡ true → skip is_blank text ≡ []
skip-all [] h = refl
skip-all (b ∷ bs) h = go (λ k. skip-all bs k) (is_blank b) refl h
  where
    go : (all_blank bs ≡ true → skip is_blank bs ≡ []) → (t : Bool) → is_blank b ≡ t → (t && all_blank bs) ≡ true → skip is_blank (b ∷ bs) ≡ []
    go rec true e h = skip_blank b bs e ∙ rec h
    go rec false e h = absurd cc

blank_is_no_comma : (b : ℕ) → is_blank b ≡ true → is_comma b ≡ false
blank_is_no_comma b h = grind (arith, nat_tests)

equals_is_no_comma : (b : ℕ) → is_equals b ≡ true → is_comma b ≡ false
equals_is_no_comma b h = grind (arith, nat_tests)

equals_is_no_mark : (b : ℕ) → is_equals b ≡ true → is_mark b ≡ false
equals_is_no_mark b h = grind (arith, nat_tests)

equals_is_no_site_byte : (b : ℕ) → is_equals b ≡ true → is_site_byte b ≡ false
equals_is_no_site_byte b h = grind (arith, nat_tests)

pub equals_is : (b : ℕ) → is_equals b ≡ true → b ≡ byte "="
equals_is b h = grind (arith, nat_tests)

record FirstPart (list : List ℕ) : Type 0 where
  part : List ℕ
  parts : List (List ℕ)
  is : cut is_comma list ≡ part ∷ parts
  begins_so : begins is_equals (skip is_blank part) ≡ true

first_part : (list : List ℕ) → begins is_equals (skip is_blank list) ≡ true → FirstPart list
first_part [] h = absurd cc
first_part (b ∷ bs) h = go (is_blank b) refl (λ k. first_part bs k)
  where
    after_blank : is_blank b ≡ true → FirstPart bs → FirstPart (b ∷ bs)
    after_blank e f = record {
      part = b ∷ f.part;
      parts = f.parts;
      is = ap (λ t. cond t ([] ∷ cut is_comma bs) (onto_first b (cut is_comma bs))) (blank_is_no_comma b e) ∙ ap (onto_first b) f.is;
      begins_so = ap (begins is_equals) (skip_blank b f.part e) ∙ f.begins_so;
    }

    here : is_blank b ≡ false → is_equals b ≡ true → (ps : List (List ℕ)) → cut is_comma bs ≡ ps → FirstPart (b ∷ bs)
    here e q [] c = record {
      part = b ∷ [];
      parts = [];
      is = ap (λ t. cond t ([] ∷ cut is_comma bs) (onto_first b (cut is_comma bs))) (equals_is_no_comma b q) ∙ ap (onto_first b) c;
      begins_so = ap (begins is_equals) (skip_other b [] e) ∙ q;
    }
    here e q (p ∷ ps) c = record {
      part = b ∷ p;
      parts = ps;
      is = ap (λ t. cond t ([] ∷ cut is_comma bs) (onto_first b (cut is_comma bs))) (equals_is_no_comma b q) ∙ ap (onto_first b) c;
      begins_so = ap (begins is_equals) (skip_other b p e) ∙ q;
    }

    go : (t : Bool) → is_blank b ≡ t → (begins is_equals (skip is_blank bs) ≡ true → FirstPart bs) → FirstPart (b ∷ bs)
    go true e rec = after_blank e (rec (sym (ap (begins is_equals) (skip_blank b bs e)) ∙ h))
    go false e rec = here e (sym (ap (begins is_equals) (skip_other b bs e)) ∙ h) (cut is_comma bs) refl

no_link : (text : List ℕ) → begins is_equals text ≡ true → named_link (skip_mark text) ≡ None
unfolding named_link
no_link [] h = absurd cc
no_link (b ∷ bs) h = ap (λ t. named_of (cond t bs (b ∷ bs))) (equals_is_no_mark b h) ∙ go (is_site_byte b) (equals_is_no_site_byte b h) (cost_behind (token.tokens (skip_mark (skip is_site_byte (b ∷ bs)))))
  where
    named_of : List ℕ → Option Link
    named_of text = named_link text

    go : (t : Bool) → t ≡ false → (c : Option Cost) → option_and_then (λ cost. option_map (λ name. let l : Link = record { to = name; cost = cost } in l) (site_name (take (cond t (1 + prefix_len is_site_byte bs) 0) (b ∷ bs)))) c ≡ None
    go true e c = absurd cc
    go false e None = refl
    go false e (Some cost) = refl

no_links : (list : List ℕ) → begins is_equals (skip is_blank list) ≡ true → list_of link_of list ≡ None
unfolding list_of link_of
no_links list h = by_part (first_part list h)
  where
    by_part : FirstPart list → list_of link_of list ≡ None
    by_part f =
        ap (λ ps. each_of link_of (filter (λ x. not (all_blank x)) ps)) f.is ∙ go (all_blank f.part) refl
      where
        go : (t : Bool) → all_blank f.part ≡ t → each_of link_of (cond (not t) (f.part ∷ filter (λ x. not (all_blank x)) f.parts) (filter (λ x. not (all_blank x)) f.parts)) ≡ None
        go true e = let impossible : begins is_equals [] ≡ true = sym (ap (begins is_equals) (skip-all f.part e)) ∙ f.begins_so in absurd cc
        go false e = ap (λ o. option_and_then (λ y. option_map (λ ys. y ∷ ys) (each_of link_of (filter (λ x. not (all_blank x)) f.parts))) o) (no_link (skip is_blank f.part) f.begins_so)

-- ---- what comes after the host

abbrev of_links : List Link → Meaning
of_links links = record { aliases = []; links = links }

abbrev of_aliases : List (List ℕ) → Meaning
of_aliases aliases = record { aliases = aliases; links = [] }

module _ (host : List ℕ) where
  said_is : (text : List ℕ) (m : Meaning) → said_by text ≡ Some m → IsStatement host (host ++ text) m
  said_is [] m e = subst (λ t. IsStatement host t m) (sym (append-nil host)) (subst (λ n. IsStatement host host n) (same_Some (record { aliases = []; links = [] }) m e) alone)
  said_is (b ∷ bs) m e = go (begins is_equals (skip is_blank (b ∷ bs))) refl (is_blank b) refl e
    where
      as_links : is_blank b ≡ true → (o : Option (List Link)) → list_of link_of bs ≡ o → option_map of_links o ≡ Some m → IsStatement host (host ++ b ∷ bs) m
      as_links blank None eo e = absurd cc
      as_links blank (Some links) eo e = subst (λ n. IsStatement host (host ++ b ∷ bs) n) (same_Some (of_links links) m e) (with_links b bs links blank (links_are bs links eo))

      equals_rest : (u : List ℕ) → begins is_equals u ≡ true → u ≡ byte "=" ∷ drop 1 u
      equals_rest [] h = absurd cc
      equals_rest (x ∷ xs) h = ap (λ y. y ∷ xs) (equals_is x h)

      as_aliases : begins is_equals (skip is_blank (b ∷ bs)) ≡ true → (o : Option (List (List ℕ))) → list_of alias_of (drop 1 (skip is_blank (b ∷ bs))) ≡ o → option_map of_aliases o ≡ Some m → IsStatement host (host ++ b ∷ bs) m
      as_aliases h None eo e = absurd cc
      as_aliases h (Some aliases) eo e =
          let text : b ∷ bs ≡ take (prefix_len is_blank (b ∷ bs)) (b ∷ bs) ++ (byte "=" ∷ drop 1 (skip is_blank (b ∷ bs))) =
          sym (take-append-drop (prefix_len is_blank (b ∷ bs)) (b ∷ bs)) ∙ ap (λ r. take (prefix_len is_blank (b ∷ bs)) (b ∷ bs) ++ r) (equals_rest (skip is_blank (b ∷ bs)) h) in
          subst (λ t. IsStatement host (host ++ t) m) (sym text)
          (subst (λ n. IsStatement host (host ++ (take (prefix_len is_blank (b ∷ bs)) (b ∷ bs) ++ (byte "=" ∷ drop 1 (skip is_blank (b ∷ bs))))) n) (same_Some (of_aliases aliases) m e)
          (with_aliases (take (prefix_len is_blank (b ∷ bs)) (b ∷ bs)) (drop 1 (skip is_blank (b ∷ bs))) aliases (front_passes is_blank (b ∷ bs)) (aliases_are (drop 1 (skip is_blank (b ∷ bs))) aliases eo)))

      go : (t : Bool) → begins is_equals (skip is_blank (b ∷ bs)) ≡ t → (w : Bool) → is_blank b ≡ w → cond t (option_map of_aliases (list_of alias_of (drop 1 (skip is_blank (b ∷ bs))))) (cond w (option_map of_links (list_of link_of bs)) None) ≡ Some m → IsStatement host (host ++ b ∷ bs) m
      go true h w blank e = as_aliases h (list_of alias_of (drop 1 (skip is_blank (b ∷ bs)))) refl e
      go false h true blank e = as_links blank (list_of link_of bs) refl e
      go false h false blank e = absurd cc

links_are_said : (blank : ℕ) (list : List ℕ) (links : List Link) → is_blank blank ≡ true → AllZip IsLink (elements list) links → said_by (blank ∷ list) ≡ Some (of_links links)
links_are_said blank list links is_one h = go (begins is_equals (skip is_blank (blank ∷ list))) refl (is_blank blank) is_one
  where
    go : (t : Bool) → begins is_equals (skip is_blank (blank ∷ list)) ≡ t → (w : Bool) → w ≡ true → cond t (option_map of_aliases (list_of alias_of (drop 1 (skip is_blank (blank ∷ list))))) (cond w (option_map of_links (list_of link_of list)) None) ≡ Some (of_links links)
    go true e w k = let impossible : None ≡ Some links = sym (no_links list (sym (ap (begins is_equals) (skip_blank blank list is_one)) ∙ e)) ∙ links_are_read list links h in absurd cc
    go false e true k = ap (option_map of_links) (links_are_read list links h)
    go false e false k = absurd cc

aliases_behind : (text list : List ℕ) (aliases : List (List ℕ)) → skip is_blank text ≡ byte "=" ∷ list → AllZip IsAlias (elements list) aliases → said_by text ≡ Some (of_aliases aliases)
aliases_behind [] list aliases e h = absurd cc
aliases_behind (b ∷ bs) list aliases e h =
    ap (λ u. cond (begins is_equals u) (option_map of_aliases (list_of alias_of (drop 1 u))) (cond (is_blank b) (option_map of_links (list_of link_of bs)) None)) e
    ∙ ap (option_map of_aliases) (aliases_are_read list aliases h)

host_first : (host rest : List ℕ) → statement_of host (host ++ rest) ≡ said_by rest
unfolding statement_of
host_first host rest =
    ap (λ t. cond (bytes_eq t host) (said_by (drop (length host) (host ++ rest))) None) (take_at host rest (length host) refl)
    ∙ (ap (λ b. cond b (said_by (drop (length host) (host ++ rest))) None) ((bytes_eq-Decides host host).1 refl)
    ∙ ap said_by (drop_at host rest (length host) refl))

-- what is read as a statement is one
pub statement_is : (host text : List ℕ) (m : Meaning) → statement_of host text ≡ Some m → IsStatement host text m
unfolding statement_of
statement_is host text m e = go (bytes_eq (take (length host) text) host) refl e
  where
    go : (t : Bool) → bytes_eq (take (length host) text) host ≡ t → cond t (said_by (drop (length host) text)) None ≡ Some m → IsStatement host text m
    go true h e =
        let whole : host ++ drop (length host) text ≡ text = ap (λ f. f ++ drop (length host) text) (sym ((bytes_eq-Decides (take (length host) text) host).0 h)) ∙ take-append-drop (length host) text in
        subst (λ t. IsStatement host t m) whole (said_is host (drop (length host) text) m e)
    go false h e = absurd cc

-- a statement is read as it is
pub statement_is_read : (host text : List ℕ) (m : Meaning) → IsStatement host text m → statement_of host text ≡ Some m
statement_is_read host text m alone = ap (statement_of host) (sym (append-nil host)) ∙ host_first host []
statement_is_read host text m (with_links blank list links is_one h) = host_first host (blank ∷ list) ∙ links_are_said blank list links is_one h
statement_is_read host text m (with_aliases blanks list aliases all h) =
    host_first host (blanks ++ byte "=" ∷ list) ∙ aliases_behind (blanks ++ byte "=" ∷ list) list aliases (skip_front is_blank blanks (byte "=" ∷ list) all refl) h
