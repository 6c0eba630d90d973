-- An address goes by way of a system exactly if it is a bang path that begins with it.
use Rattle.std.proofs.Common.{◌≡◌, ◌∙◌, ap, sym, refl, not, ◌<◌, ◌&&◌, ◌||◌, ◌+◌, Bool, true, false, true≢false, ℕ, suc, List, [], ◌∷◌, ◌++◌, length, All, arith}
use Rattle.std.specs.Prelude.{cond, nat_le}
use Rattle.std.specs.List.{join_with_byte, list_all, list_any, onto_first, position_or_len, slice_split}
use Rattle.std.proofs.lemmas.Bool.{le-leb, and_parts, and_from, not-true}
use Rattle.std.proofs.lemmas.Bool.Decides.{nat_tests}
use Rattle.std.proofs.lemmas.List.Elements.{All-cons, All-nil}
use Rattle.std.proofs.lemmas.List.Splits.{join_with_byte-slice_split, slice_split_at, slice_split_first, slice_split_none, slice_split-cons_no, slice_split-cons_yes}
use Rattle.uu_names.specs.Name.{has_form, is_site_byte, is_site_name, is_word, is_word_byte, most_name}
use Rattle.uu_names.specs.Path.{BangPath, IsPathText, first_hop, is_bang, is_local_byte, most_path, path_text, rest_of}
use Rattle.uu_names.proofs.Basics.{text_from, list_all_weaker, text_to}
use Rattle.uu_line.specs.Lines.{same_text}
use Rattle.uu_request.specs.Unpacking.{are_steps, is_by_way_of}
use Rattle.uu_request.proofs.WordLemmas.{step_on}

-- ---- where a text is cut

-- the first `!` of a text that has one is within it
bang_within : (text : List ℕ) → list_any is_bang text ≡ true → position_or_len is_bang text < length text
bang_within [] some = absurd (true≢false (sym some))
bang_within (b ∷ text) some = go (is_bang b) (bang_within text) some
  where
    go : (is : Bool) → (list_any is_bang text ≡ true → position_or_len is_bang text < length text) → (is || list_any is_bang text) ≡ true
        → cond (not is) (1 + position_or_len is_bang text) 0 < suc (length text)
    go true later some = omega arith
    go false later some = let inside = later some in omega (arith, inside)

-- after a prefix there is a `!`
bang_behind : (front text : List ℕ) → list_any is_bang (front ++ 33 ∷ text) ≡ true
bang_behind [] text = refl
bang_behind (b ∷ front) text = go (is_bang b) (bang_behind front text)
  where
    go : (is : Bool) → list_any is_bang (front ++ 33 ∷ text) ≡ true → (is || list_any is_bang (front ++ 33 ∷ text)) ≡ true
    go true later = refl
    go false later = later

none_of : (text : List ℕ) → list_all (λ b. not (is_bang b)) text ≡ true → All (λ b. is_bang b ≡ false) text
none_of [] none = All-nil (λ b. is_bang b ≡ false)
none_of (b ∷ text) none =
    let parts = and_parts (not (is_bang b)) (list_all (λ b. not (is_bang b)) text) none in
    All-cons (λ b. is_bang b ≡ false) b text (not-true (is_bang b) parts.0) (none_of text parts.1)

-- ---- the parts of a text

-- each is made of its bytes, and has no `!`
local_parts : (text : List ℕ) → list_all is_word_byte text ≡ true → list_all (list_all is_local_byte) (slice_split is_bang text) ≡ true
local_parts [] words = refl
local_parts (b ∷ text) words =
    let parts = and_parts (is_word_byte b) (list_all is_word_byte text) words in go parts.0 (local_parts text parts.1) (is_bang b) refl
  where
    onto : (pieces : List (List ℕ)) → is_local_byte b ≡ true → list_all (list_all is_local_byte) pieces ≡ true → list_all (list_all is_local_byte) (onto_first b pieces) ≡ true
    onto [] own others = and_from _ true (and_from (is_local_byte b) true own refl) refl
    onto (piece ∷ pieces) own others =
        let each = and_parts (list_all is_local_byte piece) (list_all (list_all is_local_byte) pieces) others in
        and_from _ _ (and_from (is_local_byte b) (list_all is_local_byte piece) own each.0) each.1

    go : is_word_byte b ≡ true → list_all (list_all is_local_byte) (slice_split is_bang text) ≡ true
        → (is : Bool) → is_bang b ≡ is → list_all (list_all is_local_byte) (slice_split is_bang (b ∷ text)) ≡ true
    go own others true cuts = ap (list_all (list_all is_local_byte)) (slice_split-cons_yes is_bang b text cuts) ∙ others
    go own others false stays =
        ap (list_all (list_all is_local_byte)) (slice_split-cons_no is_bang b text stays)
        ∙ onto (slice_split is_bang text) (and_from (is_word_byte b) (not (is_bang b)) own (ap not stays)) others

-- sites, and the part after them
pub record AreSites (parts : List (List ℕ)) : Type 0 where
  pub sites : List (List ℕ)
  pub part : List ℕ
  pub are : parts ≡ sites ++ part ∷ []
  pub named : list_all is_site_name sites ≡ true
  pub some : nat_le 1 (length part) ≡ true
  pub bytes : list_all is_local_byte part ≡ true

sites_of : (parts : List (List ℕ)) → are_steps parts ≡ true → list_all (list_all is_local_byte) parts ≡ true → AreSites parts
sites_of [] steps bytes = absurd (true≢false (sym steps))
sites_of (part ∷ []) steps bytes = record { sites = []; part = part; are = refl; named = refl; some = steps; bytes = (and_parts (list_all is_local_byte part) true bytes).0 }
sites_of (site ∷ next ∷ parts) steps bytes =
    let first = and_parts (is_site_name site) (are_steps (next ∷ parts)) steps in
    let others = sites_of (next ∷ parts) first.1 (and_parts (list_all is_local_byte site) (list_all (list_all is_local_byte) (next ∷ parts)) bytes).1 in record {
      sites = site ∷ others.sites;
      part = others.part;
      are = ap (λ all. site ∷ all) others.are;
      named = and_from (is_site_name site) (list_all is_site_name others.sites) first.0 others.named;
      some = others.some;
      bytes = others.bytes;
    }

-- ---- by way of a system

module _ (system address : List ℕ) (is_system : is_site_name system ≡ true) (word : is_word address ≡ true) where
  word_parts : (has_form is_word_byte address ≡ true) × (nat_le (length address) 255 ≡ true)
  word_parts = and_parts (has_form is_word_byte address) (nat_le (length address) 255) word

  pub is_path : is_by_way_of system address ≡ true → IsPathText address × (first_hop address ≡ system)
  is_path e = (path, begins)
    where
      outer : ((same_text (first_hop address) system && list_any is_bang address) ≡ true) × (are_steps (slice_split is_bang (rest_of address)) ≡ true)
      outer = and_parts (same_text (first_hop address) system && list_any is_bang address) (are_steps (slice_split is_bang (rest_of address))) e

      inner : (same_text (first_hop address) system ≡ true) × (list_any is_bang address ≡ true)
      inner = and_parts (same_text (first_hop address) system) (list_any is_bang address) outer.0

      begins : first_hop address ≡ system
      begins = text_from (first_hop address) system inner.0

      cut : slice_split is_bang address ≡ first_hop address ∷ slice_split is_bang (rest_of address)
      cut = slice_split_first is_bang address 0 (bang_within address inner.1)

      local_bytes : list_all (list_all is_local_byte) (slice_split is_bang (rest_of address)) ≡ true
      local_bytes =
          (and_parts (list_all is_local_byte (first_hop address)) (list_all (list_all is_local_byte) (slice_split is_bang (rest_of address)))
          (sym (ap (list_all (list_all is_local_byte)) cut) ∙ local_parts address (and_parts (nat_le 1 (length address)) (list_all is_word_byte address) word_parts.0).1)).1

      it : AreSites (slice_split is_bang (rest_of address))
      it = sites_of (slice_split is_bang (rest_of address)) outer.1 local_bytes

      whole : BangPath
      whole = record { sites = system ∷ it.sites; local_part = it.part }

      text_is : path_text whole ≡ address
      text_is =
          ap (λ parts. join_with_byte 33 (system ∷ parts)) (sym it.are) ∙ ap (λ hop. join_with_byte 33 (hop ∷ slice_split is_bang (rest_of address))) (sym begins)
          ∙ ap (join_with_byte 33) (sym cut) ∙ join_with_byte-slice_split 33 address

      named : list_all is_site_name (system ∷ it.sites) ≡ true
      named = and_from (is_site_name system) (list_all is_site_name it.sites) is_system it.named

      path : IsPathText address
      path = record {
        path = whole;
        is_text = text_is;
        form = and_from (nat_le 1 (length (system ∷ it.sites)) && list_all (has_form is_site_byte) (system ∷ it.sites)) (has_form is_local_byte it.part)
            (and_from (nat_le 1 (length (system ∷ it.sites))) (list_all (has_form is_site_byte) (system ∷ it.sites)) (le-leb 1 (suc (length it.sites)) (omega arith))
            (list_all_weaker is_site_name (has_form is_site_byte) (system ∷ it.sites) (λ site is. (and_parts (has_form is_site_byte site) (nat_le (length site) most_name) is).0) named))
            (and_from (nat_le 1 (length it.part)) (list_all is_local_byte it.part) it.some it.bytes);
        limits = and_from (list_all (λ site. nat_le (length site) most_name) (system ∷ it.sites)) (nat_le (length (path_text whole)) most_path)
            (list_all_weaker is_site_name (λ site. nat_le (length site) most_name) (system ∷ it.sites) (λ site is. (and_parts (has_form is_site_byte site) (nat_le (length site) most_name) is).1) named)
            (ap (λ text. nat_le (length text) most_path) text_is ∙ word_parts.1);
      }

-- ---- a path

not_bang : (b : ℕ) → is_site_byte b ≡ true → not (is_bang b) ≡ true
not_bang b h = grind (arith, nat_tests)

names_of : (sites : List (List ℕ)) → list_all (has_form is_site_byte) sites ≡ true → list_all (λ site. nat_le (length site) most_name) sites ≡ true → list_all is_site_name sites ≡ true
names_of [] form short = refl
names_of (site ∷ sites) form short =
    let forms = and_parts (has_form is_site_byte site) (list_all (has_form is_site_byte) sites) form in
    let shorts = and_parts (nat_le (length site) most_name) (list_all (λ site. nat_le (length site) most_name) sites) short in
    and_from (is_site_name site) (list_all is_site_name sites) (and_from (has_form is_site_byte site) (nat_le (length site) most_name) forms.0 shorts.0) (names_of sites forms.1 shorts.1)

no_bang_in : (site : List ℕ) → is_site_name site ≡ true → All (λ b. is_bang b ≡ false) site
no_bang_in site named =
    let form = and_parts (has_form is_site_byte site) (nat_le (length site) most_name) named in
    none_of site (list_all_weaker is_site_byte (λ b. not (is_bang b)) site not_bang (and_parts (nat_le 1 (length site)) (list_all is_site_byte site) form.0).1)

abbrev joined : List (List ℕ) → List ℕ → List ℕ
joined sites part = join_with_byte 33 (sites ++ part ∷ [])

joined_first : (site : List ℕ) (sites : List (List ℕ)) (part : List ℕ) → joined (site ∷ sites) part ≡ site ++ 33 ∷ joined sites part
joined_first site [] part = refl
joined_first site (next ∷ sites) part = refl

cut_first : (site : List ℕ) (sites : List (List ℕ)) (part : List ℕ) → is_site_name site ≡ true
    → slice_split is_bang (joined (site ∷ sites) part) ≡ site ∷ slice_split is_bang (joined sites part)
cut_first site sites part named =
    ap (slice_split is_bang) (joined_first site sites part) ∙ slice_split_at is_bang site 33 (joined sites part) (no_bang_in site named) refl

steps_of : (sites : List (List ℕ)) (part : List ℕ) → list_all is_site_name sites ≡ true → nat_le 1 (length part) ≡ true → list_all is_local_byte part ≡ true
    → are_steps (slice_split is_bang (joined sites part)) ≡ true
steps_of [] part named some bytes =
    ap are_steps (slice_split_none is_bang part (none_of part (list_all_weaker is_local_byte (λ b. not (is_bang b)) part (λ b is. (and_parts (is_word_byte b) (not (is_bang b)) is).1) bytes))) ∙ some
steps_of (site ∷ sites) part named some bytes =
    let names = and_parts (is_site_name site) (list_all is_site_name sites) named in
    step_on site (joined sites part) (joined (site ∷ sites) part) (cut_first site sites part names.0) names.0 ∙ steps_of sites part names.1 some bytes

abbrev behind_first : List (List ℕ) → List (List ℕ)
behind_first [] = []
behind_first (part ∷ parts) = parts

goes_by : (address : List ℕ) (sites : List (List ℕ)) (part : List ℕ) → nat_le 1 (length sites) ≡ true → list_all is_site_name sites ≡ true
    → nat_le 1 (length part) ≡ true → list_all is_local_byte part ≡ true → joined sites part ≡ address → is_by_way_of (first_hop address) address ≡ true
goes_by address [] part one named some bytes is = absurd (true≢false (sym one))
goes_by address (site ∷ sites) part one named some bytes is =
    let names = and_parts (is_site_name site) (list_all is_site_name sites) named in
    let has : list_any is_bang address ≡ true = ap (list_any is_bang) (sym is ∙ joined_first site sites part) ∙ bang_behind site (joined sites part) in
    let first = slice_split_first is_bang address 0 (bang_within address has) in
    let rest : slice_split is_bang (rest_of address) ≡ slice_split is_bang (joined sites part) =
    ap behind_first (sym first ∙ ap (slice_split is_bang) (sym is) ∙ cut_first site sites part names.0) in
    and_from (same_text (first_hop address) (first_hop address) && list_any is_bang address) (are_steps (slice_split is_bang (rest_of address)))
    (and_from (same_text (first_hop address) (first_hop address)) (list_any is_bang address) (text_to (first_hop address)) has)
    (ap are_steps rest ∙ steps_of sites part names.1 some bytes)

pub by_path : (system address : List ℕ) → IsPathText address → first_hop address ≡ system → is_by_way_of system address ≡ true
by_path system address path begins =
    let it = path.path in
    let form = and_parts (nat_le 1 (length it.sites) && list_all (has_form is_site_byte) it.sites) (has_form is_local_byte it.local_part) path.form in
    let sites = and_parts (nat_le 1 (length it.sites)) (list_all (has_form is_site_byte) it.sites) form.0 in
    let part = and_parts (nat_le 1 (length it.local_part)) (list_all is_local_byte it.local_part) form.1 in
    let short = and_parts (list_all (λ site. nat_le (length site) most_name) it.sites) (nat_le (length (path_text it)) most_path) path.limits in
    ap (λ name. is_by_way_of name address) (sym begins)
    ∙ goes_by address it.sites it.local_part sites.0 (names_of it.sites sites.1 short.0) part.0 part.1 path.is_text
