-- A network is read exactly if the text is one.
use Rattle.std.proofs.Common.{◌≡◌, ℕ, Bool, true, false, not, cond, ◌==◌, List, [], ◌∷◌, ◌++◌, length, take, drop, Option, Some, None, option_map, option_and_then, refl, sym, ap, ◌∙◌, subst, arith}
use Rattle.std.specs.List.{prefix_len, position_or_len, list_all, AllZip}
use Rattle.std.specs.Prelude.{IsTrue}
use Rattle.std.specs.Str.{byte}
use Rattle.std.proofs.lemmas.Bool.Decides.{nat_tests}
use Rattle.std.proofs.lemmas.List.{take-append-drop}
use Rattle.std.proofs.lemmas.Option.{same_Some}
use Rattle.uu_names.specs.Name.{is_site_byte, is_site_name}
use Rattle.uu_names.specs.Text.{is_blank}
use Rattle.uu_names.proofs.Basics.{and_first, front_passes}
use Rattle.uu_map.specs.declared.entry.Cost.{Cost}
use Rattle.uu_map.specs.declared.entry.Network.{Network}
use Rattle.uu_map.specs.Network.{is_closing, is_plain, IsNetwork}
use Rattle.uu_map.specs.Statement.{all_blank, elements, IsMarkAtMost, IsCost, IsAlias}
use Rattle.uu_map.specs.Token.{begins, tokens}
use Rattle.uu_map.specs.Internal.StatementReading.{skip, skip_mark, cost_behind, site_name, alias_of, list_of, is_equals}
use Rattle.uu_map.specs.Internal.NetworkReading.{is_opening, behind_byte, if_plain, if_all_plain, network_name, sites_of, said_in, said_from, said_after, said_behind, network_of}
use Rattle.uu_map.proofs.LinkTexts.{skip_front, take-front, blank_is_no_site_byte, mark_is_not_blank, name_passes, front_mark, behind_mark, site_name_is, cost_begins, cost_tokens, cost_is_read}
use Rattle.uu_map.proofs.StatementTexts.{aliases_are, aliases_are_read, equals_is}

-- ---- answers

and_then_is : {X Y : Type 0} → (f : X → Option Y) (o : Option X) (y : Y) → option_and_then f o ≡ Some y → (x : X) × ((o ≡ Some x) × (f x ≡ Some y))
and_then_is f None y e = absurd cc
and_then_is f (Some x) y e = (x, (refl, e))

behind_is : (p : ℕ → Bool) (text rest : List ℕ) → behind_byte p text ≡ Some rest → (b : ℕ) × ((p b ≡ true) × (text ≡ b ∷ rest))
behind_is p [] rest e = absurd cc
behind_is p (b ∷ bs) rest e = go (p b) refl e
  where
    go : (t : Bool) → p b ≡ t → cond t (Some bs) None ≡ Some rest → (c : ℕ) × ((p c ≡ true) × (b ∷ bs ≡ c ∷ rest))
    go true f h = (b, (f, ap (λ z. b ∷ z) (same_Some bs rest h)))
    go false f h = absurd cc

opening_is : (b : ℕ) → is_opening b ≡ true → b ≡ byte "{"
opening_is b h = grind (arith, nat_tests)

closing_is : (b : ℕ) → is_closing b ≡ true → b ≡ byte "}"
closing_is b h = grind (arith, nat_tests)

if_plain_is : (found name : List ℕ) → if_plain found ≡ Some name → (found ≡ name) × IsTrue (is_plain name)
if_plain_is found name e = go (is_plain found) refl e
  where
    go : (t : Bool) → is_plain found ≡ t → cond t (Some found) None ≡ Some name → (found ≡ name) × IsTrue (is_plain name)
    go true f h = let same : found ≡ name = same_Some found name h in (same, ap is_plain (sym same) ∙ f)
    go false f h = absurd cc

all_plain_is : (found sites : List (List ℕ)) → if_all_plain found ≡ Some sites → (found ≡ sites) × IsTrue (list_all is_plain sites)
all_plain_is found sites e = go (list_all is_plain found) refl e
  where
    go : (t : Bool) → list_all is_plain found ≡ t → cond t (Some found) None ≡ Some sites → (found ≡ sites) × IsTrue (list_all is_plain sites)
    go true f h = let same : found ≡ sites = same_Some found sites h in (same, ap (list_all is_plain) (sym same) ∙ f)
    go false f h = absurd cc

-- ---- what is read is a network

name_is : (text name : List ℕ) → network_name text ≡ Some name → IsTrue (is_site_name name) × IsTrue (is_plain name) × (take (prefix_len is_site_byte text) text ≡ name)
unfolding network_name
name_is text name e =
    let (found, (ef, ep)) = and_then_is if_plain (site_name (take (prefix_len is_site_byte text) text)) name e in
    let (same, plain) = if_plain_is found name ep in
    let (good, front) = site_name_is (take (prefix_len is_site_byte text) text) found ef in
    (ap is_site_name (sym same) ∙ good, plain, front ∙ same)

sites_are : (list : List ℕ) (sites : List (List ℕ)) → sites_of list ≡ Some sites → AllZip IsAlias (elements list) sites × IsTrue (list_all is_plain sites)
unfolding sites_of
sites_are list sites e =
    let (found, (ef, ep)) = and_then_is if_all_plain (list_of alias_of list) sites e in
    let (same, plain) = all_plain_is found sites ep in
    (subst (λ (xs : List (List ℕ)). AllZip IsAlias (elements list) xs) same (aliases_are list found ef), plain)

record IsSaidIn (name list text : List ℕ) (n : Network) : Type 0 where
  named : n.name ≡ name
  sites : AllZip IsAlias (elements list) n.sites
  plain : IsTrue (list_all is_plain n.sites)
  back : List ℕ
  behind : List ℕ
  written : text ≡ back ++ behind
  mark : IsMarkAtMost back
  cost : IsCost behind n.cost

abbrev made : List ℕ → List (List ℕ) → Cost → Network
made name sites cost = record { name = name; sites = sites; cost = cost }

said_in_is : (name list text : List ℕ) (n : Network) → said_in name list text ≡ Some n → IsSaidIn name list text n
unfolding said_in
said_in_is name list text n e =
    let (sites, (es, e1)) = and_then_is (λ sites. option_map (made name sites) (cost_behind (tokens (skip_mark text)))) (sites_of list) n e in
    go sites es (cost_behind (tokens (skip_mark text))) refl e1
  where
    go : (sites : List (List ℕ)) → sites_of list ≡ Some sites → (c : Option Cost) → cost_behind (tokens (skip_mark text)) ≡ c → option_map (made name sites) c ≡ Some n → IsSaidIn name list text n
    go sites es None ec h = absurd cc
    go sites es (Some cost) ec h =
        let is : made name sites cost ≡ n = same_Some (made name sites cost) n h in
        let (all, plain) = sites_are list sites es in
        let (back, mark, written) = front_mark text in
        let same : sites ≡ n.sites = ap (λ (x : Network). x.sites) is in
        record {
          named = sym (ap (λ (x : Network). x.name) is);
          sites = subst (λ (xs : List (List ℕ)). AllZip IsAlias (elements list) xs) same all;
          plain = subst (λ (xs : List (List ℕ)). IsTrue (list_all is_plain xs)) same plain;
          back = back;
          behind = skip_mark text;
          written = written;
          mark = mark;
          cost = subst (λ (c : Cost). IsCost (skip_mark text) c) (ap (λ (x : Network). x.cost) is) (cost_tokens (skip_mark text) cost (tokens (skip_mark text)) refl ec);
        }

record IsSaidFrom (name text : List ℕ) (n : Network) : Type 0 where
  list : List ℕ
  rest : List ℕ
  written : text ≡ list ++ (byte "}" ∷ rest)
  within : IsTrue (list_all (λ b. not (is_closing b)) list)
  said : IsSaidIn name list rest n

said_from_is : (name text : List ℕ) (n : Network) → said_from name text ≡ Some n → IsSaidFrom name text n
unfolding said_from
said_from_is name text n e =
    let (rest, (eb, e1)) = and_then_is (λ behind. said_in name (take (position_or_len is_closing text) text) behind) (behind_byte is_closing (drop (position_or_len is_closing text) text)) n e in
    let (b, (is, split)) = behind_is is_closing (drop (position_or_len is_closing text) text) rest eb in
    record {
      list = take (position_or_len is_closing text) text;
      rest = rest;
      written = sym (take-append-drop (position_or_len is_closing text) text) ∙ ap (λ r. take (position_or_len is_closing text) text ++ r) (split ∙ ap (λ c. c ∷ rest) (closing_is b is));
      within = front_passes (λ b. not (is_closing b)) text;
      said = said_in_is name (take (position_or_len is_closing text) text) rest n e1;
    }

record IsSaidAfter (name text : List ℕ) (n : Network) : Type 0 where
  blanks : List ℕ
  front : List ℕ
  rest : List ℕ
  written : text ≡ blanks ++ (front ++ (byte "{" ∷ rest))
  before : IsTrue (all_blank blanks)
  mark : IsMarkAtMost front
  said : IsSaidFrom name rest n

said_after_is : (name text : List ℕ) (n : Network) → said_after name text ≡ Some n → IsSaidAfter name text n
unfolding said_after
said_after_is name text n e =
    let (rest, (eb, e1)) = and_then_is (said_from name) (behind_byte is_opening (skip_mark (skip is_blank text))) n e in
    let (b, (is, split)) = behind_is is_opening (skip_mark (skip is_blank text)) rest eb in
    let (front, mark, ef) = front_mark (skip is_blank text) in
    record {
      blanks = take (prefix_len is_blank text) text;
      front = front;
      rest = rest;
      written = sym (take-append-drop (prefix_len is_blank text) text) ∙ ap (λ r. take (prefix_len is_blank text) text ++ r) (ef ∙ ap (λ r. front ++ r) (split ∙ ap (λ c. c ∷ rest) (opening_is b is)));
      before = front_passes is_blank text;
      mark = mark;
      said = said_from_is name rest n e1;
    }

record IsSaidBehind (name text : List ℕ) (n : Network) : Type 0 where
  gap : List ℕ
  rest : List ℕ
  written : text ≡ gap ++ (byte "=" ∷ rest)
  before : IsTrue (all_blank gap)
  said : IsSaidAfter name rest n

said_behind_is : (name text : List ℕ) (n : Network) → said_behind name text ≡ Some n → IsSaidBehind name text n
unfolding said_behind
said_behind_is name text n e =
    let (rest, (eb, e1)) = and_then_is (said_after name) (behind_byte is_equals (skip is_blank text)) n e in
    let (b, (is, split)) = behind_is is_equals (skip is_blank text) rest eb in
    record {
      gap = take (prefix_len is_blank text) text;
      rest = rest;
      written = sym (take-append-drop (prefix_len is_blank text) text) ∙ ap (λ r. take (prefix_len is_blank text) text ++ r) (split ∙ ap (λ c. c ∷ rest) (equals_is b is));
      before = front_passes is_blank text;
      said = said_after_is name rest n e1;
    }

pub network_is : (text : List ℕ) (n : Network) → network_of text ≡ Some n → IsNetwork text n
unfolding network_of
network_is text n e =
    let (name, (en, e1)) = and_then_is (λ name. said_behind name (skip is_site_byte text)) (network_name text) n e in
    let (good, plain, front) = name_is text name en in
    let behind : IsSaidBehind name (skip is_site_byte text) n = said_behind_is name (skip is_site_byte text) n e1 in
    let after : IsSaidAfter name behind.rest n = behind.said in
    let from : IsSaidFrom name after.rest n = after.said in
    let last : IsSaidIn name from.list from.rest n = from.said in
    record {
      gap = behind.gap;
      blanks = after.blanks;
      front = after.front;
      list = from.list;
      back = last.back;
      behind = last.behind;
      written = sym (take-append-drop (prefix_len is_site_byte text) text)
          ∙ (ap (λ x. x ++ skip is_site_byte text) (front ∙ sym last.named)
          ∙ ap (λ r. n.name ++ r) (behind.written
          ∙ ap (λ r. behind.gap ++ (byte "=" ∷ r)) (after.written
          ∙ ap (λ r. after.blanks ++ (after.front ++ (byte "{" ∷ r))) (from.written
          ∙ ap (λ r. from.list ++ (byte "}" ∷ r)) last.written))));
      name = ap is_site_name last.named ∙ good;
      plain_name = ap is_plain last.named ∙ plain;
      before_equals = behind.before;
      after_equals = after.before;
      front_mark = after.mark;
      within = from.within;
      sites = last.sites;
      plain_sites = last.plain;
      back_mark = last.mark;
      cost = last.cost;
    }

-- ---- a network is read as it is

gap_stops : (gap rest : List ℕ) → all_blank gap ≡ true → begins is_site_byte (gap ++ (byte "=" ∷ rest)) ≡ false
gap_stops [] rest h = refl
gap_stops (b ∷ gap) rest h = blank_is_no_site_byte b (and_first (is_blank b) (all_blank gap) h)

front_stops : (front rest : List ℕ) → IsMarkAtMost front → begins is_blank (front ++ (byte "{" ∷ rest)) ≡ false
front_stops [] rest m = refl
front_stops (b ∷ []) rest m = mark_is_not_blank b m
front_stops (b ∷ c ∷ front) rest m = absurd m

name_is_read : (name rest : List ℕ) → IsTrue (is_site_name name) → IsTrue (is_plain name) → begins is_site_byte rest ≡ false → network_name (name ++ rest) ≡ Some name
unfolding network_name
name_is_read name rest good plain stops =
    ap (λ t. option_and_then if_plain (site_name t)) (take-front is_site_byte name rest (name_passes name good) stops)
    ∙ (ap (λ b. option_and_then if_plain (cond b (Some name) None)) good
    ∙ ap (λ b. cond b (Some name) None) plain)

sites_are_read : (list : List ℕ) (sites : List (List ℕ)) → AllZip IsAlias (elements list) sites → IsTrue (list_all is_plain sites) → sites_of list ≡ Some sites
unfolding sites_of
sites_are_read list sites all plain =
    ap (option_and_then if_all_plain) (aliases_are_read list sites all)
    ∙ ap (λ b. cond b (Some sites) None) plain

said_in_is_read : (n : Network) (list back behind : List ℕ) → AllZip IsAlias (elements list) n.sites → IsTrue (list_all is_plain n.sites) → IsMarkAtMost back → IsCost behind n.cost → said_in n.name list (back ++ behind) ≡ Some n
unfolding said_in
said_in_is_read n list back behind sites plain mark cost =
    ap (option_and_then (λ sites. option_map (made n.name sites) (cost_behind (tokens (skip_mark (back ++ behind)))))) (sites_are_read list n.sites sites plain)
    ∙ (ap (λ t. option_map (made n.name n.sites) (cost_behind (tokens t))) (behind_mark back behind mark (cost_begins behind n.cost cost).no_mark)
    ∙ ap (option_map (made n.name n.sites)) (cost_is_read behind n.cost cost))

said_from_is_read : (n : Network) (list rest : List ℕ) → IsTrue (list_all (λ b. not (is_closing b)) list) → said_in n.name list rest ≡ Some n → said_from n.name (list ++ (byte "}" ∷ rest)) ≡ Some n
unfolding said_from
said_from_is_read n list rest within said =
    ap (λ t. option_and_then (λ behind. said_in n.name (take (position_or_len is_closing (list ++ (byte "}" ∷ rest))) (list ++ (byte "}" ∷ rest))) behind) (behind_byte is_closing t)) (skip_front (λ b. not (is_closing b)) list (byte "}" ∷ rest) within refl)
    ∙ (ap (λ t. said_in n.name t rest) (take-front (λ b. not (is_closing b)) list (byte "}" ∷ rest) within refl)
    ∙ said)

said_after_is_read : (n : Network) (blanks front rest : List ℕ) → IsTrue (all_blank blanks) → IsMarkAtMost front → said_from n.name rest ≡ Some n → said_after n.name (blanks ++ (front ++ (byte "{" ∷ rest))) ≡ Some n
unfolding said_after
said_after_is_read n blanks front rest before mark said =
    ap (λ t. option_and_then (said_from n.name) (behind_byte is_opening (skip_mark t))) (skip_front is_blank blanks (front ++ (byte "{" ∷ rest)) before (front_stops front rest mark))
    ∙ (ap (λ t. option_and_then (said_from n.name) (behind_byte is_opening t)) (behind_mark front (byte "{" ∷ rest) mark refl)
    ∙ said)

said_behind_is_read : (n : Network) (gap rest : List ℕ) → IsTrue (all_blank gap) → said_after n.name rest ≡ Some n → said_behind n.name (gap ++ (byte "=" ∷ rest)) ≡ Some n
unfolding said_behind
said_behind_is_read n gap rest before said =
    ap (λ t. option_and_then (said_after n.name) (behind_byte is_equals t)) (skip_front is_blank gap (byte "=" ∷ rest) before refl) ∙ said

pub network_is_read : (text : List ℕ) (n : Network) → IsNetwork text n → network_of text ≡ Some n
unfolding network_of
network_is_read text n it =
    let list_text : List ℕ = it.list ++ (byte "}" ∷ (it.back ++ it.behind)) in
    let braced : List ℕ = it.blanks ++ (it.front ++ (byte "{" ∷ (it.list ++ (byte "}" ∷ (it.back ++ it.behind))))) in
    let stops = gap_stops it.gap braced it.before_equals in
    ap (λ t. option_and_then (λ name. said_behind name (skip is_site_byte t)) (network_name t)) it.written
    ∙ (ap (option_and_then (λ name. said_behind name (skip is_site_byte (n.name ++ (it.gap ++ (byte "=" ∷ braced)))))) (name_is_read n.name (it.gap ++ (byte "=" ∷ braced)) it.name it.plain_name stops)
    ∙ (ap (said_behind n.name) (skip_front is_site_byte n.name (it.gap ++ (byte "=" ∷ braced)) (name_passes n.name it.name) stops)
    ∙ said_behind_is_read n it.gap braced it.before_equals
    (said_after_is_read n it.blanks it.front list_text it.after_equals it.front_mark
    (said_from_is_read n it.list (it.back ++ it.behind) it.within
    (said_in_is_read n it.list it.back it.behind it.sites it.plain_sites it.back_mark it.cost)))))
