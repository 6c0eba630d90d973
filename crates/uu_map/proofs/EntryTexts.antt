-- What an entry's statements say is the one entry of the text.
use Rattle.std.proofs.Common.{◌≡◌, ℕ, ◌⊎◌, List, [], ◌∷◌, ◌++◌, map, Option, Some, None, Result, Ok, refl, sym, ap, ◌∙◌, subst, inl, inr}
use Rattle.std.specs.declared.cmp.Ordering.TheVariants.{Less, Equal, Greater}
use Rattle.std.specs.Ordering.{ordering_reverse}
use Rattle.std.specs.Cmp.{IsTotalOrder}
use Rattle.std.specs.List.{AllZip, AllByRecursion, flat_map}
use Rattle.std.specs.List.Sorted.{IsStrictlySortedBy}
use Rattle.std.proofs.lemmas.Cmp.{nat_list_cmp_total, then_total, on_total, tied_itself}
use Rattle.uu_map.specs.declared.entry.Link.{Link}
use Rattle.uu_map.specs.declared.entry.Entry.{Entry}
use Rattle.uu_map.specs.declared.fault.MapFault.{MapFault}
use Rattle.uu_map.specs.declared.entry.Network.{Network}
use Rattle.uu_map.specs.Network.{IsNetwork}
use Rattle.uu_map.specs.Statement.{Meaning, IsStatement}
use Rattle.uu_map.specs.Internal.NetworkReading.{network_of}
use Rattle.uu_map.specs.Internal.StatementReading.{statement_of}
use Rattle.uu_map.specs.Text.{Numbered, host_of, statements_of}
use Rattle.uu_map.specs.Listing.{listing_cmp, IsListing}
use Rattle.uu_map.specs.Entry.{Parsed, kept, networked, left_out, IsParsed, aliases_in, links_in, networks_in, skipped_lines, IsEntry}
use Rattle.uu_map.specs.Internal.Parsing.{parsed_by, parsed_as, of_one, all_said, Says}
use Rattle.uu_map.proofs.LeastCosts.{cost_total, In, in_from_contains, contains_from_in}
use Rattle.uu_map.proofs.NetworkTexts.{network_is, network_is_read}
use Rattle.uu_map.proofs.StatementTexts.{statement_is, statement_is_read}

-- ---- each statement

abbrev all_parsed : List ℕ → List Numbered → List Parsed
all_parsed host ss = map (λ s. parsed_as host s.text) ss

no_statement : (host text : List ℕ) → statement_of host text ≡ None → (m : Meaning) → IsStatement host text m → ⊥
no_statement host text e m is = let impossible : None ≡ Some m = sym e ∙ statement_is_read host text m is in cc

no_network : (text : List ℕ) → network_of text ≡ None → (n : Network) → IsNetwork text n → ⊥
no_network text e n is = let impossible : None ≡ Some n = sym e ∙ network_is_read text n is in cc

parsed_one : (host : List ℕ) (s : Numbered) (o : Option Meaning) (p : Option Network) → statement_of host s.text ≡ o → network_of s.text ≡ p → IsParsed host s (parsed_by o p)
parsed_one host s (Some m) p eo ep = statement_is host s.text m eo
parsed_one host s None (Some n) eo ep = (no_statement host s.text eo, network_is s.text n ep)
parsed_one host s None None eo ep = (no_statement host s.text eo, no_network s.text ep)

each_parsed : (host : List ℕ) (ss : List Numbered) → AllZip (IsParsed host) ss (all_parsed host ss)
each_parsed host [] = tt
each_parsed host (s ∷ ss) = (parsed_one host s (statement_of host s.text) (network_of s.text) refl refl, each_parsed host ss)

unread : (host text : List ℕ) → ((m : Meaning) → IsStatement host text m → ⊥) → statement_of host text ≡ None
unread host text nothing = go (statement_of host text) refl
  where
    go : (o : Option Meaning) → statement_of host text ≡ o → o ≡ None
    go None e = refl
    go (Some m) e = absurd (nothing m (statement_is host text m e))

unread_network : (text : List ℕ) → ((n : Network) → IsNetwork text n → ⊥) → network_of text ≡ None
unread_network text nothing = go (network_of text) refl
  where
    go : (o : Option Network) → network_of text ≡ o → o ≡ None
    go None e = refl
    go (Some n) e = absurd (nothing n (network_is text n e))

parsed_so : (host : List ℕ) (s : Numbered) (p : Parsed) → IsParsed host s p → p ≡ parsed_as host s.text
parsed_so host s (kept m) is = sym (ap (λ o. parsed_by o (network_of s.text)) (statement_is_read host s.text m is))
parsed_so host s (networked n) (nothing, is) = sym (ap (λ o. parsed_by o (network_of s.text)) (unread host s.text nothing) ∙ ap (parsed_by None) (network_is_read s.text n is))
parsed_so host s left_out (nothing, none) = sym (ap (λ o. parsed_by o (network_of s.text)) (unread host s.text nothing) ∙ ap (parsed_by None) (unread_network s.text none))

parsed_once : (host : List ℕ) (ss : List Numbered) (ps : List Parsed) → AllZip (IsParsed host) ss ps → ps ≡ all_parsed host ss
parsed_once host [] [] h = refl
parsed_once host [] (p ∷ ps) h = absurd h
parsed_once host (s ∷ ss) [] h = absurd h
parsed_once host (s ∷ ss) (p ∷ ps) h = ap (λ q. q ∷ ps) (parsed_so host s p h.0) ∙ ap (λ qs. parsed_as host s.text ∷ qs) (parsed_once host ss ps h.1)

-- ---- all statements

aliases_of_one : (line : ℕ) (p : Parsed) → (of_one line p).aliases ≡ aliases_in p
aliases_of_one line (kept m) = refl
aliases_of_one line (networked n) = refl
aliases_of_one line left_out = refl

links_of_one : (line : ℕ) (p : Parsed) → (of_one line p).links ≡ links_in p
links_of_one line (kept m) = refl
links_of_one line (networked n) = refl
links_of_one line left_out = refl

networks_of_one : (line : ℕ) (p : Parsed) → (of_one line p).networks ≡ networks_in p
networks_of_one line (kept m) = refl
networks_of_one line (networked n) = refl
networks_of_one line left_out = refl

said_aliases : (host : List ℕ) (ss : List Numbered) → (all_said host ss).aliases ≡ flat_map aliases_in (all_parsed host ss)
said_aliases host [] = refl
said_aliases host (s ∷ ss) = ap (λ a. a ++ (all_said host ss).aliases) (aliases_of_one s.line (parsed_as host s.text)) ∙ ap (λ r. aliases_in (parsed_as host s.text) ++ r) (said_aliases host ss)

said_links : (host : List ℕ) (ss : List Numbered) → (all_said host ss).links ≡ flat_map links_in (all_parsed host ss)
said_links host [] = refl
said_links host (s ∷ ss) = ap (λ a. a ++ (all_said host ss).links) (links_of_one s.line (parsed_as host s.text)) ∙ ap (λ r. links_in (parsed_as host s.text) ++ r) (said_links host ss)

said_networks : (host : List ℕ) (ss : List Numbered) → (all_said host ss).networks ≡ flat_map networks_in (all_parsed host ss)
said_networks host [] = refl
said_networks host (s ∷ ss) = ap (λ a. a ++ (all_said host ss).networks) (networks_of_one s.line (parsed_as host s.text)) ∙ ap (λ r. networks_in (parsed_as host s.text) ++ r) (said_networks host ss)

skipped_more : (s : Numbered) (ss : List Numbered) (p : Parsed) (ps : List Parsed) (rest : List ℕ) → rest ≡ skipped_lines ss ps → (of_one s.line p).skipped ++ rest ≡ skipped_lines (s ∷ ss) (p ∷ ps)
skipped_more s ss (kept m) ps rest e = e
skipped_more s ss (networked n) ps rest e = e
skipped_more s ss left_out ps rest e = ap (λ r. s.line ∷ r) e

said_skipped : (host : List ℕ) (ss : List Numbered) → (all_said host ss).skipped ≡ skipped_lines ss (all_parsed host ss)
said_skipped host [] = refl
said_skipped host (s ∷ ss) = skipped_more s ss (parsed_as host s.text) (all_parsed host ss) (all_said host ss).skipped (said_skipped host ss)

-- what the text says about the host that it names is the entry of the text
pub entry_is : (text host : List ℕ) (entry : Entry) → Ok host ≡ host_of text → Says (all_said host (statements_of text)) host entry → IsEntry text entry
entry_is text host entry eh says = record {
  parsed = all_parsed host (statements_of text);
  host = sym eh ∙ ap Ok (sym says.host_is);
  each = subst (λ (h : List ℕ). AllZip (IsParsed h) (statements_of text) (all_parsed host (statements_of text))) (sym says.host_is) (each_parsed host (statements_of text));
  aliases = says.aliases ∙ said_aliases host (statements_of text);
  links = subst (λ (ls : List Link). IsListing ls entry.links) (said_links host (statements_of text)) says.links;
  networks = says.networks ∙ said_networks host (statements_of text);
  skipped = says.skipped ∙ said_skipped host (statements_of text);
}

-- ---- one listing

listing_total : IsTotalOrder listing_cmp
listing_total = then_total (on_total (λ (l : Link). l.cost) cost_total) (on_total (λ (l : Link). l.to) nat_list_cmp_total)

not_both : (x y : Link) → listing_cmp x y ≡ Less → listing_cmp y x ≡ Less → ⊥
not_both x y p q = let turned : Less ≡ Greater = sym p ∙ (listing_total.antisymm x y ∙ ap ordering_reverse q) in cc

not_below_itself : (x : Link) → listing_cmp x x ≡ Less → ⊥
not_below_itself x p = let tied : Equal ≡ Less = sym (tied_itself listing_total x) ∙ p in cc

below_all : (x : Link) (ys : List Link) (l : Link) → AllByRecursion (λ y. listing_cmp x y ≡ Less) ys → In ys l → listing_cmp x l ≡ Less
below_all x [] l h i = absurd i
below_all x (y ∷ ys) l h (inl e) = subst (λ (w : Link). listing_cmp x w ≡ Less) e h.0
below_all x (y ∷ ys) l h (inr i) = below_all x ys l h.1 i

tail_in : (x y l : Link) (xs ys : List Link) → x ≡ y → AllByRecursion (λ z. listing_cmp x z ≡ Less) xs → ((m : Link) → In (x ∷ xs) m → In (y ∷ ys) m) → In xs l → In ys l
tail_in x y l xs ys e below into i = go (into l (inr i))
  where
    go : (y ≡ l) ⊎ In ys l → In ys l
    go (inl f) = absurd (not_below_itself x (subst (λ (w : Link). listing_cmp x w ≡ Less) (sym (e ∙ f)) (below_all x xs l below i)))
    go (inr j) = j

heads_same : (x y : Link) (xs ys : List Link) → AllByRecursion (λ z. listing_cmp x z ≡ Less) xs → AllByRecursion (λ z. listing_cmp y z ≡ Less) ys → (y ≡ x) ⊎ In ys x → (x ≡ y) ⊎ In xs y → x ≡ y
heads_same x y xs ys bx by (inl e) j = sym e
heads_same x y xs ys bx by (inr i) (inl f) = f
heads_same x y xs ys bx by (inr i) (inr j) = absurd (not_both x y (below_all x xs y bx j) (below_all y ys x by i))

same_members : (xs ys : List Link) → IsStrictlySortedBy listing_cmp xs → IsStrictlySortedBy listing_cmp ys → ((l : Link) → In xs l → In ys l) → ((l : Link) → In ys l → In xs l) → xs ≡ ys
unfolding IsStrictlySortedBy
same_members [] [] sx sy into back = refl
same_members [] (y ∷ ys) sx sy into back = absurd (back y (inl refl))
same_members (x ∷ xs) [] sx sy into back = absurd (into x (inl refl))
same_members (x ∷ xs) (y ∷ ys) sx sy into back =
    let e : x ≡ y = heads_same x y xs ys sx.0 sy.0 (into x (inl refl)) (back y (inl refl)) in
    ap (λ z. z ∷ xs) e ∙ ap (λ zs. y ∷ zs) (same_members xs ys sx.1 sy.1 (λ l i. tail_in x y l xs ys e sx.0 into i) (λ l i. tail_in y x l ys xs (sym e) sy.0 back i))

one_listing : (links a b : List Link) → IsListing links a → IsListing links b → a ≡ b
one_listing links a b la lb =
    same_members a b la.in_order lb.in_order
    (λ l i. let (k, h, e) = (lb.least l).1 ((la.least l).0 (contains_from_in a l i)) in in_from_contains b l k h e)
    (λ l i. let (k, h, e) = (la.least l).1 ((lb.least l).0 (contains_from_in b l i)) in in_from_contains a l k h e)

ok_same : (x y : List ℕ) → (let r : Result (List ℕ) MapFault = Ok x in r) ≡ Ok y → x ≡ y
ok_same x y e = cc

-- a text has one entry
pub one_entry : (text : List ℕ) (a b : Entry) → IsEntry text a → IsEntry text b → a ≡ b
one_entry text a b ea eb =
    let hosts : a.host ≡ b.host = ok_same a.host b.host (sym ea.host ∙ eb.host) in
    let ss : List Numbered = statements_of text in
    let same : ea.parsed ≡ eb.parsed = parsed_once a.host ss ea.parsed ea.each ∙ (ap (λ h. all_parsed h ss) hosts ∙ sym (parsed_once b.host ss eb.parsed eb.each)) in
    let aliases : a.aliases ≡ b.aliases = ea.aliases ∙ (ap (flat_map aliases_in) same ∙ sym eb.aliases) in
    let skipped : a.skipped ≡ b.skipped = ea.skipped ∙ (ap (skipped_lines ss) same ∙ sym eb.skipped) in
    let links : a.links ≡ b.links = one_listing (flat_map links_in eb.parsed) a.links b.links (subst (λ (ps : List Parsed). IsListing (flat_map links_in ps) a.links) same ea.links) eb.links in
    let networks : a.networks ≡ b.networks = ea.networks ∙ (ap (flat_map networks_in) same ∙ sym eb.networks) in
    ap (λ (h : List ℕ). let e : Entry = record { host = h; aliases = a.aliases; links = a.links; networks = a.networks; skipped = a.skipped } in e) hosts
    ∙ (ap (λ (x : List (List ℕ)). let e : Entry = record { host = b.host; aliases = x; links = a.links; networks = a.networks; skipped = a.skipped } in e) aliases
    ∙ (ap (λ (x : List Link). let e : Entry = record { host = b.host; aliases = b.aliases; links = x; networks = a.networks; skipped = a.skipped } in e) links
    ∙ (ap (λ (x : List Network). let e : Entry = record { host = b.host; aliases = b.aliases; links = b.links; networks = x; skipped = a.skipped } in e) networks
    ∙ ap (λ (x : List ℕ). let e : Entry = record { host = b.host; aliases = b.aliases; links = b.links; networks = b.networks; skipped = x } in e) skipped)))
