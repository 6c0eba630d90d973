-- What the questions about routes ask of the texts that a spool keeps.
use Rattle.std.proofs.Common.{◌≡◌, ◌≢◌, Bool, Option, Result, ℕ, zero, suc, ◌+◌, ◌<◌, List, [], ◌∷◌, ◌++◌, All, Ok, Err, length, get_or, map, take, ap, sym, ◌∙◌, subst, arith, refl}
use Rattle.std.specs.Prelude.{IfOk, MatchResult}
use Rattle.std.specs.List.{AllZip, Contains}
use Rattle.std.proofs.lemmas.List.Elements.{All-head, All-tail}
use Rattle.uu_core.specs.State.{MapEntry}
use Rattle.uu_map.specs.Entry.{IsAnswer, IsEntry}
use Rattle.uu_map.specs.Text.{host_of}
use Rattle.uu_map.specs.declared.entry.Entry.{Entry}
use Rattle.uu_map.specs.declared.fault.MapFault.{MapFault}
use Rattle.uu_routes.specs.Site.{IsSiteAnswer}
use Rattle.uu_routes.specs.declared.fault.RouteFault.{RouteFault}
use Rattle.uu_routes.specs.declared.site.SiteRoute.{SiteRoute}
use Rattle.uuspool.specs.Routes.{IsRouted, IsRoutingShown}
use Rattle.uu_map.specs.declared.fault.MapFault.TheVariants.{NoName, BadHost, TooLarge, Memory}

-- a text that is kept can be read
pub texts_are_readable : (entries : List MapEntry) (text : List ℕ) (why : MapFault) {texts : List (List ℕ)} → All (λ entry. host_of entry.bytes ≡ Ok entry.host) entries
    → texts ≡ map (λ (entry : MapEntry). entry.bytes) entries → Contains texts text → host_of text ≡ Err why → ⊥
texts_are_readable entries text why {texts} hosts same (i, within, is) unreadable = go entries texts i hosts same within is
  where
    go : (entries : List MapEntry) (texts : List (List ℕ)) (i : ℕ) → All (λ entry. host_of entry.bytes ≡ Ok entry.host) entries → texts ≡ map (λ (entry : MapEntry). entry.bytes) entries
        → i < length texts → get_or texts i text ≡ text → ⊥
    go [] texts i hosts same within is = let none : length texts ≡ 0 = ap length same in absurd (omega (arith, none, within))
    go (entry ∷ entries) [] i hosts same within is = absurd (omega arith)
    go (entry ∷ entries) (t ∷ texts) zero hosts same within is =
        let first : t ≡ entry.bytes = cc in
        let read : host_of entry.bytes ≡ Ok entry.host = All-head (λ (e : MapEntry). host_of e.bytes ≡ Ok e.host) entry entries hosts in
        let bytes : text ≡ entry.bytes = sym is ∙ first in
        absurd cc
    go (entry ∷ entries) (t ∷ texts) (suc i) hosts same within is =
        let later : texts ≡ map (λ (entry : MapEntry). entry.bytes) entries = cc in
        go entries texts i (All-tail (λ (e : MapEntry). host_of e.bytes ≡ Ok e.host) entry entries hosts) later (omega arith) is

-- one more text is read
pub read_more : (texts : List (List ℕ)) (entries : List Entry) (i : ℕ) (text other : List ℕ) (entry : Entry) → i < length texts → text ≡ get_or texts i other → AllZip IsEntry (take i texts) entries → IsEntry text entry
    → AllZip IsEntry (take (i + 1) texts) (entries ++ entry ∷ [])
read_more texts entries i text other entry within at so_far is = let n : i + 1 ≡ suc i = omega arith in subst (λ m. AllZip IsEntry (take m texts) (entries ++ entry ∷ [])) (sym n) (go texts entries i within at so_far)
  where
    go : (texts : List (List ℕ)) (entries : List Entry) (i : ℕ) → i < length texts → text ≡ get_or texts i other → AllZip IsEntry (take i texts) entries → AllZip IsEntry (take (suc i) texts) (entries ++ entry ∷ [])
    go [] entries i within at so_far = absurd (omega arith)
    go (t ∷ texts) [] zero within at so_far = (subst (λ x. IsEntry x entry) at is, tt)
    go (t ∷ texts) (e ∷ entries) zero within at so_far = absurd so_far
    go (t ∷ texts) [] (suc i) within at so_far = absurd so_far
    go (t ∷ texts) (e ∷ entries) (suc i) within at so_far = (so_far.0, go texts entries i (omega arith) at so_far.1)

-- a text that can't be read is among them
at_any : (texts : List (List ℕ)) (i : ℕ) (one other : List ℕ) → i < length texts → get_or texts i one ≡ get_or texts i other
at_any [] i one other within = absurd (omega arith)
at_any (t ∷ texts) zero one other within = refl
at_any (t ∷ texts) (suc i) one other within = at_any texts i one other (omega arith)

pub unreadable : (texts : List (List ℕ)) (i : ℕ) (text other : List ℕ) (fault : MapFault) → i < length texts → text ≡ get_or texts i other → IsAnswer text (Err fault) → fault ≢ Memory
    → (x : List ℕ) × Contains texts x × (host_of x ≡ Err fault)
unreadable texts i text other NoName within at is named = (text, (i, within, at_any texts i text other within ∙ sym at), is)
unreadable texts i text other BadHost within at is named = (text, (i, within, at_any texts i text other within ∙ sym at), is)
unreadable texts i text other TooLarge within at is named = (text, (i, within, at_any texts i text other within ∙ sym at), is)
unreadable texts i text other Memory within at is named = absurd (named refl)

-- ---- what is printed

pub ok_of : {T E : Type 0} (r : Result T E) (P : T → Type 0) (Q : E → Type 0) (R : T → Type 0) → MatchResult r P Q → ((t : T) → P t → R t) → IfOk r R
ok_of (Ok t) P Q R is step = step t is
ok_of (Err e) P Q R is step = tt

pub routed : (entries given : List Entry) (own : List ℕ) (systems names : List (List ℕ)) (name : Option (List ℕ)) (costs : Bool) (found : Result (List SiteRoute) RouteFault) (output : List ℕ) (status : ℕ)
    → given ≡ entries → names ≡ systems → IsSiteAnswer given own names found → IsRoutingShown entries name costs found output status → IsRouted entries own systems name costs output status
routed entries given own systems names name costs found output status same_entries same_names answer shown = record {
  found = found;
  routes = subst (λ es. IsSiteAnswer es own systems found) same_entries (subst (λ ns. IsSiteAnswer given own ns found) same_names answer);
  shown = shown;
}
