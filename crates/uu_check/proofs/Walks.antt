-- Rows that a walk accepts are those of a list of items, each with one row and the rows that belong
-- to it.
use Rattle.std.proofs.Common.{◌≡◌, suc, ◌+◌, Bool, true, false, cond, ◌==◌, List, [], ◌∷◌, ◌++◌, map, length, take, drop, refl, sym, ap, subst, ◌∙◌, arith}
use Rattle.std.specs.List.{AllByRecursion, prefix_len, flat_map}
use Rattle.std.proofs.lemmas.Bool.{and_parts}
use Rattle.std.proofs.lemmas.Bool.Decides.{nat_tests}
use Rattle.std.proofs.Math.Seq.{take-append_seam, drop-append_seam}
use Rattle.std.proofs.lemmas.List.{take-append-drop, take-map, drop-map, length-map}
use Rattle.uu_names.proofs.Basics.{all_flat, AllPairsByRecursion}
use Rattle.uu_check.specs.Walk.{walk}

pub is_nil : {X : Type 0} (xs : List X) → (length xs == 0) ≡ true → xs ≡ []
is_nil [] h = refl
is_nil (x ∷ xs) h = absurd (let e : length (x ∷ xs) ≡ 0 = grind (arith, nat_tests, h) in omega (arith, e))

-- the own part at the beginning is a list of its own children, if the rest begins with another
-- child
pub own_front : {C : Type 0} (p : C → Bool) (own rest : List C) → AllByRecursion (λ c. p c ≡ true) own → AllByRecursion (λ c. p c ≡ false) rest → prefix_len p (own ++ rest) ≡ length own
own_front p [] [] all none = refl
own_front p [] (c ∷ rest) all none = rw none.0 refl
own_front p (c ∷ own) rest all none = rw (all.0, own_front p own rest all.1 none) (omega arith)

-- what is taken so far is own
own_take : {C : Type 0} (p : C → Bool) (cs : List C) → AllByRecursion (λ c. p c ≡ true) (take (prefix_len p cs) cs)
own_take p [] = tt
own_take p (c ∷ cs) = go (p c) refl (own_take p cs)
  where
    go : (t : Bool) → p c ≡ t → AllByRecursion (λ c. p c ≡ true) (take (prefix_len p cs) cs) → AllByRecursion (λ c. p c ≡ true) (take (cond t (1 + prefix_len p cs) 0) (c ∷ cs))
    go false h more = tt
    go true h more = let n : suc (prefix_len p cs) ≡ 1 + prefix_len p cs = omega arith in subst (λ n. AllByRecursion (λ c. p c ≡ true) (take n (c ∷ cs))) n (h, more)

module _ {X P C : Type 0} (owns : P → C → Bool) (fits : P → List C → Bool) (head : X → P) (kids : X → List C) (Good : X → Type 0) where
  -- the items whose rows these are
  pub record Items (ps : List P) (cs : List C) : Type 0 where
    pub items : List X
    pub good : AllByRecursion Good items
    pub heads : map head items ≡ ps
    pub children : flat_map kids items ≡ cs

  -- an item whose rows these are
  pub record Item (p : P) (cs : List C) : Type 0 where
    pub item : X
    pub good : Good item
    pub row : head item ≡ p
    pub children : kids item ≡ cs

  pub items_of : ((p : P) (cs : List C) → AllByRecursion (λ c. owns p c ≡ true) cs → fits p cs ≡ true → Item p cs) → (ps : List P) (cs : List C) → walk owns fits ps cs ≡ true → Items ps cs
  items_of one [] cs h = record { items = []; good = tt; heads = refl; children = sym (is_nil cs h) }
  items_of one (p ∷ ps) cs h =
      let n = prefix_len (owns p) cs in
      let parts = and_parts (fits p (take n cs)) (walk owns fits ps (drop n cs)) h in
      let first = one p (take n cs) (own_take (owns p) cs) parts.0 in
      let more = items_of one ps (drop n cs) parts.1 in
      record {
        items = first.item ∷ more.items;
        good = (first.good, more.good);
        heads = λ i. first.row i ∷ more.heads i;
        children = (λ i. first.children i ++ more.children i) ∙ take-append-drop n cs;
      }

  -- the children of an item are its own, and no later item's are
  abbrev pub Apart : X → X → Type 0
  Apart x y = AllByRecursion (λ c. owns (head x) c ≡ false) (kids y)

  pub walked : ((x : X) → Good x → fits (head x) (kids x) ≡ true) → ((x : X) → AllByRecursion (λ c. owns (head x) c ≡ true) (kids x)) → (xs : List X) → AllByRecursion Good xs → AllPairsByRecursion Apart xs
      → walk owns fits (map head xs) (flat_map kids xs) ≡ true
  walked fit own [] good apart = refl
  walked fit own (x ∷ xs) good apart =
      let rest = flat_map kids xs in
      let n = own_front (owns (head x)) (kids x) rest (own x) (all_flat _ kids xs apart.0) in
      rw (n, take-append_seam (kids x) rest, drop-append_seam (kids x) rest, fit x good.0) (walked fit own xs good.1 apart.1)

-- a walk over mapped children
pub walk_mapped : {P C D : Type 0} (owns : P → D → Bool) (fits : P → List D → Bool) (f : C → D) (ps : List P) (cs : List C)
    → walk owns fits ps (map f cs) ≡ walk (λ p c. owns p (f c)) (λ p l. fits p (map f l)) ps cs
walk_mapped owns fits f [] cs = ap (λ n. n == 0) (length-map cs f)
walk_mapped owns fits f (p ∷ ps) cs =
    let n = prefix_len (λ c. owns p (f c)) cs in
    rw (prefix f (owns p) cs, take-map f n cs, drop-map f n cs, walk_mapped owns fits f ps (drop n cs)) refl
  where
    prefix : {C D : Type 0} (f : C → D) (q : D → Bool) (cs : List C) → prefix_len q (map f cs) ≡ prefix_len (λ c. q (f c)) cs
    prefix f q [] = refl
    prefix f q (c ∷ cs) = ap (λ n. cond (q (f c)) (1 + n) 0) (prefix f q cs)

-- Items with the same rows, each told by its own row and by those that belong to it.
module _ {X P C : Type 0} (owns : P → C → Bool) (fits : P → List C → Bool) (head : X → P) (kids : X → List C) (Good : X → Type 0) where
  abbrev Others : X → X → Type 0
  Others = Apart owns fits head kids Good

  module _ (own : (x : X) → AllByRecursion (λ c. owns (head x) c ≡ true) (kids x)) (one : (x y : X) → head x ≡ head y → kids x ≡ kids y → x ≡ y) where
    count : (x : X) (xs : List X) → AllByRecursion (Others x) xs → prefix_len (owns (head x)) (kids x ++ flat_map kids xs) ≡ length (kids x)
    count x xs none = own_front (owns (head x)) (kids x) (flat_map kids xs) (own x) (all_flat _ kids xs none)

    first : (x : X) (xs : List X) → AllByRecursion (Others x) xs → take (prefix_len (owns (head x)) (kids x ++ flat_map kids xs)) (kids x ++ flat_map kids xs) ≡ kids x
    first x xs none = ap (λ n. take n (kids x ++ flat_map kids xs)) (count x xs none) ∙ take-append_seam (kids x) (flat_map kids xs)

    rest : (x : X) (xs : List X) → AllByRecursion (Others x) xs → drop (prefix_len (owns (head x)) (kids x ++ flat_map kids xs)) (kids x ++ flat_map kids xs) ≡ flat_map kids xs
    rest x xs none = ap (λ n. drop n (kids x ++ flat_map kids xs)) (count x xs none) ∙ drop-append_seam (kids x) (flat_map kids xs)

    pub same_items : (xs ys : List X) → AllPairsByRecursion Others xs → AllPairsByRecursion Others ys → map head xs ≡ map head ys → flat_map kids xs ≡ flat_map kids ys → xs ≡ ys
    same_items [] [] up vp heads children = refl
    same_items [] (y ∷ ys) up vp heads children = absurd (cc)
    same_items (x ∷ xs) [] up vp heads children = absurd (cc)
    same_items (x ∷ xs) (y ∷ ys) up vp heads children =
        let row : head x ≡ head y = cc in
        let rows : map head xs ≡ map head ys = cc in
        let mine : kids x ≡ kids y = sym (first x xs up.0) ∙ (λ i. take (prefix_len (owns (row i)) (children i)) (children i)) ∙ first y ys vp.0 in
        let others : flat_map kids xs ≡ flat_map kids ys = sym (rest x xs up.0) ∙ (λ i. drop (prefix_len (owns (row i)) (children i)) (children i)) ∙ rest y ys vp.0 in
        let same = one x y row mine in
        let more = same_items xs ys up.1 vp.1 rows others in
        λ i. same i ∷ more i
