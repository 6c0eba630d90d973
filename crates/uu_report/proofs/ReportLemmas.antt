-- A report grows by the line of the next item.
use Rattle.std.proofs.Common.{◌≡◌, ◌∙◌, ap, ℕ, ◌+◌, ◌<◌, List, [], ◌∷◌, ◌++◌, refl, sym, append_assoc, append-nil, length, take, get_or}
use Rattle.std.proofs.lemmas.List.Concat.{flat_map-append}
use Rattle.std.proofs.lemmas.Slice.Zip.{get_or-zip}
use Rattle.std.specs.List.{flat_map, zip}
use Rattle.uu_names.proofs.Basics.{take_with}
use Rattle.uu_report.specs.Reports.{AreLines, spaced, line_of}

AreLines-append : {X : Type 0} (IsLine : X → List ℕ → Type 0) (xs : List X) (x : X) (report line : List ℕ)
    → AreLines IsLine xs report → IsLine x line → AreLines IsLine (xs ++ x ∷ []) (report ++ line)
AreLines-append IsLine [] x report line all one = (line, [], rw all (sym (append-nil line)), one, refl)
AreLines-append IsLine (first ∷ xs) x report line (head, rest, is, at, more) one =
    (head, rest ++ line, rw is (append_assoc head rest line), at, AreLines-append IsLine xs x rest line more one)

pub lines_grow : {X : Type 0} (IsLine : X → List ℕ → Type 0) (xs : List X) (i : ℕ) (x : X) (report line : List ℕ)
    → i < length xs → x ≡ get_or xs i x → AreLines IsLine (take i xs) report → IsLine x line → AreLines IsLine (take (i + 1) xs) (report ++ line)
lines_grow IsLine xs i x report line inside is all one = rw (take_with xs i x inside is) (AreLines-append IsLine (take i xs) x report line all one)

-- the same if each item has one line, after what was there at the start
pub texts_grow : {X : Type 0} (text : X → List ℕ) (xs : List X) (i : ℕ) (x : X) (start before line after : List ℕ)
    → i < length xs → x ≡ get_or xs i x → before ≡ start ++ flat_map text (take i xs) → line ≡ text x → after ≡ before ++ line
    → after ≡ start ++ flat_map text (take (i + 1) xs)
texts_grow text xs i x start before line after inside is so_far one grown =
    let more : flat_map text (take (i + 1) xs) ≡ flat_map text (take i xs) ++ text x =
    ap (flat_map text) (take_with xs i x inside is) ∙ flat_map-append text (take i xs) (x ∷ []) ∙ ap (λ t. flat_map text (take i xs) ++ t) (append-nil (text x)) in
    grown ∙ ap (λ t. t ++ line) so_far ∙ ap (λ t. (start ++ flat_map text (take i xs)) ++ t) one
    ∙ append_assoc start (flat_map text (take i xs)) (text x) ∙ ap (λ t. start ++ t) (sym more)

-- the pair at a place of two lists
pub zip_item : {A B : Type 0} (ks : List A) (vs : List B) (i : ℕ) (a : A) (b : B) → i < length ks → i < length vs → a ≡ get_or ks i a → b ≡ get_or vs i b
    → (let p : A × B = (a, b) in p ≡ get_or (zip ks vs) i p)
zip_item {A} {B} ks vs i a b of_ks of_vs first second =
    ap (λ (x : A). let p : A × B = (x, b) in p) first ∙ ap (λ (y : B). let p : A × B = (get_or ks i a, y) in p) second
    ∙ sym (get_or-zip ks vs i (a, b) of_ks of_vs)

-- texts with one more
pub spaced-append : (text : List ℕ) (texts : List (List ℕ)) (more : List ℕ) → spaced (text ∷ (texts ++ more ∷ [])) ≡ spaced (text ∷ texts) ++ 32 ∷ more
spaced-append text [] more = refl
spaced-append text (next ∷ texts) more =
    ap (λ t. text ++ 32 ∷ t) (spaced-append next texts more) ∙ sym (append_assoc text (32 ∷ spaced (next ∷ texts)) (32 ∷ more))

-- a line that is written after a start, its last text apart
pub line_grows : (start number system user grade moment size work : List ℕ)
    → ((start ++ (number ++ 32 ∷ (system ++ 32 ∷ (user ++ 32 ∷ (grade ++ 32 ∷ (moment ++ 32 ∷ (size ++ 32 ∷ []))))))) ++ work) ++ 10 ∷ [] ≡ start ++ line_of (number ∷ system ∷ user ∷ grade ∷ moment ∷ size ∷ work ∷ [])
line_grows start number system user grade moment size work = simp append_assoc refl
