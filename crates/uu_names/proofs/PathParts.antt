-- What a path's text is made of, and where it may be cut.
use Rattle.std.proofs.Common.{◌≡◌, ℕ, ◌+◌, ◌<◌, true, List, [], ◌∷◌, ◌++◌, length, take, drop, get_or, IsTrue, IsUtf8, IsAscii, IsCharBoundary, refl, ap, sym, ◌∙◌, arith, append_assoc, length-append}
use Rattle.std.specs.List.{list_all, position_or_len}
use Rattle.std.proofs.lemmas.List.{take_at, drop_at, get_or_at, length_push}
use Rattle.std.proofs.lemmas.Str.{IsCharBoundary-before_ascii, IsCharBoundary-after_ascii}
use Rattle.std.proofs.lemmas.Str.Ascii.{IsAscii-nil, IsAscii-cons}
use Rattle.uu_names.specs.Name.{is_word_byte, is_site_name, is_word}
use Rattle.uu_names.specs.Path.{IsPathText, is_bang, first_hop, rest_of}
use Rattle.uu_names.proofs.PathScan.{IsCut, cut_path, position_front, path_bytes, path_fits}
use Rattle.uu_names.proofs.Basics.{and_first, and_second, word_byte_below}

-- word bytes are ASCII
pub word_bytes_ascii : (xs : List ℕ) → list_all is_word_byte xs ≡ true → IsAscii xs
word_bytes_ascii [] e = IsAscii-nil
word_bytes_ascii (x ∷ xs) e =
    IsAscii-cons x xs (word_byte_below x (and_first (is_word_byte x) (list_all is_word_byte xs) e)) (word_bytes_ascii xs (and_second (is_word_byte x) (list_all is_word_byte xs) e))

pub path_ascii : (text : List ℕ) → IsPathText text → IsAscii text
path_ascii text p = word_bytes_ascii text (path_bytes text p)

-- the first site, and where it ends
pub hop_len_is : (text : List ℕ) (c : IsCut text) → position_or_len is_bang text ≡ length c.site
hop_len_is text c = ap (position_or_len is_bang) c.split ∙ position_front c.site c.rest c.no_bang

pub first_hop_is : (text : List ℕ) (c : IsCut text) → first_hop text ≡ c.site
first_hop_is text c = (λ i. take (hop_len_is text c i) (c.split i)) ∙ take_at c.site (33 ∷ c.rest) (length c.site) refl

pub rest_is : (text : List ℕ) (c : IsCut text) → rest_of text ≡ c.rest
rest_is text c =
    (λ i. drop (hop_len_is text c i + 1) (c.split i)) ∙ ap (drop (length c.site + 1)) (sym (append_assoc c.site (33 ∷ []) c.rest))
    ∙ drop_at (c.site ++ 33 ∷ []) c.rest (length c.site + 1) (length_push c.site 33)

pub hop_within : (text : List ℕ) (hop : ℕ) → IsPathText text → hop ≡ position_or_len is_bang text → hop < length text
hop_within text hop p e =
    let c = cut_path text p in
    omega (arith, hop_len_is text c, ap length c.split, length-append c.site (33 ∷ c.rest))

hop_byte : (text : List ℕ) (hop : ℕ) → IsPathText text → hop ≡ position_or_len is_bang text → get_or text hop 0 ≡ 33
hop_byte text hop p e =
    let c = cut_path text p in
    ap (λ t. get_or t hop 0) c.split ∙ get_or_at c.site 33 c.rest 0 hop (sym (e ∙ hop_len_is text c))

pub cut_before : (text : List ℕ) (hop : ℕ) → IsPathText text → hop ≡ position_or_len is_bang text → IsCharBoundary text hop
cut_before text hop p e = IsCharBoundary-before_ascii text hop (hop_within text hop p e) (omega (arith, hop_byte text hop p e))

pub cut_after : (text : List ℕ) (hop : ℕ) → IsUtf8 text → IsPathText text → hop ≡ position_or_len is_bang text → IsCharBoundary text (hop + 1)
cut_after text hop u p e = IsCharBoundary-after_ascii text hop u (hop_within text hop p e) (omega (arith, hop_byte text hop p e))

-- what the parts are
pub first_hop_site : (text : List ℕ) → IsPathText text → IsTrue (is_site_name (first_hop text))
first_hop_site text p = let c = cut_path text p in ap is_site_name (first_hop_is text c) ∙ c.is_site

pub rest_word : (text : List ℕ) → IsPathText text → IsTrue (is_word (rest_of text))
rest_word text p = let c = cut_path text p in ap is_word (rest_is text c) ∙ c.is_rest

pub hop_fits : (text : List ℕ) (hop : ℕ) → IsPathText text → hop ≡ position_or_len is_bang text → hop < 255
hop_fits text hop p e = omega (arith, hop_within text hop p e, path_fits text p)
