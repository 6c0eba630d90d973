-- Opened texts.
use Rattle.std.proofs.Common.{◌≡◌, ◌∙◌, ap, sym, refl, subst, ℕ, ◌+◌, ◌<◌, ◌≤◌, List, [], ◌∷◌, ◌++◌, All, Option, None, Bor, option_map, length, take, drop, get_or, min, arith}
use Rattle.std.proofs.lemmas.List.{append-nil, append_assoc, append_cancel_left, drop_min, drop_more, length-append, take-append-drop, take_all, take_min, take_more}
use Rattle.std.proofs.lemmas.List.Elements.{All-append, All-cons, All-head, All-nil, All-tail}
use Rattle.sha2.specs.Sha256.{sha256}
use Rattle.sha2.proofs.Facts256.{length-sha256}
use Rattle.uu_seal.specs.Hmac.{hmac, inner_byte, key_block, outer_byte, xored}
use Rattle.uu_seal.specs.Internal.Forms.{IsSomeOf}
use Rattle.uu_seal.specs.Opening.{AreOpened, BeginsOtherwise, BeginsWithNoPiece, IsOpened, IsOpenedWith, joined}
use Rattle.uu_seal.specs.Texts.{IsPiece, first_line, last_tag, most_piece, name_of, piece_text, pieces_of, pieces_text, tag_of}
use Rattle.uu_seal.proofs.Cutting.{first_piece}
use Rattle.uu_seal.proofs.Reading.{same_pieces}

-- ---- tags

pub hmac_long : (key text : List ℕ) → length (hmac key text) ≡ 32
unfolding hmac
hmac_long key text = length-sha256 (xored outer_byte (key_block key) ++ sha256 (xored inner_byte (key_block key) ++ text))

pub last_long : (key before : List ℕ) (pieces : List (List ℕ)) → length before ≡ 32 → length (last_tag key before pieces) ≡ 32
last_long key before [] long = long
last_long key before (piece ∷ pieces) long = last_long key (tag_of key before piece) pieces (hmac_long key (before ++ piece))

-- ---- one piece more

pub one_sealed : (key before tag rest piece after whole more : List ℕ) → tag ≡ tag_of key before piece → 1 ≤ length rest → piece ≡ take (min most_piece (length rest)) rest → after ≡ drop (min most_piece (length rest)) rest
    → more ≡ whole ++ piece_text tag piece → more ++ pieces_text key tag (pieces_of after) ≡ whole ++ pieces_text key before (pieces_of rest)
one_sealed key before tag rest piece after whole more of_tag some of_piece of_after of_more =
    let cut = first_piece rest piece after some (of_piece ∙ take_min most_piece rest) (of_after ∙ drop_min most_piece rest) in
    ap (λ t. t ++ pieces_text key tag (pieces_of after)) of_more ∙ append_assoc whole (piece_text tag piece) (pieces_text key tag (pieces_of after))
    ∙ ap (λ t. whole ++ (piece_text t piece ++ pieces_text key t (pieces_of after))) of_tag ∙ ap (λ ps. whole ++ pieces_text key before ps) (sym cut)

text_one_more : (key before : List ℕ) (pieces : List (List ℕ)) (piece : List ℕ) → pieces_text key before (pieces ++ piece ∷ []) ≡ pieces_text key before pieces ++ piece_text (tag_of key (last_tag key before pieces) piece) piece
text_one_more key before [] piece = append-nil (piece_text (tag_of key before piece) piece)
text_one_more key before (p ∷ pieces) piece =
    ap (λ t. piece_text (tag_of key before p) p ++ t) (text_one_more key (tag_of key before p) pieces piece)
    ∙ sym (append_assoc (piece_text (tag_of key before p) p) (pieces_text key (tag_of key before p) pieces) (piece_text (tag_of key (last_tag key (tag_of key before p) pieces) piece) piece))

pub last_one_more : (key before : List ℕ) (pieces : List (List ℕ)) (piece : List ℕ) → last_tag key before (pieces ++ piece ∷ []) ≡ tag_of key (last_tag key before pieces) piece
last_one_more key before [] piece = refl
last_one_more key before (p ∷ pieces) piece = last_one_more key (tag_of key before p) pieces piece

pub joined_append : (ps qs : List (List ℕ)) → joined (ps ++ qs) ≡ joined ps ++ joined qs
joined_append [] qs = refl
joined_append (p ∷ ps) qs = ap (λ t. p ++ t) (joined_append ps qs) ∙ sym (append_assoc p (joined ps) (joined qs))

-- ---- as far as the code has opened a text

pub record Progress (key text before rest bytes : List ℕ) : Type 0 where
  pub pieces : List (List ℕ)
  pub each : All IsPiece pieces
  pub is_text : text ≡ pieces_text key (name_of key) pieces ++ rest
  pub before_is : before ≡ last_tag key (name_of key) pieces
  pub bytes_are : bytes ≡ joined pieces

pub begun : (key text before bytes : List ℕ) → before ≡ name_of key → bytes ≡ [] → Progress key text before text bytes
begun key text before bytes of_before none = record { pieces = []; each = All-nil IsPiece; is_text = refl; before_is = of_before; bytes_are = none }

pub one_opened : (key text before tag rest piece after bytes more : List ℕ) → Progress key text before rest bytes → IsPiece piece → tag ≡ tag_of key before piece → rest ≡ piece_text tag piece ++ after → more ≡ bytes ++ piece → Progress key text tag after more
one_opened key text before tag rest piece after bytes more so_far is of_tag of_rest of_more =
    let right : tag ≡ tag_of key (last_tag key (name_of key) so_far.pieces) piece = of_tag ∙ ap (λ b. tag_of key b piece) so_far.before_is in
    record {
      pieces = so_far.pieces ++ piece ∷ [];
      each = All-append IsPiece so_far.pieces (piece ∷ []) so_far.each (All-cons IsPiece piece [] is (All-nil IsPiece));
      is_text =
          so_far.is_text ∙ ap (λ t. pieces_text key (name_of key) so_far.pieces ++ t) (of_rest ∙ ap (λ t. piece_text t piece ++ after) right)
          ∙ sym (append_assoc (pieces_text key (name_of key) so_far.pieces) (piece_text (tag_of key (last_tag key (name_of key) so_far.pieces) piece) piece) after)
          ∙ ap (λ t. t ++ after) (sym (text_one_more key (name_of key) so_far.pieces piece));
      before_is = right ∙ sym (last_one_more key (name_of key) so_far.pieces piece);
      bytes_are =
          of_more ∙ ap (λ t. t ++ piece) so_far.bytes_are ∙ ap (λ t. joined so_far.pieces ++ t) (sym (append-nil piece)) ∙ sym (joined_append so_far.pieces (piece ∷ []));
    }

pub some_bytes : (tag piece rest after : List ℕ) → rest ≡ piece_text tag piece ++ after → length after < length rest
some_bytes tag piece rest after is = omega (arith, ap length is, length-append (piece_text tag piece) after)

pub opened_whole : (key text before rest bytes : List ℕ) → Progress key text before rest bytes → BeginsWithNoPiece key before rest → (pieces : List (List ℕ)) × AreOpened key (name_of key) text pieces × (bytes ≡ joined pieces)
opened_whole key text before rest bytes so_far none = (
  so_far.pieces,
  record { rest = rest; each = so_far.each; is_text = so_far.is_text; longest = subst (λ b. BeginsWithNoPiece key b rest) so_far.before_is none },
  so_far.bytes_are,
)

-- what was found is the piece that comes
pub none_found : (key before rest : List ℕ) (found : Option (Bor (List ℕ)))
    → ((tag piece behind : List ℕ) → IsPiece piece → length tag ≡ 32 → rest ≡ piece_text tag piece ++ behind → IsSomeOf piece (option_map (λ f. f.now) found)) → found ≡ None → BeginsWithNoPiece key before rest
none_found key before rest found ensures none piece is behind e =
    subst (λ o. IsSomeOf piece (option_map (λ f. f.now) o)) none (ensures (tag_of key before piece) piece behind is (hmac_long key (before ++ piece)) e)

pub other_tag : (key before tag rest piece : List ℕ) → ((other behind : List ℕ) → IsPiece other → rest ≡ piece_text (tag_of key before other) other ++ behind → piece ≡ other) → tag ≡ tag_of key before piece
    → BeginsOtherwise (piece_text tag piece) rest → BeginsWithNoPiece key before rest
other_tag key before tag rest piece ensures of_tag apart other is behind e =
    let same = ensures other behind is e in
    apart behind (e ∙ ap (λ p. piece_text (tag_of key before p) p ++ behind) (sym same) ∙ ap (λ t. piece_text t piece ++ behind) (sym of_tag))

-- ---- one opening at most

same_opening : (key before x y : List ℕ) (ps qs : List (List ℕ)) → All IsPiece ps → All IsPiece qs → BeginsWithNoPiece key (last_tag key before ps) x → BeginsWithNoPiece key (last_tag key before qs) y
    → pieces_text key before ps ++ x ≡ pieces_text key before qs ++ y → ps ≡ qs
same_opening key before x y [] [] of_ps of_qs end also e = refl
same_opening key before x y [] (q ∷ qs) of_ps of_qs end also e =
    absurd (end q (All-head IsPiece q qs of_qs) (pieces_text key (tag_of key before q) qs ++ y) (e ∙ append_assoc (piece_text (tag_of key before q) q) (pieces_text key (tag_of key before q) qs) y))
same_opening key before x y (p ∷ ps) [] of_ps of_qs end also e =
    absurd (also p (All-head IsPiece p ps of_ps) (pieces_text key (tag_of key before p) ps ++ x) (sym e ∙ append_assoc (piece_text (tag_of key before p) p) (pieces_text key (tag_of key before p) ps) x))
same_opening key before x y (p ∷ ps) (q ∷ qs) of_ps of_qs end also e =
    let first = same_pieces (tag_of key before) (λ piece. hmac_long key (before ++ piece)) p q (pieces_text key (tag_of key before p) ps ++ x) (pieces_text key (tag_of key before q) qs ++ y)
    (All-head IsPiece p ps of_ps) (All-head IsPiece q qs of_qs)
    (sym (append_assoc (piece_text (tag_of key before p) p) (pieces_text key (tag_of key before p) ps) x) ∙ e ∙ append_assoc (piece_text (tag_of key before q) q) (pieces_text key (tag_of key before q) qs) y) in
    let rest = same_opening key (tag_of key before p) x y ps qs (All-tail IsPiece p ps of_ps) (All-tail IsPiece q qs of_qs) end (subst (λ r. BeginsWithNoPiece key (last_tag key (tag_of key before r) qs) y) (sym first.0) also)
    (first.1 ∙ ap (λ r. pieces_text key (tag_of key before r) qs ++ y) (sym first.0)) in
    ap (λ h. h ∷ ps) first.0 ∙ ap (λ t. q ∷ t) rest

same_key : (text : List ℕ) (e f : List (List ℕ)) (k j : List ℕ) (l m : List (List ℕ)) (x y : List ℕ) → All (λ other. BeginsOtherwise (first_line other) text) e → All (λ other. BeginsOtherwise (first_line other) text) f
    → text ≡ first_line k ++ x → text ≡ first_line j ++ y → e ++ k ∷ l ≡ f ++ j ∷ m → k ≡ j
same_key text [] [] k j l m x y of_e of_f is_k is_j same = cc
same_key text [] (g ∷ f) k j l m x y of_e of_f is_k is_j same =
    let head : k ≡ g = cc in absurd (All-head (λ other. BeginsOtherwise (first_line other) text) g f of_f x (is_k ∙ ap (λ h. first_line h ++ x) head))
same_key text (g ∷ e) [] k j l m x y of_e of_f is_k is_j same =
    let head : j ≡ g = cc in absurd (All-head (λ other. BeginsOtherwise (first_line other) text) g e of_e y (is_j ∙ ap (λ h. first_line h ++ y) head))
same_key text (g ∷ e) (h ∷ f) k j l m x y of_e of_f is_k is_j same =
    same_key text e f k j l m x y (All-tail (λ other. BeginsOtherwise (first_line other) text) g e of_e) (All-tail (λ other. BeginsOtherwise (first_line other) text) h f of_f) is_k is_j cc

same_with : (key text opened other : List ℕ) → IsOpenedWith key text opened → IsOpenedWith key text other → opened ≡ other
same_with key text opened other one two =
    let behind : one.behind ≡ two.behind = append_cancel_left (first_line key) one.behind two.behind (sym one.is_text ∙ two.is_text) in
    let pieces = same_opening key (name_of key) one.are.rest two.are.rest one.pieces two.pieces one.are.each two.are.each one.are.longest two.are.longest (sym one.are.is_text ∙ behind ∙ two.are.is_text) in
    one.bytes_are ∙ ap joined pieces ∙ sym two.bytes_are

pub one_way : (keys : List (List ℕ)) (text opened other : List ℕ) → IsOpened keys text opened → IsOpened keys text other → opened ≡ other
one_way keys text opened other one two =
    let key = same_key text one.earlier two.earlier one.key two.key one.later two.later one.opened.behind two.opened.behind one.others two.others one.opened.is_text two.opened.is_text (sym one.keys_are ∙ two.keys_are) in
    same_with two.key text opened other (subst (λ k. IsOpenedWith k text opened) key one.opened) two.opened

-- ---- the keys, one by one

pub with_this : (keys : List (List ℕ)) (key : List ℕ) (i : ℕ) (text line behind bytes : List ℕ) → i < length keys → key ≡ get_or keys i key → line ≡ first_line key → text ≡ line ++ behind → All (λ other. BeginsOtherwise (first_line other) text) (take i keys)
    → (pieces : List (List ℕ)) × AreOpened key (name_of key) behind pieces × (bytes ≡ joined pieces) → IsOpened keys text bytes
with_this keys key i text line behind bytes within is of_line of_text others opened =
    record {
      earlier = take i keys;
      key = key;
      later = drop (i + 1) keys;
      keys_are =
          sym (take-append-drop i keys) ∙ ap (λ t. take i keys ++ t) (drop_more keys i key within) ∙ ap (λ k. take i keys ++ k ∷ drop (i + 1) keys) (sym is);
      others = others;
      opened = record { behind = behind; pieces = opened.0; is_text = of_text ∙ ap (λ l. l ++ behind) of_line; are = opened.1; bytes_are = opened.2 };
    }

pub not_this : (keys : List (List ℕ)) (key : List ℕ) (i : ℕ) (text line : List ℕ) → i < length keys → key ≡ get_or keys i key → line ≡ first_line key → BeginsOtherwise line text → All (λ other. BeginsOtherwise (first_line other) text) (take i keys)
    → All (λ other. BeginsOtherwise (first_line other) text) (take (i + 1) keys)
not_this keys key i text line within is of_line apart others =
    let P : List ℕ → Type 0 = λ other. BeginsOtherwise (first_line other) text in
    let more : take (i + 1) keys ≡ take i keys ++ key ∷ [] = take_more keys i key within ∙ ap (λ k. take i keys ++ k ∷ []) (sym is) in
    subst (All P) (sym more) (All-append P (take i keys) (key ∷ []) others (All-cons P key [] (subst (λ l. BeginsOtherwise l text) of_line apart) (All-nil P)))

pub none_of_all : (keys : List (List ℕ)) (i : ℕ) (text : List ℕ) → length keys ≤ i → All (λ other. BeginsOtherwise (first_line other) text) (take i keys) → All (λ other. BeginsOtherwise (first_line other) text) keys
none_of_all keys i text past others = subst (All (λ other. BeginsOtherwise (first_line other) text)) (take_all i keys past) others
