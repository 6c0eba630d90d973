-- What is opened of sealed texts.
use Rattle.std.proofs.Common.{◌≡◌, ◌≢◌, ◌∙◌, ap, sym, refl, subst, ℕ, List, [], ◌∷◌, ◌++◌, All, length, arith}
use Rattle.std.proofs.lemmas.List.{append-nil, append_assoc, append_cancel_left, length-append}
use Rattle.std.proofs.lemmas.List.Elements.{All-cons, All-head, All-nil, All-tail}
use Rattle.hex.specs.Hex.{encode_lower, lower_digits}
use Rattle.hex.proofs.HexLemmas.{length-encode_with}
use Rattle.uu_seal.specs.Opening.{BeginsOtherwise, BeginsWithNoPiece, IsOpened, IsOpenedWith, joined}
use Rattle.uu_seal.specs.Texts.{IsPiece, first_line, last_tag, name_of, piece_text, pieces_of, pieces_text, sealed, tag_of}
use Rattle.uu_seal.proofs.Cutting.{are_pieces, joined_pieces}
use Rattle.uu_seal.proofs.Opened.{hmac_long, joined_append}
use Rattle.uu_seal.proofs.Reading.{same_fronts, same_pieces}

-- ---- whole texts

line_long : (key : List ℕ) → length (first_line key) ≡ 72
line_long key =
    let name : length (name_of key) ≡ 32 = hmac_long key _ in
    let twice = length-encode_with lower_digits (name_of key) in
    omega (arith, length-append {A = ℕ} (encode_lower (name_of key)) (10 ∷ []))

other_line : (key other text : List ℕ) → first_line other ≢ first_line key → BeginsOtherwise (first_line other) (sealed key text)
other_line key other text apart behind e =
    apart (sym (same_fronts (first_line key) (first_line other) (pieces_text key (name_of key) (pieces_of text)) behind (line_long key ∙ sym (line_long other)) e).0)

other_lines : (key text : List ℕ) (earlier : List (List ℕ)) → All (λ other. first_line other ≢ first_line key) earlier → All (λ other. BeginsOtherwise (first_line other) (sealed key text)) earlier
other_lines key text [] all = All-nil (λ other. BeginsOtherwise (first_line other) (sealed key text))
other_lines key text (other ∷ earlier) all =
    All-cons (λ other. BeginsOtherwise (first_line other) (sealed key text)) other earlier (other_line key other text (All-head (λ other. first_line other ≢ first_line key) other earlier all))
    (other_lines key text earlier (All-tail (λ other. first_line other ≢ first_line key) other earlier all))

nothing_behind : (key before : List ℕ) → BeginsWithNoPiece key before []
nothing_behind key before piece is behind e = absurd cc

pub whole_opens : (earlier later : List (List ℕ)) (key text : List ℕ) → All (λ other. first_line other ≢ first_line key) earlier → IsOpened (earlier ++ key ∷ later) (sealed key text) text
whole_opens earlier later key text apart =
    record {
      earlier = earlier;
      key = key;
      later = later;
      keys_are = refl;
      others = other_lines key text earlier apart;
      opened =
          record {
            behind = pieces_text key (name_of key) (pieces_of text);
            pieces = pieces_of text;
            is_text = refl;
            are =
                record {
                  rest = [];
                  each = are_pieces text;
                  is_text = sym (append-nil (pieces_text key (name_of key) (pieces_of text)));
                  longest = nothing_behind key (last_tag key (name_of key) (pieces_of text));
                };
            bytes_are = sym (joined_pieces text);
          };
    }

-- ---- texts that were cut off

-- what was opened begins what was sealed
pub are_first : (key before x : List ℕ) (ps qs : List (List ℕ)) → All IsPiece ps → All IsPiece qs → pieces_text key before ps ++ x ≡ pieces_text key before qs → (more : List (List ℕ)) × (ps ++ more ≡ qs)
are_first key before x [] qs of_ps of_qs e = (qs, refl)
are_first key before x (p ∷ ps) [] of_ps of_qs e = absurd cc
are_first key before x (p ∷ ps) (q ∷ qs) of_ps of_qs e =
    let first = same_pieces (tag_of key before) (λ piece. hmac_long key (before ++ piece)) p q (pieces_text key (tag_of key before p) ps ++ x) (pieces_text key (tag_of key before q) qs) (All-head IsPiece p ps of_ps) (All-head IsPiece q qs of_qs)
    (sym (append_assoc (piece_text (tag_of key before p) p) (pieces_text key (tag_of key before p) ps) x) ∙ e) in
    let rest = are_first key (tag_of key before p) x ps qs (All-tail IsPiece p ps of_ps) (All-tail IsPiece q qs of_qs) (first.1 ∙ ap (λ r. pieces_text key (tag_of key before r) qs) (sym first.0)) in
    (rest.0, ap (λ h. h ∷ (ps ++ rest.0)) first.0 ∙ ap (λ t. q ∷ t) rest.1)

pub front_opens : (key text cut missing opened : List ℕ) → cut ++ missing ≡ sealed key text → IsOpenedWith key cut opened → (behind : List ℕ) × (opened ++ behind ≡ text)
front_opens key text cut missing opened is it =
    let whole : first_line key ++ (it.behind ++ missing) ≡ first_line key ++ pieces_text key (name_of key) (pieces_of text) = sym (append_assoc (first_line key) it.behind missing) ∙ ap (λ t. t ++ missing) (sym it.is_text) ∙ is in
    let behind : it.behind ++ missing ≡ pieces_text key (name_of key) (pieces_of text) = append_cancel_left (first_line key) (it.behind ++ missing) (pieces_text key (name_of key) (pieces_of text)) whole in
    let pieces : pieces_text key (name_of key) it.pieces ++ (it.are.rest ++ missing) ≡ pieces_text key (name_of key) (pieces_of text) =
    sym (append_assoc (pieces_text key (name_of key) it.pieces) it.are.rest missing) ∙ ap (λ t. t ++ missing) (sym it.are.is_text) ∙ behind in
    let first = are_first key (name_of key) (it.are.rest ++ missing) it.pieces (pieces_of text) it.are.each (are_pieces text) pieces in
    (joined first.0, ap (λ t. t ++ joined first.0) it.bytes_are ∙ sym (joined_append it.pieces first.0) ∙ ap joined first.1 ∙ joined_pieces text)

-- what is whole was opened
are_all : (key before x y : List ℕ) (ps qs : List (List ℕ)) → All IsPiece ps → All IsPiece qs → BeginsWithNoPiece key (last_tag key before qs) y → pieces_text key before ps ++ x ≡ pieces_text key before qs ++ y
    → (more : List (List ℕ)) × (qs ≡ ps ++ more)
are_all key before x y [] qs of_ps of_qs end e = (qs, refl)
are_all key before x y (p ∷ ps) [] of_ps of_qs end e =
    absurd (end p (All-head IsPiece p ps of_ps) (pieces_text key (tag_of key before p) ps ++ x) (sym e ∙ append_assoc (piece_text (tag_of key before p) p) (pieces_text key (tag_of key before p) ps) x))
are_all key before x y (p ∷ ps) (q ∷ qs) of_ps of_qs end e =
    let first = same_pieces (tag_of key before) (λ piece. hmac_long key (before ++ piece)) p q (pieces_text key (tag_of key before p) ps ++ x) (pieces_text key (tag_of key before q) qs ++ y)
    (All-head IsPiece p ps of_ps) (All-head IsPiece q qs of_qs)
    (sym (append_assoc (piece_text (tag_of key before p) p) (pieces_text key (tag_of key before p) ps) x) ∙ e ∙ append_assoc (piece_text (tag_of key before q) q) (pieces_text key (tag_of key before q) qs) y) in
    let rest = are_all key (tag_of key before p) x y ps qs (All-tail IsPiece p ps of_ps) (All-tail IsPiece q qs of_qs) (subst (λ r. BeginsWithNoPiece key (last_tag key (tag_of key before r) qs) y) (sym first.0) end)
    (first.1 ∙ ap (λ r. pieces_text key (tag_of key before r) qs ++ y) (sym first.0)) in
    (rest.0, ap (λ h. h ∷ qs) (sym first.0) ∙ ap (λ t. p ∷ t) rest.1)

All-front : (ps qs : List (List ℕ)) → All IsPiece (ps ++ qs) → All IsPiece ps
All-front [] qs all = All-nil IsPiece
All-front (p ∷ ps) qs all = All-cons IsPiece p ps (All-head IsPiece p (ps ++ qs) all) (All-front ps qs (All-tail IsPiece p (ps ++ qs) all))

pub whole_pieces_open : (key text opened some : List ℕ) (first others : List (List ℕ)) → pieces_of text ≡ first ++ others → IsOpenedWith key (first_line key ++ (pieces_text key (name_of key) first ++ some)) opened
    → (more : List ℕ) × (opened ≡ joined first ++ more)
whole_pieces_open key text opened some first others is it =
    let behind : pieces_text key (name_of key) first ++ some ≡ it.behind = append_cancel_left (first_line key) (pieces_text key (name_of key) first ++ some) it.behind it.is_text in
    let all = are_all key (name_of key) some it.are.rest first it.pieces (All-front first others (subst (All IsPiece) is (are_pieces text))) it.are.each it.are.longest (behind ∙ it.are.is_text) in
    (joined all.0, it.bytes_are ∙ ap joined all.1 ∙ joined_append first all.0)
