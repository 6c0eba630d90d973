use Rattle.std.proofs.Common.{◌≡◌, ◌++◌, subst, MatchOption}
use Rattle.uu_seal.specs.Opening.{BeginsOtherwise}
use Rattle.uu_seal.specs.Texts.{piece_text, tag_of}
use Rattle.uu_seal.proofs.Opened.{begun, hmac_long, none_found, one_opened, opened_whole, other_tag, some_bytes}
use Rattle.uu_seal.proofs.opening.open_pieces.Goals as goal

pub loop-piece-init : goal.loop-piece-init
loop-piece-init c = begun c.args.key.now c.args.text.now c.name_of-before.result c.new-opened.result.items c.name_of-before.ensures c.new-opened.ensures.items

pub returns : goal.returns
returns c =
    opened_whole c.args.key.now c.args.text.now c.loop-piece.before c.loop-piece.rest.now c.loop-piece.opened.items c.loop-piece.invariant
    (none_found c.args.key.now c.loop-piece.before c.loop-piece.rest.now c.piece_in.result c.piece_in.ensures.found c.in_default.is)

pub returns-in_default-2 : goal.returns-in_default-2
returns-in_default-2 c =
    opened_whole c.args.key.now c.args.text.now c.loop-piece.before c.loop-piece.rest.now c.loop-piece.opened.items c.loop-piece.invariant
    (other_tag c.args.key.now c.loop-piece.before c.tag_of-tag.result c.loop-piece.rest.now c.in-Some.piece.now
    (λ other behind is e. c.in-Some.ensures.found (tag_of c.args.key.now c.loop-piece.before other) other behind is (hmac_long c.args.key.now (c.loop-piece.before ++ other)) e) c.tag_of-tag.ensures
    (subst (λ cut. MatchOption cut (BeginsOtherwise (piece_text c.tag_of-tag.result c.in-Some.piece.now) c.loop-piece.rest.now) (λ rest. c.loop-piece.rest.now ≡ piece_text c.tag_of-tag.result c.in-Some.piece.now ++ rest.now)) c.in_default-2.is c.in_ok-after.ensures))

pub loop-piece-preserved : goal.loop-piece-preserved
loop-piece-preserved c =
    one_opened c.args.key.now c.args.text.now c.loop-piece.before c.tag_of-tag.result c.loop-piece.rest.now c.in-Some.piece.now c.in-Some-2.after.now c.loop-piece.opened.items c.extend_from_slice.new.self.items c.loop-piece.invariant
    c.in-Some.ensures.sound c.tag_of-tag.ensures
    (subst (λ cut. MatchOption cut (BeginsOtherwise (piece_text c.tag_of-tag.result c.in-Some.piece.now) c.loop-piece.rest.now) (λ rest. c.loop-piece.rest.now ≡ piece_text c.tag_of-tag.result c.in-Some.piece.now ++ rest.now)) c.in-Some-2.is c.in_ok-after.ensures)
    c.in_ok-extend_from_slice.ensures.items

pub loop-piece-smaller : goal.loop-piece-smaller
loop-piece-smaller c =
    some_bytes c.tag_of-tag.result c.in-Some.piece.now c.loop-piece.rest.now c.in-Some-2.after.now
    (subst (λ cut. MatchOption cut (BeginsOtherwise (piece_text c.tag_of-tag.result c.in-Some.piece.now) c.loop-piece.rest.now) (λ rest. c.loop-piece.rest.now ≡ piece_text c.tag_of-tag.result c.in-Some.piece.now ++ rest.now)) c.in-Some-2.is c.in_ok-after.ensures)
