use Rattle.std.proofs.Common.{◌≡◌, ◌∙◌, ◌++◌, ap, []}
use Rattle.std.proofs.lemmas.List.{append_assoc}
use Rattle.sha2.specs.Sha256.{sha256}
use Rattle.uu_seal.specs.Hmac.{hmac, inner_byte, key_block, outer_byte, xored}
use Rattle.uu_seal.proofs.hashing.hmac.Goals as goal

pub returns : goal.returns
unfolding hmac
returns c =
    let block : c.key_block-block.result ≡ key_block c.args.key.now = c.key_block-block.ensures in
    let inner_pad : c.xored.result ≡ xored inner_byte (key_block c.args.key.now) = c.xored.ensures ∙ ap (xored inner_byte) block in
    let outer_pad : c.xored-2.result ≡ xored outer_byte (key_block c.args.key.now) = c.xored-2.ensures ∙ ap (xored outer_byte) block in
    let one = c.update.ensures [] c.new-inner.ensures in
    let two = c.update-2.ensures c.xored.result one in
    let three = c.update-3.ensures (c.xored.result ++ c.args.front.now) two in
    let digest = c.finalize.ensures (c.xored.result ++ c.args.front.now ++ c.args.rest.now) three in
    let inner : c.finalize.result ≡ sha256 (xored inner_byte (key_block c.args.key.now) ++ (c.args.front.now ++ c.args.rest.now)) =
    digest ∙ ap sha256 (append_assoc c.xored.result c.args.front.now c.args.rest.now ∙ ap (λ t. t ++ (c.args.front.now ++ c.args.rest.now)) inner_pad) in
    let four = c.update-4.ensures [] c.new-outer.ensures in
    let five = c.update-5.ensures c.xored-2.result four in
    c.finalize-2.ensures (c.xored-2.result ++ c.finalize.result) five ∙ ap (λ t. sha256 (t ++ c.finalize.result)) outer_pad ∙ ap (λ t. sha256 (xored outer_byte (key_block c.args.key.now) ++ t)) inner
