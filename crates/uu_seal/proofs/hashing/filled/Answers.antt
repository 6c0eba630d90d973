use Rattle.std.proofs.Common.{◌≡◌, ◌∙◌, ◌-◌, ◌++◌, ap, replicate, length}
use Rattle.std.proofs.lemmas.List.{drop-replicate}
use Rattle.uu_seal.proofs.hashing.filled.Goals as goal

pub returns : goal.returns
returns c =
    let rest : c.split_at_mut-front.result.1.now ≡ replicate (64 - length c.args.bytes.now) 0 = c.split_at_mut-front.ensures.back ∙ drop-replicate (length c.args.bytes.now) 64 0 in
    ap (λ t. t ++ c.split_at_mut-front.result.1.now) c.copy_from_slice.ensures.after ∙ ap (λ t. c.args.bytes.now ++ t) rest
