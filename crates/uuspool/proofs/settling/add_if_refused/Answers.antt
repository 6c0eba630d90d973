use Rattle.std.proofs.Common.{◌≡◌, ◌++◌, ◌∷◌, [], Bool}
use Rattle.std.specs.Prelude.{⊤}
use Rattle.uuspool.specs.Bundles.{is_refused_still, refused_still}
use Rattle.uuspool.proofs.AskedLemmas.{asked_goes_on}
use Rattle.uuspool.proofs.settling.add_if_refused.Goals as goal

pub returns-in_err-waits : goal.returns-in_err-waits
returns-in_err-waits g c =
    let from = c.args.own.now in
    let to = c.args.settling.now.system in
    let word = c.args.settling.now.spool in
    asked_goes_on (λ s. ⊤) (λ s (waits : Bool). waits ≡ is_refused_still from to word s c.args.one.now)
    (λ s done. c.args.refused.now.items ≡ c.args.refused.now.items ++ refused_still from to word (c.args.one.now ∷ []) s)
    c.args.spool.now c.waits.new.spool c.from_residual.result c.in_err-waits.field-0.0 c.from_residual.ensures.1 c.in_err-waits.ensures
