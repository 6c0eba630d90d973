use Rattle.std.proofs.Common.{◌≡◌, ◌++◌, ◌∷◌, [], Bool}
use Rattle.std.specs.Prelude.{⊤}
use Rattle.uu_handover.specs.Bundles.{is_settled}
use Rattle.uuspool.specs.Bundles.{as_told, mark_for, settled_among}
use Rattle.uuspool.proofs.AskedLemmas.{asked_goes_on}
use Rattle.uuspool.proofs.settling.add_if_settled.Goals as goal

pub returns-in_err-waits-clause-asked : goal.returns-in_err-waits-clause-asked
returns-in_err-waits-clause-asked g c =
    let from = c.args.own.now in
    let to = c.args.settling.now.system in
    let word = c.args.settling.now.spool in
    asked_goes_on (λ s. ⊤) (λ s (settled : Bool). settled ≡ is_settled to (mark_for from to word) s (as_told c.args.one.now))
    (λ s done. c.args.numbers.now.items ≡ c.args.numbers.now.items ++ settled_among from to word (c.args.one.now ∷ []) s)
    c.args.spool.now c.waits.new.spool c.from_residual.result c.in_err-waits.field-0.0 c.from_residual.ensures.1 c.in_err-waits.ensures
