use Rattle.std.proofs.Common.{subst, sym, refl, [], ◌∷◌}
use Rattle.uu_line.specs.Lines.{IsAddressFault}
use Rattle.uu_line.proofs.LineLemmas.{address_alone}
use Rattle.uu_line.proofs.values.path_of.Goals as goal

pub returns-in-Ok-clause-path : goal.returns-in-Ok-clause-path
returns-in-Ok-clause-path c = (c.in-Ok.ensures.text, c.in-Ok.ensures.path refl)

pub returns-in-Err-clause-fault : goal.returns-in-Err-clause-fault
returns-in-Err-clause-fault c =
    subst (IsAddressFault (c.args.text.now ∷ [])) (sym c.from.ensures) (address_alone c.args.text.now c.in-Err.fault c.in-Err.ensures.fault c.in-Err.ensures.refused)
