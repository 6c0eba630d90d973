use Rattle.std.proofs.Common.{◌∙◌, Some, None, codes, subst}
use Rattle.clap.specs.Words.{found_of, rows_of}
use Rattle.clap.proofs.WalkLemmas.{first_value-rows}
use Rattle.uu_line.specs.Internal.Entries.{most_job}
use Rattle.uu_line.specs.Lines.{IsNumberOf}
use Rattle.uu_line.proofs.LineLemmas.{first_number}
use Rattle.uu_line.proofs.values.after_in.Goals as goal

pub number_of-requires : goal.number_of-requires
number_of-requires c =
    let found = found_of c.args.given.now in
    first_number (codes "job") (rows_of found) most_job c.in-Some.text.now (c.in-Some.ensures ∙ first_value-rows found (codes "job")) c.requires

pub returns-in-Some : goal.returns-in-Some
returns-in-Some c =
    subst (λ o. IsNumberOf 32 o (Some c.number_of.result)) (c.in-Some.ensures ∙ first_value-rows (found_of c.args.given.now) (codes "job")) c.number_of.ensures

pub returns-in-None : goal.returns-in-None
returns-in-None c = subst (λ o. IsNumberOf 32 o None) (c.in-None.ensures ∙ first_value-rows (found_of c.args.given.now) (codes "job")) tt
