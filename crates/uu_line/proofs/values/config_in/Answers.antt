use Rattle.std.proofs.Common.{◌∙◌, Some, ap, codes}
use Rattle.clap.specs.Words.{found_of}
use Rattle.clap.proofs.WalkLemmas.{first_value-rows}
use Rattle.uu_line.proofs.values.config_in.Goals as goal

pub returns-in-Ok-clause-path : goal.returns-in-Ok-clause-path
returns-in-Ok-clause-path c =
    ap Some c.in-Ok.ensures.text ∙ c.in-Some.ensures ∙ first_value-rows (found_of c.args.given.now) (codes "config")

pub returns-in-None-clause-path : goal.returns-in-None-clause-path
returns-in-None-clause-path c = c.in-None.ensures ∙ first_value-rows (found_of c.args.given.now) (codes "config")
