use Rattle.std.proofs.Common.{◌∙◌, ap, codes, false}
use Rattle.std.specs.Option.{option_map_or}
use Rattle.clap.specs.Words.{found_of}
use Rattle.clap.proofs.WalkLemmas.{first_value-rows}
use Rattle.uu_line.specs.Lines.{same_text}
use Rattle.uu_line.proofs.values.has_flag.Goals as goal

pub returns-in-Some : goal.returns-in-Some
returns-in-Some c =
    let found = found_of c.args.given.now in
    c.eq.ensures ∙ ap (λ o. option_map_or (same_text (codes "true")) o false) (c.in-Some.ensures ∙ first_value-rows found c.args.id.now)

pub returns-in-None : goal.returns-in-None
returns-in-None c =
    let found = found_of c.args.given.now in
    ap (λ o. option_map_or (same_text (codes "true")) o false) (c.in-None.ensures ∙ first_value-rows found c.args.id.now)
