use Rattle.std.proofs.Common.{◌∙◌}
use Rattle.clap.specs.Words.{first_of, found_of, rows_of}
use Rattle.clap.proofs.WalkLemmas.{first_value-rows}
use Rattle.uu_line.proofs.LineLemmas.{none_is_no}
use Rattle.uu_line.proofs.values.text_in.Goals as goal

pub unreachable-requires : goal.unreachable-requires
unreachable-requires c =
    let found = found_of c.args.given.now in
    none_is_no (first_of c.args.id.now (rows_of found)) (c.in-None.ensures ∙ first_value-rows found c.args.id.now) c.requires

pub returns : goal.returns
returns c = c.in-Some.ensures ∙ first_value-rows (found_of c.args.given.now) c.args.id.now
