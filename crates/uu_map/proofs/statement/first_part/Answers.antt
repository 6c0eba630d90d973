use Rattle.std.proofs.Common.{arith}
use Rattle.std.proofs.lemmas.Grind.{common_steps}
use Rattle.std.proofs.lemmas.List.{take_rest}
use Rattle.uu_map.specs.Statement.{is_comma}
use Rattle.uu_map.proofs.Parts.{cut_first, cut_end}
use Rattle.uu_map.proofs.statement.first_part.Goals as goal

pub returns-in-empty-clause-parts : goal.returns-in-empty-clause-parts
returns-in-empty-clause-parts c = let e = cut_first is_comma c.args.text.now (omega arith) in let d = cut_end is_comma c.split_at.result.1.now in grind (arith, common_steps)

pub returns-in-len1-up-clause-parts : goal.returns-in-len1-up-clause-parts
returns-in-len1-up-clause-parts c = let e = cut_first is_comma c.args.text.now (omega arith) in rw take_rest (grind (arith, common_steps))
